-- Two segments on one line share a point if their ranges overlap.
use Rattle.std.proofs.Common.{◌≡◌, ℕ, ◌+◌, ◌*◌, ◌-◌, ◌≤◌, ◌<◌, ℤ, pos, neg_ℤ, ◌-ℤ◌, ◌*ℤ◌, ◌≤ℤ◌, arith, ap, ap₂, sym, ◌∙◌}
use Rattle.std.proofs.lemmas.Int.{ints, clamps, by_lt_z}
use borrow.Author.Differences.{up, down}
use Rattle.fku_types.specs.declared.points.Point.{Point}
use Rattle.plane_geom.specs.Planes.{cross_product, side}
use Rattle.plane_geom.specs.Segments.{scaled, SharePoint}
use Rattle.plane_geom.specs.Signs.{RangesOverlap}
use Rattle.plane_geom.proofs.Vectors.{neg-mul, mul-comm, mul-sub, cancel-le, natural}
use Rattle.plane_geom.proofs.SegmentSides.{scaled_of}

-- ---- exchanges
turn_back : (t g e : ℕ) (c d : ℤ) → e ≡ g + t → scaled e g d c ≡ scaled e t c d
turn_back t g e c d h = omega (
  arith,
  ints,
  mul-sub (pos g) c d,
  mul-sub (pos t) d c,
  ap (λ n. n * up c) h,
  ap (λ n. n * down c) h,
  ap (λ n. n * up d) h,
  ap (λ n. n * down d) h,
)

pub exchange_second : (a b c d : Point) → SharePoint a b d c → SharePoint a b c d
exchange_second a b c d h =
    let f : h.e ≡ (h.e - h.t) + h.t = (let k : h.t ≤ h.e = h.at.on_second in omega arith) in
    record {
      s = h.s;
      t = h.e - h.t;
      e = h.e;
      at = record {
        positive = h.at.positive;
        on_first = h.at.on_first;
        on_second = omega arith;
        x = h.at.x ∙ sym (turn_back h.t (h.e - h.t) h.e d.x c.x f);
        y = h.at.y ∙ sym (turn_back h.t (h.e - h.t) h.e d.y c.y f);
      };
    }

pub exchange_both : (a b c d : Point) → SharePoint c d a b → SharePoint a b c d
exchange_both a b c d h = record {
  s = h.t;
  t = h.s;
  e = h.e;
  at = record {
    positive = h.at.positive;
    on_first = h.at.on_second;
    on_second = h.at.on_first;
    x = sym h.at.x;
    y =
        sym h.at.y;
  };
}

pub exchange_first : (a b c d : Point) → SharePoint b a c d → SharePoint a b c d
exchange_first a b c d h = exchange_both a b c d (exchange_second c d a b (exchange_both c d b a h))

-- ---- from ranges to a common point: the segments lie on one line
-- each end lies on the other segment's line
pub record Flat (a b c d : Point) : Type 0 where
  pub c_flat : side a b c ≡ pos 0
  pub d_flat : side a b d ≡ pos 0
  pub a_flat : side c d a ≡ pos 0
  pub b_flat : side c d b ≡ pos 0

turned_cross : (ux uy wx wy : ℤ) → cross_product (neg_ℤ ux) (neg_ℤ uy) (wx -ℤ ux) (wy -ℤ uy)
    ≡ neg_ℤ (cross_product ux uy wx wy)
turned_cross ux uy wx wy =
    omega (
      arith,
      ints,
      neg-mul ux (wy -ℤ uy),
      neg-mul uy (wx -ℤ ux),
      mul-sub ux wy uy,
      mul-sub uy wx ux,
      mul-comm ux uy,
    )

side_back : (a b c : Point) → side b a c ≡ neg_ℤ (side a b c)
side_back a b c =
    let ex : a.x -ℤ b.x ≡ neg_ℤ (b.x -ℤ a.x) = omega (arith, ints) in
    let ey : a.y -ℤ b.y ≡ neg_ℤ (b.y -ℤ a.y) = omega (arith, ints) in
    let fx : c.x -ℤ b.x ≡ (c.x -ℤ a.x) -ℤ (b.x -ℤ a.x) = omega (arith, ints) in
    let fy : c.y -ℤ b.y ≡ (c.y -ℤ a.y) -ℤ (b.y -ℤ a.y) = omega (arith, ints) in
    ap₂ (λ (x y : ℤ). cross_product x y (c.x -ℤ b.x) (c.y -ℤ b.y)) ex ey
    ∙ ap₂ (λ (x y : ℤ). cross_product (neg_ℤ (b.x -ℤ a.x)) (neg_ℤ (b.y -ℤ a.y)) x y) fx fy
    ∙ turned_cross (b.x -ℤ a.x) (b.y -ℤ a.y) (c.x -ℤ a.x) (c.y -ℤ a.y)

flat_first : (a b c d : Point) → Flat a b c d → Flat b a c d
flat_first a b c d h = record {
  c_flat = omega (arith, ints, side_back a b c, h.c_flat);
  d_flat = omega (arith, ints, side_back a b d, h.d_flat);
  a_flat = h.b_flat;
  b_flat = h.a_flat;
}

flat_both : (a b c d : Point) → Flat a b c d → Flat c d a b
flat_both a b c d h = record { c_flat = h.a_flat; d_flat = h.b_flat; a_flat = h.c_flat; b_flat = h.d_flat }

flat_second : (a b c d : Point) → Flat a b c d → Flat a b d c
flat_second a b c d h = flat_both d c a b (flat_first c d a b (flat_both a b c d h))

overlap_first : (a b c d : ℤ) → RangesOverlap a b c d → RangesOverlap b a c d
overlap_first a b c d h = (omega (arith, ints, clamps, h.0, h.1), omega (arith, ints, clamps, h.0, h.1))

overlap_second : (a b c d : ℤ) → RangesOverlap a b c d → RangesOverlap a b d c
overlap_second a b c d h = (omega (arith, ints, clamps, h.0, h.1), omega (arith, ints, clamps, h.0, h.1))

overlap_both : (a b c d : ℤ) → RangesOverlap a b c d → RangesOverlap c d a b
overlap_both a b c d h = (h.1, h.0)

-- both segments have the same begin
one_begin : (a b c d : Point) → a.x ≡ c.x → a.y ≡ c.y → SharePoint a b c d
one_begin a b c d hx hy = record {
  s = 0;
  t = 0;
  e = 1;
  at = record {
    positive = omega arith;
    on_first = omega arith;
    on_second = omega arith;
    x = omega (arith, ints);
    y = omega (arith, ints);
  };
}

-- c lies e.x and e.y of the way along ab
begin_inside : (a b c d : Point) (s e : ℕ) → 0 < e → s ≤ e → pos s *ℤ (b.x -ℤ a.x) ≡ pos e *ℤ (c.x -ℤ a.x)
    → pos s *ℤ (b.y -ℤ a.y) ≡ pos e *ℤ (c.y -ℤ a.y) → SharePoint a b c d
begin_inside a b c d s e positive h hx hy = record {
  s = s;
  t = 0;
  e = e;
  at = record {
    positive = positive;
    on_first = h;
    on_second = omega arith;
    x = scaled_of s 0 e a.x b.x c.x d.x (omega (arith, ints));
    y = scaled_of s 0 e a.y b.y c.y d.y (omega (arith, ints));
  };
}

-- four numbers in one column
record Column (a b c d : Point) : Type 0 where
  ab : a.x ≡ b.x
  ac : a.x ≡ c.x
  ad : a.x ≡ d.x

column_core : (a b c d : Point) → Column a b c d → a.y ≤ℤ c.y → c.y ≤ℤ b.y → SharePoint a b c d
column_core a b c d h low high =
    by_lt_z a.y b.y
    (λ rising.
    let e : (n : ℕ) × (b.y -ℤ a.y ≡ pos n) = natural (b.y -ℤ a.y) (omega (arith, ints)) in
    let s : (n : ℕ) × (c.y -ℤ a.y ≡ pos n) = natural (c.y -ℤ a.y) (omega (arith, ints)) in
    let zu : b.x -ℤ a.x ≡ pos 0 = omega (arith, ints) in
    let zw : c.x -ℤ a.x ≡ pos 0 = omega (arith, ints) in
    begin_inside a b c d s.0 e.0 (omega (arith, ints)) (omega (arith, ints))
    (omega (arith, ints, ap (λ z. pos s.0 *ℤ z) zu, ap (λ z. pos e.0 *ℤ z) zw))
    (omega (arith, ints, ap (λ z. pos s.0 *ℤ z) e.1, ap (λ z. pos e.0 *ℤ z) s.1)))
    (λ flat. one_begin a b c d h.ac (omega (arith, ints)))

column_sorted : (a b c d : Point) → Column a b c d → RangesOverlap a.y b.y c.y d.y → a.y ≤ℤ b.y → c.y ≤ℤ d.y
    → SharePoint a b c d
column_sorted a b c d h o ab cd =
    by_lt_z c.y a.y
    (λ below. exchange_both a b c d (column_core c d a b
    (record { ab = omega (arith, ints, h.ac, h.ad); ac = sym h.ac; ad = omega (arith, ints, h.ab, h.ac) })
    (omega (arith, ints)) (omega (arith, ints, clamps, o.0, o.1))))
    (λ above. column_core a b c d h above (omega (arith, ints, clamps, o.0, o.1)))

column_half : (a b c d : Point) → Column a b c d → RangesOverlap a.y b.y c.y d.y → a.y ≤ℤ b.y → SharePoint a b c d
column_half a b c d h o ab =
    by_lt_z d.y c.y
    (λ falling. exchange_second a b c d
    (column_sorted a b d c (record { ab = h.ab; ac = h.ad; ad = h.ac }) (overlap_second a.y b.y c.y d.y o) ab
    (omega (arith, ints))))
    (λ rising. column_sorted a b c d h o ab rising)

column : (a b c d : Point) → Column a b c d → RangesOverlap a.y b.y c.y d.y → SharePoint a b c d
column a b c d h o =
    by_lt_z b.y a.y
    (λ falling. exchange_first a b c d
    (column_half b a c d (record {
      ab = sym h.ab;
      ac = omega (arith, ints, h.ab, h.ac);
      ad =
          omega (arith, ints, h.ab, h.ad);
    }) (overlap_first a.y b.y c.y d.y o) (omega (arith, ints))))
    (λ rising. column_half a b c d h o rising)

flat_core : (a b c d : Point) → Flat a b c d → RangesOverlap a.y b.y c.y d.y → a.x ≤ℤ b.x → c.x ≤ℤ d.x → a.x ≤ℤ c.x
    → c.x ≤ℤ b.x → SharePoint a b c d
flat_core a b c d h o ab cd low high =
    by_lt_z a.x b.x
    (λ rising.
    let e : (n : ℕ) × (b.x -ℤ a.x ≡ pos n) = natural (b.x -ℤ a.x) (omega (arith, ints)) in
    let s : (n : ℕ) × (c.x -ℤ a.x ≡ pos n) = natural (c.x -ℤ a.x) (omega (arith, ints)) in
    begin_inside a b c d s.0 e.0 (omega (arith, ints)) (omega (arith, ints))
    (omega (arith, ints, ap (λ z. pos s.0 *ℤ z) e.1, ap (λ z. pos e.0 *ℤ z) s.1))
    (omega (arith, ints, h.c_flat, ap (λ z. z *ℤ (c.y -ℤ a.y)) e.1, ap (λ z. (b.y -ℤ a.y) *ℤ z) s.1)))
    (λ upright.
    let zu : b.x -ℤ a.x ≡ pos 0 = omega (arith, ints) in
    let ac : a.x ≡ c.x = omega (arith, ints) in
    by_lt_z c.x d.x
    (λ rising. one_begin a b c d ac (
    let e : (n : ℕ) × (d.x -ℤ c.x ≡ pos n) = natural (d.x -ℤ c.x) (omega (arith, ints)) in
    let positive : 0 < e.0 = omega (arith, ints) in
    let zw : a.x -ℤ c.x ≡ pos 0 = omega (arith, ints) in
    let level : pos e.0 *ℤ (a.y -ℤ c.y) ≡ pos e.0 *ℤ pos 0 =
    omega (arith, ints, h.a_flat, ap (λ z. z *ℤ (a.y -ℤ c.y)) e.1, ap (λ z. (d.y -ℤ c.y) *ℤ z) zw) in
    let one : (a.y -ℤ c.y) ≤ℤ pos 0 = cancel-le e.0 (a.y -ℤ c.y) (pos 0) positive (omega (arith, ints, level)) in
    let two : pos 0 ≤ℤ (a.y -ℤ c.y) = cancel-le e.0 (pos 0) (a.y -ℤ c.y) positive (omega (arith, ints, level)) in
    omega (arith, ints)))
    (λ still. column a b c d (record { ab = omega (arith, ints); ac = ac; ad = omega (arith, ints) }) o))

flat_sorted : (a b c d : Point) → Flat a b c d → RangesOverlap a.x b.x c.x d.x → RangesOverlap a.y b.y c.y d.y
    → a.x ≤ℤ b.x → c.x ≤ℤ d.x → SharePoint a b c d
flat_sorted a b c d h ox oy ab cd =
    by_lt_z c.x a.x
    (λ below. exchange_both a b c d (flat_core c d a b (flat_both a b c d h) (overlap_both a.y b.y c.y d.y oy) cd ab
    (omega (arith, ints)) (omega (arith, ints, clamps, ox.0, ox.1))))
    (λ above. flat_core a b c d h oy ab cd above (omega (arith, ints, clamps, ox.0, ox.1)))

flat_half : (a b c d : Point) → Flat a b c d → RangesOverlap a.x b.x c.x d.x → RangesOverlap a.y b.y c.y d.y
    → a.x ≤ℤ b.x → SharePoint a b c d
flat_half a b c d h ox oy ab =
    by_lt_z d.x c.x
    (λ falling. exchange_second a b c d
    (flat_sorted a b d c (flat_second a b c d h) (overlap_second a.x b.x c.x d.x ox)
    (overlap_second a.y b.y c.y d.y oy) ab (omega (arith, ints))))
    (λ rising. flat_sorted a b c d h ox oy ab rising)

pub flat_share : (a b c d : Point) → Flat a b c d → RangesOverlap a.x b.x c.x d.x → RangesOverlap a.y b.y c.y d.y
    → SharePoint a b c d
flat_share a b c d h ox oy =
    by_lt_z b.x a.x
    (λ falling. exchange_first a b c d
    (flat_half b a c d (flat_first a b c d h) (overlap_first a.x b.x c.x d.x ox) (overlap_first a.y b.y c.y d.y oy)
    (omega (arith, ints))))
    (λ rising. flat_half a b c d h ox oy rising)
