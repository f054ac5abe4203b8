-- Triangles at one height: six times their volume is that height, as seen from a point, times twice their area.
use Rattle.std.proofs.Common.{◌≡◌, ℕ, List, [], ◌∷◌, ℤ, pos, ◌+ℤ◌, ◌-ℤ◌, ◌*ℤ◌, neg_ℤ, swap, refl, sym, ap, ap₂, ◌∙◌, arith, All}
use Rattle.std.specs.List.{AllByRecursion}
use Rattle.std.proofs.lemmas.Int.{ints}
use Rattle.fku_types.specs.declared.points.Point.{Point}
use Rattle.plane_geom.specs.Planes.{cross_product, side, side_of}
use Rattle.plane_geom.proofs.Vectors.{mul-sub, mul-add, mul-comm, mul-assoc}
use Rattle.ring_polygons.specs.Caps.{points_at, area_of, turned_over}
use Rattle.ring_polygons.proofs.AreaLaws.{product}
use Rattle.ring_polygons.proofs.CutLaws.{HasThree}
use Rattle.triangle_meshes.specs.Volumes.{seen_from, determinant, six_volume_of, part_volume}
use Rattle.ring_caps.proofs.GroupLaws.{point_of}

-- ---- products
out_last : (a b m : ℤ) → a *ℤ (b *ℤ m) ≡ m *ℤ (a *ℤ b)
out_last a b m = mul-assoc a b m ∙ mul-comm (a *ℤ b) m

out_first : (a m b : ℤ) → a *ℤ (m *ℤ b) ≡ m *ℤ (a *ℤ b)
out_first a m b = ap (λ (z : ℤ). a *ℤ z) (mul-comm m b) ∙ out_last a b m

-- six products that make a triangle's area
sum_of_six : (a b c d e f : ℤ) → ℤ
sum_of_six a b c d e f = ((a -ℤ b) -ℤ c) -ℤ ((d -ℤ e) -ℤ f)

area_of_six : (px py qx qy rx ry : ℤ)
    → cross_product (qx -ℤ px) (qy -ℤ py) (rx -ℤ px) (ry -ℤ py)
    ≡ sum_of_six (qx *ℤ ry) (qx *ℤ py) (px *ℤ ry) (qy *ℤ rx) (qy *ℤ px) (py *ℤ rx)
unfolding sum_of_six
area_of_six px py qx qy rx ry = omega (arith, ints, product qx px ry py, product qy py rx px, mul-comm px py)

times_six : (m a b c d e f : ℤ) → m *ℤ sum_of_six a b c d e f
    ≡ sum_of_six (m *ℤ a) (m *ℤ b) (m *ℤ c) (m *ℤ d) (m *ℤ e) (m *ℤ f)
unfolding sum_of_six
times_six m a b c d e f =
    omega (
      arith,
      ints,
      mul-sub m ((a -ℤ b) -ℤ c) ((d -ℤ e) -ℤ f),
      mul-sub m (a -ℤ b) c,
      mul-sub m a b,
      mul-sub m (d -ℤ e) f,
      mul-sub m d e,
    )

volume_of_six : (px py qx qy rx ry m : ℤ)
    → (px *ℤ cross_product qy m ry m) +ℤ (py *ℤ cross_product m qx m rx) +ℤ (m *ℤ cross_product qx qy rx ry)
    ≡ sum_of_six (m *ℤ (qx *ℤ ry)) (m *ℤ (qx *ℤ py)) (m *ℤ (px *ℤ ry)) (m *ℤ (qy *ℤ rx)) (m *ℤ (qy *ℤ px))
    (m *ℤ (py *ℤ rx))
unfolding sum_of_six
volume_of_six px py qx qy rx ry m =
    omega (
      arith,
      ints,
      mul-sub px (qy *ℤ m) (m *ℤ ry),
      out_last px qy m,
      out_first px m ry,
      mul-sub py (m *ℤ rx) (qx *ℤ m),
      out_first py m rx,
      out_last py qx m,
      mul-sub m (qx *ℤ ry) (qy *ℤ rx),
      ap (λ (z : ℤ). m *ℤ z) (mul-comm px qy),
      ap (λ (z : ℤ). m *ℤ z) (mul-comm py qx),
    )

flat_numbers : (px py qx qy rx ry m : ℤ)
    → (px *ℤ cross_product qy m ry m) +ℤ (py *ℤ cross_product m qx m rx) +ℤ (m *ℤ cross_product qx qy rx ry)
    ≡ m *ℤ cross_product (qx -ℤ px) (qy -ℤ py) (rx -ℤ px) (ry -ℤ py)
flat_numbers px py qx qy rx ry m =
    volume_of_six px py qx qy rx ry m ∙ sym
    (times_six m (qx *ℤ ry) (qx *ℤ py) (px *ℤ ry) (qy *ℤ rx) (qy *ℤ px) (py *ℤ rx))
    ∙ ap (λ (z : ℤ). m *ℤ z) (sym (area_of_six px py qx qy rx ry))

-- three points at one height
flat : (p q r : Point) (m : ℤ) → p.z ≡ m → q.z ≡ m → r.z ≡ m → determinant p q r ≡ m *ℤ side p q r
flat p q r m a b c =
    ap₂ (λ (y z : ℤ). (p.x *ℤ cross_product q.y y r.y z) +ℤ (p.y *ℤ cross_product y q.x z r.x) +ℤ
    (p.z *ℤ cross_product q.x q.y r.x r.y)) b c
    ∙ ap (λ (z : ℤ). (p.x *ℤ cross_product q.y m r.y m) +ℤ (p.y *ℤ cross_product m q.x m r.x) +ℤ
    (z *ℤ cross_product q.x q.y r.x r.y)) a
    ∙ flat_numbers p.x p.y q.x q.y r.x r.y m

-- an area does not depend on the point from which it is seen
moved : (a b o : ℤ) → (b -ℤ o) -ℤ (a -ℤ o) ≡ b -ℤ a
moved a b o = omega (arith, ints)

side_moved : (o a b c : Point) → side (seen_from o a) (seen_from o b) (seen_from o c) ≡ side a b c
side_moved o a b c =
    ap₂ (λ (x y : ℤ). cross_product x y ((c.x -ℤ o.x) -ℤ (a.x -ℤ o.x)) ((c.y -ℤ o.y) -ℤ (a.y -ℤ o.y)))
    (moved a.x b.x o.x) (moved a.y b.y o.y)
    ∙ ap₂ (λ (x y : ℤ). cross_product (b.x -ℤ a.x) (b.y -ℤ a.y) x y) (moved a.x c.x o.x) (moved a.y c.y o.y)

-- a vertex at a height
abbrev pub AtHeight : List Point → ℤ → ℕ → Type 0
AtHeight vertices h v = (point_of vertices v).z ≡ h

flat_triangle : (vertices : List Point) (o : Point) (h : ℤ) (t : List ℕ) → HasThree t → All (AtHeight vertices h) t
    → six_volume_of vertices o t ≡ (h -ℤ o.z) *ℤ side_of (points_at vertices t)
flat_triangle vertices o h [] n k = absurd (omega (arith, n))
flat_triangle vertices o h (a ∷ []) n k = absurd (omega (arith, n))
flat_triangle vertices o h (a ∷ b ∷ []) n k = absurd (omega (arith, n))
flat_triangle vertices o h (a ∷ b ∷ c ∷ []) n k =
    let p : Point = point_of vertices a in
    let q : Point = point_of vertices b in
    let r : Point = point_of vertices c in
    flat (seen_from o p) (seen_from o q) (seen_from o r) (h -ℤ o.z) (ap (λ (z : ℤ). z -ℤ o.z) (k 0 0 (omega arith)))
    (ap (λ (z : ℤ). z -ℤ o.z) (k 1 0 (omega arith))) (ap (λ (z : ℤ). z -ℤ o.z) (k 2 0 (omega arith)))
    ∙ ap (λ (z : ℤ). (h -ℤ o.z) *ℤ z) (side_moved o p q r)
flat_triangle vertices o h (a ∷ b ∷ c ∷ e ∷ t) n k = absurd (omega (arith, n))

times_none : (m : ℤ) → m *ℤ pos 0 ≡ pos 0
times_none m = mul-comm m (pos 0) ∙ none_times m
  where
    none_times : (m : ℤ) → pos 0 *ℤ m ≡ pos 0
    none_times m = omega (arith, ints)

pub flat_part : (vertices : List Point) (o : Point) (h : ℤ) (ts : List (List ℕ)) → AllByRecursion HasThree ts
    → AllByRecursion (All (AtHeight vertices h)) ts → part_volume vertices o ts ≡ (h -ℤ o.z) *ℤ area_of vertices ts
flat_part vertices o h [] n k = sym (times_none (h -ℤ o.z))
flat_part vertices o h (t ∷ ts) n k =
    ap₂ (λ (x y : ℤ). x +ℤ y) (flat_triangle vertices o h t n.0 k.0) (flat_part vertices o h ts n.1 k.1)
    ∙ sym (mul-add (h -ℤ o.z) (side_of (points_at vertices t)) (area_of vertices ts))

-- ---- triangles turned over
side_turned : (a b c : Point) → side a c b ≡ neg_ℤ (side a b c)
side_turned a b c = turned (b.x -ℤ a.x) (b.y -ℤ a.y) (c.x -ℤ a.x) (c.y -ℤ a.y)
  where
    turned : (ux uy vx vy : ℤ) → cross_product vx vy ux uy ≡ neg_ℤ (cross_product ux uy vx vy)
    turned ux uy vx vy = omega (arith, ints, mul-comm vx uy, mul-comm vy ux)

one_turned : (vertices : List Point) (t : List ℕ) → HasThree t
    → side_of (points_at vertices (swap t 1 2)) ≡ neg_ℤ (side_of (points_at vertices t))
one_turned vertices [] n = absurd (omega (arith, n))
one_turned vertices (a ∷ []) n = absurd (omega (arith, n))
one_turned vertices (a ∷ b ∷ []) n = absurd (omega (arith, n))
one_turned vertices (a ∷ b ∷ c ∷ []) n = side_turned (point_of vertices a) (point_of vertices b) (point_of vertices c)
one_turned vertices (a ∷ b ∷ c ∷ e ∷ t) n = absurd (omega (arith, n))

neg_sum : (a b x y : ℤ) → x ≡ neg_ℤ a → y ≡ neg_ℤ b → x +ℤ y ≡ neg_ℤ (a +ℤ b)
neg_sum a b x y e f = omega (arith, ints)

pub area_turned : (vertices : List Point) (ts : List (List ℕ)) → AllByRecursion HasThree ts
    → area_of vertices (turned_over ts) ≡ neg_ℤ (area_of vertices ts)
area_turned vertices [] n = refl
area_turned vertices (t ∷ ts) n =
    neg_sum (side_of (points_at vertices t)) (area_of vertices ts) (side_of (points_at vertices (swap t 1 2)))
    (area_of vertices (turned_over ts)) (one_turned vertices t n.0) (area_turned vertices ts n.1)
