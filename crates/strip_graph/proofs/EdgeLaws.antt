-- The areas of tiles at edges whose ends lie at one height.
use Rattle.std.proofs.Common.{◌≡◌, ℕ, ◌+◌, ℤ, pos, ◌-ℤ◌, ◌*ℤ◌, ap, ap₂, sym, ◌∙◌, refl, arith, ◌≤◌, unsigned_abs, to_z, of_z, w32, w64, to_z-of_z, SFits}
use Rattle.std.proofs.lemmas.Int.{ints}
use Rattle.fku_types.specs.declared.points.Point.{Point}
use Rattle.fku_types.specs.Points.{square}
use Rattle.plane_geom.specs.Planes.{cross_product}
use Rattle.plane_geom.proofs.Signed.{passed_i32, passed_i64}
use Rattle.plane_geom.proofs.Vectors.{mul-sub}
use Rattle.strip_graph.specs.Strips.{area_square}

-- a value passed to a call is itself
pub passed_side : (x : ℤ) → unsigned_abs x ≤ 16000000000000 → to_z w64 (of_z w64 x) ≡ x
passed_side x h = let f : SFits w64 x = omega (arith, ints) in to_z-of_z f

-- a difference that is passed to a call
pub passed_difference : (x y d : ℤ) → unsigned_abs x ≤ 999999 → unsigned_abs y ≤ 999999
    → d ≡ (to_z w32 (of_z w32 x) -ℤ to_z w32 (of_z w32 y)) → unsigned_abs d ≤ 1999998 → to_z w64 (of_z w64 d) ≡ (x -ℤ y)
passed_difference x y d h k e r = passed_i64 d (omega arith) ∙ e
    ∙ ap₂ (λ (a b : ℤ). a -ℤ b) (passed_i32 x h) (passed_i32 y k)

pub passed_coordinate : (x r : ℤ) → unsigned_abs x ≤ 999999 → r ≡ to_z w32 (of_z w32 x) → to_z w64 (of_z w64 r) ≡ x
passed_coordinate x r h e =
    let f : r ≡ x = e ∙ passed_i32 x h in
    passed_i64 r (omega (arith, ap unsigned_abs f)) ∙ f

-- four equal numbers have an equal cross product
pub same_cross : (a b c d a' b' c' d' : ℤ) → a ≡ a' → b ≡ b' → c ≡ c' → d ≡ d'
    → cross_product a b c d ≡ cross_product a' b' c' d'
same_cross a b c d a' b' c' d' e f g h = ap₂ (λ (x y : ℤ). cross_product x y c d) e f
    ∙ ap₂ (λ (x y : ℤ). cross_product a' b' x y) g h

pub same_across : (a b : Point) (x y z x' y' z' : ℤ) → x ≡ x' → y ≡ y' → z ≡ z'
    → area_square a b (record { x = x; y = y; z = z }) ≡ area_square a b (record { x = x'; y = y'; z = z' })
same_across a b x y z x' y' z' e f g = ap₂ (λ (k l : ℤ). area_square a b (record { x = k; y = l; z = z })) e f
    ∙ ap (λ (k : ℤ). area_square a b (record { x = x'; y = y'; z = k })) g

nothing : (x y : ℤ) → x ≡ y → x -ℤ y ≡ pos 0
nothing x y e = omega (arith, ints)

no_product : (z w : ℤ) → z ≡ pos 0 → z *ℤ w ≡ pos 0
no_product z w e = ap (λ (x : ℤ). x *ℤ w) e ∙ zero w
  where
    zero : (w : ℤ) → pos 0 *ℤ w ≡ pos 0
    zero w = omega (arith, ints)

-- if the edge does not rise, the first two parts of the cross product are the same for all points at one height
second : (u z w v h : ℤ) → z ≡ pos 0 → cross_product u z w h ≡ cross_product u z v h
second u z w v h e = ap (λ (x : ℤ). (u *ℤ h) -ℤ x) (no_product z w e ∙ sym (no_product z v e))

first : (z u h w v : ℤ) → z ≡ pos 0 → cross_product z u h w ≡ cross_product z u h v
first z u h w v e = ap (λ (x : ℤ). x -ℤ (u *ℤ h)) (no_product z w e ∙ sym (no_product z v e))

-- the third part, from the point's own coordinates
side_is : (u v x y ax ay : ℤ) → cross_product u v (x -ℤ ax) (y -ℤ ay) ≡ cross_product u v x y -ℤ cross_product u v ax ay
side_is u v x y ax ay = omega (arith, ints, mul-sub u y ay, mul-sub v x ax)

-- it is 0 for the edge's start
no_side : (u v ax ay : ℤ) → square (cross_product u v (ax -ℤ ax) (ay -ℤ ay)) ≡ 0
unfolding square
no_side u v ax ay = ap square (side_is u v ax ay ax ay
    ∙ nothing (cross_product u v ax ay) (cross_product u v ax ay) refl)

-- the squared area is that of the tile with the point straight across from the start, and the third part's square
pub level_area : (a b q : Point) (z : ℤ) → b.z ≡ a.z → q.z ≡ z
    → area_square a b (record { x = a.x; y = a.y; z = z })
    + square (cross_product (b.x -ℤ a.x) (b.y -ℤ a.y) q.x q.y -ℤ cross_product (b.x -ℤ a.x) (b.y -ℤ a.y) a.x a.y)
    ≡ area_square a b q
unfolding area_square
level_area a b q z e f =
    let ez : b.z -ℤ a.z ≡ pos 0 = nothing b.z a.z e in
    let one = ap square (second (b.y -ℤ a.y) (b.z -ℤ a.z) (a.y -ℤ a.y) (q.y -ℤ a.y) (z -ℤ a.z) ez)
    ∙ ap (λ (h : ℤ). square (cross_product (b.y -ℤ a.y) (b.z -ℤ a.z) (q.y -ℤ a.y) (h -ℤ a.z))) (sym f) in
    let two = ap square (first (b.z -ℤ a.z) (b.x -ℤ a.x) (z -ℤ a.z) (a.x -ℤ a.x) (q.x -ℤ a.x) ez)
    ∙ ap (λ (h : ℤ). square (cross_product (b.z -ℤ a.z) (b.x -ℤ a.x) (h -ℤ a.z) (q.x -ℤ a.x))) (sym f) in
    omega (
      arith,
      one,
      two,
      no_side (b.x -ℤ a.x) (b.y -ℤ a.y) a.x a.y,
      ap square (side_is (b.x -ℤ a.x) (b.y -ℤ a.y) q.x q.y a.x a.y),
    )

pub edge_is : (a b q : Point) (z x y turn : ℤ) (upright : ℕ) → b.z ≡ a.z → x ≡ b.x -ℤ a.x → y ≡ b.y -ℤ a.y
    → turn ≡ cross_product (b.x -ℤ a.x) (b.y -ℤ a.y) a.x a.y
    → upright ≡ area_square a b (record { x = a.x; y = a.y; z = z }) → q.z ≡ z
    → upright + square (cross_product x y q.x q.y -ℤ turn) ≡ area_square a b q
edge_is a b q z x y turn upright level ex ey et eu f =
    ap₂ (λ (u : ℕ) (s : ℤ). u + square s) eu
    (ap₂ (λ (c t : ℤ). c -ℤ t) (ap₂ (λ (u v : ℤ). cross_product u v q.x q.y) ex ey) et) ∙ level_area a b q z level f
