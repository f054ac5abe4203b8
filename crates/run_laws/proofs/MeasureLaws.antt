-- The measures of a part leave one text.
use Rattle.std.proofs.Common.{◌≡◌, ◌⊎◌, inl, inr, ℕ, ◌+◌, ◌<◌, ◌≤◌, List, [], ◌∷◌, ◌++◌, map, Option, None, Some, refl, sym, subst, ap, ap₂, ◌∙◌, arith, ℤ, ◌≤ℤ◌, mul-le-mul, true≢false}
use Rattle.std.specs.Prelude.{IfSome, IsSome, ◌↔◌, codes, decimal}
use Rattle.std.specs.List.{AllZip}
use Rattle.std.specs.Fmt.{signed_decimal}
use Rattle.std.proofs.lemmas.Bool.{cases_lt}
use Rattle.std.proofs.lemmas.Int.{ints}
use Rattle.std.proofs.lemmas.Slice.Zip.{AllZip-long}
use Rattle.fku_types.specs.declared.points.Point.{Point}
use Rattle.triangle_meshes.specs.Meshes.{Surface}
use Rattle.mesh_measures.specs.declared.boxes.Bounds.{Bounds}
use Rattle.mesh_measures.specs.declared.enclosing.Solid.{Solid}
use Rattle.mesh_measures.specs.declared.measuring.Measures.{Measures}
use Rattle.mesh_measures.specs.Areas.{IsRootAbove, IsRootBelow, IsSum, none, more, scaled_square}
use Rattle.mesh_measures.specs.Boxes.{IsBox, IsGreatest, IsSmallest}
use Rattle.surface_commands.specs.MeshTexts.{parts_line}
use Rattle.surface_commands.specs.Measure.{AreMeasures, IsSolid, box_text, measured_text, measures_text, parts_text, corner_text, solid_text}

-- ---- the area
one_root_below : (v r q : ℕ) → IsRootBelow v r → IsRootBelow v q → r ≡ q
one_root_below v r q h k = omega (arith, at_most r q h k, at_most q r k h)
  where
    at_most : (m n : ℕ) → IsRootBelow v m → IsRootBelow v n → m ≤ n
    at_most m n f g = by_order (cases_lt n m)
      where
        by_order : (n < m) ⊎ (m ≤ n) → m ≤ n
        by_order (inr l) = l
        by_order (inl l) = (let next : n + 1 ≤ m = omega arith in
            absurd (omega (arith, mul-le-mul next next, f.0, g.1)))

one_root_above : (v r q : ℕ) → IsRootAbove v r → IsRootAbove v q → r ≡ q
one_root_above v r q h k = omega (arith, h.1 q k.0, k.1 r h.0)

-- a sum of numbers, one for each item
AreAdded : {X : Type 0} → (X → ℕ → Type 0) → List X → ℕ → Type 0
AreAdded R [] n = n ≡ 0
AreAdded R (x ∷ xs) n = (r : ℕ) × (s : ℕ) × R x r × AreAdded R xs s × (n ≡ r + s)

are_added : {X : Type 0} {R : X → ℕ → Type 0} {xs : List X} {n : ℕ} → IsSum R xs n → AreAdded R xs n
unfolding AreAdded
are_added none = refl
are_added (more x xs r s h rest) = (r, s, h, are_added rest, refl)

one_added : {X : Type 0} (R : X → ℕ → Type 0) → ((x : X) (r q : ℕ) → R x r → R x q → r ≡ q) → (xs : List X) (m n : ℕ)
    → AreAdded R xs m → AreAdded R xs n → m ≡ n
unfolding AreAdded
one_added R one [] m n h k = h ∙ sym k
one_added R one (x ∷ xs) m n h k = h.4 ∙ ap₂ ◌+◌ (one x h.0 k.0 h.2 k.2) (one_added R one xs h.1 k.1 h.3 k.3) ∙ sym k.4

-- ---- the box
one_least : (v w : ℤ) (xs : List ℤ) → IsSmallest v xs → IsSmallest w xs → v ≡ w
one_least v w xs h k =
    let a : v ≤ℤ w = subst (λ (z : ℤ). v ≤ℤ z) k.0.2 (h.1 k.0.0 w k.0.1) in
    let b : w ≤ℤ v = subst (λ (z : ℤ). w ≤ℤ z) h.0.2 (k.1 h.0.0 v h.0.1) in
    omega (arith, ints)

one_greatest : (v w : ℤ) (xs : List ℤ) → IsGreatest v xs → IsGreatest w xs → v ≡ w
one_greatest v w xs h k =
    let a : w ≤ℤ v = subst (λ (z : ℤ). z ≤ℤ v) k.0.2 (h.1 k.0.0 w k.0.1) in
    let b : v ≤ℤ w = subst (λ (z : ℤ). z ≤ℤ w) h.0.2 (k.1 h.0.0 v h.0.1) in
    omega (arith, ints)

one_point : (p q : Point) → p.x ≡ q.x → p.y ≡ q.y → p.z ≡ q.z → corner_text p ≡ corner_text q
one_point p q x y z =
    ap (λ (n : ℤ). signed_decimal n ++ (codes " " ++ (signed_decimal p.y ++ (codes " " ++ signed_decimal p.z)))) x
    ∙ ap (λ (n : ℤ). signed_decimal q.x ++ (codes " " ++ (signed_decimal n ++ (codes " " ++ signed_decimal p.z)))) y
    ∙ ap (λ (n : ℤ). signed_decimal q.x ++ (codes " " ++ (signed_decimal q.y ++ (codes " " ++ signed_decimal n)))) z

one_box : (b c : Bounds) (points : List Point) → IsBox b points → IsBox c points → box_text b ≡ box_text c
one_box b c points h k =
    ap₂ (λ (s t : List ℕ). codes "BOX " ++ (s ++ (codes " " ++ (t ++ codes "\n"))))
    (one_point b.least c.least
    (one_least b.least.x c.least.x (map (λ (p : Point). p.x) points) h.least_x k.least_x)
    (one_least b.least.y c.least.y (map (λ (p : Point). p.y) points) h.least_y k.least_y)
    (one_least b.least.z c.least.z (map (λ (p : Point). p.z) points) h.least_z k.least_z))
    (one_point b.greatest c.greatest
    (one_greatest b.greatest.x c.greatest.x (map (λ (p : Point). p.x) points) h.greatest_x k.greatest_x)
    (one_greatest b.greatest.y c.greatest.y (map (λ (p : Point). p.y) points) h.greatest_y k.greatest_y)
    (one_greatest b.greatest.z c.greatest.z (map (λ (p : Point). p.z) points) h.greatest_z k.greatest_z))

-- ---- the solid that it encloses
one_solid : {P : Type 0} (points : List Point) (part : List (List ℕ)) (o q : Option Solid) → (IsSome o ↔ P)
    → (IsSome q ↔ P) → IfSome o (IsSolid points part) → IfSome q (IsSolid points part)
    → solid_text o ≡ solid_text q
one_solid points part None None f g h k = refl
one_solid points part None (Some t) f g h k = absurd (true≢false (sym (f.1 (g.0 refl))))
one_solid points part (Some s) None f g h k = absurd (true≢false (sym (g.1 (f.0 refl))))
one_solid points part (Some s) (Some t) f g h k =
    ap₂ (λ (v x : ℤ). codes "CLOSED yes\nSIXVOLUME "
    ++ (signed_decimal v ++ (codes "\nMOMENT "
    ++ (signed_decimal x ++ (codes " "
    ++ (signed_decimal s.moment_y ++ (codes " " ++ (signed_decimal s.moment_z ++ codes "\n"))))))))
    (h.six_volume ∙ sym k.six_volume) (h.moment_x ∙ sym k.moment_x)
    ∙ ap₂ (λ (y z : ℤ). codes "CLOSED yes\nSIXVOLUME "
    ++ (signed_decimal t.six_volume ++ (codes "\nMOMENT "
    ++ (signed_decimal t.moment_x ++ (codes " "
    ++ (signed_decimal y ++ (codes " " ++ (signed_decimal z ++ codes "\n"))))))))
    (h.moment_y ∙ sym k.moment_y) (h.moment_z ∙ sym k.moment_z)

-- ---- the lines of parts
one_measured : (points : List Point) (part : List (List ℕ)) (number : ℕ) (m n : Measures) → AreMeasures points part m
    → AreMeasures points part n → measured_text number m ≡ measured_text number n
one_measured points part number m n h k =
    let low : m.area.low ≡ n.area.low =
    one_added (λ t r. IsRootBelow (scaled_square points t) r) (λ t r q. one_root_below (scaled_square points t) r q)
    part m.area.low n.area.low (are_added h.low) (are_added k.low) in
    let high : m.area.high ≡ n.area.high =
    one_added (λ t r. IsRootAbove (scaled_square points t) r) (λ t r q. one_root_above (scaled_square points t) r q)
    part m.area.high n.area.high (are_added h.high) (are_added k.high) in
    ap₂ ◌++◌
    (ap₂ (λ (v t : ℕ). codes "PART " ++ (decimal number
    ++ (codes "\nVERTICES " ++ (decimal v ++ (codes "\nPOLYGONS " ++ (decimal t ++ codes "\n"))))))
    (h.vertices ∙ sym k.vertices) (h.polygons ∙ sym k.polygons))
    (ap₂ ◌++◌ (one_box m.bounds n.bounds _ h.bounds k.bounds)
    (ap₂ ◌++◌ (ap₂ (λ (l u : ℕ). codes "AREA " ++ (decimal l ++ (codes " " ++ (decimal u ++ codes " DEN 2000\n")))) low
    high)
    (ap₂ ◌++◌ (ap₂ (λ (e a : ℕ). codes "EDGES " ++ (decimal e ++ (codes " MANY " ++ (decimal a ++ codes "\n"))))
    (h.edges ∙ sym k.edges) (h.many ∙ sym k.many))
    (one_solid points part m.solid n.solid h.closed k.closed h.solid k.solid))))

one_list : (points : List Point) (parts : List (List (List ℕ))) (number : ℕ) (ms ns : List Measures)
    → AllZip (AreMeasures points) parts ms → AllZip (AreMeasures points) parts ns
    → parts_text number ms ≡ parts_text number ns
one_list points [] number [] [] h k = refl
one_list points [] number [] (n ∷ ns) h k = absurd k
one_list points [] number (m ∷ ms) ns h k = absurd h
one_list points (part ∷ parts) number [] ns h k = absurd h
one_list points (part ∷ parts) number (m ∷ ms) [] h k = absurd k
one_list points (part ∷ parts) number (m ∷ ms) (n ∷ ns) h k =
    ap₂ ◌++◌ (one_measured points part number m n h.0 k.0) (one_list points parts (number + 1) ms ns h.1 k.1)

pub one_measures : (m : Surface) (ms ns : List Measures) → AllZip (AreMeasures m.vertices) m.parts ms
    → AllZip (AreMeasures m.vertices) m.parts ns → measures_text ms ≡ measures_text ns
one_measures m ms ns h k =
    ap₂ ◌++◌ (ap parts_line (AllZip-long (AreMeasures m.vertices) m.parts ms h
    ∙ sym (AllZip-long (AreMeasures m.vertices) m.parts ns k)))
    (one_list m.vertices m.parts 1 ms ns h k)
