-- What a sort by height and then by x gives.
use Rattle.std.proofs.Common.{◌≡◌, false, List, get_or, refl, arith, ℤ, ◌≤ℤ◌, ◌<ℤ◌, Ordering}
use Rattle.std.specs.declared.cmp.Ordering.TheVariants.{Less, Equal, Greater}
use Rattle.std.specs.Ordering.{int_cmp, ordering_then, is_lt, MatchOrdering}
use Rattle.std.proofs.lemmas.Int.{ints}
use Rattle.std.proofs.lemmas.Cmp.{int_ranked, int_cmp_total, on_total, then_total}
use Rattle.std.proofs.lemmas.List.Sorted.{ranks_by, sorted_far}
use Rattle.std.specs.List.Sorted.{IsSortedByKey}
use Rattle.mesh_measures.specs.declared.triangle_boxes.Boxed.{Boxed}
use Rattle.mesh_measures.specs.TriangleBoxes.{ComesAfter, IsSwept}

abbrev pub key : Boxed → ℤ × ℤ
key b = (b.least.z, b.least.x)

abbrev pub by_key : ℤ × ℤ → ℤ × ℤ → Ordering
by_key a b = ordering_then (int_cmp a.0 b.0) (int_cmp a.1 b.1)

less_le : (a b : ℤ) → a <ℤ b → a ≤ℤ b
less_le a b h = omega (arith, ints)

same_le : (a b : ℤ) → b ≡ a → a ≤ℤ b
same_le a b e = omega (arith, ints)

not_same : (a b : ℤ) → a <ℤ b → a ≡ b → ⊥
not_same a b h e = omega (arith, ints)

ordered : (z x z' x' : ℤ) (r q : Ordering) → MatchOrdering r (z' <ℤ z) (z' ≡ z) (z <ℤ z')
    → MatchOrdering q (x' <ℤ x) (x' ≡ x) (x <ℤ x') → is_lt (ordering_then r q) ≡ false → (z ≤ℤ z') × (z ≡ z' → x ≤ℤ x')
ordered z x z' x' Less q h k e = absurd (let f : ⊥ = cc in f)
ordered z x z' x' Equal Less h k e = absurd (let f : ⊥ = cc in f)
ordered z x z' x' Equal Equal h k e = (same_le z z' h, λ _. same_le x x' k)
ordered z x z' x' Equal Greater h k e = (same_le z z' h, λ _. less_le x x' k)
ordered z x z' x' Greater q h k e = (less_le z z' h, λ f. absurd (not_same z z' h f))

pub behind : (a b : Boxed) → is_lt (by_key (key b) (key a)) ≡ false → ComesAfter a b
behind a b e =
    let w = ordered a.least.z a.least.x b.least.z b.least.x (int_cmp b.least.z a.least.z) (int_cmp b.least.x a.least.x)
    (int_ranked b.least.z a.least.z (int_cmp b.least.z a.least.z) refl)
    (int_ranked b.least.x a.least.x (int_cmp b.least.x a.least.x) refl) e in
    record { height = w.0; level = w.1 }

pub swept_by_sort : (xs : List Boxed) → IsSortedByKey key by_key xs → IsSwept xs
swept_by_sort xs up = λ i j d le below.
    behind (get_or xs i d) (get_or xs j d)
    (sorted_far (λ (x y : Boxed). is_lt (by_key (key x) (key y)))
    (ranks_by (then_total (on_total (λ (p : ℤ × ℤ). p.0) int_cmp_total)
    (on_total (λ (p : ℤ × ℤ). p.1) int_cmp_total)) key) xs up i j d le below)
