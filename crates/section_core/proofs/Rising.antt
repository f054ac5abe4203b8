-- Heights of sections that rise: a later section is higher.
use Rattle.std.proofs.Common.{◌≡◌, ℕ, zero, suc, ◌+◌, ◌<◌, List, [], ◌∷◌, length, get_or, arith, subst, ℤ, ◌<ℤ◌, All}
use Rattle.std.specs.List.{AllByRecursion}
use Rattle.std.proofs.lemmas.Int.{ints}
use Rattle.std.proofs.lemmas.List.Elements.{All-from_recursion}
use Rattle.section_core.specs.Parts.{SectionParts}
use Rattle.section_core.specs.Laws.{AreRising, heights}

pub above_first : (z : ℤ) (s : SectionParts) (more : List SectionParts) → AreRising (heights (s ∷ more)) → z <ℤ s.z
    → AllByRecursion (λ (x : SectionParts). z <ℤ x.z) (s ∷ more)
above_first z s [] r l = (l, tt)
above_first z s (t ∷ more) r l = (l, above_first z t more r.1 (omega (arith, ints, l, r.0)))

pub first_is_least : (xs : List SectionParts) (j : ℕ) (d : SectionParts) → AreRising (heights xs) → j + 1 < length xs
    → (get_or xs 0 d).z <ℤ (get_or xs (j + 1) d).z
first_is_least [] j d r l = absurd (omega arith)
first_is_least (s ∷ []) j d r l = absurd (omega arith)
first_is_least (s ∷ t ∷ more) j d r l =
    let all : All (λ (x : SectionParts). s.z <ℤ x.z) (t ∷ more) =
    All-from_recursion (λ (x : SectionParts). s.z <ℤ x.z) (t ∷ more) (above_first s.z t more r.1 r.0) in
    subst (λ (n : ℕ). s.z <ℤ (get_or (s ∷ t ∷ more) n d).z) (let e : suc j ≡ j + 1 = omega arith in e)
    (all j d (omega arith))

pub rest_rises : (s : SectionParts) (more : List SectionParts) → AreRising (heights (s ∷ more))
    → AreRising (heights more)
rest_rises s [] r = tt
rest_rises s (t ∷ more) r = r.1

-- a later section is higher
pub higher : (xs : List SectionParts) (i j : ℕ) (d : SectionParts) → AreRising (heights xs) → i < j → j < length xs
    → (get_or xs i d).z <ℤ (get_or xs j d).z
higher [] i j d r h l = absurd (omega arith)
higher (s ∷ more) i zero d r h l = absurd (omega arith)
higher (s ∷ more) zero (suc j) d r h l =
    subst (λ (n : ℕ). s.z <ℤ (get_or (s ∷ more) n d).z) (let e : j + 1 ≡ suc j = omega arith in e)
    (first_is_least (s ∷ more) j d r (omega arith))
higher (s ∷ more) (suc i) (suc j) d r h l = higher more i j d (rest_rises s more r) (omega arith) (omega arith)
