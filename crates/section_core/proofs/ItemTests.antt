-- What the tests of one more item show: ranges, rising heights, distinct names, and few vertices.
use Rattle.std.proofs.Common.{◌≡◌, ℕ, suc, ◌+◌, ◌≤◌, Bool, true, false, ◌||◌, inl, inr, List, [], ◌∷◌, ◌++◌, ℤ, pos, negsuc, ◌≤ℤ◌, refl, ap, sym, ◌∙◌, arith}
use Rattle.std.specs.Prelude.{int_le}
use Rattle.std.specs.List.{AllByRecursion, list_any}
use Rattle.std.proofs.lemmas.Int.{ints}
use Rattle.std.proofs.lemmas.Bool.{cases_Bool, and_parts, and_from, or_parts, false≢true}
use Rattle.section_core.specs.Parts.{asked}
use Rattle.fku_types.specs.declared.limits.TheConstants.{MAX_CONTOUR_VERTICES, MAX_SECTION_VERTICES}
use Rattle.fku_types.specs.Points.{IsCoordinate}
use Rattle.section_core.specs.Laws.{AreDistinct, AreRising}
use Rattle.section_core.specs.Machine.{same}
use Rattle.section_core.specs.Steps.{add_last, last, push_last, last_list, is_coordinate, is_above}
use Rattle.fku_types.proofs.ListLaws.{all_rest, all_join}
use Rattle.section_core.proofs.Lines.{same-refl, same-is}
use Rattle.fku_types.proofs.TruthLaws.{int_le_is, int_lt_is, int_lt_test}

pub le_test : (a b : ℤ) → a ≤ℤ b → int_le a b ≡ true
le_test a b h = grind (arith, ints)

-- the range of a coordinate, by its bounds
pub bounded : (z : ℤ) → negsuc 999998 ≤ℤ z → z ≤ℤ pos 999999 → IsCoordinate z
bounded (pos n) low high = let k : pos n ≤ℤ pos 999999 = high in let m : n ≤ 999999 = omega (arith, ints) in m
bounded (negsuc n) low high = let k : negsuc 999998 ≤ℤ negsuc n = low in let m : n ≤ 999998 = omega (arith, ints) in
    let r : suc n ≤ 999999 = omega (arith, m) in r

at_least : (z : ℤ) → IsCoordinate z → negsuc 999998 ≤ℤ z
at_least (pos n) h = omega (arith, ints)
at_least (negsuc n) h = let m : suc n ≤ 999999 = h in omega (arith, ints)

at_most : (z : ℤ) → IsCoordinate z → z ≤ℤ pos 999999
at_most (pos n) h = let m : n ≤ 999999 = h in omega (arith, ints)
at_most (negsuc n) h = omega (arith, ints)

pub coordinate_is : (z : ℤ) → is_coordinate z ≡ true → IsCoordinate z
coordinate_is z e = let p = and_parts (int_le (negsuc 999998) z) (int_le z (pos 999999)) e in
    bounded z (int_le_is _ _ p.0) (int_le_is _ _ p.1)

pub coordinate_test : (z : ℤ) → IsCoordinate z → is_coordinate z ≡ true
coordinate_test z h = and_from (int_le (negsuc 999998) z) (int_le z (pos 999999)) (le_test _ _ (at_least z h))
    (le_test _ _ (at_most z h))

above_rises : (hs : List ℤ) (z : ℤ) → is_above hs z ≡ true → AreRising hs → AreRising (hs ++ z ∷ [])
above_rises [] z e h = tt
above_rises (y ∷ []) z e h = (int_lt_is y z e, tt)
above_rises (y ∷ x ∷ hs) z e h = (h.0, above_rises (x ∷ hs) z e h.1)

rises_above : (hs : List ℤ) (z : ℤ) → AreRising (hs ++ z ∷ []) → is_above hs z ≡ true
rises_above [] z h = refl
rises_above (y ∷ []) z h = int_lt_test y z h.0
rises_above (y ∷ x ∷ hs) z h = rises_above (x ∷ hs) z h.1

pub distinct_push : (names : List (List ℕ)) (name : List ℕ) → list_any (same name) names ≡ false → AreDistinct names
    → AreDistinct (names ++ name ∷ [])
distinct_push [] name e h = (tt, tt)
distinct_push (n ∷ names) name e h =
    let p = or_parts (same name n) (list_any (same name) names) e in (
      all_join (λ other. n ≡ other → ⊥) names (name ∷ []) h.0
          ((λ q. false≢true (sym p.0 ∙ ap (same name) q ∙ same-refl name)), tt),
      distinct_push names name p.1 h.1,
    )

pub distinct_not : (names : List (List ℕ)) (name : List ℕ) → AreDistinct (names ++ name ∷ [])
    → list_any (same name) names ≡ false
distinct_not [] name h = refl
distinct_not (n ∷ names) name h =
    let last-apart = (all_rest (λ other. n ≡ other → ⊥) names (name ∷ []) h.0).0 in
    elim (cases_Bool (same name n)) [
      | inl e ↦ absurd (last-apart (sym (same-is name n e)))
      | inr e ↦ let more = distinct_not names name h.1 in ap (λ (b : Bool). b || list_any (same name) names) e ∙ more
    ]

pub few_add : (sums : List ℕ) (n : ℕ) → last sums + n ≤ MAX_SECTION_VERTICES
    → AllByRecursion (λ m. m ≤ MAX_SECTION_VERTICES) sums
    → AllByRecursion (λ m. m ≤ MAX_SECTION_VERTICES) (add_last sums n)
few_add [] n le h = (omega (arith, le), tt)
few_add (m ∷ []) n le h = (le, tt)
few_add (m ∷ k ∷ sums) n le h = (h.0, few_add (k ∷ sums) n le h.1)

pub few_not : (sums : List ℕ) (n : ℕ) → n ≤ MAX_SECTION_VERTICES
    → AllByRecursion (λ m. m ≤ MAX_SECTION_VERTICES) (add_last sums n) → last sums + n ≤ MAX_SECTION_VERTICES
few_not [] n le h = omega (arith, h.0)
few_not (m ∷ []) n le h = h.0
few_not (m ∷ k ∷ sums) n le h = few_not (k ∷ sums) n le h.1

pub few_sections : (sums : List ℕ) → AllByRecursion (λ m. m ≤ MAX_SECTION_VERTICES) sums
    → AllByRecursion (λ m. m ≤ MAX_SECTION_VERTICES) (sums ++ 0 ∷ [])
few_sections sums h = all_join (λ m. m ≤ MAX_SECTION_VERTICES) sums (0 ∷ []) h (omega arith, tt)

-- one more height, in the last of the lists
pub all_in_range : (hs : List (List ℤ)) (z : ℤ) → IsCoordinate z → AllByRecursion (AllByRecursion IsCoordinate) hs
    → AllByRecursion (AllByRecursion IsCoordinate) (push_last hs z)
all_in_range [] z c h = ((c, tt), tt)
all_in_range (x ∷ []) z c h = (all_join IsCoordinate x (z ∷ []) h.0 (c, tt), tt)
all_in_range (x ∷ y ∷ hs) z c h = (h.0, all_in_range (y ∷ hs) z c h.1)

pub last_in_range : (hs : List (List ℤ)) (z : ℤ) → AllByRecursion (AllByRecursion IsCoordinate) (push_last hs z)
    → IsCoordinate z
last_in_range [] z h = h.0.0
last_in_range (x ∷ []) z h = (all_rest IsCoordinate x (z ∷ []) h.0).0
last_in_range (x ∷ y ∷ hs) z h = last_in_range (y ∷ hs) z h.1

pub all_rise : (hs : List (List ℤ)) (z : ℤ) → is_above (last_list hs) z ≡ true → AllByRecursion AreRising hs
    → AllByRecursion AreRising (push_last hs z)
all_rise [] z e h = (tt, tt)
all_rise (x ∷ []) z e h = (above_rises x z e h.0, tt)
all_rise (x ∷ y ∷ hs) z e h = (h.0, all_rise (y ∷ hs) z e h.1)

pub last_rises : (hs : List (List ℤ)) (z : ℤ) → AllByRecursion AreRising (push_last hs z)
    → is_above (last_list hs) z ≡ true
last_rises [] z h = refl
last_rises (x ∷ []) z h = rises_above x z h.0
last_rises (x ∷ y ∷ hs) z h = last_rises (y ∷ hs) z h.1

pub asked_few : (count : ℤ) → pos 3 ≤ℤ count → count ≤ℤ pos MAX_CONTOUR_VERTICES → asked count ≤ MAX_CONTOUR_VERTICES
asked_few (pos n) low high = omega (arith, ints)
asked_few (negsuc n) low high = omega arith
