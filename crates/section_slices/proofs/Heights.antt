-- A middle height lies between two heights, and is neither.
use Rattle.std.proofs.Common.{◌≡◌, inl, inr, ℕ, zero, suc, ◌+◌, ◌/◌, ◌<◌, ◌≤◌, Bool, true, false, cond, List, [], ◌∷◌, ◌++◌, length, take, filter, flat_map, get_or, refl, sym, ap, ap₂, ◌∙◌, arith, ℤ, pos, ◌<ℤ◌, ◌-ℤ◌, ◌+ℤ◌, unsigned_abs, take_all}
use Rattle.std.specs.List.{list_any, range_with_len}
use Rattle.std.specs.Ordering.{int_eq}
use Rattle.std.proofs.lemmas.Int.{ints}
use Rattle.std.proofs.lemmas.Bool.{cases_lt}
use Rattle.std.proofs.lemmas.Bool.Decides.{Decides-int_eq}
use Rattle.std.proofs.lemmas.List.{take_more}
use Rattle.std.proofs.lemmas.List.Elements.{All-from_get_or, filter-append}
use Rattle.std.proofs.lemmas.List.Folds.{list_any_at, list_any_none}
use Rattle.fku_types.specs.declared.points.Spot.{Spot as Place}
use Rattle.section_core.specs.Parts.{Parts, SectionParts}
use Rattle.section_core.specs.Laws.{AreRising, heights}
use Rattle.section_core.proofs.Rising.{higher}
use Rattle.correspondence.specs.Outlines.{section_at}
use Rattle.section_pairs.specs.Pairs.{PairParts}
use Rattle.section_slices.specs.Densified.{rise, is_dense, middle_height, middle_section, section_and_middle, is_at_height_of}
use Rattle.section_slices.proofs.Lists.{flat_more}

abbrev no_section : SectionParts
no_section = record { z = pos 0; contours = [] }

-- the middle height of a gap with a rise of at least 2
between : (low high m : ℤ) (r : ℕ) → low <ℤ high → r ≡ unsigned_abs (high -ℤ low) → 2 ≤ r → m ≡ low +ℤ pos (r / 2)
    → (low <ℤ m) × (m <ℤ high)
between low high m r l e h f = (omega (arith, ints, l, e, h, f), omega (arith, ints, l, e, h, f))

not_there : (S : Parts) (g k : ℕ) → AreRising (heights S.sections) → g + 1 < length S.sections → 2 ≤ rise S g
    → k < length S.sections → (section_at S k).z ≡ middle_height S g → ⊥
not_there S g k r l h m e =
    let inside = between (section_at S g).z (section_at S (g + 1)).z (middle_height S g) (rise S g)
    (higher S.sections g (g + 1) no_section r (omega arith) l) refl h refl in
    elim (cases_lt k g) [
      | inl b ↦ absurd (omega (arith, ints, inside.0, e, higher S.sections k g no_section r b (omega (arith, l))))
      | inr b ↦ elim (cases_lt g k) [
        | inr c ↦ absurd (omega (
          arith,
          ints,
          inside.0,
          e,
          ap (λ (n : ℕ). (section_at S n).z) (let z : k ≡ g = omega (arith, b, c) in z),
        ))
        | inl c ↦ elim (cases_lt (g + 1) k) [
          | inl d ↦ absurd (omega (arith, ints, inside.1, e, higher S.sections (g + 1) k no_section r d m))
          | inr d ↦ absurd (omega (
            arith,
            ints,
            inside.1,
            e,
            ap (λ (n : ℕ). (section_at S n).z) (let z : k ≡ g + 1 = omega (arith, c, d) in z),
          ))
        ]
      ]
    ]

other : (a b : ℤ) → (a ≡ b → ⊥) → int_eq a b ≡ false
other a b h = grind (arith, ints)

-- a height of one of the sections, and of none
found : (xs : List SectionParts) (k : ℕ) (z : ℤ) → k < length xs → (get_or xs k no_section).z ≡ z
    → list_any (λ (o : SectionParts). int_eq o.z z) xs ≡ true
found xs k z l e = list_any_at (λ (o : SectionParts). int_eq o.z z) xs k no_section l
    ((Decides-int_eq (get_or xs k no_section).z z).1 e)

none : (xs : List SectionParts) (z : ℤ) → ((k : ℕ) → k < length xs → (get_or xs k no_section).z ≡ z → ⊥)
    → list_any (λ (o : SectionParts). int_eq o.z z) xs ≡ false
none xs z h =
    list_any_none (λ (o : SectionParts). int_eq o.z z) xs
    (All-from_get_or (λ (o : SectionParts). int_eq o.z z ≡ false) xs no_section
    (λ k l. other (get_or xs k no_section).z z (h k l)))

-- of a section and its middle section, the one at a height of the sections is kept
kept_one : (p : SectionParts → Bool) (x m : SectionParts) (d : Bool) → p x ≡ true → (d ≡ true → p m ≡ false)
    → filter p (x ∷ cond d (m ∷ []) []) ≡ x ∷ []
kept_one p x m true e h = ap (λ (b : Bool). cond b (x ∷ filter p (m ∷ [])) (filter p (m ∷ []))) e
    ∙ ap (λ (b : Bool). x ∷ cond b (m ∷ []) []) (h refl)
kept_one p x m false e h = ap (λ (b : Bool). cond b (x ∷ []) []) e

-- the dense gaps lie between two sections, and are high enough
abbrev pub AreHigh : Parts → List PairParts → Type 0
AreHigh S ps = (g : ℕ) → g < length S.sections → is_dense S ps g ≡ true → (g + 1 < length S.sections) × (2 ≤ rise S g)

front : (S : Parts) (ps : List PairParts) (outlines : List (List Place)) → AreRising (heights S.sections) → AreHigh S ps
    → (k : ℕ) → k ≤ length S.sections
    → filter (is_at_height_of S) (flat_map (section_and_middle S ps outlines) (range_with_len 0 k)) ≡ take k S.sections
front S ps outlines r h zero l = refl
front S ps outlines r h (suc k) l =
    let p : SectionParts → Bool = is_at_height_of S in
    let f : ℕ → List SectionParts = section_and_middle S ps outlines in
    let here : filter p (f k) ≡ section_at S k ∷ [] =
    kept_one p (section_at S k) (middle_section S ps outlines k) (is_dense S ps k)
    (found S.sections k (section_at S k).z (omega (arith, l)) refl)
    (λ d. none S.sections (middle_height S k)
    (λ j m. not_there S k j r (h k (omega (arith, l)) d).0 (h k (omega (arith, l)) d).1 m)) in
    let n : suc k ≡ k + 1 = omega arith in
    ap (λ (i : ℕ). filter p (flat_map f (range_with_len 0 i))) n ∙ ap (filter p) (flat_more f k)
    ∙ filter-append p (flat_map f (range_with_len 0 k)) (f k)
    ∙ ap₂ (λ (a b : List SectionParts). a ++ b) (front S ps outlines r h k (omega (arith, l))) here
    ∙ sym (ap (λ (i : ℕ). take i S.sections) n ∙ take_more S.sections k no_section (omega (arith, l)))

pub old_sections : (S : Parts) (ps : List PairParts) (outlines : List (List Place)) → AreRising (heights S.sections)
    → AreHigh S ps
    → filter (is_at_height_of S) (flat_map (section_and_middle S ps outlines) (range_with_len 0 (length S.sections)))
    ≡ S.sections
old_sections S ps outlines r h = front S ps outlines r h (length S.sections) (omega arith)
    ∙ take_all (length S.sections) S.sections (omega arith)
