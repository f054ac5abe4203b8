-- Heights of sections rise, so each height has one place among them.
use Rattle.std.proofs.Common.{◌≡◌, ◌⊎◌, inl, inr, ℕ, zero, suc, ◌+◌, ◌<◌, ◌≤◌, List, [], ◌∷◌, length, get_or, map, refl, sym, ap, ◌∙◌, arith, subst, ℤ, pos, ◌<ℤ◌, ◌≤ℤ◌, ◌-◌, ◌-ℤ◌, All, take, true, false, to_z, of_z, to_z-of_z, SFits, ap₂, nat_abs}
use mir.Syntax.{w32}
use lib.Signed.{le_z}
use Rattle.fku_types.proofs.TruthLaws.{int_le_is}
use Rattle.fku_types.specs.Points.{IsCoordinate}
use Rattle.section_core.specs.ValidSections.{AreValidSections}
use Rattle.std.specs.List.{AllByRecursion}
use Rattle.std.proofs.lemmas.Int.{ints, by_lt_z}
use Rattle.std.proofs.lemmas.List.{get_or_default, get_or-map, get_or-take, take_all, length-take-le, length-map}
use Rattle.std.proofs.lemmas.List.Elements.{All-from_recursion, All-map, All-more}
use Rattle.fku_types.specs.declared.fault.Fault.{Fault}
use Rattle.section_core.specs.declared.parts.Section.{Section}
use Rattle.section_core.specs.Parts.{Parts, SectionParts}
use Rattle.section_core.specs.Laws.{AreRising, heights}
use Rattle.section_core.specs.Views.{section_parts}
use Rattle.section_core.specs.Accepted.{IsAccepted}
use Rattle.section_core.proofs.Rising.{above_first, higher}
use Rattle.correspondence.specs.Outlines.{section_at}
use Rattle.section_slices.specs.Slices.{IsGapAt, IsHeightFault, outside, on_section}

abbrev pub no_section : SectionParts
no_section = record { z = pos 0; contours = [] }

pub rise : (S : Parts) → IsAccepted S → AreRising (heights S.sections)
rise S a = a.lawful.rising

-- the height of a section that the code holds
pub height_at : (S : Parts) (ss : List Section) (k : ℕ) (s : Section) → map section_parts ss ≡ S.sections
    → k < length ss → s ≡ get_or ss k s → (section_at S k).z ≡ s.z
height_at S ss k s e l h =
    ap (λ (xs : List SectionParts). (get_or xs k no_section).z) (sym e)
    ∙ ap (λ (x : SectionParts). x.z) (get_or-map section_parts ss k s no_section l)
    ∙ ap (λ (x : Section). x.z) (sym h)

-- below the first section, so below all
pub below_all : (S : Parts) (z : ℤ) → AreRising (heights S.sections) → 0 < length S.sections → z <ℤ (section_at S 0).z
    → All (λ (s : SectionParts). z <ℤ s.z) S.sections
below_all S z r l h = All-from_recursion (λ (s : SectionParts). z <ℤ s.z) S.sections (from S.sections r l h)
  where
    from : (xs : List SectionParts) → AreRising (heights xs) → 0 < length xs → z <ℤ (get_or xs 0 no_section).z
        → AllByRecursion (λ (x : SectionParts). z <ℤ x.z) xs
    from [] r l h = tt
    from (s ∷ more) r l h = above_first z s more r h

-- no height of a section lies in a gap
not_there : (S : Parts) (z : ℤ) (g k : ℕ) → AreRising (heights S.sections) → IsGapAt S z g → k < length S.sections
    → (section_at S k).z ≡ z → ⊥
not_there S z g k r at l e = by_place (cases k g)
  where
    cases : (k g : ℕ) → (k < g) ⊎ ((k ≡ g) ⊎ ((k ≡ g + 1) ⊎ (g + 1 < k)))
    cases zero zero = inr (inl refl)
    cases zero (suc g) = inl (omega arith)
    cases (suc zero) zero = inr (inr (inl refl))
    cases (suc (suc k)) zero = inr (inr (inr (omega arith)))
    cases (suc k) (suc g) = elim (cases k g) [
      | inl h ↦ inl (omega (arith, h))
      | inr (inl h) ↦ inr (inl (omega (arith, h)))
      | inr (inr (inl h)) ↦ inr (inr (inl (omega (arith, h))))
      | inr (inr (inr h)) ↦ inr (inr (inr (omega (arith, h))))
    ]

    by_place : (k < g) ⊎ ((k ≡ g) ⊎ ((k ≡ g + 1) ⊎ (g + 1 < k))) → ⊥
    by_place (inl h) = absurd (omega (
      arith,
      ints,
      at.above_low,
      e,
      higher S.sections k g no_section r h (omega (arith, at.there)),
    ))
    by_place (inr (inl h)) = absurd (omega (arith, ints, at.above_low, e, ap (λ (n : ℕ). (section_at S n).z) h))
    by_place (inr (inr (inl h))) = absurd (omega (arith, ints, at.below_high, e, ap (λ (n : ℕ). (section_at S n).z) h))
    by_place (inr (inr (inr h))) = absurd
        (omega (arith, ints, at.below_high, e, higher S.sections (g + 1) k no_section r h l))

-- a height in a gap is neither outside nor that of a section
pub no_fault : (S : Parts) (z : ℤ) (g : ℕ) (fault : Fault) → AreRising (heights S.sections) → IsGapAt S z g
    → IsHeightFault S z fault → ⊥
no_fault S z g fault r at (outside (inl all)) =
    absurd (omega (arith, ints, at.above_low, all g no_section (omega (arith, at.there))))
no_fault S z g fault r at (outside (inr all)) =
    absurd (omega (arith, ints, at.below_high, all (g + 1) no_section at.there))
no_fault S z g fault r at (on_section (k, l, e)) = not_there S z g k r at l e

-- every section that the code holds is below, so every section is
pub above_all : (S : Parts) (ss : List Section) (z : ℤ) (n : ℕ) → map section_parts ss ≡ S.sections → length ss ≤ n
    → All (λ (s : Section). s.z <ℤ z) (take n ss) → All (λ (s : SectionParts). s.z <ℤ z) S.sections
above_all S ss z n e l h =
    let whole : All (λ (s : Section). s.z <ℤ z) ss = subst (All (λ (s : Section). s.z <ℤ z)) (take_all n ss l) h in
    subst (All (λ (s : SectionParts). s.z <ℤ z)) e (All-map (λ (s : SectionParts). s.z <ℤ z) section_parts ss whole)

-- the height of one of the sections that lie below
pub below_at : (S : Parts) (ss : List Section) (z : ℤ) (n k : ℕ) (s : Section) → map section_parts ss ≡ S.sections
    → n ≤ length ss → k < n → All (λ (x : Section). x.z <ℤ z) (take n ss) → s ≡ get_or ss k s → s.z <ℤ z
below_at S ss z n k s e l h all es =
    subst (λ (x : Section). x.z <ℤ z) (get_or-take n ss k s h ∙ sym es)
    (all k s (omega (arith, h, l, length-take-le n ss l)))

-- heights that the code reads
pub fits : (z : ℤ) → IsCoordinate z → SFits w32 z
fits z h = omega (arith, ints)

pub kept_heights : (ss : List Section) → AreValidSections ss → All (λ (s : Section). IsCoordinate s.z) ss
kept_heights ss h k d l = (h.each k d l).height

not_at_or_above : (y z : ℤ) → SFits w32 y → SFits w32 z → le_z (to_z w32 (of_z w32 z)) (to_z w32 (of_z w32 y)) ≡ false
    → y <ℤ z
not_at_or_above y z f g h = omega (arith, ints, to_z-of_z f, to_z-of_z g, h)

-- one more section that is below
pub one_below : (ss : List Section) (z : ℤ) (i : ℕ) (s : Section) → SFits w32 z
    → All (λ (x : Section). IsCoordinate x.z) ss → i < length ss
    → le_z (to_z w32 (of_z w32 z)) (to_z w32 (of_z w32 (get_or ss i s).z)) ≡ false
    → All (λ (x : Section). x.z <ℤ to_z w32 (of_z w32 z)) (take i ss)
    → All (λ (x : Section). x.z <ℤ to_z w32 (of_z w32 z)) (take (i + 1) ss)
one_below ss z i s f c l h k =
    let Below : Section → Type 0 = λ x. x.z <ℤ to_z w32 (of_z w32 z) in
    let here : Below (get_or ss i s) =
    subst (λ (y : ℤ). (get_or ss i s).z <ℤ y) (sym (to_z-of_z f))
    (not_at_or_above (get_or ss i s).z z (fits (get_or ss i s).z (c i s l)) f h) in
    All-more Below ss i s l k here

-- a section at the height or above it
pub one_above : (ss : List Section) (z : ℤ) (i : ℕ) (s d : Section) → SFits w32 z
    → All (λ (x : Section). IsCoordinate x.z) ss → i < length ss
    → le_z (to_z w32 (of_z w32 z)) (to_z w32 (of_z w32 (get_or ss i s).z)) ≡ true → z ≤ℤ (get_or ss i d).z
one_above ss z i s d f c l h =
    let high : to_z w32 (of_z w32 z) ≤ℤ to_z w32 (of_z w32 (get_or ss i s).z) =
    int_le_is (to_z w32 (of_z w32 z)) (to_z w32 (of_z w32 (get_or ss i s).z)) h in
    subst (λ (x : Section). z ≤ℤ x.z) (get_or_default ss i s d l)
    (subst (λ (y : ℤ). z ≤ℤ y) (to_z-of_z (fits (get_or ss i s).z (c i s l)))
    (subst (λ (y : ℤ). y ≤ℤ to_z w32 (of_z w32 (get_or ss i s).z)) (to_z-of_z f) high))

-- the test of equal heights
pub equal : (z y : ℤ) → SFits w32 z → SFits w32 y → of_z w32 z ≡ of_z w32 y → y ≡ z
equal z y f g e = sym (to_z-of_z g) ∙ ap (to_z w32) (sym e) ∙ to_z-of_z f

pub less : (z y : ℤ) → z ≤ℤ y → (of_z w32 z ≡ of_z w32 y → ⊥) → z <ℤ y
less z y l h = by_lt_z z y (λ k. k) (λ k. absurd (h (ap (of_z w32) (let e : z ≡ y = omega (arith, ints) in e))))

pub high_at : (S : Parts) (ss : List Section) (n : ℕ) (high : Section) → map section_parts ss ≡ S.sections
    → n < length ss → (n ≡ 0 → ⊥) → high ≡ get_or ss n high → (section_at S (n - 1 + 1)).z ≡ high.z
high_at S ss n high e l p h = ap (λ (k : ℕ). (section_at S k).z) (let z : n - 1 + 1 ≡ n = omega (arith, p) in z)
    ∙ height_at S ss n high e l h

-- the gap between two sections that the code holds, and the difference of its heights
pub gap_between : (S : Parts) (ss : List Section) (z : ℤ) (n : ℕ) (low high : Section)
    → map section_parts ss ≡ S.sections → n < length ss → (n ≡ 0 → ⊥) → low ≡ get_or ss (n - 1) low
    → high ≡ get_or ss n high → low.z <ℤ z → z <ℤ high.z → IsGapAt S z (n - 1)
gap_between S ss z n low high e l p el eh a b = record {
  there = omega (arith, l, p, ap length e, length-map ss section_parts);
  above_low = omega (arith, ints, a, height_at S ss (n - 1) low e (omega (arith, l)) el);
  below_high = omega (arith, ints, b, high_at S ss n high e l p eh);
}

-- the difference of two heights, as the code computes it
pub apart : (a b : ℤ) (k : ℕ) → SFits w32 a → SFits w32 b → b <ℤ a
    → k ≡ nat_abs (to_z w32 (of_z w32 a) -ℤ to_z w32 (of_z w32 b)) → pos k ≡ a -ℤ b
apart a b k f g l e =
    let same : k ≡ nat_abs (a -ℤ b) = e ∙ ap₂ (λ (x y : ℤ). nat_abs (x -ℤ y)) (to_z-of_z f) (to_z-of_z g) in
    omega (arith, ints, same, l)

pub small : (low z high : ℤ) (d t : ℕ) → IsCoordinate low → IsCoordinate high → low <ℤ z → z <ℤ high
    → pos d ≡ high -ℤ low → pos t ≡ z -ℤ low → (t ≤ d) × (d ≤ 1999998)
small low z high d t a b l m e f = (omega (arith, ints), omega (arith, ints))
