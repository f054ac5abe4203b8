use Rattle.std.proofs.Common.{inl, inr, arith, ◌≡◌, ◌-◌, ◌<◌, ◌≤◌, ℕ, ℤ, pos, ◌<ℤ◌, ◌≤ℤ◌, ◌-ℤ◌, length, sym, ap, ◌∙◌, subst, take, get_or, All, to_z-of_z}
use Rattle.std.proofs.lemmas.Int.{ints}
use Rattle.std.proofs.lemmas.List.{length-map}
use Rattle.fku_types.specs.declared.fault.Fault.TheVariants.{Outside, OnSection}
use Rattle.section_core.specs.declared.parts.Section.{Section}
use Rattle.correspondence.specs.Outlines.{section_at}
use Rattle.section_core.specs.Views.{section_parts}
use Rattle.section_slices.specs.Slices.{IsHeightFault, outside, on_section}
use Rattle.section_slices.proofs.SliceLaws.{one_gap}
use Rattle.section_slices.proofs.SliceHeights.{rise, fits, kept_heights, equal, less, above_all, below_all, below_at, height_at, high_at, gap_between, no_fault, apart, small}
use Rattle.fku_types.specs.Points.{IsCoordinate}
use Rattle.section_slices.proofs.slices.gap_at.Goals as goal

pub sections_below-above-requires : goal.sections_below-above-requires
sections_below-above-requires c = record
    { heights = kept_heights c.sections-all.result.now c.sections-all.ensures.kept }

there : {n m : ℕ} → n ≤ m → (n ≡ m → ⊥) → n < m
there l h = omega (arith, l, h)

pub returns-then-above-all-clause-fault : goal.returns-then-above-all-clause-fault
returns-then-above-all-clause-fault c =
    let S = c.args.sections.now in
    let ss = c.sections-all.result.now in
    let n = c.sections_below-above.result in
    let z = c.args.z in
    let y = to_z-of_z c.ranges.z in
    subst (λ (x : ℤ). IsHeightFault S z (Outside x)) (sym y)
    (outside (inr (above_all S ss z n c.sections-all.ensures.parts (omega (arith, c.if-above-all.true))
    (subst (λ (x : ℤ). All (λ (s : Section). s.z <ℤ x) (take n ss)) y c.sections_below-above.ensures.below))))

pub returns-then-z-high-clause-fault : goal.returns-then-z-high-clause-fault
returns-then-z-high-clause-fault c =
    let S = c.args.sections.now in
    let ss = c.sections-all.result.now in
    let n = c.sections_below-above.result in
    let z = c.args.z in
    let high = c.index-all-above.result in
    let l : n < length ss = there c.sections_below-above.ensures.few c.if-above-all.false in
    let heights = kept_heights ss c.sections-all.ensures.kept in
    let at : (section_at S n).z ≡ z = height_at S ss n high c.sections-all.ensures.parts l c.index-all-above.is
    ∙ ap (λ (s : Section). s.z) c.index-all-above.is
    ∙ equal z (get_or ss n high).z c.ranges.z (fits (get_or ss n high).z (heights n high l)) c.if-z-high.true in
    subst (λ (x : ℤ). IsHeightFault S z (OnSection x)) (sym (to_z-of_z c.ranges.z))
    (on_section (n, omega (arith, l, ap length c.sections-all.ensures.parts, length-map ss section_parts), at))

pub returns-then-above-eq0-clause-fault : goal.returns-then-above-eq0-clause-fault
returns-then-above-eq0-clause-fault c =
    let S = c.args.sections.now in
    let ss = c.sections-all.result.now in
    let n = c.sections_below-above.result in
    let z = c.args.z in
    let high = c.index-all-above.result in
    let l : n < length ss = there c.sections_below-above.ensures.few c.if-above-all.false in
    let y = to_z-of_z c.ranges.z in
    let low : z ≤ℤ (get_or ss n high).z =
    subst (λ (x : ℤ). x ≤ℤ (get_or ss n high).z) y (c.sections_below-above.ensures.next high l) in
    let first : (section_at S 0).z ≡ (get_or ss n high).z =
    ap (λ (k : ℕ). (section_at S k).z) (sym c.if-above-eq0.true)
    ∙ height_at S ss n high c.sections-all.ensures.parts l c.index-all-above.is
    ∙ ap (λ (s : Section). s.z) c.index-all-above.is in
    subst (λ (x : ℤ). IsHeightFault S z (Outside x)) (sym y)
    (outside (inl (below_all S z (rise S c.sections-all.ensures.accepted)
    (omega (arith, l, ap length c.sections-all.ensures.parts, length-map ss section_parts))
    (omega (arith, ints, first, less z (get_or ss n high).z low c.if-z-high.false)))))

-- the height lies between those of the two sections
abbrev Found : goal.After-abs_diff-2 → Type 0
Found c = (c.index-all-above-2.result.z <ℤ c.args.z) × (c.args.z <ℤ c.index-all-above.result.z)

within : (c : goal.After-abs_diff-2) → c.sections_below-above.result < length c.sections-all.result.now
within c = there c.sections_below-above.ensures.few c.if-above-all.false

found : (c : goal.After-abs_diff-2) → Found c
found c =
    let S = c.args.sections.now in
    let ss = c.sections-all.result.now in
    let n = c.sections_below-above.result in
    let z = c.args.z in
    let high = c.index-all-above.result in
    let y = to_z-of_z c.ranges.z in
    let l = within c in
    let low : z ≤ℤ (get_or ss n high).z =
    subst (λ (x : ℤ). x ≤ℤ (get_or ss n high).z) y (c.sections_below-above.ensures.next high l) in
    let below : All (λ (s : Section). s.z <ℤ z) (take n ss) =
    subst (λ (x : ℤ). All (λ (s : Section). s.z <ℤ x) (take n ss)) y c.sections_below-above.ensures.below in (
      below_at S ss z n (n - 1) c.index-all-above-2.result c.sections-all.ensures.parts
          c.sections_below-above.ensures.few (omega (arith, c.if-above-eq0.false)) below c.index-all-above-2.is,
      omega (
        arith,
        ints,
        ap (λ (s : Section). s.z) c.index-all-above.is,
        less z (get_or ss n high).z low c.if-z-high.false,
      ),
    )

pub returns-clause-gap : goal.returns-clause-gap
returns-clause-gap c =
    gap_between c.args.sections.now c.sections-all.result.now c.args.z c.sections_below-above.result
    c.index-all-above-2.result c.index-all-above.result c.sections-all.ensures.parts (within c) c.if-above-eq0.false
    c.index-all-above-2.is c.index-all-above.is (found c).0 (found c).1

-- the heights that the code reads
low_fits : (c : goal.After-abs_diff-2)
    → IsCoordinate (get_or c.sections-all.result.now (c.sections_below-above.result - 1) c.index-all-above-2.result).z
low_fits c = kept_heights c.sections-all.result.now c.sections-all.ensures.kept (c.sections_below-above.result - 1)
    c.index-all-above-2.result (omega (arith, within c))

high_fits : (c : goal.After-abs_diff-2)
    → IsCoordinate (get_or c.sections-all.result.now c.sections_below-above.result c.index-all-above.result).z
high_fits c = kept_heights c.sections-all.result.now c.sections-all.ensures.kept c.sections_below-above.result
    c.index-all-above.result (within c)

abbrev low_is : (c : goal.After-abs_diff-2)
    → c.index-all-above-2.result.z ≡ (get_or c.sections-all.result.now (c.sections_below-above.result - 1)
    c.index-all-above-2.result).z
low_is c = ap (λ (s : Section). s.z) c.index-all-above-2.is

abbrev high_is : (c : goal.After-abs_diff-2)
    → c.index-all-above.result.z ≡ (get_or c.sections-all.result.now c.sections_below-above.result
    c.index-all-above.result).z
high_is c = ap (λ (s : Section). s.z) c.index-all-above.is

den_is : (c : goal.After-abs_diff-2)
    → pos c.abs_diff.result ≡ c.index-all-above.result.z -ℤ c.index-all-above-2.result.z
den_is c =
    let low = (get_or c.sections-all.result.now (c.sections_below-above.result - 1) c.index-all-above-2.result).z in
    let high = (get_or c.sections-all.result.now c.sections_below-above.result c.index-all-above.result).z in
    let a = apart high low c.abs_diff.result (fits high (high_fits c)) (fits low (low_fits c))
    (omega (arith, ints, (found c).0, (found c).1, low_is c, high_is c)) c.abs_diff.ensures in
    omega (arith, ints, a, low_is c, high_is c)

part_is : (c : goal.After-abs_diff-2) → pos c.abs_diff-2.result ≡ c.args.z -ℤ c.index-all-above-2.result.z
part_is c =
    let low = (get_or c.sections-all.result.now (c.sections_below-above.result - 1) c.index-all-above-2.result).z in
    let a = apart c.args.z low c.abs_diff-2.result c.ranges.z (fits low (low_fits c))
    (omega (arith, ints, (found c).0, low_is c)) c.abs_diff-2.ensures in
    omega (arith, ints, a, low_is c)

low_at : (c : goal.After-abs_diff-2)
    → (section_at c.args.sections.now (c.sections_below-above.result - 1)).z ≡ c.index-all-above-2.result.z
low_at c = height_at c.args.sections.now c.sections-all.result.now (c.sections_below-above.result - 1)
    c.index-all-above-2.result c.sections-all.ensures.parts (omega (arith, within c)) c.index-all-above-2.is

pub returns-clause-den : goal.returns-clause-den
returns-clause-den c =
    let high = high_at c.args.sections.now c.sections-all.result.now c.sections_below-above.result
    c.index-all-above.result c.sections-all.ensures.parts (within c) c.if-above-eq0.false c.index-all-above.is in
    omega (arith, ints, den_is c, low_at c, high)

pub returns-clause-part : goal.returns-clause-part
returns-clause-part c = omega (arith, ints, part_is c, low_at c)

pub returns-clause-small : goal.returns-clause-small
returns-clause-small c =
    small c.index-all-above-2.result.z c.args.z c.index-all-above.result.z c.abs_diff.result c.abs_diff-2.result
    (subst IsCoordinate (sym (low_is c)) (low_fits c)) (subst IsCoordinate (sym (high_is c)) (high_fits c))
    (found c).0 (found c).1 (den_is c) (part_is c)

pub returns-clause-only : goal.returns-clause-only
returns-clause-only c fault = no_fault c.args.sections.now c.args.z (c.sections_below-above.result - 1) fault
    (rise c.args.sections.now c.sections-all.ensures.accepted) (returns-clause-gap c)

pub returns-clause-one : goal.returns-clause-one
returns-clause-one c other at = one_gap c.args.sections.now c.args.z other (c.sections_below-above.result - 1)
    (rise c.args.sections.now c.sections-all.ensures.accepted) at (returns-clause-gap c)

pub returns-then-above-all-clause-no_gap : goal.returns-then-above-all-clause-no_gap
returns-then-above-all-clause-no_gap c g at =
    no_fault c.args.sections.now c.args.z g _ (rise c.args.sections.now c.sections-all.ensures.accepted) at
    (returns-then-above-all-clause-fault c)

pub returns-then-z-high-clause-no_gap : goal.returns-then-z-high-clause-no_gap
returns-then-z-high-clause-no_gap c g at =
    no_fault c.args.sections.now c.args.z g _ (rise c.args.sections.now c.sections-all.ensures.accepted) at
    (returns-then-z-high-clause-fault c)

pub returns-then-above-eq0-clause-no_gap : goal.returns-then-above-eq0-clause-no_gap
returns-then-above-eq0-clause-no_gap c g at =
    no_fault c.args.sections.now c.args.z g _ (rise c.args.sections.now c.sections-all.ensures.accepted) at
    (returns-then-above-eq0-clause-fault c)
