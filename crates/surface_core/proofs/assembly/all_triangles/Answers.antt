use Rattle.std.proofs.Common.{arith, ◌≡◌, ◌+◌, ◌<◌, ◌++◌, ℕ, List, length, map, flat_map, sum_by, ap, ◌∙◌}
use Rattle.std.specs.List.{range_with_len}
use Rattle.section_pairs.specs.Pairs.{pair_parts}
use Rattle.surface_core.specs.Surfaces.{capped_section}
use Rattle.surface_core.specs.Caps.{AreCapsOf}
use Rattle.section_pairs.proofs.SectionRings.{count_is}
use Rattle.section_pairs.proofs.Sorted.{pairs_sorted}
use Rattle.surface_core.proofs.SectionFacts.{are_few, same_counts}
use Rattle.surface_core.proofs.CapSteps.{sections_step, sums_step, caps_at, with_caps}
use Rattle.surface_core.proofs.Totals.{sum_more}
use Rattle.surface_core.proofs.assembly.all_triangles.Goals as goal
use Rattle.surface_core.proofs.assembly.all_triangles.Given as given
use Rattle.surface_core.proofs.assembly.all_triangles.Goals.{After-sections-all, After-index-caps-place, After-loop-place}

-- as many sections as data
count : (g : given.Over) (c : After-sections-all g)
    → length c.sections-all.result.now ≡ length c.args.sections.now.sections
count g c = count_is c.sections-all.result.now c.args.sections.now.sections c.sections-all.ensures.data

-- ---- in the loop
held : (g : given.Over) (c : After-index-caps-place g)
    → AreCapsOf g.C.CapRule.capping c.args.sections.now (map pair_parts c.args.pairs.now) c.loop-place.place
    c.index-caps-place.result
held g c =
    caps_at g.C.CapRule.capping c.args.sections.now (map pair_parts c.args.pairs.now) c.args.caps.now c.requires.caps
    c.loop-place.place c.index-caps-place.result
    (omega (arith, c.loop-place-test.true, count g (goal.at.After-index-caps-place g c).After-sections-all))
    c.index-caps-place.is

pub room_for-requires : goal.room_for-requires
room_for-requires g c = c.sections-all.ensures.kept

pub bounds-caps-place : goal.bounds-caps-place
bounds-caps-place g c =
    omega (
      arith,
      c.loop-place-test.true,
      count g (goal.at.bounds-caps-place g c).After-sections-all,
      c.requires.caps.count,
    )

pub add_section-requires-clause-folded : goal.add_section-requires-clause-folded
add_section-requires-clause-folded g c =
    let at = goal.at.add_section-requires-clause-folded g c in
    let S = c.args.sections.now in
    let folded = g.C.CapRule.capping.folded S (map pair_parts c.args.pairs.now) in
    let s = c.loop-place.place in
    let l : s < length S.sections = omega (arith, c.loop-place-test.true, count g at.After-sections-all) in
    let more = sums_step folded s c.loop-place.list.folded (c.loop-place.list.folded + c.index-caps-place.result.folded)
    c.loop-place.invariant.folded
    (ap (λ (n : ℕ). c.loop-place.list.folded + n) (held g at.After-index-caps-place).folded) in
    let few = are_few S c.sections-all.result.now c.sections-all.ensures.kept c.sections-all.ensures.data in
    let whole = c.requires.caps.close c.args.solved.now c.requires.solved in
    omega (
      arith,
      more,
      sum_more folded 0 (s + 1) (length S.sections) (omega (arith, l)),
      whole.few_folded,
      few.vertices,
      few.contours,
      same_counts S.sections,
    )

pub add_section-requires-clause-sorted : goal.add_section-requires-clause-sorted
add_section-requires-clause-sorted g c = pairs_sorted c.args.sections.now c.args.pairs.now c.requires.pairs

pub loop-place-preserved : goal.loop-place-preserved
loop-place-preserved g c =
    let C = g.C.CapRule.capping in
    let S = c.args.sections.now in
    let ps = map pair_parts c.args.pairs.now in
    let xs = c.args.solved.now in
    let s = c.loop-place.place in
    let old = c.loop-place.list in
    let new = c.add_section.new.list in
    let inv = c.loop-place.invariant in
    let made = c.in_ok-add_section.ensures in
    let caps = held g (goal.at.loop-place-preserved g c).After-index-caps-place in
    record {
      triangles = sections_step (capped_section C S ps xs) s old.triangles.items new.triangles.items inv.triangles
          (made.triangles ∙ ap (λ (l : List (List ℕ)). old.triangles.items ++ l)
          (with_caps C S ps xs s c.index-caps-place.result caps));
      folded = sums_step (C.folded S ps) s old.folded new.folded inv.folded
          (made.folded ∙ ap (λ (n : ℕ). old.folded + n) caps.folded);
    }

-- ---- at the end
end : (g : given.Over) (c : After-loop-place g) → c.loop-place.place ≡ length c.args.sections.now.sections
end g c =
    omega (
      arith,
      c.loop-place-test.false,
      c.loop-place.auto.place-end,
      count g (goal.at.After-loop-place g c).After-sections-all,
    )

pub returns-clause-triangles : goal.returns-clause-triangles
returns-clause-triangles g c =
    c.loop-place.invariant.triangles ∙ ap
    (λ (k : ℕ). flat_map (capped_section g.C.CapRule.capping c.args.sections.now (map pair_parts c.args.pairs.now)
    c.args.solved.now) (range_with_len 0 k)) (end g (goal.at.returns-clause-triangles g c).After-loop-place)

pub returns-clause-folded : goal.returns-clause-folded
returns-clause-folded g c =
    c.loop-place.invariant.folded ∙ ap
    (λ (k : ℕ). sum_by (g.C.CapRule.capping.folded c.args.sections.now (map pair_parts c.args.pairs.now))
    (range_with_len 0 k)) (end g (goal.at.returns-clause-folded g c).After-loop-place)
