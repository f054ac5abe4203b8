use Rattle.std.proofs.Common.{◌≡◌, ◌∙◌, ℤ, List, ap, ap₂, arith, map, rules, take_all, to_z, of_z, w32}
use Rattle.section_core.specs.Flat.{SectionData, ContourData, contour_data}
use Rattle.section_core.proofs.Copies.{section_same, level_same}
use Rattle.section_core.proofs.parts.Section.copy.Goals as goal

pub returns-clause-data : goal.returns-clause-data
returns-clause-data c =
    let height : to_z w32 (of_z w32 c.args.self.now.z) ≡ c.args.self.now.z = search rules in
    let all = take_all c.loop-contour.contour-index c.deref-contour-items.result.now
    (omega (arith, c.loop-contour-test.false)) in
    ap₂ (λ (z : ℤ) (cs : List ContourData). let d : SectionData = (z, cs) in d) height
    (c.loop-contour.invariant ∙ ap (map contour_data) (all ∙ c.deref-contour-items.ensures.value))

pub returns-clause-parts : goal.returns-clause-parts
returns-clause-parts c = section_same
    (record { z = to_z w32 (of_z w32 c.args.self.now.z); contours = c.loop-contour.contours }) c.args.self.now
    (returns-clause-data c)

pub returns-clause-level : goal.returns-clause-level
returns-clause-level c h = level_same
    (record { z = to_z w32 (of_z w32 c.args.self.now.z); contours = c.loop-contour.contours }) c.args.self.now
    (returns-clause-data c) h
