use Rattle.std.proofs.Common.{◌≡◌, ◌++◌, ◌∷◌, ◌∙◌, [], List, ℤ, ap, rules, w32, SFits, to_z-of_z}
use Rattle.fku_types.proofs.ListLaws.{all_pushed}
use Rattle.fku_types.proofs.LoopSteps.{image_next, image_all}
use Rattle.section_core.specs.Flat.{IsLevelSection}
use Rattle.section_core.specs.Parts.{ContourParts, SectionParts}
use Rattle.section_core.specs.Views.{section_parts}
use Rattle.section_core.specs.declared.parts.Section.{Section}
use Rattle.section_edits.specs.Changes.{dropped_in}
use Rattle.section_edits.proofs.changes.without_contour.Goals as goal

pub loop-section-preserved : goal.loop-section-preserved
loop-section-preserved c =
    let old = c.section-item.result in
    let kept = c.in_ok-contours in
    let made : Section = record { z = old.z; contours = kept.contours } in
    let changed = c.loop-section.changed.items in
    let fits : SFits w32 old.z = search rules in
    let at_height : ℤ → Section = λ z. record { z = z; contours = kept.contours } in
    let pushed : c.push.new.self.items ≡ changed ++ made ∷ [] = c.in_ok-push.ensures.items
    ∙ ap (λ (z : ℤ). changed ++ at_height z ∷ []) (to_z-of_z fits) in
    let seen : List ContourParts → SectionParts = λ cs. record { z = old.z; contours = cs } in
    record {
      parts = image_next section_parts section_parts (dropped_in c.args.name.now) c.args.sections.now
          c.loop-section.section-index old made changed _ c.loop-section-test.true c.section-item.is
          c.loop-section.invariant.parts
          (ap seen kept.ensures.parts) pushed;
      level = all_pushed IsLevelSection changed _ made pushed c.loop-section.invariant.level kept.ensures.level;
    }

pub returns : goal.returns
returns c = record {
  parts = image_all section_parts section_parts (dropped_in c.args.name.now) c.args.sections.now
      c.loop-section.section-index c.loop-section.changed.items c.loop-section-test.false
      c.loop-section.invariant.parts;
  level = c.loop-section.invariant.level;
}
