use Rattle.std.proofs.Common.{◌≡◌, ◌<◌, true, Some, ap, refl, arith, rules}
use Rattle.section_core.specs.Tallies.{is_over}
use Rattle.std.proofs.lemmas.Int.{to_z-of_z}
use Rattle.fku_types.specs.declared.limits.TheConstants.{MAX_SECTIONS}
use Rattle.section_core.proofs.TallyLemmas.{section_admitted}
use Rattle.section_core.proofs.tally.Tally.section.Goals as goal

pub returns : goal.returns
returns c f t in-range =
    let old = c.args.self.now in
    let rises : is_over old.height c.args.z ≡ true = search rules in
    let room : old.sections < MAX_SECTIONS = omega (arith, old.few_sections, c.if-self-eq-MAX_SECTIONS.false) in
    section_admitted f c.args.z c.args.line old _ t in-range rises room refl refl refl
    (ap Some (to_z-of_z _ _ c.ranges.z)) refl refl refl
