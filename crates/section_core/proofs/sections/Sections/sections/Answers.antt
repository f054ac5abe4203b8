use Rattle.std.proofs.Common.{map, ap, sym, subst, ◌∙◌}
use Rattle.section_core.specs.Parts.{Parts}
use Rattle.section_core.specs.Views.{section_parts}
use Rattle.section_core.specs.Flat.{AreFlat, section_data}
use Rattle.section_core.specs.Accepted.{IsAccepted}
use Rattle.section_core.specs.ValidSections.{section_of}
use Rattle.section_core.proofs.Keeping.{are_kept, sections-data}
use Rattle.section_core.proofs.sections.Sections.sections.Goals as goal

pub returns-clause-data : goal.returns-clause-data
returns-clause-data c =
    let same = c.deref.ensures.value in
    ap (map section_data) same ∙ sections-data c.self.inside.sections.items c.self.invariant.1
    ∙ ap (λ (S : Parts). map section_of S.sections) c.self.view_is

pub returns-clause-kept : goal.returns-clause-kept
returns-clause-kept c =
    let same = c.deref.ensures.value in
    are_kept c.args.self.now c.deref.result.now
    (ap (map section_parts) same ∙ ap (λ (S : Parts). S.sections) c.self.view_is)
    (subst IsAccepted c.self.view_is c.self.invariant.0) (subst AreFlat (sym same) c.self.invariant.1)
