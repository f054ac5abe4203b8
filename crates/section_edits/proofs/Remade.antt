-- Sections that are made again.
use Rattle.std.proofs.Common.{◌≡◌, List, map, sym, ap₂, subst}
use Rattle.std.specs.Prelude.{Result}
use Rattle.section_core.specs.declared.parts.Section.{Section}
use Rattle.section_core.specs.declared.parts.Link.{Link}
use Rattle.section_core.specs.Parts.{SectionParts, LinkParts, Parts}
use Rattle.section_core.specs.Views.{section_parts, link_parts}
use Rattle.section_core.specs.Finished.{ended_parts}
use Rattle.section_edits.specs.declared.edit.EditFault.{EditFault}
use Rattle.section_edits.specs.Refusals.{AnswersOrRefuses, IsLateRefusal}
use Rattle.section_edits.specs.Ready.{IsReadyParts}

-- the parts of what the code holds
pub made_parts : (T : Parts) (cs : List Section) (ls : List Link) → map section_parts cs ≡ T.sections
    → map link_parts ls ≡ T.links → ended_parts T.cost T.rule cs ls ≡ T
made_parts T cs ls e f =
    ap₂ (λ (ss : List SectionParts) (ks : List LinkParts). let S : Parts =
    record { cost = T.cost; rule = T.rule; sections = ss; links = ks } in S) e f

pub made_ready : (T : Parts) (cs : List Section) (ls : List Link) → map section_parts cs ≡ T.sections
    → map link_parts ls ≡ T.links → IsReadyParts T → IsReadyParts (ended_parts T.cost T.rule cs ls)
made_ready T cs ls e f r = subst IsReadyParts (sym (made_parts T cs ls e f)) r

pub made_answers : (T : Parts) (cs : List Section) (ls : List Link) (r : Result Parts EditFault)
    → map section_parts cs ≡ T.sections → map link_parts ls ≡ T.links
    → AnswersOrRefuses (IsLateRefusal (ended_parts T.cost T.rule cs ls)) r (λ s. s ≡ ended_parts T.cost T.rule cs ls)
    → AnswersOrRefuses (IsLateRefusal T) r (λ s. s ≡ T)
made_answers T cs ls r e f h = subst (λ (S : Parts). AnswersOrRefuses (IsLateRefusal S) r (λ s. s ≡ S))
    (made_parts T cs ls e f) h
