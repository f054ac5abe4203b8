use Rattle.std.proofs.Common.{◌≡◌, w32, sym, subst, rules}
use Rattle.std.specs.Prelude.{IfErr}
use Rattle.std.proofs.lemmas.Int.{to_z-of_z}
use Rattle.section_edits.specs.declared.edit.Edit.{Edit}
use Rattle.section_edits.specs.Changes.{changed}
use Rattle.section_edits.specs.Refusals.{AnswersOrRefuses, IsEditMemory, IsRefusal}
use Rattle.section_edits.proofs.editing.edited.Goals as goal

pub returns-in-Move-clause-answers : goal.returns-in-Move-clause-answers
returns-in-Move-clause-answers c =
    subst (λ (e : Edit). AnswersOrRefuses (IsRefusal c.args.sections.now e) c.respotted.result
    (λ s. s ≡ changed c.args.sections.now e)) (sym c.in-Move.is)
    (rw (to_z-of_z w32 c.in-Move.x (search rules), to_z-of_z w32 c.in-Move.y (search rules)) at
    c.respotted.ensures.answers)

pub returns-in-Insert-clause-answers : goal.returns-in-Insert-clause-answers
returns-in-Insert-clause-answers c =
    subst (λ (e : Edit). AnswersOrRefuses (IsRefusal c.args.sections.now e) c.respotted-in-Insert.result
    (λ s. s ≡ changed c.args.sections.now e)) (sym c.in-Insert.is)
    (rw (to_z-of_z w32 c.in-Insert.x (search rules), to_z-of_z w32 c.in-Insert.y (search rules)) at
    c.respotted-in-Insert.ensures.answers)

pub returns-in-Remove-clause-answers : goal.returns-in-Remove-clause-answers
returns-in-Remove-clause-answers c =
    subst (λ (e : Edit). AnswersOrRefuses (IsRefusal c.args.sections.now e) c.respotted-in-Remove.result
    (λ s. s ≡ changed c.args.sections.now e)) (sym c.in-Remove.is) c.respotted-in-Remove.ensures.answers

pub returns-in-AddContour-clause-answers : goal.returns-in-AddContour-clause-answers
returns-in-AddContour-clause-answers c =
    subst (λ (e : Edit). AnswersOrRefuses (IsRefusal c.args.sections.now e) c.added.result
    (λ s. s ≡ changed c.args.sections.now e)) (sym c.in-AddContour.is)
    (rw (to_z-of_z w32 c.in-AddContour.z (search rules), c.as_slice.ensures) at c.added.ensures.answers)

pub returns-in-Move-clause-memory : goal.returns-in-Move-clause-memory
returns-in-Move-clause-memory c =
    subst (λ (e : Edit). IfErr c.respotted.result (IsEditMemory c.args.sections.now e)) (sym c.in-Move.is)
    (rw (to_z-of_z w32 c.in-Move.x (search rules), to_z-of_z w32 c.in-Move.y (search rules)) at
    c.respotted.ensures.memory)

pub returns-in-Insert-clause-memory : goal.returns-in-Insert-clause-memory
returns-in-Insert-clause-memory c =
    subst (λ (e : Edit). IfErr c.respotted-in-Insert.result (IsEditMemory c.args.sections.now e)) (sym c.in-Insert.is)
    (rw (to_z-of_z w32 c.in-Insert.x (search rules), to_z-of_z w32 c.in-Insert.y (search rules)) at
    c.respotted-in-Insert.ensures.memory)

pub returns-in-Remove-clause-memory : goal.returns-in-Remove-clause-memory
returns-in-Remove-clause-memory c =
    subst (λ (e : Edit). IfErr c.respotted-in-Remove.result (IsEditMemory c.args.sections.now e)) (sym c.in-Remove.is)
    c.respotted-in-Remove.ensures.memory

pub returns-in-AddContour-clause-memory : goal.returns-in-AddContour-clause-memory
returns-in-AddContour-clause-memory c =
    subst (λ (e : Edit). IfErr c.added.result (IsEditMemory c.args.sections.now e)) (sym c.in-AddContour.is)
    (rw (to_z-of_z w32 c.in-AddContour.z (search rules), c.as_slice.ensures) at c.added.ensures.memory)
