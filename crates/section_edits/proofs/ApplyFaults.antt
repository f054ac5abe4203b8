-- What the result of `edited` says of an edit's refusal, and what is refused then.
use Rattle.std.proofs.Common.{◌≡◌, ◌⊎◌, inl, inr, Option, None, Some, Result, Ok, Err, refl, subst}
use Rattle.std.specs.Prelude.{IfErr}
use Rattle.section_core.specs.Parts.{Parts}
use Rattle.section_edits.specs.declared.edit.Edit.{Edit}
use Rattle.section_edits.specs.declared.edit.EditFault.{EditFault}
use Rattle.section_edits.specs.declared.edit.EditFault.TheVariants.{EditForm, NoContour, NoSection, NoVertex, TooFew, NameTwice, Limit, Found, NoMemory}
use Rattle.section_edits.specs.Changes.{changed}
use Rattle.section_edits.specs.Refusals.{IsRefusal, AnswersOrRefuses, IsEditMemory}
use Rattle.section_edits.proofs.Answering.{passed}
use Rattle.section_pairs.specs.SectionFaults.{IsFound}
use Rattle.section_edits.specs.Edits.{IsSectionsFault, IsApplyFault, by_edit, by_sections}

pub refused_by : {T : Type 0} (Is : Option EditFault → Type 0) (fault : EditFault) (P : T → Type 0)
    → AnswersOrRefuses Is (Err fault) P → (fault ≡ NoMemory) ⊎ Is (Some fault)
refused_by Is NoMemory P h = inl refl
refused_by Is EditForm P h = inr h
refused_by Is (NoContour name) P h = inr h
refused_by Is (NoSection z) P h = inr h
refused_by Is (NoVertex name index) P h = inr h
refused_by Is (TooFew name) P h = inr h
refused_by Is (NameTwice name) P h = inr h
refused_by Is (Limit limit) P h = inr h
refused_by Is (Found fault) P h = inr h

pub told_refused : (S : Parts) (e : Edit) (fault : EditFault) (P : Parts → Type 0)
    → AnswersOrRefuses (IsRefusal S e) (Err fault) P → IsApplyFault S e fault
told_refused S e fault P h =
    elim (refused_by (IsRefusal S e) fault P h) [
      | inl q ↦ inl q
      | inr q ↦ inr (by_edit fault q)
    ]

pub told_found : (S : Parts) (e : Edit) (T : Parts) (fault : EditFault) → IsRefusal S e None → T ≡ changed S e
    → IsSectionsFault T fault → IsApplyFault S e fault
told_found S e T NoMemory n same h = inl refl
told_found S e T (Found fault) n same h = inr (by_sections fault n (subst (λ (U : Parts). IsFound U fault) same h))
told_found S e T EditForm n same h = absurd h
told_found S e T (NoContour name) n same h = absurd h
told_found S e T (NoSection z) n same h = absurd h
told_found S e T (NoVertex name index) n same h = absurd h
told_found S e T (TooFew name) n same h = absurd h
told_found S e T (NameTwice name) n same h = absurd h
told_found S e T (Limit limit) n same h = absurd h

-- memory runs out after the edit's own tests
pub after_own : {T : Type 0} (r : Result T EditFault) (S : Parts) (e : Edit) → IsRefusal S e None
    → IfErr r (IsEditMemory S e)
after_own (Ok v) S e h = tt
after_own (Err fault) S e h = λ _. (passed S e h).own
