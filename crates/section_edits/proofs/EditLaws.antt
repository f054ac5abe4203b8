-- An edit has one outcome, and a list of edits has one result.
use Rattle.std.proofs.Common.{◌≡◌, inl, inr, None, Some, List, [], ◌∷◌, sym, ap, ◌∙◌, subst}
use Rattle.std.proofs.lemmas.Option.{none-some}
use Rattle.section_pairs.specs.SectionFaults.{ArePairs}
use Rattle.section_pairs.proofs.FoundLaws.{paired_or_found, one_found}
use Rattle.section_core.specs.Parts.{Parts}
use Rattle.section_edits.specs.declared.edit.Edit.{Edit}
use Rattle.section_edits.specs.declared.edit.EditFault.{EditFault}
use Rattle.section_edits.specs.declared.edit.EditFault.TheVariants.{Found}
use Rattle.section_edits.specs.Changes.{changed}
use Rattle.section_edits.proofs.Answering.{one_refusal as only_refusal}
use Rattle.section_edits.specs.Edits.{IsEdited, IsRefused, IsStep, AreApplied}

pub not_both : (S T : Parts) (e : Edit) (fault : EditFault) → IsEdited S e T → IsRefused S e fault → ⊥
not_both S T e fault d (IsRefused.by_edit f r) = none-some f (only_refusal S e None (Some f) d.not_refused r)
not_both S T e fault d (IsRefused.by_sections f n found) =
    paired_or_found (changed S e) d.whole.0 f (subst (λ (U : Parts). ArePairs U d.whole.0) d.parts d.whole.1) found

pub one_refusal : (S : Parts) (e : Edit) (f g : EditFault) → IsRefused S e f → IsRefused S e g → f ≡ g
one_refusal S e f g (IsRefused.by_edit _ r) (IsRefused.by_edit _ q) = let h : Some f ≡ Some g =
    only_refusal S e (Some f) (Some g) r q in cc
one_refusal S e f g (IsRefused.by_edit _ r) (IsRefused.by_sections k n found) =
    absurd (none-some f (only_refusal S e None (Some f) n r))
one_refusal S e f g (IsRefused.by_sections k n found) (IsRefused.by_edit _ q) =
    absurd (none-some g (only_refusal S e None (Some g) n q))
one_refusal S e f g (IsRefused.by_sections k n found) (IsRefused.by_sections l m other) =
    ap Found (one_found (changed S e) k l found other)

one_step : (S T U : Parts) (e : Edit) → IsStep S e T → IsStep S e U → T ≡ U
one_step S T U e (inl d) (inl c) = d.parts ∙ sym c.parts
one_step S T U e (inl d) (inr q) = absurd (not_both S T e q.1 d q.2)
one_step S T U e (inr r) (inl c) = absurd (not_both S U e r.1 c r.2)
one_step S T U e (inr r) (inr q) = r.0 ∙ sym q.0

pub one_result : (S T U : Parts) (es : List Edit) → AreApplied S es T → AreApplied S es U → T ≡ U
one_result S T U [] h k = h ∙ sym k
one_result S T U (e ∷ es) h k =
    one_result h.0 T U es h.2 (subst (λ (V : Parts). AreApplied V es U) (sym (one_step S h.0 k.0 e h.1 k.1)) k.2)
