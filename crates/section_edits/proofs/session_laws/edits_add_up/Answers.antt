use Rattle.std.proofs.Common.{List, [], ◌∷◌, ◌++◌, refl, subst}
use Rattle.section_core.specs.Parts.{Parts}
use Rattle.section_edits.specs.declared.edit.Edit.{Edit}
use Rattle.section_edits.specs.Edits.{IsStep, AreApplied}
use Rattle.section_edits.proofs.session_laws.edits_add_up.Goals as goal

one_more : (S T U : Parts) (es : List Edit) (e : Edit) → AreApplied S es T → IsStep T e U
    → AreApplied S (es ++ e ∷ []) U
one_more S T U [] e h s = (U, subst (λ (V : Parts). IsStep V e U) h s, refl)
one_more S T U (d ∷ es) e h s = (h.0, h.1, one_more h.0 T U es e h.2 s)

pub returns : goal.returns
returns c = one_more
