-- Laws of lists of edits.
use Rattle.std.specs.Prelude.{◌≡◌, List, [], ◌∷◌, ◌++◌}
use Rattle.section_core.specs.Parts.{Parts}
use Rattle.section_edits.specs.declared.edit.Edit.{Edit}
use Rattle.section_edits.specs.declared.edit.EditFault.{EditFault}
use Rattle.section_edits.specs.Edits.{IsEdited, IsRefused, IsStep, AreApplied}

-- edits that are applied, and then one more
abbrev pub OneMoreIsApplied : Type 0
OneMoreIsApplied = (S T U : Parts) (es : List Edit) (e : Edit) → AreApplied S es T → IsStep T e U
    → AreApplied S (es ++ e ∷ []) U

-- no edit is both applied and refused
abbrev pub NoneIsBoth : Type 0
NoneIsBoth = (S T : Parts) (e : Edit) (fault : EditFault) → IsEdited S e T → IsRefused S e fault → ⊥

-- an edit has one refusal
abbrev pub OneRefusal : Type 0
OneRefusal = (S : Parts) (e : Edit) (f g : EditFault) → IsRefused S e f → IsRefused S e g → f ≡ g

-- a list of edits has one result
abbrev pub OneResult : Type 0
OneResult = (S T U : Parts) (es : List Edit) → AreApplied S es T → AreApplied S es U → T ≡ U
