-- Lines after a section text that are no edits, and how many of them `edit` takes, at worked examples.
use Rattle.std.proofs.Common.{◌≡◌, List, [], ◌∷◌, drop, None, Ok, Err, refl, ap, arith}
use Rattle.std.specs.Prelude.{codes}
use Rattle.section_core.specs.Parts.{Parts}
use Rattle.text_io.specs.WordLists.{Kept, first_number}
use Rattle.fku_types.specs.declared.fault.Fault.TheVariants.{Limit}
use Rattle.fku_types.specs.declared.fault.LimitName.TheVariants.{Edits}
use Rattle.section_edits.specs.declared.edit.EditFault.TheVariants.{EditForm}
use Rattle.surface_commands.specs.Edit.{AreAnswers, AreFew, IsTooMany, edits_in}

-- a line that is no edit is refused, and the sections stay
no_edit_at_all : (S : Parts) → AreAnswers S (None ∷ []) (Err EditForm ∷ []) S × (edits_in (None ∷ []) ≡ [])
    × (AreAnswers S (None ∷ []) (Ok (record { solved = 0; reused = 1 }) ∷ []) S → ⊥)
no_edit_at_all S = ((S, (refl, refl), refl), refl, λ h. h.1)

-- 1,000 lines are few, and the 1,001st is reported by its number
lines_up_to_the_limit : AreFew ((17, codes "DROP" ∷ []) ∷ []) ((codes "DROP" ∷ []) ∷ [])
    × ((tail : List Kept) → drop 1000 tail ≡ (1017, codes "DROP" ∷ []) ∷ [] → IsTooMany tail (Limit Edits 1017))
lines_up_to_the_limit = ((omega arith, refl), λ tail e. (1017, ap first_number e, refl))
