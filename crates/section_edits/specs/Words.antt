-- The words of an edit's refusal.
use Rattle.std.specs.Prelude.{ℕ, List, ◌++◌, Option, None, Some, codes, decimal}
use Rattle.std.specs.Fmt.{signed_decimal}
use Rattle.fku_types.specs.Fault.{fault_words, limit_word}
use Rattle.section_edits.specs.declared.edit.EditFault.{EditFault}
use Rattle.section_edits.specs.declared.edit.EditFault.TheVariants.{EditForm, NoContour, NoSection, NoVertex, TooFew, NameTwice, Limit, Found, NoMemory}

-- a fault of whole sections has the words that it has for a text; `NoMemory` has none
abbrev pub edit_fault_words : EditFault → Option (List ℕ)
edit_fault_words EditForm = Some (codes "13 EDIT FORM")
edit_fault_words (NoContour name) = Some (codes "14 NO CONTOUR " ++ name)
edit_fault_words (NoSection z) = Some (codes "19 NO SECTION " ++ signed_decimal z)
edit_fault_words (NoVertex name index) = Some (codes "15 NO VERTEX " ++ name ++ codes " " ++ decimal index)
edit_fault_words (TooFew name) = Some (codes "16 TOO FEW " ++ name)
edit_fault_words (NameTwice name) = Some (codes "3 NAME TWICE " ++ name)
edit_fault_words (Limit limit) = Some (codes "5 LIMIT " ++ limit_word limit)
edit_fault_words (Found fault) = fault_words fault
edit_fault_words NoMemory = None
