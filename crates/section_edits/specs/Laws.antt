-- A law of lines of edits.
use Rattle.std.specs.Prelude.{◌≡◌}
use Rattle.text_io.specs.WordLists.{Line}
use Rattle.section_edits.specs.declared.edit.Edit.{Edit}
use Rattle.section_edits.specs.Lines.{ReadsAsEdit}

-- a line stands for at most one edit
abbrev pub OneEdit : Type 0
OneEdit = (line : Line) (e f : Edit) → ReadsAsEdit line e → ReadsAsEdit line f → e ≡ f
