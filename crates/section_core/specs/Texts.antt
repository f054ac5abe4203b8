-- A text whose tail has no kept line.
use Rattle.std.specs.Prelude.{ℕ, true, ◌≡◌, List, []}
use Rattle.text_io.specs.Text.{kept_lines}
use Rattle.section_core.specs.declared.parts.Version.TheVariants.{Two}
use Rattle.section_core.specs.Parts.{Parts, FileParts}
use Rattle.section_core.specs.Reading.{HasFile, is_filled, HasFront, HasContour}

-- The kept lines are those of these parts, and none is left.
abbrev pub IsTextOf : List ℕ → Parts → Type 0
IsTextOf text S = HasFront (kept_lines text) S [] × HasContour S

-- The kept lines are those of these objects, and none is left.
abbrev pub IsTextOfFile : List ℕ → FileParts → Type 0
IsTextOfFile text F = HasFile Two (kept_lines text) F [] × (is_filled F ≡ true)
