-- Parts of a text that has no fault.
use Rattle.std.specs.Prelude.{◌≡◌, true}
use Rattle.section_core.specs.Parts.{Parts, IsParts, FileParts, IsFile}
use Rattle.section_core.specs.Laws.{IsLawful, IsLawfulFile}
use Rattle.section_core.specs.Reading.{HasContour, is_filled}

-- lawful parts with a contour
pub record IsAccepted (S : Parts) : Type 0 where
  pub are_parts : IsParts S
  pub lawful : IsLawful S
  pub contour : HasContour S

-- the same for the parts of a whole text: there is an object, and each has a contour
pub record IsAcceptedFile (F : FileParts) : Type 0 where
  pub is_file : IsFile F
  pub lawful : IsLawfulFile F
  pub filled : is_filled F ≡ true
