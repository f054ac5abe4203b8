-- Commands that read a MOVIE.BYU text.
use Rattle.std.specs.Prelude.{ℕ, List, ◌++◌, codes, decimal}
use Rattle.triangle_meshes.specs.Meshes.{Surface}
use Rattle.byu_text.specs.Answers.{IsByuFault}
use Rattle.byu_text.specs.Reading.{ReadsAsMesh}
use Rattle.command_replies.specs.Reply.{Reply, Then}

-- the bytes are the text of a mesh, or have a first line at fault
abbrev pub on_mesh : (Surface → Reply → Type 0) → List ℕ → Reply → Type 0
on_mesh rule bytes = Then (IsByuFault bytes) (ReadsAsMesh bytes) rule

-- the number of parts
abbrev pub parts_line : ℕ → List ℕ
parts_line parts = codes "PARTS " ++ (decimal parts ++ codes "\n")
