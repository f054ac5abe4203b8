-- Which texts read as a mesh, and where any other text has its fault.
use Rattle.std.specs.Prelude.{ℕ, ◌≡◌, ◌⊎◌, ◌+◌, ◌<◌, ◌≤◌, List, take, length, All}
use Rattle.triangle_meshes.specs.Meshes.{Surface, IsValid}
use Rattle.byu_text.specs.Byu.{byu_of}
use Rattle.byu_text.specs.Lines.{text_lines_of}

-- a valid mesh: its polygons are triangles
pub record IsMesh (s : Surface) : Type 0 where
  pub valid : IsValid s
  pub triangles : All (All (λ ids. length ids ≡ 3)) s.parts

-- the text is that of this valid mesh, byte for byte
pub record ReadsAsMesh (text : List ℕ) (s : Surface) : Type 0 where
  pub mesh : IsMesh s
  pub same : text ≡ byu_of s

-- the first n lines are the first n lines of this valid mesh's text
pub record BeginsAs (text : List ℕ) (n : ℕ) (s : Surface) : Type 0 where
  pub mesh : IsMesh s
  pub same : take n (text_lines_of text) ≡ take n (text_lines_of (byu_of s))

-- line n is the first such that no valid mesh's text begins with the lines up to it
pub record IsMeshAtFault (text : List ℕ) (n : ℕ) : Type 0 where
  pub line : n ≤ length (text_lines_of text)
  pub before : (k : ℕ) → k < n → (s : Surface) × BeginsAs text k s
  pub none : (s : Surface) → BeginsAs text n s → ⊥

-- no line is at fault, but the text is not that of a valid mesh; n is one past the last line
pub record MeshStopsTooSoon (text : List ℕ) (n : ℕ) : Type 0 where
  pub past : n ≡ length (text_lines_of text) + 1
  pub before : (k : ℕ) → k < n → (s : Surface) × BeginsAs text k s
  pub none : (s : Surface) → ReadsAsMesh text s → ⊥

-- the text has its fault at line n
abbrev pub HasMeshFault : List ℕ → ℕ → Type 0
HasMeshFault text n = IsMeshAtFault text n ⊎ MeshStopsTooSoon text n
