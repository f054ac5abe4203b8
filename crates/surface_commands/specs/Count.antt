-- `count`: the counts of a MOVIE.BYU text.
use Rattle.std.specs.Prelude.{ℕ, Bool, true, false, IsTrue, ◌↔◌, List, ◌++◌, length, sum_by, codes, decimal, All}
use Rattle.plane_geom.specs.Rings.{IsClosed}
use Rattle.triangle_meshes.specs.Meshes.{Surface}
use Rattle.triangle_meshes.specs.Edges.{edges_of}
use Rattle.command_replies.specs.Reply.{Reply, Tells}
use Rattle.surface_commands.specs.MeshTexts.{on_mesh}

-- the word for yes or no
abbrev pub yes_or_no : Bool → List ℕ
yes_or_no true = codes "yes"
yes_or_no false = codes "no"

-- five lines of the counts of a mesh
abbrev pub has_text : ℕ → ℕ → ℕ → ℕ → Bool → List ℕ
has_text parts vertices polygons edges closed =
    codes "PARTS " ++ (decimal parts
    ++ (codes "\nVERTICES " ++ (decimal vertices ++ (codes "\nPOLYGONS " ++ (decimal polygons
    ++ (codes "\nEDGES " ++ (decimal edges ++ (codes "\nCLOSED " ++ (yes_or_no closed ++ codes "\n")))))))))

abbrev pub count_text : Surface → Bool → List ℕ
count_text m closed = has_text (length m.parts) (length m.vertices) (sum_by length m.parts) (edges_of m) closed

-- the reply has these lines, and whether in each part every directed edge occurs as often as its reverse; no pair is
-- counted
pub record TellsCounts (m : Surface) (reply : Reply) : Type 0 where
  pub closed : Bool
  pub says : IsTrue closed ↔ All IsClosed m.parts
  pub tells : Tells (count_text m closed) 0 reply

-- the reply for bytes: the counts of the mesh whose text they are
abbrev pub count : List ℕ → Reply → Type 0
count = on_mesh TellsCounts
