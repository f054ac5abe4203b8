-- The lines after the first one, of a mesh with given counts.
use Rattle.std.proofs.Common.{◌≡◌, ℕ, suc, ◌+◌, ◌<◌, ◌≤◌, List, ◌++◌, length, take, map, sym, ap, ◌∙◌, arith, append_assoc}
use Rattle.std.specs.List.{concat}
use Rattle.triangle_meshes.specs.Meshes.{Surface}
use Rattle.byu_text.specs.Byu.{polygon_line}
use Rattle.byu_text.specs.Reading.{IsMesh, ReadsAsMesh}
use Rattle.byu_text.specs.Pieces.{Counts, mesh_head_line, AreMeshCounts, size_lines, point_lines}
use Rattle.byu_text.proofs.Cancel.{split_same}
use Rattle.byu_text.proofs.LineForms.{head_width, head_one}
use Rattle.byu_text.proofs.Written.{polygons_of, head_of, sizes_of, surface_lines, pieces_of, line_count, length-surface_lines}
use Rattle.byu_text.proofs.Fronts.{StartsAs, starts_whole}

-- the lines after the first one
abbrev pub body_of : Surface → List (List ℕ)
body_of s = size_lines 1 (sizes_of s) ++ (point_lines s.vertices ++ map polygon_line (polygons_of s))

-- the mesh has these counts, and the rest of the text begins with its next n lines
pub record Behind (h : Counts) (rest : List ℕ) (n : ℕ) (s : Surface) : Type 0 where
  pub mesh : IsMesh s
  pub head : head_of s ≡ h
  pub more : List ℕ
  pub is : rest ≡ concat (take n (body_of s)) ++ more

pub behind_head : (text : List ℕ) (h : Counts) (rest : List ℕ) (n : ℕ) (s : Surface) → AreMeshCounts h
    → text ≡ mesh_head_line h ++ rest → StartsAs text (suc n) s → Behind h rest n s
behind_head text h rest n s i e t =
    let p = pieces_of s t.mesh in
    let front : List ℕ = concat (take n (body_of s)) in
    let r = split_same (mesh_head_line h) (mesh_head_line (head_of s)) rest (front ++ t.more)
    (head_width h i ∙ sym (head_width (head_of s) p.head))
    (sym e ∙ t.is ∙ append_assoc (mesh_head_line (head_of s)) front t.more) in
    record { mesh = t.mesh; head = head_one (head_of s) h p.head i (sym r.0); more = t.more; is = r.1 }

pub some_line : (s : Surface) → 1 ≤ length (surface_lines s)
some_line s = omega arith

-- a text of these counts that stops before their last line is not that of a mesh
pub unread_by : (text : List ℕ) (h : Counts) (rest : List ℕ) (n : ℕ) → AreMeshCounts h → text ≡ mesh_head_line h ++ rest
    → n < line_count h → ((s : Surface) → StartsAs text (n + 1) s → ⊥) → (s : Surface) → ReadsAsMesh text s → ⊥
unread_by text h rest n i e l none s r =
    let b = behind_head text h rest 0 s i e (starts_whole text 1 s (some_line s) r) in
    none s (starts_whole text (n + 1) s (omega (arith, length-surface_lines s r.mesh, ap line_count b.head)) r)
