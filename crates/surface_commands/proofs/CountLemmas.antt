-- The reply of `count`.
use Rattle.std.proofs.Common.{◌≡◌, ℕ, Bool, ap, ◌∙◌}
use Rattle.std.specs.Prelude.{length, sum_by}
use Rattle.triangle_meshes.specs.Meshes.{Surface}
use Rattle.triangle_meshes.specs.Edges.{edges_of}
use Rattle.surface_commands.specs.Count.{count_text, has_text}

-- the lines of counts that are those of a mesh
pub same_counts : (m : Surface) (parts vertices polygons edges : ℕ) (closed : Bool)
    → parts ≡ length m.parts → vertices ≡ length m.vertices → polygons ≡ sum_by length m.parts → edges ≡ edges_of m
    → has_text parts vertices polygons edges closed ≡ count_text m closed
same_counts m parts vertices polygons edges closed p v t e =
    ap (λ (n : ℕ). has_text n vertices polygons edges closed) p
    ∙ ap (λ (n : ℕ). has_text (length m.parts) n polygons edges closed) v
    ∙ ap (λ (n : ℕ). has_text (length m.parts) (length m.vertices) n edges closed) t
    ∙ ap (λ (n : ℕ). has_text (length m.parts) (length m.vertices) (sum_by length m.parts) n closed) e
