-- `reconstruct`: the text of the surface.
use Rattle.std.specs.Prelude.{ℕ, List}
use Rattle.section_core.specs.Parts.{FileParts}
use Rattle.triangle_meshes.specs.Meshes.{Surface, surface_of}
use Rattle.command_replies.specs.Reply.{Reply, Tells}
use Rattle.command_replies.specs.Stages.{on_surface}

-- the reply for objects: the text of their surface in a format, with a count of all pairs
abbrev pub reconstruct : (Surface → List ℕ) → FileParts → Reply → Type 0
reconstruct format F = on_surface F (λ b. Tells (format (surface_of b.mesh)) b.pairs)
