-- `ringcaps`: the text of the surface with one cap for an outer contour and the holes that end with it.
use Rattle.std.specs.Prelude.{ℕ, ◌≡◌, List, All}
use Rattle.fku_types.specs.declared.points.Point.{Point}
use Rattle.plane_geom.specs.Rings.{IsClosed}
use Rattle.section_core.specs.Parts.{FileParts}
use Rattle.triangle_meshes.specs.Meshes.{Surface, surface_of, IsValid}
use Rattle.surface_core.specs.declared.surfaces.Built.{Built}
use Rattle.triangle_meshes.specs.Volumes.{six_volume}
use Rattle.ring_caps.specs.RingSurfaces.{ArePlainSurfaces, AreRingBuilt, IsRingFoundIn}
use Rattle.command_replies.specs.Reply.{Reply, Tells, Then}

-- the closed surface of objects with caps of groups, each pair joined by a least tiling; for every point it has the
-- volume of the surface with caps of contours
pub record IsRingSurfaceOf (F : FileParts) (b : Built) : Type 0 where
  pub is_built : AreRingBuilt F b
  pub valid : IsValid (surface_of b.mesh)
  pub closed : All IsClosed (surface_of b.mesh).parts
  pub volumes : (plain : Surface) → ArePlainSurfaces F plain → (o : Point)
      → six_volume (surface_of b.mesh) o ≡ six_volume plain o

abbrev pub on_ring_surface : FileParts → (Built → Reply → Type 0) → Reply → Type 0
on_ring_surface F rule = Then (IsRingFoundIn F) (IsRingSurfaceOf F) rule

-- the reply for objects: the text of their surface with caps of groups in a format, with a count of all pairs
abbrev pub ring_caps : (Surface → List ℕ) → FileParts → Reply → Type 0
ring_caps format F = on_ring_surface F (λ b. Tells (format (surface_of b.mesh)) b.pairs)
