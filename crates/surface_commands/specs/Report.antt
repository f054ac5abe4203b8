-- `report` and `demo`: counts of sections and of their surface.
use Rattle.std.specs.Prelude.{ℕ, ℤ, ◌≡◌, List, [], ◌++◌, length, sum_by, codes, decimal}
use Rattle.std.specs.Fmt.{signed_decimal}
use Rattle.fku_types.specs.declared.points.Point.{Point}
use Rattle.plane_geom.specs.Rings.{origin}
use Rattle.section_core.specs.Parts.{SectionParts, FileParts, all_sections, contours_of}
use Rattle.triangle_meshes.specs.Meshes.{surface_of}
use Rattle.surface_core.specs.declared.surfaces.Built.{Built}
use Rattle.triangle_meshes.specs.Volumes.{six_volume}
use Rattle.demo_stack.specs.Demo.{demo}
use Rattle.command_replies.specs.Reply.{Reply, Tells}
use Rattle.command_replies.specs.Stages.{on_surface, on_surface_of}

-- four lines of counts
abbrev pub sizes_text : ℕ → ℕ → ℕ → ℕ → List ℕ
sizes_text sections contours vertices triangles =
    codes "SECTIONS " ++ (decimal sections ++ (codes "\nCONTOURS " ++ (decimal contours
    ++ (codes "\nVERTICES " ++ (decimal vertices ++ (codes "\nTRIANGLES " ++ (decimal triangles ++ codes "\n")))))))

-- four lines of measures
abbrev pub four_measures : ℕ → ℕ → ℤ → ℤ → List ℕ
four_measures folded pairs cost volume =
    codes "FOLDED " ++ (decimal folded ++ (codes "\nPAIRS " ++ (decimal pairs
    ++ (codes "\nCOST " ++ (signed_decimal cost ++ (codes "\nSIXVOLUME " ++ (signed_decimal volume ++ codes "\n")))))))

-- the eight lines on sections and their surface
abbrev pub report_text : List SectionParts → Built → List ℕ
report_text sections b =
    sizes_text (length sections) (length (contours_of sections)) (length (surface_of b.mesh).vertices)
    (sum_by length (surface_of b.mesh).parts)
    ++ four_measures b.folded b.pairs b.cost (six_volume (surface_of b.mesh) origin)

-- the line before the report of a made stack
abbrev pub demo_line : ℕ → ℕ → ℕ → List ℕ
demo_line seed sections vertices =
    codes "DEMO " ++ (decimal seed
    ++ (codes " " ++ (decimal sections ++ (codes " " ++ (decimal vertices ++ codes "\n")))))

-- the reply has, after a head, the counts of a surface, and counts all its pairs; its volume is the same for every
-- point
pub record Reports (head : List ℕ) (sections : List SectionParts) (b : Built) (reply : Reply) : Type 0 where
  pub volume : (o : Point) → six_volume (surface_of b.mesh) o ≡ six_volume (surface_of b.mesh) origin
  pub tells : Tells (head ++ report_text sections b) b.pairs reply

-- the reply for objects: the counts of their surface, over all of them
abbrev pub report : FileParts → Reply → Type 0
report F = on_surface F (Reports [] (all_sections F.objects))

-- the same for a stack that is made from a seed, after its own line
abbrev pub demo_report : ℕ → ℕ → ℕ → Reply → Type 0
demo_report seed sections vertices =
    on_surface_of (demo seed sections vertices)
    (Reports (demo_line seed sections vertices) (demo seed sections vertices).sections)
