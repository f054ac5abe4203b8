-- The text of a report, from what the code counts.
use Rattle.std.proofs.Common.{◌≡◌, ℕ, ◌+◌, ℤ, List, [], ◌∷◌, ◌++◌, length, map, sum_by, refl, sym, ap, ap₂, ◌∙◌, length-append}
use Rattle.std.proofs.lemmas.List.{length-map}
use Rattle.std.proofs.lemmas.List.Sums.{sum_by-cons}
use Rattle.plane_geom.specs.Rings.{origin}
use Rattle.section_core.specs.declared.parts.Section.{Section}
use Rattle.section_core.specs.Parts.{SectionParts, contours_of}
use Rattle.section_core.specs.Views.{contour_parts, section_parts}
use Rattle.triangle_meshes.specs.Meshes.{surface_of}
use Rattle.surface_core.specs.declared.surfaces.Built.{Built}
use Rattle.triangle_meshes.specs.Volumes.{six_volume}
use Rattle.surface_commands.specs.Report.{sizes_text, four_measures, report_text}

-- the contours, section by section
pub contours_counted : (ss : List Section)
    → length (contours_of (map section_parts ss)) ≡ sum_by (λ (s : Section). length s.contours.items) ss
contours_counted [] = refl
contours_counted (s ∷ ss) =
    length-append (map contour_parts s.contours.items) (contours_of (map section_parts ss))
    ∙ ap₂ (λ (m n : ℕ). m + n) (length-map s.contours.items contour_parts) (contours_counted ss)
    ∙ sym (sum_by-cons (λ (s : Section). length s.contours.items) s ss)

four_sizes : (s s' c c' v v' t t' : ℕ) → s ≡ s' → c ≡ c' → v ≡ v' → t ≡ t' → sizes_text s c v t ≡ sizes_text s' c' v' t'
four_sizes s s' c c' v v' t t' es ec ev et =
    ap (λ (n : ℕ). sizes_text n c v t) es ∙ ap (λ (n : ℕ). sizes_text s' n v t) ec
    ∙ ap (λ (n : ℕ). sizes_text s' c' n t) ev ∙ ap (λ (n : ℕ). sizes_text s' c' v' n) et

-- the counts of the code are those of the definition
pub reported : (all : List SectionParts) (b : Built) (sections contours vertices triangles : ℕ) (volume : ℤ)
    → sections ≡ length all → contours ≡ length (contours_of all)
    → vertices ≡ length (surface_of b.mesh).vertices → triangles ≡ sum_by length (surface_of b.mesh).parts
    → volume ≡ six_volume (surface_of b.mesh) origin
    → sizes_text sections contours vertices triangles ++ four_measures b.folded b.pairs b.cost volume
    ≡ report_text all b
reported all b sections contours vertices triangles volume es ec ev et eo =
    ap₂ (λ (x y : List ℕ). x ++ y)
    (four_sizes sections (length all) contours (length (contours_of all)) vertices (length (surface_of b.mesh).vertices)
    triangles (sum_by length (surface_of b.mesh).parts) es ec ev et)
    (ap (λ (v : ℤ). four_measures b.folded b.pairs b.cost v) eo)
