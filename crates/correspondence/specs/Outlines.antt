-- The contours of sections: their names, and their points.
use Rattle.std.specs.Prelude.{ℕ, List, [], map, ℤ, pos, slice_index_or}
use Rattle.fku_types.specs.declared.points.Point.{Point}
use Rattle.section_core.specs.declared.parts.Section.{Section}
use Rattle.section_core.specs.Parts.{Spot, SectionParts, LinkParts, Parts}
use Rattle.correspondence.specs.Contours.{point_lists}
use Rattle.correspondence.specs.Nesting.{depths}

-- the contours of a section, in file order
pub record Layer : Type 0 where
  pub names : List (List ℕ)
  pub outlines : List (List Point)

-- a point at the height of its section
abbrev pub spot_point : ℤ → Spot → Point
spot_point z p = record { x = p.0; y = p.1; z = z }

abbrev pub layer : SectionParts → Layer
layer s = record {
  names = map (λ c. c.name) s.contours;
  outlines =
      map (λ c. map (spot_point s.z) c.points) s.contours;
}

-- the contours that the code holds
abbrev pub held_layer : Section → Layer
held_layer s = record { names = map (λ c. c.name) s.contours.items; outlines = point_lists s }

-- a section, or a link, at its place
abbrev pub section_at : Parts → ℕ → SectionParts
section_at S g = slice_index_or S.sections g (record { z = pos 0; contours = [] })

abbrev pub link_at : Parts → ℕ → LinkParts
link_at S k = slice_index_or S.links k (record { below = []; above = [] })

abbrev pub layer_at : Parts → ℕ → Layer
layer_at S g = layer (section_at S g)

-- the name of the contour at a place
abbrev pub name_in : Layer → ℕ → List ℕ
name_in l k = slice_index_or l.names k []

abbrev pub held_names : Section → List (List ℕ)
held_names s = map (λ c. c.name) s.contours.items

-- the depths of the contours that the code holds
abbrev pub held_depths : Section → List ℕ
held_depths s = depths (point_lists s)
