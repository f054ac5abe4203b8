-- What an edit does to the parts of sections.
use Rattle.std.specs.Prelude.{ℕ, ℤ, pos, Bool, not, ◌||◌, List, [], ◌∷◌, ◌++◌, map, length, filter, bytes_eq, slice_set, if◌then◌else◌}
use Rattle.std.specs.Ordering.{int_eq}
use Rattle.std.specs.List.{insert, remove}
use Rattle.section_core.specs.Parts.{Spot, ContourParts, SectionParts, LinkParts, Parts}
use Rattle.section_edits.specs.declared.edit.Edit.{Edit}
use Rattle.section_edits.specs.declared.edit.Edit.TheVariants.{Move, Insert, Remove, AddContour, RemoveContour}
use Rattle.section_edits.specs.Contours.{has_name, spots_of}
use Rattle.section_core.specs.Views.{spot_at}

-- a contour of these points
abbrev pub contour_with : List ℕ → List Spot → ContourParts
contour_with name spots = record { name = name; count = pos (length spots); points = spots }

-- the contour of a name has other points
abbrev pub reshaped : List ℕ → List Spot → ContourParts → ContourParts
reshaped name spots c = if has_name name c then contour_with c.name spots else c

abbrev pub reshaped_in : List ℕ → List Spot → SectionParts → SectionParts
reshaped_in name spots s = record { z = s.z; contours = map (reshaped name spots) s.contours }

abbrev pub with_spots : List ℕ → List Spot → Parts → Parts
with_spots name spots S = record {
  cost = S.cost;
  rule = S.rule;
  sections = map (reshaped_in name spots) S.sections;
  links = S.links;
}

-- a new contour comes last in the section of a height
abbrev pub added_in : ℤ → ContourParts → SectionParts → SectionParts
added_in z c s = if int_eq z s.z then record { z = s.z; contours = s.contours ++ c ∷ [] } else s

abbrev pub with_new_contour : ℤ → ContourParts → Parts → Parts
with_new_contour z c S = record {
  cost = S.cost;
  rule = S.rule;
  sections = map (added_in z c) S.sections;
  links =
      S.links;
}

-- the section without the contour of a name
abbrev pub dropped_in : List ℕ → SectionParts → SectionParts
dropped_in name s = record { z = s.z; contours = filter (λ (c : ContourParts). not (has_name name c)) s.contours }

abbrev pub names_it : List ℕ → LinkParts → Bool
names_it name l = bytes_eq name l.below || bytes_eq name l.above

-- the parts without it and the links that name it
abbrev pub without : List ℕ → Parts → Parts
without name S = record {
  cost = S.cost;
  rule = S.rule;
  sections = map (dropped_in name) S.sections;
  links = filter (λ (l : LinkParts). not (names_it name l)) S.links;
}

-- the parts after the edit
abbrev pub changed : Parts → Edit → Parts
changed S (Move name index x y) = with_spots name (slice_set (spots_of S.sections name) index (x, y)) S
changed S (Insert name index x y) = with_spots name (insert (spots_of S.sections name) index (x, y)) S
changed S (Remove name index) = with_spots name (remove (spots_of S.sections name) index) S
changed S (AddContour z name points) = with_new_contour z (contour_with name (map spot_at points)) S
changed S (RemoveContour name) = without name S
