-- A change of one vertex of a contour.
use Rattle.std.specs.Prelude.{ℕ, Bool, false, List, nat_le, nat_lt, slice_set}
use Rattle.std.specs.List.{insert, remove}
use Rattle.section_core.specs.Parts.{Spot}
use Rattle.section_edits.specs.declared.edit.Edit.{Edit}
use Rattle.section_edits.specs.declared.edit.Edit.TheVariants.{Move, Insert, Remove}
use Rattle.section_edits.specs.declared.editing.VertexChange.{VertexChange}
use Rattle.section_edits.specs.declared.editing.VertexChange.TheVariants.{Moved, Inserted, Removed}
use Rattle.section_core.specs.Views.{spot_at}
use Rattle.section_edits.specs.Refusals.{is_far}

-- the edit that makes it
abbrev pub vertex_edit : List ℕ → ℕ → VertexChange → Edit
vertex_edit name index (Moved to) = Move name index to.x to.y
vertex_edit name index (Inserted new) = Insert name index new.x new.y
vertex_edit name index Removed = Remove name index

-- the spots of the contour after it
abbrev pub spots_after : VertexChange → ℕ → List Spot → List Spot
spots_after (Moved to) index spots = slice_set spots index (spot_at to)
spots_after (Inserted new) index spots = insert spots index (spot_at new)
spots_after Removed index spots = remove spots index

-- its place is out of range
abbrev pub is_out : VertexChange → Bool
is_out (Moved to) = is_far to
is_out (Inserted new) = is_far new
is_out Removed = false

-- a contour of this many vertices has no vertex for it
abbrev pub lacks_vertex : VertexChange → ℕ → ℕ → Bool
lacks_vertex (Moved to) count index = nat_le count index
lacks_vertex (Inserted new) count index = nat_lt count index
lacks_vertex Removed count index = nat_le count index

-- it leaves fewer than three of this many
abbrev pub leaves_few : VertexChange → ℕ → Bool
leaves_few Removed count = nat_le count 3
leaves_few _ count = false
