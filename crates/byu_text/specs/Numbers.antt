-- The fields of the vertices' numbers.
use Rattle.std.specs.Prelude.{ℕ, ◌+◌, pos, negsuc, List, map}
use Rattle.std.specs.List.{range_with_len}
use Rattle.byu_text.specs.declared.numbers.VertexFields.{VertexFields}
use Rattle.byu_text.specs.Fields.{number_field}

-- the fields of the number of a vertex by its id, counted from 1, and of its negative
abbrev pub vertex_fields : ℕ → VertexFields
vertex_fields id = record { positive = number_field (pos (id + 1)); negative = number_field (negsuc id) }

-- the fields of so many vertices
abbrev pub vertex_table : ℕ → List VertexFields
vertex_table count = map vertex_fields (range_with_len 0 count)
