use Rattle.std.proofs.Common.{◌≡◌}
use Rattle.byu_text.specs.Numbers.{vertex_fields, vertex_table}
use Rattle.byu_text.proofs.numbers.vertex_table.Given as goal

abbrev pub invariant-loop-id : goal.invariant-loop-id
invariant-loop-id l = record { table : l.table.items ≡ vertex_table l.id; fields : l.fields ≡ vertex_fields l.id }
