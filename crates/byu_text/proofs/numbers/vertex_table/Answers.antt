use Rattle.std.proofs.Common.{arith, ◌++◌, [], ◌∷◌, List, sym, ap₂, ◌∙◌}
use Rattle.std.proofs.lemmas.List.FromFn.{map-range_with_len_more}
use Rattle.byu_text.specs.declared.numbers.VertexFields.{VertexFields}
use Rattle.byu_text.specs.Numbers.{vertex_fields}
use Rattle.byu_text.proofs.numbers.vertex_table.Goals as goal

pub loop-id-preserved : goal.loop-id-preserved
loop-id-preserved c =
    let id = c.loop-id.id in
    record {
      table = c.in_ok-push.ensures.items
          ∙ ap₂ (λ (t : List VertexFields) (f : VertexFields). t ++ f ∷ []) c.loop-id.invariant.table
          c.loop-id.invariant.fields
          ∙ sym (map-range_with_len_more vertex_fields 0 id id (omega arith));
      fields = c.next_fields-fields.ensures;
    }
