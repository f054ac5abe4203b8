use Rattle.std.proofs.Common.{◌≡◌, ◌∙◌, List, ℕ, length, ap, sym}
use Rattle.std.proofs.lemmas.List.FromFn.{length-range_with_len}
use Rattle.correspondence.specs.Nesting.{turned}
use Rattle.correspondence.proofs.Nested.{length-turned, turned_ring, straight_ring}
use Rattle.correspondence.proofs.nesting.ring_from.Goals as goal

pub invariant_of-result : goal.invariant_of-result
invariant_of-result c =
    let points : length c.in_ok-points.points.items ≡ length c.args.points.now = ap length c.in_ok-points.ensures
    ∙ length-turned c.args.points.now in
    let ids : length c.in_ok-ids-2.ids.items ≡ length c.in_ok-ids.ids.items = ap length c.in_ok-ids-2.ensures
    ∙ ap (λ (l : List ℕ). length (turned l)) c.deref.ensures.value ∙ length-turned c.in_ok-ids.ids.items in
    record {
      one_id_each = points ∙ sym
          (ids ∙ ap length c.in_ok-ids.ensures ∙ length-range_with_len c.args.first_id (length c.args.points.now));
    }

pub invariant_of-result-else-is_turned : goal.invariant_of-result-else-is_turned
invariant_of-result-else-is_turned c =
    record {
      one_id_each = ap length c.in_ok-points-2.ensures
          ∙ sym (ap length c.in_ok-ids.ensures ∙ length-range_with_len c.args.first_id (length c.args.points.now));
    }

pub returns-in_ok-ids-2 : goal.returns-in_ok-ids-2
returns-in_ok-ids-2 c = record {
  ring =
      turned_ring c.args.depth c.args.first_id c.args.points.now c.in_ok-points.points.items c.in_ok-ids.ids.items
      c.in_ok-ids-2.ids.items (sym c.is_turned.ensures ∙ c.if-is_turned.true) c.in_ok-points.ensures
      (c.in_ok-ids-2.ensures ∙ ap turned c.deref.ensures.value) c.in_ok-ids.ensures;
}

pub returns-in_ok-points-2 : goal.returns-in_ok-points-2
returns-in_ok-points-2 c = record {
  ring =
      straight_ring c.args.depth c.args.first_id c.args.points.now c.in_ok-points-2.points.items c.in_ok-ids.ids.items
      (sym c.is_turned.ensures ∙ c.if-is_turned.false) c.in_ok-points-2.ensures c.in_ok-ids.ensures;
}
