use Rattle.std.proofs.Common.{length, ap, arith}
use Rattle.std.proofs.lemmas.List.{length-map}
use Rattle.section_pairs.specs.Unchanged.{moved_id}
use Rattle.section_pairs.proofs.moved_pairs.moved_ring.Goals as goal

pub invariant_of-result : goal.invariant_of-result
invariant_of-result c = record {
  one_id_each = omega (
    arith,
    ap length (c.in_ok-points.ensures.items_if_clones_equal (λ x y e. e)),
    ap length c.deref.ensures.value,
    ap length c.in_ok-ids.ensures,
    length-map c.deref-2.result.now (moved_id c.args.shift),
    ap length c.deref-2.ensures.value,
    c.args.ring.now.one_id_each,
  );
}
