use Rattle.std.proofs.Common.{rules}
use Rattle.std.proofs.lemmas.List.Sorted.{answers_always}
use Rattle.mesh_measures.proofs.Orders.{key, swept_by_sort}
use Rattle.mesh_measures.proofs.sweep.swept.Goals as goal

pub returns-clause-swept : goal.returns-clause-swept
returns-clause-swept c = swept_by_sort c.sort_unstable_by_key.new.self.items
    (c.sort_unstable_by_key.ensures.sorted key (answers_always _ _ _ (λ f a r g q. search rules)))
