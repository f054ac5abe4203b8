use Rattle.std.proofs.Common.{ℕ, List, ◌++◌, ◌∷◌, [], ◌+◌, ap, sym, ◌∙◌, add-one}
use Rattle.fku_types.proofs.ListLaws.{range_next}
use Rattle.correspondence.proofs.nesting.numbers_from.Goals as goal
use Rattle.std.specs.List.{range_with_len}

pub loop-k-preserved : goal.loop-k-preserved
loop-k-preserved c = c.in_ok-push.ensures.items
    ∙ ap (λ (l : List ℕ). l ++ (c.args.first + c.loop-k.k) ∷ []) c.loop-k.invariant
    ∙ sym (ap (range_with_len c.args.first) (add-one c.loop-k.k) ∙ range_next c.args.first c.loop-k.k)
