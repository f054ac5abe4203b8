use Rattle.surface_core.specs.Objects.{pair_lists}
use Rattle.command_replies.proofs.ObjectTexts.{late_memory}
use Rattle.command_replies.proofs.objects.numbered_pairs.Goals as goal

pub returns-in_err-all-clause-memory : goal.returns-in_err-all-clause-memory
returns-in_err-all-clause-memory c =
    late_memory c.args.objects.now (pair_lists c.in_ok-lists.lists.items) c.from_residual-in_err-all.result
    c.in_ok-lists.ensures.pairs
