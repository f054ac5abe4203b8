use Rattle.std.proofs.Common.{false, true, ◌≡◌}
use Rattle.correspondence.proofs.Beyond.{not_shared}
use Rattle.correspondence.proofs.apart.meets.Goals as goal

pub returns-then-leave_out : goal.returns-then-leave_out
returns-then-leave_out c = (
  λ n. absurd (let k : false ≡ true = n in cc),
  λ s. absurd (not_shared c.args.bounds c.args.a c.args.b c.args.c c.args.d (c.leave_out.ensures.0 c.if-leave_out.true)
      c.requires.bounds.0 c.requires.bounds.1 s),
)
