use Rattle.std.proofs.Common.{take, drop, sym, ap, ◌∙◌, arith}
use Rattle.text_io.proofs.OutsideLemmas.{supplied}
use Rattle.text_io.proofs.memory.MemSourceSource.read.Goals as goal

pub returns-clause-bytes : goal.returns-clause-bytes
returns-clause-bytes c = (
  omega arith,
  omega arith,
  supplied c.args.self.now.left c.self.inside.bytes.items c.copy_front-count.new.into c.self.inside.taken
      c.copy_front-count.result
      (ap (λ s. s.left) (sym c.self.view_is))
      (c.copy_front-count.ensures.bytes ∙ ap (take c.copy_front-count.result)
      (c.split_at.ensures.back ∙ ap (drop c.self.inside.taken) c.deref-bytes.ensures.value)),
)
