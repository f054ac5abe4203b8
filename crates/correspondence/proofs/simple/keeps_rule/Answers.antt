use Rattle.std.proofs.Common.{suc, ◌<◌, ◌≤◌, refl, subst, arith}
use borrow.Author.Count.{below_more}
use Rattle.correspondence.specs.Bounding.{LiesWithin}
use Rattle.correspondence.specs.Simple.{AgainstRule}
use Rattle.correspondence.proofs.Rules.{begin_at, untrue}
use Rattle.correspondence.proofs.Beyond.{beyond_at, beneath_keeps_rule}
use Rattle.correspondence.proofs.simple.keeps_rule.Goals as goal

pub returns-then-leave_out : goal.returns-then-leave_out
returns-then-leave_out c t second ordered from below against =
    let b = c.requires.block in
    let out = beyond_at c.args.block.bounds c.args.ring.now c.args.first _ _ c.requires.within refl
    c.edge_end-end.ensures.value (c.leave_out.ensures.0 c.if-leave_out.true) in
    beneath_keeps_rule c.args.block.bounds c.args.ring.now c.args.first second (b.enclosed second from (omega arith))
    (b.enclosed (suc second) (omega arith) (omega arith)) out against

pub is_partner-requires-clause-begin : goal.is_partner-requires-clause-begin
is_partner-requires-clause-begin c =
    subst (LiesWithin c.of_edge-bounds.result) (begin_at c.args.ring.now c.args.first c.requires.within)
    c.of_edge-bounds.ensures.0

pub loop-second-preserved : goal.loop-second-preserved
loop-second-preserved c second ordered from below against =
    below_more (λ k. c.args.first < k → c.args.block.begin ≤ k → AgainstRule c.args.ring.now c.args.first k → ⊥)
    c.loop-second.second
    (λ k l o f a. c.loop-second.invariant k o f l a)
    (λ o f a. untrue c.is_partner.result c.if-is_partner.false (c.is_partner.ensures.1 a)) second below ordered from
    against

pub returns : goal.returns
returns c t second ordered from below against =
    c.loop-second.invariant second ordered from (omega (arith, below, c.loop-second-test.false)) against
