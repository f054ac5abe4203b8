use Rattle.std.proofs.Common.{subst, arith}
use Rattle.correspondence.specs.Simple.{AgainstRule}
use Rattle.correspondence.specs.Bounding.{LiesWithin}
use Rattle.correspondence.proofs.Rules.{begin_at, untrue}
use Rattle.correspondence.proofs.Firsts.{one_partner_less}
use Rattle.correspondence.proofs.simple.first_partner.Goals as goal

pub loop-second-preserved : goal.loop-second-preserved
loop-second-preserved c =
    one_partner_less (AgainstRule c.args.ring.now) c.args.first c.loop-second.second c.loop-second.invariant
    (λ a. untrue c.is_partner.result c.if-is_partner.false (c.is_partner.ensures.1 a))

pub is_partner-requires-clause-begin : goal.is_partner-requires-clause-begin
is_partner-requires-clause-begin c =
    subst (LiesWithin c.of_edge-bounds.result) (begin_at c.args.ring.now c.args.first c.requires.within)
    c.of_edge-bounds.ensures.0

pub is_partner-requires-clause-end : goal.is_partner-requires-clause-end
is_partner-requires-clause-end c =
    subst (LiesWithin c.of_edge-bounds.result) c.edge_end.ensures.value c.of_edge-bounds.ensures.1

pub returns : goal.returns
returns c h ordered within against =
    c.loop-second.invariant h ordered (omega (arith, within, c.loop-second-test.false)) against
