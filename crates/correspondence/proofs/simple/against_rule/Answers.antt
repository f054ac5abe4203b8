use Rattle.std.proofs.Common.{arith}
use Rattle.correspondence.proofs.Rules.{following_decides, closing_decides, distant_decides}
use Rattle.correspondence.proofs.simple.against_rule.Goals as goal
use Rattle.correspondence.proofs.simple.against_rule.Goals.{else-first-eq0-via-then-first-eq0+else-second-ring, else-first-eq0-via-else-first-eq0}

pub returns-then-second-first : goal.returns-then-second-first
returns-then-second-first c =
    following_decides c.args.ring.now c.args.first c.args.second c.share_more.result c.edge_end.result
    c.requires.ring.enough c.requires.ordered c.requires.within c.if-second-first.true
    c.edge_end.ensures.value c.share_more.ensures

pub returns-then-second-ring : goal.returns-then-second-ring
returns-then-second-ring c =
    closing_decides c.args.ring.now c.args.first c.args.second c.share_more-then-second-ring.result
    c.edge_end-then-second-ring.result c.requires.ring.enough c.requires.within
    c.if-first-eq0.true c.if-second-ring.true c.edge_end-then-second-ring.ensures.value
    c.share_more-then-second-ring.ensures

pub returns-else-first-eq0 : goal.returns-else-first-eq0
returns-else-first-eq0 c =
    distant_decides c.args.ring.now c.args.first c.args.second c.share.result c.edge_end-else-first-eq0.result
    c.edge_end-else-first-eq0-2.result c.requires.ordered c.requires.within
    (λ e. absurd (c.if-second-first.false (omega arith)))
    (λ e. elim c.else-first-eq0.branch [
      | else-first-eq0-via-then-first-eq0+else-second-ring w ↦ w.if-second-ring.false (omega (arith, e.1))
      | else-first-eq0-via-else-first-eq0 w ↦ w.if-first-eq0.false e.0
    ])
    c.edge_end-else-first-eq0.ensures.value c.edge_end-else-first-eq0-2.ensures.value c.share.ensures
