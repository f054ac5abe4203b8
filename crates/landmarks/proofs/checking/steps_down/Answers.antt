use Rattle.std.proofs.Common.{rules}
use Rattle.landmarks.proofs.checking.steps_down.Goals as goal

-- clause by clause, since the search for all clauses of a call at once takes long
pub rises_at_most-requires-clause-from : goal.rises_at_most-requires-clause-from
rises_at_most-requires-clause-from c = search rules

pub rises_at_most-requires-clause-to : goal.rises_at_most-requires-clause-to
rises_at_most-requires-clause-to c = search rules

pub rises_at_most-requires-clause-cost : goal.rises_at_most-requires-clause-cost
rises_at_most-requires-clause-cost c = search rules
