use Rattle.std.proofs.Common.{length}
use Rattle.pair_pool.proofs.Found.{IsFoundBefore}
use Rattle.pair_pool.proofs.Taken.{AreTaken}
use Rattle.pair_pool.proofs.finding.merge_all.Given as goal

abbrev pub invariant-loop-found : goal.invariant-loop-found
invariant-loop-found l = record {
  next : (goal.iterator-loop-found).can_next l.found-iterator;
  finite : (goal.iterator-loop-found).is_finite l.found-iterator;
  taken : AreTaken l.fn.each.items l.yielded l.found-iterator.rest.items l.found-iterator.rest.len;
  before : IsFoundBefore l.sections (length l.yielded) l.all;
}
