use Rattle.std.proofs.Common.{◌≡◌, ◌+◌, ◌≤◌, ℕ, List, length, ap, arith, Vec}
use Rattle.std.specs.Global.{Global}
use Rattle.section_core.specs.Parts.{FileParts}
use Rattle.section_pairs.specs.declared.gap_pairs.GapPair.{GapPair}
use Rattle.section_pairs.specs.Pairs.{PairParts}
use Rattle.surface_core.specs.Objects.{AreAllPairs, pair_lists, numbered}
use Rattle.surface_core.proofs.ObjectLaws.{one_pair_lists, objects_paired_or_found}
use Rattle.surface_core.proofs.objects.surface_all.Goals as goal

-- each pair is solved at most once, for any lists of pairs
not_more : (F : FileParts) (pss : List (List PairParts)) (found given : List (Vec GapPair Global)) (old new : ℕ)
    → AreAllPairs F pss → AreAllPairs F (pair_lists found) → given ≡ found
    → new ≤ old + length (numbered (pair_lists given)) → new ≤ old + length (numbered pss)
not_more F pss found given old new are pairs same few =
    let count = λ (l : List (Vec GapPair Global)). length (numbered (pair_lists l)) in
    omega (
      arith,
      few,
      ap count same,
      ap (λ (rss : List (List PairParts)). length (numbered rss))
          (one_pair_lists F pss (pair_lists found) are pairs),
    )

pub returns-in_err-solved-clause-not_more : goal.returns-in_err-solved-clause-not_more
returns-in_err-solved-clause-not_more g c pss are =
    not_more c.args.objects.now pss c.in_ok-found.found.items c.deref.result.now _ _ are c.in_ok-found.ensures.pairs
    c.deref.ensures.value c.solve_and_cap_each.ensures.not_more

pub returns-in_err-built-clause-not_more : goal.returns-in_err-built-clause-not_more
returns-in_err-built-clause-not_more g c pss are =
    not_more c.args.objects.now pss c.in_ok-found.found.items c.deref.result.now _ _ are c.in_ok-found.ensures.pairs
    c.deref.ensures.value c.solve_and_cap_each.ensures.not_more

pub returns-clause-not_more : goal.returns-clause-not_more
returns-clause-not_more g c pss are =
    not_more c.args.objects.now pss c.in_ok-found.found.items c.deref.result.now _ _ are c.in_ok-found.ensures.pairs
    c.deref.ensures.value c.solve_and_cap_each.ensures.not_more

pub returns-in_err-solved-clause-unsolved : goal.returns-in_err-solved-clause-unsolved
returns-in_err-solved-clause-unsolved g c fault h =
    absurd (objects_paired_or_found c.args.objects.now (pair_lists c.in_ok-found.found.items) fault
    c.in_ok-found.ensures.pairs h)

pub returns-in_err-built-clause-unsolved : goal.returns-in_err-built-clause-unsolved
returns-in_err-built-clause-unsolved g c fault h =
    absurd (objects_paired_or_found c.args.objects.now (pair_lists c.in_ok-found.found.items) fault
    c.in_ok-found.ensures.pairs h)

pub returns-clause-unsolved : goal.returns-clause-unsolved
returns-clause-unsolved g c fault h =
    absurd (objects_paired_or_found c.args.objects.now (pair_lists c.in_ok-found.found.items) fault
    c.in_ok-found.ensures.pairs h)
