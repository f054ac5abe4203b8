use Rattle.std.proofs.Common.{◌≡◌, ◌+◌, ◌≤◌, ℕ, List, length, map, ap, arith}
use Rattle.std.proofs.lemmas.List.{length-map}
use Rattle.section_core.specs.Parts.{Parts}
use Rattle.section_pairs.specs.declared.gap_pairs.GapPair.{GapPair}
use Rattle.section_pairs.specs.Pairs.{PairParts, pair_parts}
use Rattle.section_pairs.specs.SectionFaults.{ArePairs}
use Rattle.section_pairs.proofs.FoundLaws.{paired_or_found}
use Rattle.section_pairs.proofs.PairLaws.{one_pairs}
use Rattle.surface_core.proofs.surfaces.surface.Goals as goal

-- each pair is solved at most once, for any list of pairs
not_more : (S : Parts) (ps : List PairParts) (found given : List GapPair) (old new : ℕ) → ArePairs S ps
    → ArePairs S (map pair_parts found) → given ≡ found → new ≤ old + length given → new ≤ old + length ps
not_more S ps found given old new are pairs same few =
    omega (
      arith,
      few,
      ap length same,
      ap length (one_pairs S ps (map pair_parts found) are pairs),
      length-map found pair_parts,
    )

pub returns-in_err-solved-clause-not_more : goal.returns-in_err-solved-clause-not_more
returns-in_err-solved-clause-not_more g c ps are =
    not_more c.args.sections.now ps c.in_ok-found.found.items c.deref.result.now _ _ are c.in_ok-found.ensures.pairs
    c.deref.ensures.value c.solve_and_cap.ensures.not_more

pub returns-in_err-built-clause-not_more : goal.returns-in_err-built-clause-not_more
returns-in_err-built-clause-not_more g c ps are =
    not_more c.args.sections.now ps c.in_ok-found.found.items c.deref.result.now _ _ are c.in_ok-found.ensures.pairs
    c.deref.ensures.value c.solve_and_cap.ensures.not_more

pub returns-clause-not_more : goal.returns-clause-not_more
returns-clause-not_more g c ps are =
    not_more c.args.sections.now ps c.in_ok-found.found.items c.deref.result.now _ _ are c.in_ok-found.ensures.pairs
    c.deref.ensures.value c.solve_and_cap.ensures.not_more

pub returns-in_err-solved-clause-unsolved : goal.returns-in_err-solved-clause-unsolved
returns-in_err-solved-clause-unsolved g c fault h =
    absurd (paired_or_found c.args.sections.now (map pair_parts c.in_ok-found.found.items) fault
    c.in_ok-found.ensures.pairs h)

pub returns-in_err-built-clause-unsolved : goal.returns-in_err-built-clause-unsolved
returns-in_err-built-clause-unsolved g c fault h =
    absurd (paired_or_found c.args.sections.now (map pair_parts c.in_ok-found.found.items) fault
    c.in_ok-found.ensures.pairs h)

pub returns-clause-unsolved : goal.returns-clause-unsolved
returns-clause-unsolved g c fault h =
    absurd (paired_or_found c.args.sections.now (map pair_parts c.in_ok-found.found.items) fault
    c.in_ok-found.ensures.pairs h)
