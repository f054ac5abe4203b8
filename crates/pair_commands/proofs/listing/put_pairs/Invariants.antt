use Rattle.std.proofs.Common.{◌≡◌, ◌++◌, ◌+◌, map, drop}
use Rattle.section_core.specs.Views.{section_parts}
use Rattle.section_pairs.specs.Pairs.{pair_parts}
use Rattle.pair_commands.specs.Tilings.{pairs_text}
use Rattle.pair_commands.proofs.listing.put_pairs.Given as goal

abbrev pub invariant-loop-i : goal.invariant-loop-i
invariant-loop-i l =
    l.out.items ++ pairs_text (map section_parts l.sections) (l.before + 1 + l.i) (drop l.i (map pair_parts l.pairs))
    (drop l.i (drop l.before l.solved))
    ≡ l.fn.out.items ++ pairs_text (map section_parts l.sections) (l.before + 1) (map pair_parts l.pairs)
    (drop l.before l.solved)
