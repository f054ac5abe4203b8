use Rattle.std.proofs.Common.{◌≡◌, ◌++◌, map, take}
use Rattle.std.specs.List.{flat_map}
use Rattle.landmarks.specs.Marked.{part_of}
use Rattle.pair_commands.specs.Landmarks.{piece_text}
use Rattle.pair_commands.proofs.marks.put_pieces.Given as goal

abbrev pub invariant-loop-piece : goal.invariant-loop-piece
invariant-loop-piece l = l.out.items ≡ l.fn.out.items ++ flat_map piece_text (map part_of (take l.piece-index l.pieces))
