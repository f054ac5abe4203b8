use Rattle.std.proofs.Common.{◌≡◌, ◌+◌, ◌-◌, ◌≤◌, ◌++◌}
use Rattle.round_sweeps.specs.Searched.{spell, guarded}
use Rattle.round_sweeps.specs.Searches.{way_at}
use Rattle.round_sweeps.proofs.turns.spell_ways.Given as goal

abbrev pub invariant-loop-letter : goal.invariant-loop-letter
invariant-loop-letter l = record {
  place : l.row + l.col ≡ l.letter;
  row_in : l.row ≤ l.rows;
  col_in : l.col ≤ l.cols;
  spelled : l.word.items ++ spell (guarded l.rows l.cols (way_at l.rows l.ways)) (l.rows + l.cols - l.letter) l.row
      l.col ≡ spell (guarded l.rows l.cols (way_at l.rows l.ways)) (l.rows + l.cols) 0 0;
}
