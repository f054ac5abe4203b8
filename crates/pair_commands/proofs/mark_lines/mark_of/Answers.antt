use Rattle.std.proofs.Common.{pos, arith}
use Rattle.std.specs.Prelude.{codes}
use Rattle.text_io.specs.Text.{words}
use Rattle.text_io.specs.WordLists.{text, number}
use Rattle.text_io.proofs.WordLaws.{keyword_none, word_tail, count_none}
use Rattle.pair_commands.proofs.MarkLines.{from_pair, from_row, from_col}
use Rattle.pair_commands.proofs.mark_lines.mark_of.Goals as goal

pub returns-in_default : goal.returns-in_default
returns-in_default c x s = keyword_none (words c.args.line.now) (codes "MARK") (from_pair x) c.in_default.ensures
    s.match

pub returns-in_default-split_count : goal.returns-in_default-split_count
returns-in_default-split_count c x s =
    let m = word_tail (words c.args.line.now) _ _ (text (codes "MARK")) (from_pair x) c.in-Some.ensures s.match in
    count_none _ 1 4294967295 x.pair (from_row x) c.in_default-split_count.ensures s.pair.0 (omega (arith, s.pair.1)) m

pub returns-in_default-split_count-2 : goal.returns-in_default-split_count-2
returns-in_default-split_count-2 c x s =
    let m = word_tail (words c.args.line.now) _ _ (text (codes "MARK")) (from_pair x) c.in-Some.ensures s.match in
    let n = word_tail _ _ _ (number (pos x.pair)) (from_row x) c.in-Some-split_count.ensures.words m in
    count_none _ 0 4294967295 x.mark.row (from_col x) c.in_default-split_count-2.ensures (omega arith)
    (omega (arith, s.row)) n

pub returns-in_default-split_count-3 : goal.returns-in_default-split_count-3
returns-in_default-split_count-3 c x s =
    let m = word_tail (words c.args.line.now) _ _ (text (codes "MARK")) (from_pair x) c.in-Some.ensures s.match in
    let n = word_tail _ _ _ (number (pos x.pair)) (from_row x) c.in-Some-split_count.ensures.words m in
    let o = word_tail _ _ _ (number (pos x.mark.row)) (from_col x) c.in-Some-split_count-2.ensures.words n in
    count_none _ 0 4294967295 x.mark.col _ c.in_default-split_count-3.ensures (omega arith) (omega (arith, s.col)) o
