use Rattle.std.proofs.Common.{◌+◌, ◌∷◌, [], drop, length, List, inr, refl, sym, subst, ap, arith, length-append}
use Rattle.std.specs.Prelude.{slice_range}
use Rattle.text_io.specs.Text.{lines, words, kept_from}
use Rattle.pair_commands.specs.declared.mark_lines.PairMark.{PairMark}
use Rattle.pair_commands.specs.MarkReading.{MarksSoFar}
use Rattle.pair_commands.proofs.MarkLines.{all_numbers, long_line, marks_end, marks_fault, marks_more, marks_none}
use Rattle.pair_commands.proofs.mark_lines.marks_behind.Goals as goal

pub loop-line-init : goal.loop-line-init
loop-line-init c =
    let tail = kept_from (c.args.passed + 1) (lines (drop c.args.at c.args.bytes.now)) in
    record {
      within = c.requires.at;
      counted = omega arith;
      short = omega (arith, ap length c.new-marks.ensures.items);
      so_far = subst (λ (ms : List PairMark). MarksSoFar tail ms tail) (sym c.new-marks.ensures.items)
          (marks_none tail);
    }

pub loop-line-preserved : goal.loop-line-preserved
loop-line-preserved c =
    let bytes = c.args.bytes.now in
    let tail = kept_from (c.args.passed + 1) (lines (drop c.args.at bytes)) in
    let line = c.in-Some.line in
    let found = c.in-Some.ensures.found in
    let ws = words (slice_range bytes line.first line.end) in
    let mark = c.in-Some-mark_of.mark in
    let old = c.loop-line.marks.items in
    let new = c.push.new.marks.items in
    let long = long_line bytes line.first line.end mark c.in-Some-mark_of.ensures in
    record {
      within = found.in_order.3;
      counted = omega (arith, found.counted.1, c.loop-line.invariant.counted);
      short = omega (
        arith,
        ap length c.in_ok-push.ensures,
        length-append old (mark ∷ []),
        long,
        found.in_order.0,
        found.in_order.2,
        c.loop-line.invariant.short,
      );
      so_far = marks_more tail (kept_from (c.loop-line.number + 1) (lines (drop c.loop-line.from bytes)))
          (kept_from (line.number + 1) (lines (drop line.next bytes))) old new line.number ws mark
          c.loop-line.invariant.so_far
          found.kept c.in-Some-mark_of.ensures c.in_ok-push.ensures;
    }

pub returns-in_default-mark_of-clause-fault : goal.returns-in_default-mark_of-clause-fault
returns-in_default-mark_of-clause-fault c =
    let bytes = c.args.bytes.now in
    let line = c.in-Some.line in
    inr (marks_fault (kept_from (c.args.passed + 1) (lines (drop c.args.at bytes)))
    (kept_from (c.loop-line.number + 1) (lines (drop c.loop-line.from bytes)))
    (kept_from (line.number + 1) (lines (drop line.next bytes))) c.loop-line.marks.items
    line.number (words (slice_range bytes line.first line.end)) c.loop-line.invariant.so_far
    c.in-Some.ensures.found.kept c.in_default-mark_of.ensures)

pub returns-clause-numbers : goal.returns-clause-numbers
returns-clause-numbers c =
    let bytes = c.args.bytes.now in
    let tail = kept_from (c.args.passed + 1) (lines (drop c.args.at bytes)) in
    let rest = kept_from (c.loop-line.number + 1) (lines (drop c.loop-line.from bytes)) in
    all_numbers tail c.loop-line.marks.items
    (marks_end tail rest c.loop-line.marks.items c.loop-line.invariant.so_far (c.in_default.ensures.none.0 refl))
