use Rattle.std.proofs.Common.{◌<◌, length, sym, ◌∙◌, arith}
use Rattle.std.proofs.lemmas.Bool.{eqb-false}
use Rattle.pair_commands.proofs.MarkTexts.{some_lines}
use Rattle.pair_commands.proofs.marks.put_pair.Goals as goal

pub returns : goal.returns
returns c =
    let marks = c.args.marks.now in
    let full : 0 < length marks = omega
    (arith, eqb-false (length marks) 0 (sym c.is_empty.ensures ∙ c.if-is_empty.false)) in
    some_lines c.args.number c.args.pair.now marks c.args.out.now.items c.put_marked.new.out.items c.in_ok-marked.marked
    full (record { some = full; few = c.requires.few; good = c.requires.good }) c.in_ok-marked.ensures
    c.in_ok-put_marked.ensures
