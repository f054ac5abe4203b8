use Rattle.std.proofs.Common.{◌++◌, ◌∷◌, [], ℤ, ap, ◌∙◌, SFits, to_z-of_z, arith}
use mir.Syntax.{w128}
use Rattle.std.proofs.lemmas.Int.{ints}
use Rattle.strip_graph.specs.Certificates.{IsModest}
use Rattle.text_io.specs.Text.{words}
use Rattle.cert_checker.proofs.RowWords.{row_none, row_more, row_wrong, row_short, row_long, row_whole}
use Rattle.cert_checker.proofs.reading.read_row.Goals as goal

pub loop-done-init : goal.loop-done-init
loop-done-init c = row_none c.args.values.now.items (words c.args.line.now)

modest_fits : (z : ℤ) → IsModest z → SFits w128 z
modest_fits z h = omega (arith, ints, h)

pub loop-done-preserved : goal.loop-done-preserved
loop-done-preserved c =
    let value = c.in-Some-value_of.value in
    let pushed = c.in_ok-push.ensures.items
    ∙ ap (λ (z : ℤ). c.loop-done.values.items ++ z ∷ [])
    (to_z-of_z (modest_fits value c.in-Some-value_of.ensures.1)) in
    row_more c.args.values.now.items c.loop-done.values.items c.push.new.self.items (words c.args.line.now)
    c.in-Some.word.now (words c.in-Some.more.now) (words c.loop-done.rest.now) c.loop-done._done value c.in-Some.ensures
    c.in-Some-value_of.ensures pushed c.loop-done.invariant

pub returns-in_default-value_of : goal.returns-in_default-value_of
returns-in_default-value_of c =
    row_wrong c.args.values.now.items c.loop-done.values.items (words c.args.line.now) (words c.loop-done.rest.now)
    c.loop-done._done c.args.width c.in-Some.word.now (words c.in-Some.more.now) c.loop-done.invariant c.in-Some.ensures
    c.loop-done-test.true c.in_default-value_of.ensures

pub returns-in-None : goal.returns-in-None
returns-in-None c =
    row_whole c.args.values.now.items c.loop-done.values.items (words c.args.line.now) (words c.loop-done.rest.now)
    c.loop-done._done c.args.width c.loop-done.invariant c.in-None.ensures (omega (arith, c.loop-done-test.false))

pub returns-in_default : goal.returns-in_default
returns-in_default c =
    row_short c.args.values.now.items c.loop-done.values.items (words c.args.line.now) (words c.loop-done.rest.now)
    c.loop-done._done c.args.width c.loop-done.invariant c.in_default.ensures c.loop-done-test.true

pub returns-in-Some-split_word : goal.returns-in-Some-split_word
returns-in-Some-split_word c =
    row_long c.args.values.now.items c.loop-done.values.items (words c.args.line.now) (words c.loop-done.rest.now)
    c.loop-done._done c.args.width _ _ c.loop-done.invariant c.in-Some-split_word.ensures
    (omega (arith, c.loop-done-test.false))
