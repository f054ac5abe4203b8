use Rattle.std.proofs.Common.{List, ◌≡◌, ◌+◌, ◌∷◌, [], length, ap, ◌∙◌, length-append, arith}
use Rattle.fku_types.specs.declared.points.Spot.{Spot}
use Rattle.text_io.specs.Text.{words}
use Rattle.section_edits.proofs.Wording.{no_first, no_second, no_place, one_place, all_places}
use Rattle.section_edits.proofs.lines.spots_of.Goals as goal

pub returns-in_default : goal.returns-in_default
returns-in_default c =
    let loop = c.loop-done in
    no_first (words c.args.line.now) (words loop.rest.now) loop.spots.items loop._done c.args.count
    loop.invariant.reads loop.invariant.count c.loop-done-test.true c.in_default.ensures

pub returns-in_default-split_word : goal.returns-in_default-split_word
returns-in_default-split_word c =
    let loop = c.loop-done in
    no_second (words c.args.line.now) (words loop.rest.now) loop.spots.items loop._done c.args.count c.in-Some.x.now
    (words c.in-Some.more.now) loop.invariant.reads loop.invariant.count c.loop-done-test.true c.in-Some.ensures
    c.in_default-split_word.ensures

pub returns-in_default-spot_of : goal.returns-in_default-spot_of
returns-in_default-spot_of c =
    let loop = c.loop-done in
    let two = c.in-Some-split_word in
    no_place (words c.args.line.now) (words loop.rest.now) loop.spots.items loop._done c.args.count c.in-Some.x.now
    two.y.now (words c.in-Some.more.now) (words two.more.now) loop.invariant.reads loop.invariant.count
    c.loop-done-test.true c.in-Some.ensures two.ensures c.in_default-spot_of.ensures

pub loop-done-preserved : goal.loop-done-preserved
loop-done-preserved c =
    let loop = c.loop-done in
    let two = c.in-Some-split_word in
    let spot = c.in-Some-spot_of.spot in
    let new = c.push.new.self.items in
    let longer : length new ≡ length loop.spots.items + 1 =
    ap (λ (ps : List Spot). length ps) c.in_ok-push.ensures.items ∙ length-append loop.spots.items (spot ∷ []) in
    record {
      count = omega (arith, longer, loop.invariant.count);
      reads = one_place (words c.args.line.now) (words loop.rest.now) loop.spots.items new c.in-Some.x.now two.y.now
          (words c.in-Some.more.now) (words two.more.now) spot loop.invariant.reads c.in-Some.ensures two.ensures
          c.in-Some-spot_of.ensures c.in_ok-push.ensures.items;
    }

pub returns-in-None : goal.returns-in-None
returns-in-None c =
    let loop = c.loop-done in (
      omega (arith, loop.invariant.count, c.loop-done-test.false),
      all_places (words c.args.line.now) (words loop.rest.now) loop.spots.items loop.invariant.reads
          c.in-None.ensures,
    )
