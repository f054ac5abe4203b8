use Rattle.std.proofs.Common.{rules, arith, ◌≡◌, ◌+◌, ◌*◌, ap, ◌∙◌, unsigned_abs, SFits, to_z, of_z}
use mir.Syntax.{w128}
use Rattle.std.proofs.lemmas.Int.{ints}
use Rattle.strip_graph.specs.Strips.{arcs, rows, cols}
use Rattle.strip_graph.specs.Distances.{offset}
use Rattle.strip_graph.proofs.Telescoping.{offset_next}
use Rattle.row_paths.proofs.OffsetLaws.{cost_to_next, cost_at_next, cost_small, offset_fits, offsets_more}
use Rattle.row_paths.proofs.offsets.row_offsets.Goals as goal

pub next_offset-offset-requires-clause-offset : goal.next_offset-offset-requires-clause-offset
next_offset-offset-requires-clause-offset c =
    let m : c.rows-rows.result ≡ rows c.args.layout.now = search rules in
    let b = offset_fits c.args.layout.now c.loop-row.row c.rows-rows.ensures.strip (omega (arith, c.loop-row-test.true))
    in
    let e = ap unsigned_abs c.loop-row.invariant.offset in
    omega (arith, b, e)

pub next_offset-offset-requires-clause-to_next : goal.next_offset-offset-requires-clause-to_next
next_offset-offset-requires-clause-to_next c =
    let m : c.rows-rows.result ≡ rows c.args.layout.now = search rules in
    omega (
      arith,
      c.requires.are (2 * c.loop-row.row + 1) (omega (arith, c.loop-row-test.true)),
      cost_small c.args.layout.now (2 * c.loop-row.row + 1) c.rows-rows.ensures.strip,
    )

pub next_offset-offset-requires-clause-at_next : goal.next_offset-offset-requires-clause-at_next
next_offset-offset-requires-clause-at_next c =
    let m : c.rows-rows.result ≡ rows c.args.layout.now = search rules in
    omega (
      arith,
      c.requires.are (2 * c.loop-row.row + 2) (omega (arith, c.loop-row-test.true)),
      cost_small c.args.layout.now (2 * c.loop-row.row + 2) c.rows-rows.ensures.strip,
    )

pub loop-row-preserved : goal.loop-row-preserved
loop-row-preserved c =
    let a = arcs c.args.layout.now in
    let m = rows c.args.layout.now in
    let n = cols c.args.layout.now in
    let m' : c.rows-rows.result ≡ rows c.args.layout.now = search rules in
    let row = c.loop-row.row in
    let next = c.requires.are (2 * row + 1) (omega (arith, c.loop-row-test.true)) ∙ cost_to_next a m n row in
    let here = c.requires.are (2 * row + 2) (omega (arith, c.loop-row-test.true)) ∙ cost_at_next a m n row in
    let f : SFits w128 c.next_offset-offset.result = search rules in
    let is : to_z w128 (of_z w128 c.next_offset-offset.result) ≡ offset a m n (row + 1) =
    omega (
      arith,
      ints,
      c.next_offset-offset.ensures,
      c.loop-row.invariant.offset,
      offset_next a m n row,
      next,
      here,
    ) in
    record {
      offsets = offsets_more a m n (row + 1) _ c.loop-row.offsets.items c.push-in-loop-row.new.self.items
          c.in_ok-push-2.ensures.items is c.loop-row.invariant.offsets;
      offset = is;
    }
