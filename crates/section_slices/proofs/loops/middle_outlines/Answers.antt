use Rattle.std.proofs.Common.{◌≡◌, ◌∙◌, ◌∷◌, [], ap, sym, arith, map, length, cond, Vec, Bool, true, false}
use Rattle.std.specs.Global.{Global}
use Rattle.std.proofs.lemmas.Bool.{true≢false}
use Rattle.fku_types.specs.declared.points.Spot.{Spot}
use Rattle.section_pairs.specs.Pairs.{pair_parts}
use Rattle.section_slices.specs.Densified.{is_dense}
use Rattle.std.proofs.Math.ListN.{length-append}
use Rattle.section_slices.proofs.DenseGaps.{marked, count_marks, gap_there}
use Rattle.section_slices.proofs.Outlines.{dense_rise, rank_more, dense_test, solution_there, solution_is, so_far_more}
use Rattle.section_slices.proofs.loops.middle_outlines.Goals.{then-dense-pair+in_ok-dense_outline+in_ok-push, else-dense-pair+in_ok-push-2}
use Rattle.section_slices.proofs.loops.middle_outlines.Goals as goal

pub bounds-dense-pair : goal.bounds-dense-pair
bounds-dense-pair c =
    omega (
      arith,
      gap_there _ c.args.pairs.now c.loop-pair.pair-index c.pair-item.result c.requires.gaps c.loop-pair-test.true
          c.pair-item.is,
      count_marks c.args.sections.now (map pair_parts c.args.pairs.now) c.args.dense.now c.requires.dense,
    )

pub dense_outline-requires-clause-dense : goal.dense_outline-requires-clause-dense
dense_outline-requires-clause-dense c =
    let S = c.args.sections.now in
    let ps = c.args.pairs.now in
    let p = c.pair-item.result in
    let there = gap_there _ ps c.loop-pair.pair-index p c.requires.gaps c.loop-pair-test.true c.pair-item.is in
    dense_rise S (map pair_parts ps) p.gap
    (sym (marked S (map pair_parts ps) c.args.dense.now p.gap false c.requires.dense (omega (arith, there)))
    ∙ c.if-dense-pair.true)

pub dense_outline-requires-clause-there : goal.dense_outline-requires-clause-there
dense_outline-requires-clause-there c =
    let S = c.args.sections.now in
    let ps = c.args.pairs.now in
    let p = c.pair-item.result in
    let there = gap_there _ ps c.loop-pair.pair-index p c.requires.gaps c.loop-pair-test.true c.pair-item.is in
    let yes = sym (marked S (map pair_parts ps) c.args.dense.now p.gap false c.requires.dense (omega (arith, there)))
    ∙ c.if-dense-pair.true in
    omega (
      arith,
      c.loop-pair.invariant.next,
      solution_there S ps c.args.solved.now c.loop-pair.pair-index p c.requires.solved c.loop-pair-test.true
          c.pair-item.is yes,
    )

pub dense_outline-requires-clause-solves : goal.dense_outline-requires-clause-solves
dense_outline-requires-clause-solves c x =
    let S = c.args.sections.now in
    let ps = c.args.pairs.now in
    let p = c.pair-item.result in
    let xs = c.args.solved.now in
    let there = gap_there _ ps c.loop-pair.pair-index p c.requires.gaps c.loop-pair-test.true c.pair-item.is in
    let yes = sym (marked S (map pair_parts ps) c.args.dense.now p.gap false c.requires.dense (omega (arith, there)))
    ∙ c.if-dense-pair.true in
    solution_is S ps xs c.loop-pair.pair-index p x c.requires.solved c.loop-pair-test.true c.pair-item.is yes
    c.loop-pair.next c.loop-pair.invariant.next

pub loop-pair-preserved : goal.loop-pair-preserved
loop-pair-preserved c =
    let S = c.args.sections.now in
    let ps = c.args.pairs.now in
    let i = c.loop-pair.pair-index in
    let p = c.pair-item.result in
    let inv = c.loop-pair.invariant in
    let there = gap_there _ ps i p c.requires.gaps c.loop-pair-test.true c.pair-item.is in
    let mark = marked S (map pair_parts ps) c.args.dense.now p.gap false c.requires.dense (omega (arith, there)) in
    let more = rank_more (dense_test S ps) ps i p c.loop-pair-test.true c.pair-item.is in
    elim c.if-dense-pair.branch [
      | then-dense-pair+in_ok-dense_outline+in_ok-push w ↦ (
          let pushed = ap (λ (v : Vec (Vec Spot Global) Global). v.items) w.outlines-is ∙ w.in_ok-push.ensures.items in
          let yes : is_dense S (map pair_parts ps) p.gap ≡ true = sym mark ∙ w.if-dense-pair.true in
          let one : length (cond (dense_test S ps (pair_parts p)) (pair_parts p ∷ []) []) ≡ 1 =
          ap (λ (b : Bool). length (cond b (pair_parts p ∷ []) [])) yes in
          record {
            count = omega (
              arith,
              ap length pushed,
              length-append c.loop-pair.outlines.items (w.in_ok-dense_outline.field-0 ∷ []),
              inv.count,
            );
            next = omega (arith, w.next-is, inv.next, more, one);
            few = omega (arith, w.next-is, inv.few);
            each = so_far_more S ps c.loop-pair.outlines.items c.if-dense-pair.outlines.items
                w.in_ok-dense_outline.field-0 i p inv.count c.loop-pair-test.true c.pair-item.is pushed
                (λ e. w.in_ok-dense_outline.ensures) inv.each;
          }
          )
      | else-dense-pair+in_ok-push-2 w ↦ (
          let pushed = ap (λ (v : Vec (Vec Spot Global) Global). v.items) w.outlines-is
          ∙ w.in_ok-push-2.ensures.items in
          let no : is_dense S (map pair_parts ps) p.gap ≡ false = sym mark ∙ w.if-dense-pair.false in
          let none : length (cond (dense_test S ps (pair_parts p)) (pair_parts p ∷ []) []) ≡ 0 =
          ap (λ (b : Bool). length (cond b (pair_parts p ∷ []) [])) no in
          record {
            count = omega (
              arith,
              ap length pushed,
              length-append c.loop-pair.outlines.items (w.new.result ∷ []),
              inv.count,
            );
            next = omega (arith, w.next-is, inv.next, more, none);
            few = omega (arith, w.next-is, inv.few);
            each = so_far_more S ps c.loop-pair.outlines.items c.if-dense-pair.outlines.items w.new.result i p inv.count
                c.loop-pair-test.true c.pair-item.is pushed (λ e. absurd (true≢false (sym e ∙ no))) inv.each;
          }
          )
    ]
