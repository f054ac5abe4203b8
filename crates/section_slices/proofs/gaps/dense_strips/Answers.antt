use Rattle.std.proofs.Common.{◌∙◌, ◌++◌, ◌∷◌, [], ap, sym, arith, map, Bor, Vec, List, Bool, false, cond, append-nil}
use Rattle.std.specs.Global.{Global}
use Rattle.strip_graph.specs.Strips.{Strip}
use Rattle.pair_pool.specs.Solvers.{referents}
use Rattle.pair_pool.proofs.Referents.{referents_more}
use Rattle.section_pairs.specs.Pairs.{pair_parts}
use Rattle.section_slices.proofs.DenseGaps.{marked, count_marks, gap_there, strips_more, strips_so_far}
use Rattle.section_slices.proofs.gaps.dense_strips.Goals.{then-dense-pair+in_ok-push, else-dense-pair}
use Rattle.section_slices.proofs.gaps.dense_strips.Goals as goal

pub bounds-dense-pair : goal.bounds-dense-pair
bounds-dense-pair c =
    let S = c.args.sections.now in
    let ps = c.args.pairs.now in
    omega (
      arith,
      gap_there _ ps c.loop-pair.pair-index c.pair-item.result c.requires.gaps c.loop-pair-test.true c.pair-item.is,
      count_marks S (map pair_parts ps) c.args.dense.now c.requires.dense,
    )

pub loop-pair-preserved : goal.loop-pair-preserved
loop-pair-preserved c =
    let S = c.args.sections.now in
    let ps = c.args.pairs.now in
    let i = c.loop-pair.pair-index in
    let p = c.pair-item.result in
    let more = strips_more S ps i p c.loop-pair-test.true c.pair-item.is in
    let there = gap_there _ ps i p c.requires.gaps c.loop-pair-test.true c.pair-item.is in
    let mark = marked S (map pair_parts ps) c.args.dense.now p.gap false c.requires.dense (omega (arith, there)) in
    elim c.if-dense-pair.branch [
      | then-dense-pair+in_ok-push w ↦
          ap (λ (v : Vec (Bor Strip) Global). referents v.items) w.strips-is
          ∙ referents_more _ _ _ w.in_ok-push.ensures.items
          ∙ ap (λ (l : List Strip). l ++ p.pair ∷ []) c.loop-pair.invariant
          ∙ sym (more ∙ ap (λ (b : Bool). strips_so_far S ps i ++ cond b (p.pair ∷ []) [])
          (sym mark ∙ w.if-dense-pair.true))
      | else-dense-pair w ↦
          ap (λ (v : Vec (Bor Strip) Global). referents v.items) w.strips-is ∙ c.loop-pair.invariant
          ∙ sym (more ∙ ap (λ (b : Bool). strips_so_far S ps i ++ cond b (p.pair ∷ []) [])
          (sym mark ∙ w.if-dense-pair.false) ∙ append-nil (strips_so_far S ps i))
    ]
