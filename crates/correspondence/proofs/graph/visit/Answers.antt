use Rattle.std.proofs.Common.{◌≡◌, ◌∙◌, ◌+◌, ◌<◌, inl, inr, Bool, length, arith, true, sym, ap, Vec, ℕ, List}
use Rattle.std.specs.Global.{Global}
use Rattle.correspondence.specs.Graphs.{table_of, adjacent, mark}
use Rattle.correspondence.proofs.Adjacent.{below_apart, above_apart}
use Rattle.correspondence.proofs.Visiting.{visits_begin, visits_end, visits_mark, visits_pass, visits_at}
use Rattle.correspondence.proofs.graph.visit.Goals as goal
use Rattle.correspondence.proofs.graph.visit.Goals.{then-not-marks-to+then-adjacent+in_ok-push, else-not-marks-to, else-not-marks-to-via-then-not-marks-to+else-adjacent, else-not-marks-to-via-else-not-marks-to}
use Rattle.std.proofs.lemmas.Bool.{both_ways, cases_lt}
use Rattle.std.proofs.lemmas.List.{length-map}

abbrev items : Vec ℕ Global → List ℕ
items v = v.items

pub loop-to-init : goal.loop-to-init
loop-to-init c =
    let rows = c.args.rows.now in
    let table = table_of rows in
    let n = length-map rows (λ (v : Vec Bool Global). v.items) in
    visits_begin (adjacent table) c.args.from c.opposite_begin-begin.result c.args.marks.now c.args.waiting.now.items
    (λ k l r. elim (cases_lt c.args.from (length rows)) [
      | inl b ↦ below_apart table c.args.from k (omega (arith, n, b))
          (omega (arith, n, l, c.opposite_begin-begin.ensures.of_below b)) r
      | inr g ↦ absurd (omega (arith, l, c.opposite_begin-begin.ensures.of_above g))
    ])

pub returns : goal.returns
returns c =
    let rows = c.args.rows.now in
    let table = table_of rows in
    let n = length-map rows (λ (v : Vec Bool Global). v.items) in
    let end = c.loop-to-test.false in
    visits_end (adjacent table) c.args.from c.loop-to.to (length c.args.marks.now) c.args.marks.now c.loop-to.marks
    c.args.waiting.now.items c.loop-to.waiting.items (λ k g l r. elim (cases_lt c.args.from (length rows)) [
      | inl b ↦ absurd (omega (arith, g, l, end, c.opposite_end-end.ensures.of_below b))
      | inr a ↦ above_apart table c.args.from k (omega (arith, n, a))
          (omega (arith, n, g, l, end, c.opposite_end-end.ensures.of_above a)) r
    ]) c.loop-to.invariant

pub loop-to-preserved : goal.loop-to-preserved
loop-to-preserved c =
    let R = adjacent (table_of c.args.rows.now) in
    let from = c.args.from in
    let to = c.loop-to.to in
    let old = c.args.marks.now in
    let before = c.args.waiting.now.items in
    let h = c.loop-to.invariant in
    let pass = λ (r : R from to ≡ true → mark c.loop-to.marks to ≡ true).
    visits_pass R from to old c.loop-to.marks before c.loop-to.waiting.items h r in
    let within : to < length c.loop-to.marks =
    omega (arith, h.size, c.loop-to-test.true, c.opposite_end-end.ensures.within) in
    elim c.if-not-marks-to.branch [
      | then-not-marks-to+then-adjacent+in_ok-push w ↦
          visits_at R from (to + 1) old _ c.if-not-marks-to.marks before _ c.if-not-marks-to.waiting.items w.marks-is
          (ap items w.waiting-is ∙ w.in_ok-push.ensures.items)
          (visits_mark R from to old c.loop-to.marks before c.loop-to.waiting.items h within w.if-not-marks-to.true
          (sym w.adjacent.ensures ∙ w.if-adjacent.true))
      | else-not-marks-to w ↦ visits_at R from (to + 1) old _ c.if-not-marks-to.marks before _
          c.if-not-marks-to.waiting.items w.marks-is (ap items w.waiting-is) (elim w.else-not-marks-to.branch [
            | else-not-marks-to-via-then-not-marks-to+else-adjacent v ↦ pass
                (λ r. absurd (both_ways (R from to) (sym v.adjacent.ensures ∙ v.if-adjacent.false) r))
            | else-not-marks-to-via-else-not-marks-to v ↦ pass (λ r. v.if-not-marks-to.false)
          ])
    ]
