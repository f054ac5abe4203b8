use Rattle.std.proofs.Common.{◌⊎◌, ◌∙◌, ℕ, sym}
use Rattle.std.proofs.lemmas.Bool.{false≢true}
use borrow.Author.Count.{below_more}
use Rattle.landmarks.specs.Faults.{mark_at, GoAcross}
use Rattle.landmarks.proofs.faults.is_crossed.Goals as goal

pub loop-earlier-preserved : goal.loop-earlier-preserved
loop-earlier-preserved c =
    let a = c.args in
    let marks = a.marks.now in
    let first = mark_at marks 0 in
    let mark = mark_at marks a.place in
    let n = a.rows in
    let m = a.cols in
    below_more
    (λ (e : ℕ). GoAcross n m first (mark_at marks e) mark ⊎ GoAcross n m first mark (mark_at marks e) → ⊥)
    c.loop-earlier.earlier c.loop-earlier.invariant
    (λ h. absurd (false≢true (sym c.if-go_across.false ∙ c.go_across.ensures.1 h)))
