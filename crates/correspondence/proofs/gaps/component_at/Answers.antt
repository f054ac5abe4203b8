use Rattle.std.proofs.Common.{◌≡◌, ◌∙◌, ◌-◌, ◌+◌, ℕ, List, Bool, length, take, drop, ap, ap₂, sym, subst, arith, take_all, Vec}
use Rattle.std.specs.Global.{Global}
use Rattle.std.proofs.lemmas.List.{length-map, length-drop}
use Rattle.correspondence.specs.Graphs.{table_of, adjacent, AreReached, marked_places}
use Rattle.correspondence.proofs.Gathering.{gathered_at}
use Rattle.correspondence.proofs.gaps.component_at.Goals as goal

-- a rest of marks that is taken as a whole
rest_places : (n : ℕ) (marks same : List Bool) → same ≡ marks
    → marked_places (take (length same - n) (drop n same)) ≡ marked_places (drop n marks)
rest_places n marks same e = ap marked_places
    (take_all (length same - n) (drop n same) (omega (arith, length-drop n same)) ∙ ap (drop n) e)

pub returns : goal.returns
returns c =
    let rows = c.args.rows.now in
    let marks = c.in_ok-marks.marks.items in
    let n : length rows ≡ length (table_of rows) = sym (length-map rows (λ (v : Vec Bool Global). v.items)) in
    gathered_at (table_of rows) c.args.columns c.args.root marks _
    (subst (λ (k : ℕ). AreReached (adjacent (table_of rows)) c.args.root (k + c.args.columns) marks) n
    c.in_ok-marks.ensures)
    (c.in_ok-below.ensures ∙ ap₂ (λ (k : ℕ) (ms : List Bool). marked_places (take k ms)) n c.deref.ensures.value)
    (c.in_ok-above.ensures ∙ rest_places (length rows) marks c.deref-2.result.now c.deref-2.ensures.value
    ∙ ap (λ (k : ℕ). marked_places (drop k marks)) n)
