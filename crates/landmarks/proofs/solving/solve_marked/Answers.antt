use Rattle.std.proofs.Common.{rules, ◌≡◌, ℕ, ◌+◌, IfErr, take}
use Rattle.std.proofs.lemmas.Result.{IfErr-weaker}
use Rattle.strip_graph.specs.Strips.{rows, cols}
use Rattle.landmarks.specs.declared.marks.MarkFault.TheVariants.{Cross}
use Rattle.landmarks.specs.Marks.{HaveNoTiling}
use Rattle.landmarks.specs.Faults.{AreSoundMarks, IsFirstFaultOfMarks}
use Rattle.landmarks.proofs.Crossed.{no_tiling}
use Rattle.landmarks.proofs.Unique.{solved_marked_unique}
use Rattle.landmarks.proofs.solving.solve_marked.Goals as goal

pub returns-in_err-test_marks-clause-crossed : goal.returns-in_err-test_marks-clause-crossed
returns-in_err-test_marks-clause-crossed c =
    let p = c.args.pair.now in
    let marks = c.args.marks.now in
    let fault : IfErr c.from_residual.result (IsFirstFaultOfMarks (rows p) (cols p) marks) = search rules in
    IfErr-weaker c.from_residual.result (IsFirstFaultOfMarks (rows p) (cols p) marks)
    (λ f. (q : ℕ) → f ≡ Cross q → HaveNoTiling (rows p) (cols p) (take (q + 1) marks)) (no_tiling p marks) fault

pub returns-clause-only : goal.returns-clause-only
returns-clause-only c =
    let good : AreSoundMarks (rows c.args.pair.now) (cols c.args.pair.now) c.args.marks.now = search rules in
    λ u h. solved_marked_unique c.args.pair.now c.args.marks.now c.in_ok-solve_good.field-0 u good
    c.in_ok-solve_good.ensures h
