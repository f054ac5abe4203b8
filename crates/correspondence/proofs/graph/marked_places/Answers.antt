use Rattle.std.proofs.Common.{◌∙◌, ap, Vec, ℕ, List}
use Rattle.std.specs.Global.{Global}
use Rattle.correspondence.specs.Graphs.{mark}
use Rattle.correspondence.proofs.Marked.{filter_yes, filter_no}
use Rattle.correspondence.proofs.graph.marked_places.Goals as goal
use Rattle.correspondence.proofs.graph.marked_places.Goals.{then-marks-place+in_ok-push, else-marks-place}

abbrev items : Vec ℕ Global → List ℕ
items v = v.items

pub loop-place-preserved : goal.loop-place-preserved
loop-place-preserved c =
    let p = mark c.args.marks.now in
    elim c.if-marks-place.branch [
      | then-marks-place+in_ok-push w ↦ filter_yes p c.loop-place.place c.loop-place.places.items
          c.if-marks-place.places.items w.if-marks-place.true c.loop-place.invariant
          (ap items w.places-is ∙ w.in_ok-push.ensures.items)
      | else-marks-place w ↦ ap items w.places-is
          ∙ filter_no p c.loop-place.place c.loop-place.places.items w.if-marks-place.false c.loop-place.invariant
    ]
