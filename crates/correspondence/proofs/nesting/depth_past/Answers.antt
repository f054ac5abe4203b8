use Rattle.std.proofs.Common.{◌≡◌, ℕ, ◌+◌, ◌-◌, ◌<◌, map, length, subst, arith}
use Rattle.std.proofs.lemmas.List.{length-map}
use Rattle.correspondence.specs.Bounding.{LieBeside}
use Rattle.correspondence.specs.Contours.{points_of}
use Rattle.correspondence.specs.Nesting.{IsDepthAmong}
use Rattle.correspondence.proofs.Beside.{told_not_in}
use Rattle.correspondence.proofs.ContourReads.{first_read}
use Rattle.correspondence.proofs.Nested.{few_contours, among_more, among_passed, none_among}
use Rattle.correspondence.proofs.nesting.depth_past.Goals as goal
use Rattle.correspondence.proofs.nesting.depth_past.Goals.{then-lies_within, else-lies_within}

pub returns-then-lie_beside : goal.returns-then-lie_beside
returns-then-lie_beside c =
    let contours = map points_of c.args.contours.now in
    let group = c.args.group.now in
    let g = c.requires.group in
    let first = first_read c.args.contours.now c.args.place c.index-contours-place.result c.index.result.now _
    c.requires.outlines c.requires.place c.index.ensures in
    let beside = subst (LieBeside group.bounds) first (c.lie_beside.ensures c.if-lie_beside.true) in
    let end : group.begin + (group.end - group.begin) ≡ group.end = omega (arith, g.some) in
    subst (λ (e : ℕ). IsDepthAmong contours c.args.place e c.args.before) end
    (none_among contours c.args.place group.begin c.args.before (group.end - group.begin) (omega (arith, end, g.whole))
    c.requires.before
    (λ k from below. told_not_in contours c.args.place k group.bounds (g.enclosed k from (omega (arith, end, below)))
    beside))

pub overflow_add-count : goal.overflow_add-count
overflow_add-count c =
    let few = few_contours c.args.contours.now c.requires.outlines in
    omega (
      arith,
      few,
      c.loop-other.invariant.few,
      c.loop-other-test.true,
      c.requires.group.whole,
      length-map c.args.contours.now points_of,
    )

pub loop-other-preserved : goal.loop-other-preserved
loop-other-preserved c =
    let contours = map points_of c.args.contours.now in
    let other = c.loop-other.other in
    let within : other < length contours = omega (arith, c.loop-other-test.true, c.requires.group.whole) in
    let test = c.lies_within.ensures.test in
    let lies = c.lies_within.ensures.lies in
    elim c.if-lies_within.branch [
      | then-lies_within w ↦ among_more contours c.args.place other c.loop-other.count c.if-lies_within.count
          c.lies_within.result within test lies w.if-lies_within.true (omega arith) c.loop-other.invariant
      | else-lies_within w ↦ among_passed contours c.args.place other c.loop-other.count c.if-lies_within.count
          c.lies_within.result within test lies w.if-lies_within.false (omega arith) c.loop-other.invariant
    ]
