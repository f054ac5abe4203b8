use Rattle.std.proofs.Common.{◌≡◌, false, true, map, subst}
use Rattle.correspondence.specs.Bounding.{LieBeside}
use Rattle.correspondence.specs.Contours.{points_of}
use Rattle.correspondence.proofs.Beside.{told_not_in}
use Rattle.correspondence.proofs.ContourReads.{first_read}
use Rattle.correspondence.proofs.nesting.lies_within.Goals as goal

pub returns-then-lie_beside : goal.returns-then-lie_beside
returns-then-lie_beside c =
    let contours = map points_of c.args.contours.now in
    let first = first_read c.args.contours.now c.args.place c.index-contours-place.result c.index.result.now _
    c.requires.outlines c.requires.place c.index.ensures in
    let out = told_not_in contours c.args.place c.args.other c.args.bounds c.requires.bounds
    (subst (LieBeside c.args.bounds) first (c.lie_beside.ensures c.if-lie_beside.true)) in
    record {
      test = out.0;
      lies = (λ n. absurd (let k : false ≡ true = n in cc), λ w. absurd (out.1 w));
    }
