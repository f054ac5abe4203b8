use Rattle.std.proofs.Common.{sym, subst}
use Rattle.row_paths.specs.Solutions.{Solves}
use Rattle.section_slices.proofs.Outlines.{outline_is}
use Rattle.section_slices.proofs.loops.dense_outline.Goals as goal

pub returns : goal.returns
returns c =
    let x = c.index-solved-place.result in
    let p = c.args.pair.now in
    outline_is c.args.sections.now p x c.rise-rise.result c.in_ok-spots.spots.items
    (subst (Solves p.pair) (sym c.index-solved-place.is) (c.requires.solves x)) c.rise-rise.ensures.value
    c.in_ok-spots.ensures
