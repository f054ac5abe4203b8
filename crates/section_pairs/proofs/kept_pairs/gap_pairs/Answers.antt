use Rattle.std.proofs.Common.{map, ap, sym, subst, ◌∙◌, List}
use Rattle.std.specs.Prelude.{All, Ok}
use Rattle.section_pairs.specs.Pairs.{PairParts}
use Rattle.section_pairs.specs.Unchanged.{CanMovePair, moved_pair}
use Rattle.section_pairs.proofs.SectionRings.{few_in_all}
use Rattle.section_pairs.proofs.RangeLaws.{one_result}
use Rattle.section_pairs.proofs.Moved.{members_same, pairs_moved, pairs_movable, sides_stay}
use Rattle.section_pairs.proofs.kept_pairs.gap_pairs.Goals as goal

pub moved_pairs-requires : goal.moved_pairs-requires
moved_pairs-requires c =
    let e = c.requires.same c.if-same.true in
    let k = c.requires.known e.there in
    let read = c.sections-all.ensures in
    let few = few_in_all c.sections-all.result.now c.args.sections.now read.«data» read.kept in
    subst (λ (ps : List PairParts). All (CanMovePair c.args.low c.args.high) ps) (sym k.pairs)
    (pairs_movable c.args.old.now c.args.sections.now c.args.gap c.args.low c.args.high k.members e
    c.requires.shifts few)

pub returns-in_ok-moved_pairs : goal.returns-in_ok-moved_pairs
returns-in_ok-moved_pairs c =
    let S = c.args.old.now in
    let T = c.args.sections.now in
    let g = c.args.gap in
    let e = c.requires.same c.if-same.true in
    let k = c.requires.known e.there in
    let moved = c.in_ok-moved_pairs.ensures in
    one_result T g k.members (Ok c.in_ok-moved_pairs.field-0) (members_same S T g k.members e k.are_members)
    (moved.pairs ∙ ap (map (moved_pair c.args.low c.args.high)) k.pairs
    ∙ pairs_moved S T g c.args.low c.args.high k.members e c.requires.shifts) moved.strips
    (sides_stay S T g k.members e k.short) tt
