use Rattle.std.proofs.Common.{[], refl, sym, subst}
use Rattle.std.specs.List.{AllByRecursion}
use Rattle.std.proofs.lemmas.List.Elements.{All-from_recursion}
use Rattle.triangle_meshes.specs.Meshes.{triangle_lists}
use Rattle.triangle_meshes.specs.Joined.{IsBelow}
use Rattle.triangle_meshes.proofs.Parts.{part_read}
use Rattle.triangle_meshes.proofs.joining.add_parts.Goals as goal

pub raised_part-requires : goal.raised_part-requires
raised_part-requires c =
    let ps = c.args.parts.now in
    let i = c.loop-part.part-index in
    let part = part_read ps ps i c.part-item.result c.deref.result.now c.deref.ensures.value refl c.loop-part-test.true
    c.part-item.is in
    subst (AllByRecursion (IsBelow c.args.by)) (sym part.is)
    (All-from_recursion (AllByRecursion (IsBelow c.args.by)) (triangle_lists ps) c.requires i [] part.there)
