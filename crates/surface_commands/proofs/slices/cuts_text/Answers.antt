use Rattle.std.proofs.Common.{◌≡◌, sym, ◌∙◌, length, arith, w32, to_z, of_z}
use Rattle.command_replies.proofs.ObjectTexts.{object_count}
use Rattle.surface_commands.proofs.SliceLemmas.{texts_more}
use Rattle.surface_commands.proofs.slices.cuts_text.Goals as goal

pub bounds-cuts-i : goal.bounds-cuts-i
bounds-cuts-i c = omega (
  arith,
  c.loop-i-test.true,
  c.requires,
  object_count c.args.objects.now c.items-items.result.now c.items-items.ensures.parts,
)

pub loop-i-preserved : goal.loop-i-preserved
loop-i-preserved c =
    let F = c.args.objects.now in
    let items = c.items-items.result.now in
    let same : length items ≡ length c.args.cuts.now = object_count F items c.items-items.ensures.parts
    ∙ sym c.requires in
    texts_more F.version (to_z w32 (of_z w32 c.args.z)) items c.args.cuts.now c.loop-i.i c.index-items-i.result
    c.index-cuts-i.result c.loop-i.text.items c.put_cut_of.new.out.items same c.loop-i-test.true c.index-items-i.is
    c.index-cuts-i.is c.loop-i.invariant
    (c.in_ok-put_cut_of.ensures F.version c.version-version.ensures)
