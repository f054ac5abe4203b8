use Rattle.std.proofs.Common.{◌≡◌, ◌++◌, ◌+◌, ◌∙◌, ◌<◌, ℕ, List, length, map, drop, sym, ap, subst, subst₂, arith}
use Rattle.std.proofs.lemmas.List.{length-map}
use Rattle.section_core.specs.Objects.{object_parts}
use Rattle.section_core.specs.Parts.{SectionParts}
use Rattle.surface_core.specs.Objects.{pair_lists}
use Rattle.section_pairs.specs.Pairs.{PairParts, pair_parts}
use Rattle.pair_commands.specs.Tilings.{objects_text, pairs_text}
use Rattle.command_replies.proofs.ObjectTexts.{held, list_at, lists_next, object_count, part_at}
use Rattle.pair_commands.proofs.TilingsLemmas.{object_more}
use Rattle.pair_commands.proofs.listing.tilings_text.Goals as goal

pub put_pairs-requires : goal.put_pairs-requires
put_pairs-requires c =
    let F = c.args.objects.now in
    let i = c.loop-i.i in
    let v = c.index-pairs-i.result in
    let there = object_count F c.items-items.result.now c.items-items.ensures.parts in
    let inside : i < length c.args.pairs.now = omega (arith, c.loop-i-test.true, there, c.requires.objects) in
    let next = lists_next c.args.pairs.now i v inside c.index-pairs-i.is in
    omega (arith, c.loop-i.invariant.count, next, ap length c.as_slice-list.ensures.value)

pub loop-i-preserved : goal.loop-i-preserved
loop-i-preserved c =
    let F = c.args.objects.now in
    let items = c.items-items.result.now in
    let parts = c.items-items.ensures.parts in
    let o = c.index-items-i.result in
    let i = c.loop-i.i in
    let count = c.loop-i.count in
    let v = c.index-pairs-i.result in
    let ps = map pair_parts v.items in
    let lists = pair_lists c.args.pairs.now in
    let xs = c.args.solved.now in
    let new = c.put_pairs.new.out.items in
    let there = object_count F items parts in
    let inside : i < length c.args.pairs.now = omega (arith, c.loop-i-test.true, there, c.requires.objects) in
    let next = lists_next c.args.pairs.now i v inside c.index-pairs-i.is in
    let size : length c.as_slice-list.result.now ≡ length ps = ap length c.as_slice-list.ensures.value
    ∙ sym (length-map v.items pair_parts) in
    let written =
    subst₂ (λ (ss : List SectionParts) (qs : List PairParts). new ≡ c.put_object.new.out.items
    ++ pairs_text ss (count + 1) qs (drop count xs)) c.sections.ensures.parts
    (ap (map pair_parts) c.as_slice-list.ensures.value) c.in_ok-put_pairs.ensures in
    let more =
    object_more F.version F.objects lists xs i count (object_parts o) ps c.loop-i.text.items c.put_object.new.out.items
    new (objects_text F.version 1 F.objects lists xs)
    (omega (arith, c.loop-i-test.true, there)) (omega (arith, inside, length-map c.args.pairs.now held))
    (part_at F items i o parts c.loop-i-test.true c.index-items-i.is)
    (list_at c.args.pairs.now i v inside c.index-pairs-i.is)
    c.loop-i.invariant.text (c.in_ok-put_object.ensures.named F.version c.version-version.ensures) written in
    record {
      text = subst (λ (n : ℕ). new ++ objects_text F.version (count + n + 1) (drop (i + 1) F.objects)
          (drop (i + 1) lists) (drop (count + n) xs) ≡ objects_text F.version 1 F.objects lists xs) (sym size) more;
      count = omega (arith, c.loop-i.invariant.count, next, ap length c.as_slice-list.ensures.value);
    }
