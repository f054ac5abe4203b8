use Rattle.std.proofs.Common.{arith, [], length, refl, ap, ◌∙◌}
use Rattle.std.proofs.lemmas.List.Sums.{sum_by_more, sum_by_more_le}
use Rattle.triangle_meshes.specs.Meshes.{triangle_lists}
use Rattle.triangle_meshes.proofs.Parts.{part_read}
use Rattle.byu_text.proofs.TextLaws.{part_more}
use Rattle.byu_text.proofs.texts.write_parts.Goals as goal

pub put_part-requires-clause-last : goal.put_part-requires-clause-last
put_part-requires-clause-last c =
    let ps = c.args.parts.now in
    let i = c.loop-part.part-index in
    let part = part_read ps ps i c.part-item.result c.part-item.result.items refl refl c.loop-part-test.true
    c.part-item.is in
    omega (
      arith,
      c.loop-part.invariant.next,
      c.len-next.ensures ∙ c.part-item.result.ok.0 ∙ ap length part.is,
      sum_by_more_le length (triangle_lists ps) i [] part.there,
    )

pub loop-part-preserved : goal.loop-part-preserved
loop-part-preserved c =
    let ps = c.args.parts.now in
    let i = c.loop-part.part-index in
    let part = part_read ps ps i c.part-item.result c.part-item.result.items refl refl c.loop-part-test.true
    c.part-item.is in
    record {
      lines = part_more (triangle_lists ps) i c.loop-part.next c.len-next.result c.loop-part.text.items
          c.put_part.new.text.items _ part.there (c.len-next.ensures ∙ c.part-item.result.ok.0 ∙ ap length part.is)
          c.in_ok-put_part.ensures c.loop-part.invariant.lines;
      next = omega (
        arith,
        c.loop-part.invariant.next,
        c.len-next.ensures ∙ c.part-item.result.ok.0 ∙ ap length part.is,
        sum_by_more length (triangle_lists ps) i [] part.there,
      );
    }
