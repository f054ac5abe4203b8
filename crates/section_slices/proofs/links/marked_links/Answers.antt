use Rattle.std.proofs.Common.{◌∙◌, ◌++◌, ap, ap₂, sym, arith, length, ℕ, List}
use Rattle.section_core.specs.Parts.{LinkParts}
use Rattle.correspondence.specs.Outlines.{held_layer, name_in}
use Rattle.correspondence.specs.Graphs.{cell, table_of}
use Rattle.section_slices.specs.Densified.{row_links}
use Rattle.section_slices.proofs.Lists.{flat_more}
use Rattle.section_slices.proofs.LinkReads.{row_read}
use Rattle.section_slices.proofs.links.marked_links.Goals as goal

pub loop-i-preserved : goal.loop-i-preserved
loop-i-preserved c =
    let low = c.args.low.now in
    let high = c.args.high.now in
    let table = c.args.table.now in
    let i = c.loop-i.i in
    let f : ℕ → List LinkParts = λ k. row_links (name_in (held_layer low) k) (held_layer high).names
    (cell (table_of table) k) in
    let here = row_read low high table c.as_slice-lows.result.now c.as_slice-highs.result.now i c.index-lows-i.result
    c.deref.result.now c.index-table-i.result c.as_slice-lows.ensures.value c.as_slice-highs.ensures.value
    c.loop-i-test.true c.index-lows-i.is
    (omega (arith, c.loop-i-test.true, ap length c.as_slice-lows.ensures.value, c.requires.rows)) c.index-table-i.is
    c.deref.ensures.value in
    c.in_ok-add_row.ensures ∙ ap₂ (λ (a b : List LinkParts). a ++ b) c.loop-i.invariant here ∙ sym (flat_more f i)
