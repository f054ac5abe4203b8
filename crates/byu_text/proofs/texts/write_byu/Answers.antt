use Rattle.std.proofs.Common.{arith, ◌≡◌, ◌<◌, ◌++◌, [], length, ap, sym, ◌∙◌, subst, All}
use Rattle.std.specs.List.{flat_map}
use Rattle.triangle_meshes.specs.Meshes.{triangle_lists, surface_of}
use Rattle.triangle_meshes.proofs.Parts.{part_read, all_read}
use Rattle.byu_text.specs.Byu.{counts_line, part_ranges, vertex_lines, polygon_line}
use Rattle.byu_text.proofs.TextLaws.{table_long, table_whole, pieces_more, text_made}
use Rattle.byu_text.proofs.texts.write_byu.Goals as goal

pub write_polygons-requires-clause-table : goal.write_polygons-requires-clause-table
write_polygons-requires-clause-table c =
    table_whole c.deref-in-loop-part.result.now c.len-3.result
    (c.deref-in-loop-part.ensures.value ∙ c.in_ok-table.ensures)

pub write_polygons-requires-clause-ids : goal.write_polygons-requires-clause-ids
write_polygons-requires-clause-ids c =
    let ps = c.args.mesh.now.parts.items in
    let i = c.loop-part.part-index in
    let part = part_read ps c.deref-part-items.result.now i c.part-item.result c.deref-in-loop-part-2.result.now
    c.deref-in-loop-part-2.ensures.value c.deref-part-items.ensures.value c.loop-part-test.true c.part-item.is in
    let known : length c.deref-in-loop-part.result.now ≡ length c.args.mesh.now.vertices.items =
    table_long c.deref-in-loop-part.result.now c.len-3.result
    (c.deref-in-loop-part.ensures.value ∙ c.in_ok-table.ensures) ∙ c.len-3.ensures
    ∙ c.args.mesh.now.vertices.ok.0 in
    subst (All (All (λ id. id < length c.deref-in-loop-part.result.now))) (sym part.is)
    (λ k d m k' d' m'. (let small = c.requires.known_ids i [] part.there k d m k' d' m' in omega (arith, small, known)))

pub loop-part-preserved : goal.loop-part-preserved
loop-part-preserved c =
    let ps = c.args.mesh.now.parts.items in
    let i = c.loop-part.part-index in
    let part = part_read ps c.deref-part-items.result.now i c.part-item.result c.deref-in-loop-part-2.result.now
    c.deref-in-loop-part-2.ensures.value c.deref-part-items.ensures.value c.loop-part-test.true c.part-item.is in
    pieces_more (flat_map polygon_line) c.write_vertices.new.text.items c.loop-part.text.items
    c.write_polygons.new.text.items (triangle_lists ps) i [] part.there c.loop-part.invariant
    (c.in_ok-write_polygons.ensures ∙ ap (λ t. c.loop-part.text.items ++ flat_map polygon_line t) part.is)

pub returns : goal.returns
returns c =
    let s = surface_of c.args.mesh.now in
    let lists = triangle_lists c.args.mesh.now.parts.items in
    let all = all_read c.args.mesh.now.parts.items c.deref-part-items.result.now c.loop-part.part-index
    c.deref-part-items.ensures.value c.loop-part-test.false in
    let parts = c.in_ok-write_parts.ensures
    ∙ ap (λ l. c.write_counts.new.text.items ++ part_ranges 1 (triangle_lists l)) c.deref.ensures.value in
    let vertices = c.in_ok-write_vertices.ensures
    ∙ ap (λ l. c.write_parts.new.text.items ++ vertex_lines l) c.deref-2.ensures.value in
    let polygons = c.loop-part.invariant
    ∙ ap (λ l. c.write_vertices.new.text.items ++ flat_map (flat_map polygon_line) l) all in
    text_made (counts_line s) (part_ranges 1 lists) (vertex_lines s.vertices) (flat_map (flat_map polygon_line) lists)
    c.in_ok-text.text.items c.write_counts.new.text.items c.write_parts.new.text.items
    c.write_vertices.new.text.items c.loop-part.text.items
    c.in_ok-text.ensures.items c.in_ok-write_counts.ensures parts vertices polygons
