use Rattle.std.proofs.Common.{◌≡◌, ℕ, List, [], length, subst, All}
use Rattle.std.proofs.lemmas.List.Elements.{All-more}
use Rattle.triangle_meshes.specs.Meshes.{triangle_lists}
use Rattle.triangle_meshes.proofs.Parts.{part_read, all_read}
use Rattle.byu_text.proofs.reading_laws.are_triangles.Goals as goal

abbrev AreThree : List (List ℕ) → Type 0
AreThree part = All (λ ids. length ids ≡ 3) part

pub loop-part-preserved : goal.loop-part-preserved
loop-part-preserved c =
    let ps = c.args.mesh.now.parts.items in
    let i : ℕ = c.loop-part.part-index in
    let lists = triangle_lists ps in
    let part = part_read ps c.deref-part-items.result.now i c.part-item.result c.deref.result.now c.deref.ensures.value
    c.deref-part-items.ensures.value c.loop-part-test.true c.part-item.is in
    All-more AreThree lists i [] part.there c.loop-part.invariant (subst AreThree part.is c.have_three.ensures)

pub returns : goal.returns
returns c = subst (All AreThree)
    (all_read c.args.mesh.now.parts.items c.deref-part-items.result.now c.loop-part.part-index
    c.deref-part-items.ensures.value c.loop-part-test.false) c.loop-part.invariant
