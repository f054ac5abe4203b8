use Rattle.std.proofs.Common.{arith, ◌≡◌, ◌<◌, ◌+◌, ◌*◌, ◌++◌, List, [], ◌∷◌, ℕ, length, drop, map, sym, ap, ◌∙◌, subst}
use Rattle.std.specs.List.{concat}
use Rattle.std.proofs.lemmas.List.{length-append}
use Rattle.byu_text.specs.Byu.{polygon_line}
use Rattle.byu_text.specs.Reading.{HasMeshFault}
use Rattle.byu_text.specs.Pieces.{AreTriangles, IsKnownTriangle}
use Rattle.byu_text.specs.Stages.{counts_of, NoneOf, polygons_at}
use Rattle.byu_text.proofs.Steps.{triangles_more, polygon_lines_more, triangle_fault_at}
use Rattle.byu_text.proofs.polygons.read_triangles.Goals as goal

pub returns-in_default-clause-err : goal.returns-in_default-clause-err
returns-in_default-clause-err c =
    let inv = c.loop-i.invariant in
    let h = counts_of c.args.head in
    let i : ℕ = c.loop-i.i in
    let none : NoneOf (IsKnownTriangle h) polygon_line (drop (polygons_at h + 25 * i) c.args.text.now) =
    subst (λ (a : ℕ). NoneOf (IsKnownTriangle h) polygon_line (drop (a + 25 * i) c.args.text.now))
    c.polygons_at-start.ensures c.in_default.ensures in
    subst (λ (k : ℕ). HasMeshFault c.args.text.now (h.parts + k + i + 2)) (sym c.vertex_lines.ensures)
    (triangle_fault_at c.args.text.now h c.requires.sizes.0 c.requires.points.0 c.loop-i.triangles.items i
    (polygons_at h + 25 * i) c.requires.head c.requires.sizes.1 c.requires.points.1 inv.are inv.count
    c.loop-i-test.true inv.lines none)

pub loop-i-preserved : goal.loop-i-preserved
loop-i-preserved c =
    let inv = c.loop-i.invariant in
    let h = counts_of c.args.head in
    let i : ℕ = c.loop-i.i in
    let l : i < h.polygons = c.loop-i-test.true in
    let text = c.args.text.now in
    let old = c.loop-i.triangles.items in
    let t : List ℕ = c.in-Some.triangle in
    let items = c.in_ok-extend_from_slice.ensures.items in
    let here : drop (polygons_at h + 25 * i) text ≡ polygon_line t ++ drop (polygons_at h + 25 * i + 25) text =
    subst (λ (a : ℕ). drop (a + 25 * i) text ≡ polygon_line t ++ drop (a + 25 * i + 25) text)
    c.polygons_at-start.ensures c.in-Some.ensures.1 in
    let lines = polygon_lines_more text old t (polygons_at h + 25 * i) (polygons_at h) (polygons_at h + 25 * i + 25)
    inv.lines here in
    record {
      are = subst (AreTriangles h) (sym items)
          (triangles_more h old t inv.are c.in-Some.ensures.0 (omega (arith, inv.count, l)));
      count = omega (arith, ap length items, length-append old (t ∷ []), inv.count);
      lines = lines ∙ ap (λ (k : ℕ). concat (map polygon_line (old ++ t ∷ [])) ++ drop k text)
          (let k : polygons_at h + 25 * i + 25 ≡ polygons_at h + 25 * (i + 1) = omega arith in k)
          ∙ ap (λ (l : List (List ℕ)). concat (map polygon_line l) ++ drop (polygons_at h + 25 * (i + 1)) text)
          (sym items);
    }
