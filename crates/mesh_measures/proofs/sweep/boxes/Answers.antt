use Rattle.std.proofs.Common.{◌≡◌, ◌∙◌, ◌++◌, ◌∷◌, [], ℕ, List, map, get_or, sym, ap, ap₂, arith}
use Rattle.std.proofs.lemmas.List.{map-append, get_or_default}
use Rattle.fku_types.proofs.ListLaws.{copied, all_pushed, range_more}
use Rattle.mesh_measures.specs.declared.triangle_boxes.Boxed.{Boxed}
use Rattle.mesh_measures.specs.Crossings.{corners_of}
use Rattle.mesh_measures.specs.TriangleBoxes.{IsBoxed}
use Rattle.mesh_measures.proofs.sweep.boxes.Goals as goal

pub loop-triangle-preserved : goal.loop-triangle-preserved
loop-triangle-preserved c =
    let vs = c.args.vertices.now in
    let ts = c.args.triangles.now in
    let i = c.loop-triangle.triangle-index in
    let old = c.loop-triangle.boxes.items in
    let b = c.with_box.result in
    let t = get_or ts i [] in
    let l = c.loop-triangle-test.true in
    let more : c.push.new.self.items ≡ old ++ b ∷ [] = c.in_ok-push.ensures.items in
    let place : b.place ≡ i = omega (
      arith,
      c.with_box.ensures.place,
      c.len-place.ensures,
      c.loop-triangle.invariant.count,
    ) in
    record {
      count = omega (arith, c.in_ok-push.ensures.len, c.loop-triangle.invariant.count);
      corners = copied (λ (x : Boxed). x.corners) (corners_of vs) old c.push.new.self.items b ts i t l
          (get_or_default ts i [] t l) more c.loop-triangle.invariant.corners
          (c.with_box.ensures.corners ∙ c.corners_at.ensures.value);
      places = ap (map (λ (x : Boxed). x.place)) more ∙ map-append (λ (x : Boxed). x.place) old (b ∷ [])
          ∙ ap₂ (λ (xs : List ℕ) (k : ℕ). xs ++ k ∷ []) c.loop-triangle.invariant.places place ∙ sym (range_more i);
      boxed = all_pushed IsBoxed old c.push.new.self.items b more c.loop-triangle.invariant.boxed
          c.with_box.ensures.boxed;
    }
