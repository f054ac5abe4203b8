use Rattle.std.proofs.Common.{arith, ◌≡◌, ◌++◌, ℕ, List, [], ◌∷◌, map, refl, ap, sym, ap₂, ◌∙◌, length, subst, All}
use Rattle.std.proofs.lemmas.List.{append-nil}
use Rattle.std.proofs.lemmas.List.Elements.{All-head, All-rest}
use Rattle.strip_graph.specs.declared.spans.SpanStep.{SpanStep}
use Rattle.strip_graph.specs.Spans.{IsOf, spans}
use Rattle.strip_graph.specs.Strips.{rows, cols}
use Rattle.strip_graph.proofs.SpanLaws.{map-start, map-next}
use Rattle.triangle_meshes.specs.Tiles.{tile}
use Rattle.triangle_meshes.proofs.TileIds.{tile-round}
use Rattle.triangle_meshes.proofs.strips.add_tiles.Goals as goal

pub loop-span-init : goal.loop-span-init
loop-span-init c =
    let p = c.args.pair.now in
    let is = c.into_iter-span-iterator.ensures.into_iter_gives in
    let passed = c.spans-span-items.ensures in
    let m : rows p ≡ length p.low_ids =
    omega (arith, c.low.result.now.one_id_each, ap length c.low.ensures.points, ap length c.low.ensures.ids) in
    let n : cols p ≡ length p.high_ids =
    omega (arith, c.high.result.now.one_id_each, ap length c.high.ensures.points, ap length c.high.ensures.ids) in
    record {
      can = tt;
      finite = tt;
      tiles = ap (λ (more : List (List ℕ)). c.args.triangles.now.items ++ more)
          (map-start (rows p) (cols p) (λ (s : SpanStep). tile p.low_ids p.high_ids s.row s.col s.step) []
          c.into_iter-span-iterator.result (spans c.args.tiling.now.row 0 c.args.tiling.now.word.items)
          (λ s. tile-round p.low_ids p.high_ids (rows p) (cols p) s.row s.col s.step m n) refl (is ∙ passed.spans));
      spans = subst (All (IsOf (rows p) (cols p))) (sym is) passed.range;
    }

pub tile_at-requires : goal.tile_at-requires
tile_at-requires c =
    let p = c.args.pair.now in
    let here : IsOf (rows p) (cols p) c.in-Some.span =
    All-head (IsOf (rows p) (cols p)) c.in-Some.span c.next.new.self
    (subst (All (IsOf (rows p) (cols p))) c.in-Some.ensures.steps c.loop-span.invariant.spans) in
    record {
      row = omega (
        arith,
        here.row,
        ap length c.as_slice-low.ensures.value,
        ap length c.low.ensures.points,
        c.low.result.now.one_id_each,
      );
      col = omega (
        arith,
        here.col,
        ap length c.as_slice-high.ensures.value,
        ap length c.high.ensures.points,
        c.high.result.now.one_id_each,
      );
    }

pub loop-span-preserved : goal.loop-span-preserved
loop-span-preserved c =
    let p = c.args.pair.now in
    let inv = c.loop-span.invariant in
    let span = c.in-Some.span in
    let rest = c.next.new.self in
    let step : c.loop-span.span-iterator ≡ span ∷ rest = c.in-Some.ensures.steps in
    let el : c.as_slice-low.result.now ≡ p.low_ids = c.as_slice-low.ensures.value ∙ c.low.ensures.ids in
    let eh : c.as_slice-high.result.now ≡ p.high_ids = c.as_slice-high.ensures.value ∙ c.high.ensures.ids in
    record {
      can = tt;
      finite = tt;
      tiles = map-next (λ (s : SpanStep). tile p.low_ids p.high_ids s.row s.col s.step) c.loop-span.triangles.items
          c.push.new.self.items _ c.loop-span.span-iterator rest span c.tile_at.result
          c.in_ok-push.ensures.items (c.tile_at.ensures
          ∙ ap₂ (λ (l h : List ℕ). tile l h span.row span.col span.step) el eh) step inv.tiles;
      spans = All-rest (IsOf (rows p) (cols p)) span rest c.loop-span.span-iterator step inv.spans;
    }

-- the whole list
made_is : (made whole : List (List ℕ)) (f : SpanStep → List ℕ) (left : List SpanStep) → left ≡ []
    → made ++ map f left ≡ whole → made ≡ whole
made_is made whole f left e h = sym (append-nil made) ∙ sym (ap (λ (ss : List SpanStep). made ++ map f ss) e) ∙ h

pub returns : goal.returns
returns c = made_is c.loop-span.triangles.items _ _ c.loop-span.span-iterator c.in-None.ensures.steps.0
    c.loop-span.invariant.tiles
