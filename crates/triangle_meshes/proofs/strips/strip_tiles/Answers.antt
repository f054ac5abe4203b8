use Rattle.std.proofs.Common.{arith, ◌≡◌, ◌++◌, ℕ, List, [], ◌∷◌, ap, sym, ◌∙◌, length, subst, All}
use Rattle.std.specs.Prelude.{Contains}
use Rattle.std.proofs.lemmas.List.{length-map}
use Rattle.plane_geom.proofs.Sums.{total, back}
use Rattle.plane_geom.proofs.Counts.{leaves_over}
use Rattle.strip_graph.proofs.SpanLaws.{length-spans}
use Rattle.strip_graph.specs.Words.{count_v, count_h}
use Rattle.triangle_meshes.specs.Tiles.{tiles}
use Rattle.triangle_meshes.proofs.StripLaws.{strip_total}
use Rattle.triangle_meshes.proofs.TileIds.{own_ids}
use Rattle.triangle_meshes.proofs.strips.strip_tiles.Goals as goal

pub returns-clause-one_a_step : goal.returns-clause-one_a_step
returns-clause-one_a_step c =
    let p = c.args.pair.now in
    let made = c.in_ok-add_tiles.ensures
    ∙ ap (λ (before : List (List ℕ)). before
    ++ tiles p.low_ids p.high_ids c.args.tiling.now.row 0 c.args.tiling.now.word.items)
    c.in_ok-triangles.ensures.items in
    ap length made ∙ length-map _ _ ∙ length-spans c.args.tiling.now.row 0 c.args.tiling.now.word.items

pub returns-clause-own_ids : goal.returns-clause-own_ids
returns-clause-own_ids c =
    let p = c.args.pair.now in
    let made = c.in_ok-add_tiles.ensures
    ∙ ap (λ (before : List (List ℕ)). before
    ++ tiles p.low_ids p.high_ids c.args.tiling.now.row 0 c.args.tiling.now.word.items)
    c.in_ok-triangles.ensures.items in
    subst (All (All (Contains (p.low_ids ++ p.high_ids)))) (sym made)
    (own_ids p.low_ids p.high_ids c.args.tiling.now.row 0 c.args.tiling.now.word.items
    (omega (
      arith,
      c.requires.row,
      c.low-low.result.now.one_id_each,
      ap length c.low-low.ensures.points,
      ap length c.low-low.ensures.ids,
    ))
    (omega (
      arith,
      c.requires.col,
      c.high-high.result.now.one_id_each,
      ap length c.high-high.ensures.points,
      ap length c.high-high.ensures.ids,
    )))

pub returns-clause-left_over : goal.returns-clause-left_over
returns-clause-left_over c =
    let low = c.args.pair.now.low_ids in
    let high = c.args.pair.now.high_ids in
    let word = c.args.tiling.now.word.items in
    let row = c.args.tiling.now.row in
    let made = c.add_tiles.new.triangles.items in
    let all : made ≡ tiles low high row 0 word = c.in_ok-add_tiles.ensures
    ∙ ap (λ (before : List (List ℕ)). before ++ tiles low high row 0 word) c.in_ok-triangles.ensures.items in
    let v : count_v word ≡ length low =
    omega (
      arith,
      c.requires.letters.v,
      c.low-low.result.now.one_id_each,
      ap length c.low-low.ensures.points,
      ap length c.low-low.ensures.ids,
    ) in
    let h : count_h word ≡ length high =
    omega (
      arith,
      c.requires.letters.h,
      c.high-high.result.now.one_id_each,
      ap length c.high-high.ensures.points,
      ap length c.high-high.ensures.ids,
    ) in
    leaves_over made (low ∷ []) (high ∷ [])
    (λ f. omega (arith, ap (total f) all, ap (total (back f)) all, strip_total f low high row 0 word v h))
