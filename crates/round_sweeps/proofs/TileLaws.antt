-- What is counted of areas.
use Rattle.std.proofs.Common.{◌≡◌, ℕ, ◌+◌, ◌*◌, ◌≤◌, min, ℤ, ◌-ℤ◌, unsigned_abs, ap, ap₂, ◌∙◌, arith, mul-le-mul, to_z, of_z, w64}
use Rattle.std.proofs.lemmas.Int.{ints}
use Rattle.fku_types.specs.declared.points.Point.{Point}
use Rattle.fku_types.specs.Points.{square}
use Rattle.plane_geom.specs.Planes.{cross_product}
use Rattle.plane_geom.proofs.Signed.{passed_i64}
use Rattle.strip_graph.specs.declared.areas.Edge.{Edge}
use Rattle.strip_graph.specs.Edges.{IsEdge}
use Rattle.strip_graph.specs.Strips.{area_square}
use Rattle.strip_graph.proofs.EdgeLaws.{same_cross, passed_side}
use Rattle.round_sweeps.specs.declared.tiles.TileEdge.{TileEdge}
use Rattle.round_sweeps.specs.declared.tiles.TileEnd.{TileEnd}
use Rattle.round_sweeps.specs.Tiles.{FitsEdge, IsTileEdge, most_side, most_upright, most_area, counted_side, tile_area}

-- no more is counted than the area
counted_less : (u v s : ℕ) → u ≤ v → u + min most_side s * min most_side s ≤ v + s * s
counted_less u v s le =
    let m : min most_side s ≤ s = omega arith in
    let h : min most_side s * min most_side s ≤ s * s = mul-le-mul m m in
    omega (arith, le, h)

-- and no more than the most
pub counted_most : (u s : ℕ) → u ≤ most_upright → s ≤ most_side → u + s * s ≤ most_area
counted_most u s le less =
    let h : s * s ≤ most_side * most_side = mul-le-mul less less in
    omega (arith, le, h)

-- an edge whose upright part is counted up to a most
pub edge_counted : (e : Edge) (t : TileEdge) (a b : Point) (z : ℤ) → IsEdge e a b z → t.x ≡ e.x → t.y ≡ e.y
    → t.turn ≡ e.turn → t.upright ≤ e.upright → t.upright ≤ most_upright → IsTileEdge t a b z
unfolding square
edge_counted e t a b z h ex ey et le most = record {
  fits = record {
    x = omega (arith, h.x, ap unsigned_abs ex);
    y = omega (arith, h.y, ap unsigned_abs ey);
    turn =
        omega (arith, h.turn, ap unsigned_abs et);
    upright = most;
  };
  area = area;
}
  where
    area : (p : TileEnd) (q : Point) → p.x ≡ q.x → p.y ≡ q.y → q.z ≡ z → tile_area t p ≤ area_square a b q
    area p q px py qz =
        let side : cross_product t.x t.y p.x p.y -ℤ t.turn ≡ cross_product e.x e.y q.x q.y -ℤ e.turn =
        ap₂ (λ (x y : ℤ). x -ℤ y) (same_cross _ _ _ _ _ _ _ _ ex ey px py) et in
        let more = counted_less t.upright e.upright (unsigned_abs (cross_product e.x e.y q.x q.y -ℤ e.turn)) le in
        let same : tile_area t p ≡ t.upright
        + min most_side (unsigned_abs (cross_product e.x e.y q.x q.y -ℤ e.turn)) * min most_side
        (unsigned_abs (cross_product e.x e.y q.x q.y -ℤ e.turn)) =
        ap (λ (s : ℤ). t.upright + min most_side (unsigned_abs s) * min most_side (unsigned_abs s)) side in
        omega (arith, same, more, h.area q qz)

-- the side of a point as the code computes it
side_read : (e : TileEdge) (p : TileEnd) (k : ℤ) → FitsEdge e → unsigned_abs p.x ≤ 999999 → unsigned_abs p.y ≤ 999999
    → unsigned_abs k ≤ 8000000000000
    → k ≡ cross_product (to_z w64 (of_z w64 e.x)) (to_z w64 (of_z w64 e.y)) (to_z w64 (of_z w64 p.x))
    (to_z w64 (of_z w64 p.y))
    → to_z w64 (of_z w64 (to_z w64 (of_z w64 k) -ℤ to_z w64 (of_z w64 e.turn)))
    ≡ cross_product e.x e.y p.x p.y -ℤ e.turn
side_read e p k f hx hy small is =
    let x = passed_i64 e.x (omega (arith, f.x)) in
    let y = passed_i64 e.y (omega (arith, f.y)) in
    let px = passed_i64 p.x (omega (arith, hx)) in
    let py = passed_i64 p.y (omega (arith, hy)) in
    let side = is ∙ same_cross _ _ _ _ _ _ _ _ x y px py in
    let within : unsigned_abs (k -ℤ e.turn) ≤ 16000000000000 = omega (arith, ints, small, f.turn) in
    ap (λ (a : ℤ). to_z w64 (of_z w64 (a -ℤ to_z w64 (of_z w64 e.turn)))) (passed_i64 k small)
    ∙ ap (λ (a : ℤ). to_z w64 (of_z w64 (k -ℤ a))) (passed_i64 e.turn f.turn)
    ∙ passed_side (k -ℤ e.turn) within
    ∙ ap (λ (a : ℤ). a -ℤ e.turn) side

-- what is counted as the code computes it
pub area_read : (e : TileEdge) (p : TileEnd) (k : ℤ) (s : ℕ) → FitsEdge e → unsigned_abs p.x ≤ 999999
    → unsigned_abs p.y ≤ 999999 → unsigned_abs k ≤ 8000000000000
    → k ≡ cross_product (to_z w64 (of_z w64 e.x)) (to_z w64 (of_z w64 e.y)) (to_z w64 (of_z w64 p.x))
    (to_z w64 (of_z w64 p.y))
    → s ≡ min most_side (unsigned_abs (to_z w64 (of_z w64 (to_z w64 (of_z w64 k) -ℤ to_z w64 (of_z w64 e.turn)))))
    → e.upright + s * s ≡ tile_area e p
area_read e p k s f hx hy small is counted =
    let same : s ≡ counted_side e p = counted
    ∙ ap (λ (a : ℤ). min most_side (unsigned_abs a)) (side_read e p k f hx hy small is) in
    ap (λ (n : ℕ). e.upright + n * n) same
