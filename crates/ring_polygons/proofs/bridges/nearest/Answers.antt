use Rattle.std.proofs.Common.{arith, ◌≡◌, ◌≤◌, ℕ, ap, sym, ◌∙◌, length}
use Rattle.plane_geom.specs.Lengths.{distance_square}
use Rattle.ring_polygons.specs.Composites.{first_least}
use Rattle.ring_polygons.specs.Nearest.{place_of}
use Rattle.ring_polygons.proofs.Nearest.{least_taken, least_kept, nearest_is, none_nearer, nearest_to, square_from}
use Rattle.ring_polygons.proofs.bridges.nearest.Goals as goal
use Rattle.ring_polygons.proofs.bridges.nearest.Goals.{then-square_from-square+then-near-square, then-square_from-square+else-near-square, else-square_from-square}

pub loop-p-preserved : goal.loop-p-preserved
loop-p-preserved c =
    let ring = c.args.ring.now in
    let other = c.args.other.now in
    let f : ℕ → ℕ = square_from ring other in
    let p = c.loop-p.p in
    let v = c.loop-p.invariant in
    let to_vertex : ℕ → ℕ = λ w. distance_square (place_of ring p) (place_of other w) in
    elim c.if-square_from-square.branch [
      | then-square_from-square+then-near-square w ↦ (
          let near = w.near_vertex-near.ensures in
          let square : w.near_vertex-near.result.square ≡ f p = near.square ∙ ap to_vertex near.vertex in
          record {
            place = w.place-is ∙ least_taken f p c.loop-p.place v.place (omega (arith, square, v.square));
            vertex = w.vertex-is ∙ near.vertex ∙ ap (λ (q : ℕ). nearest_to other (place_of ring q)) (sym w.place-is);
            square = w.square-is ∙ square ∙ ap f (sym w.place-is);
            there = omega arith;
          })
      | then-square_from-square+else-near-square w ↦ (
          let near = w.near_vertex-near.ensures in
          let square : w.near_vertex-near.result.square ≡ f p = near.square ∙ ap to_vertex near.vertex in
          record {
            place = w.place-is ∙ least_kept f p c.loop-p.place v.place (omega (arith, square, v.square));
            vertex = w.vertex-is ∙ v.vertex ∙ ap (λ (q : ℕ). nearest_to other (place_of ring q)) (sym w.place-is);
            square = w.square-is ∙ v.square ∙ ap f (sym w.place-is);
            there = omega arith;
          })
      | else-square_from-square w ↦ (
          let no_less : c.square_from.result ≤ f p =
          none_nearer ring other c.of-extent.result p c.square_from.result c.requires.other
          c.of-extent.ensures.enclosed c.square_from.ensures in
          record {
            place = w.place-is ∙ least_kept f p c.loop-p.place v.place (omega (arith, no_less, v.square));
            vertex = w.vertex-is ∙ v.vertex ∙ ap (λ (q : ℕ). nearest_to other (place_of ring q)) (sym w.place-is);
            square = w.square-is ∙ v.square ∙ ap f (sym w.place-is);
            there = omega arith;
          })
    ]

pub returns : goal.returns
returns c =
    let ring = c.args.ring.now in
    let other = c.args.other.now in
    let v = c.loop-p.invariant in
    let all : c.loop-p.p ≡ length ring = omega arith in
    nearest_is ring other c.loop-p.square c.loop-p.place c.loop-p.vertex c.requires.ring c.requires.other
    (v.place ∙ ap (first_least (square_from ring other)) all) v.vertex v.square
