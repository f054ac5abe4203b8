use Rattle.std.proofs.Common.{◌≡◌, ℕ, ◌*◌, pos, List, map, length, ap, ap₂, sym, ◌∙◌, to_z-of_z}
use Rattle.std.specs.List.{range_with_len}
use Rattle.std.proofs.lemmas.List.{length-map}
use Rattle.std.proofs.lemmas.List.FromFn.{length-map-range_with_len}
use Rattle.section_core.specs.Parts.{Spot}
use Rattle.section_core.specs.Views.{spot_of}
use Rattle.demo_stack.specs.Demo.{demo_vertex}
use Rattle.demo_stack.proofs.stack.contour.Goals as goal

pub returns-clause-parts : goal.returns-clause-parts
returns-clause-parts c seed h =
    let points = c.in_ok-points.points.items in
    let spots : map spot_of points ≡ map (demo_vertex seed c.args.vertices c.args.index)
    (range_with_len 0 c.args.vertices) = c.in_ok-points.ensures.spots seed (c.args.index * c.args.vertices) h in
    let count : length points ≡ c.args.vertices = sym (length-map points spot_of) ∙ ap length spots
    ∙ length-map-range_with_len (demo_vertex seed c.args.vertices c.args.index) 0 c.args.vertices in
    ap₂ (λ (n : List ℕ) (p : ℕ × List Spot). record { name = n; count = pos p.0; points = p.1 }) c.name.ensures
    (ap₂ (λ (k : ℕ) (ps : List Spot). (k, ps)) count spots)

pub returns-clause-level : goal.returns-clause-level
returns-clause-level c = let f = c.ranges.z in simp to_z-of_z at c.in_ok-points.ensures.level
