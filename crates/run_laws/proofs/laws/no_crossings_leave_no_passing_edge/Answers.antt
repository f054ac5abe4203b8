use Rattle.std.proofs.Common.{◌<◌, length, arith}
use Rattle.std.proofs.lemmas.List.{length-map}
use Rattle.mesh_measures.specs.Crossings.{corners_of, part_corners}
use Rattle.run_laws.proofs.CrossingLaws.{no_edge_passes}
use Rattle.run_laws.proofs.laws.no_crossings_leave_no_passing_edge.Goals as goal

pub returns : goal.returns
returns c vertices part i j t e l m other =
    let first : i < length (part_corners vertices part) = omega (arith, l, length-map part (corners_of vertices)) in
    let second : j < length (part_corners vertices part) = omega (arith, m, length-map part (corners_of vertices)) in
    no_edge_passes (part_corners vertices part) i j t e first second other
