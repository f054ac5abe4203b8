use Rattle.std.proofs.Common.{arith, ◌<◌, ℕ, List, [], length, get_or, ap, sym, subst, All}
use Rattle.fku_types.specs.declared.limits.TheConstants.{MAX_MESH_TRIANGLES}
use Rattle.fku_types.specs.declared.points.Point.{Point}
use Rattle.fku_types.specs.Points.{IsInRange}
use Rattle.triangle_meshes.specs.Meshes.{triangle_lists}
use Rattle.triangle_meshes.proofs.Parts.{IsPart, part_read, few_in_part}
use Rattle.surface_commands.specs.Measure.{AreMeasures}
use Rattle.surface_commands.proofs.MeshLemmas.{is_solid, zip_one}
use Rattle.surface_commands.proofs.measuring.parts_measured.Goals as goal
use Rattle.surface_commands.proofs.measuring.parts_measured.Goals.{After-deref-in-loop-part}

-- the part at the loop's place
here : (c : After-deref-in-loop-part)
    → IsPart c.args.mesh.now.parts.items c.loop-part.part-index c.deref-in-loop-part.result.now
here c = part_read c.args.mesh.now.parts.items c.deref-part-items.result.now c.loop-part.part-index c.part-item.result
    c.deref-in-loop-part.result.now c.deref-in-loop-part.ensures.value c.deref-part-items.ensures.value
    c.loop-part-test.true c.part-item.is

pub measure-requires-clause-in_range : goal.measure-requires-clause-in_range
measure-requires-clause-in_range c =
    subst (λ (vs : List Point). All IsInRange vs) (sym c.deref.ensures.value) c.requires.in_range

pub measure-requires-clause-few_vertices : goal.measure-requires-clause-few_vertices
measure-requires-clause-few_vertices c = omega (arith, ap length c.deref.ensures.value, c.requires.few_vertices)

pub measure-requires-clause-known : goal.measure-requires-clause-known
measure-requires-clause-known c =
    let ps = c.args.mesh.now.parts.items in
    let i = c.loop-part.part-index in
    let at = (goal.at.measure-requires-clause-known c).After-deref-in-loop-part in
    subst (λ (xs : List (List ℕ)). All (All (λ id. id < length c.deref.result.now)) xs) (sym (here at).is)
    (subst (λ (vs : List Point). All (All (λ id. id < length vs)) (get_or (triangle_lists ps) i []))
    (sym c.deref.ensures.value) (c.requires.known_ids i [] (here at).there))

pub measure-requires-clause-some : goal.measure-requires-clause-some
measure-requires-clause-some c =
    let i = c.loop-part.part-index in
    let at = (goal.at.measure-requires-clause-some c).After-deref-in-loop-part in
    omega (arith, ap length (here at).is, c.requires.some_triangle i [] (here at).there)

pub measure-requires-clause-few : goal.measure-requires-clause-few
measure-requires-clause-few c =
    let ps = c.args.mesh.now.parts.items in
    let i = c.loop-part.part-index in
    let at = (goal.at.measure-requires-clause-few c).After-deref-in-loop-part in
    omega (arith, ap length (here at).is, few_in_part ps i MAX_MESH_TRIANGLES (here at).there c.requires.few_triangles)

pub loop-part-preserved : goal.loop-part-preserved
loop-part-preserved c =
    let ps = c.args.mesh.now.parts.items in
    let vs : List Point = c.args.mesh.now.vertices.items in
    let i = c.loop-part.part-index in
    let at = (goal.at.loop-part-preserved c).After-deref-in-loop-part in
    let m = c.in_ok-measure.field-0 in
    let says = c.in_ok-measure.ensures in
    let points = c.deref.result.now in
    let triangles = c.deref-in-loop-part.result.now in
    let are : AreMeasures points triangles m = record {
      vertices = says.vertices;
      polygons = says.polygons;
      bounds = says.bounds;
      low = says.low;
      high = says.high;
      edges = says.edges;
      many = says.many;
      closed = says.closed;
      solid = is_solid points triangles m.solid says.six_volume says.moment_x says.moment_y says.moment_z;
    } in
    let same : AreMeasures vs (get_or (triangle_lists ps) i []) m =
    subst (λ (ts : List (List ℕ)). AreMeasures vs ts m) (here at).is
    (subst (λ (ws : List Point). AreMeasures ws triangles m) c.deref.ensures.value are) in
    zip_one (AreMeasures vs) (triangle_lists ps) i [] c.loop-part.all.items c.push.new.self.items m (here at).there
    c.in_ok-push.ensures.items c.loop-part.invariant same
