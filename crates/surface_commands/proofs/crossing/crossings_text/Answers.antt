use Rattle.std.proofs.Common.{arith, ◌≡◌, ◌+◌, ◌++◌, ◌<◌, ℕ, List, [], length, get_or, ap, ap₂, sym, ◌∙◌, subst, All}
use Rattle.std.proofs.lemmas.List.Sums.{sum_by_more, sum_by_more_le}
use Rattle.fku_types.specs.declared.limits.TheConstants.{MAX_MESH_TRIANGLES}
use Rattle.fku_types.specs.declared.points.Point.{Point}
use Rattle.triangle_meshes.specs.Meshes.{triangle_lists}
use Rattle.triangle_meshes.proofs.Parts.{IsPart, part_read, few_in_part}
use Rattle.mesh_measures.specs.Crossings.{part_corners, crossing_counts, crossing_pairs}
use Rattle.surface_commands.specs.Crossings.{crossed_text}
use Rattle.surface_commands.proofs.MeshLemmas.{counts_long, crossed_more}
use Rattle.surface_commands.proofs.crossing.crossings_text.Goals as goal
use Rattle.surface_commands.proofs.crossing.crossings_text.Goals.{After-deref-in-loop-place}

-- the part at the loop's place
here : (c : After-deref-in-loop-place)
    → IsPart c.args.mesh.now.parts.items c.loop-place.place c.deref-in-loop-place.result.now
here c = part_read c.args.mesh.now.parts.items c.deref-part-items.result.now c.loop-place.place c.part-item.result
    c.deref-in-loop-place.result.now c.deref-in-loop-place.ensures.value c.deref-part-items.ensures.value
    c.loop-place-test.true c.part-item.is

pub crossings-requires-clause-known : goal.crossings-requires-clause-known
crossings-requires-clause-known c =
    let ps = c.args.mesh.now.parts.items in
    let i = c.loop-place.place in
    let at = (goal.at.crossings-requires-clause-known c).After-deref-in-loop-place in
    subst (λ (xs : List (List ℕ)). All (All (λ id. id < length c.deref.result.now)) xs) (sym (here at).is)
    (subst (λ (vs : List Point). All (All (λ id. id < length vs)) (get_or (triangle_lists ps) i []))
    (sym c.deref.ensures.value) (c.requires.known_ids i [] (here at).there))

pub crossings-requires-clause-few : goal.crossings-requires-clause-few
crossings-requires-clause-few c =
    let ps = c.args.mesh.now.parts.items in
    let i = c.loop-place.place in
    let at = (goal.at.crossings-requires-clause-few c).After-deref-in-loop-place in
    omega (arith, ap length (here at).is, few_in_part ps i MAX_MESH_TRIANGLES (here at).there c.requires.few_triangles)

pub put_crossings-requires : goal.put_crossings-requires
put_crossings-requires c =
    let ps = c.args.mesh.now.parts.items in
    let i = c.loop-place.place in
    let at = (goal.at.put_crossings-requires c).After-deref-in-loop-place in
    let long = ap length c.in_ok-found.ensures.counts ∙ counts_long c.deref.result.now c.deref-in-loop-place.result.now
    ∙ ap length (here at).is in
    omega (
      arith,
      long,
      c.loop-place.invariant.first,
      c.requires.few_triangles,
      sum_by_more_le length (triangle_lists ps) i [] (here at).there,
    )

pub loop-place-preserved : goal.loop-place-preserved
loop-place-preserved c =
    let ps = c.args.mesh.now.parts.items in
    let vs : List Point = c.args.mesh.now.vertices.items in
    let i = c.loop-place.place in
    let at = (goal.at.loop-place-preserved c).After-deref-in-loop-place in
    let part : List (List ℕ) = get_or (triangle_lists ps) i [] in
    let found = c.in_ok-found.found in
    let counts : found.counts.items ≡ crossing_counts (part_corners vs part) =
    c.in_ok-found.ensures.counts ∙ ap₂ (λ (ws : List Point) (ts : List (List ℕ)). crossing_counts (part_corners ws ts))
    c.deref.ensures.value (here at).is in
    let pairs : found.pairs ≡ crossing_pairs (part_corners vs part) =
    c.in_ok-found.ensures.pairs ∙ ap₂ (λ (ws : List Point) (ts : List (List ℕ)). crossing_pairs (part_corners ws ts))
    c.deref.ensures.value (here at).is in
    let text : c.put_crossings.new.out.items ≡ c.loop-place.text.items
    ++ crossed_text (i + 1) c.loop-place.first (crossing_counts (part_corners vs part))
    (crossing_pairs (part_corners vs part)) =
    c.in_ok-put_crossings.ensures ∙ ap₂
    (λ (ns : List ℕ) (n : ℕ). c.loop-place.text.items ++ crossed_text (i + 1) c.loop-place.first ns n) counts pairs
    in
    let long : c.len-first.result ≡ length part =
    c.len-first.ensures ∙ c.part-item.result.ok.0
    ∙ ap length (sym c.deref-in-loop-place.ensures.value ∙ (here at).is) in
    record {
      lines = crossed_more vs (triangle_lists ps) i c.loop-place.first c.len-first.result c.loop-place.text.items
          c.put_crossings.new.out.items _ (here at).there long text c.loop-place.invariant.lines;
      first = omega (
        arith,
        c.loop-place.invariant.first,
        long,
        sum_by_more length (triangle_lists ps) i [] (here at).there,
      );
    }
