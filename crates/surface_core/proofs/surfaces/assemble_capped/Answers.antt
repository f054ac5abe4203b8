use Rattle.std.proofs.Common.{arith, ◌≡◌, ◌≤◌, ◌*◌, ◌≤ℤ◌, ◌++◌, ◌∷◌, [], ℕ, ℤ, pos, List, Vec, length, map, sum_by, sym, ap, ◌∙◌, subst, All, to_z, of_z, to_z-of_z, SFits}
use mir.Syntax.{w128}
use Rattle.std.specs.declared.alloc.Global.{Global}
use Rattle.std.proofs.lemmas.List.{length-map}
use Rattle.std.proofs.lemmas.List.Sums.{sum_by-cons}
use Rattle.fku_types.specs.declared.limits.TheConstants.{MAX_PAIRS}
use Rattle.plane_geom.specs.Rings.{IsClosed}
use Rattle.triangle_meshes.specs.Meshes.{triangle_lists}
use Rattle.section_pairs.specs.Pairs.{pair_parts}
use Rattle.surface_core.specs.Objects.{pair_cost_limit}
use Rattle.section_pairs.proofs.Firsts.{all_one}
use Rattle.surface_core.specs.Surfaces.{strips_in, capped_triangles}
use Rattle.surface_core.specs.Caps.{IsWholeSurface}
use Rattle.surface_core.proofs.SectionFacts.{are_few, all_points, points_count, same_counts}
use Rattle.surface_core.proofs.StripSteps.{are_least}
use Rattle.surface_core.proofs.Totals.{few_pairs, pairs_within}
use Rattle.surface_core.proofs.Valid.{valid_from}
use Rattle.surface_core.proofs.surfaces.assemble_capped.Goals as goal

few : (g : _) (c : goal.In_ok-push g) → length c.args.pairs.now ≤ MAX_PAIRS
few g c =
    let S = c.args.sections.now in
    omega (
      arith,
      few_pairs S (map pair_parts c.args.pairs.now)
          (are_few S c.sections.result.now c.sections.ensures.kept c.sections.ensures.data) c.requires.pairs,
      length-map c.args.pairs.now pair_parts,
    )

pub overflow_cast-result : goal.overflow_cast-result
overflow_cast-result g c = omega (arith, few g c)

pub total_cost-requires-clause-few : goal.total_cost-requires-clause-few
total_cost-requires-clause-few g c = few g c

-- the one part
part : (g : _) (c : goal.After-total_cost g)
    → triangle_lists c.push.new.self.items
    ≡ capped_triangles g.C.CapRule.capping c.args.sections.now (map pair_parts c.args.pairs.now) c.args.solved.now ∷ []
part g c =
    ap triangle_lists (c.in_ok-push.ensures.items
    ∙ ap (λ (l : List (Vec (List ℕ) Global)). l ++ c.in_ok-triangles.field-0.triangles ∷ [])
    c.new-parts.ensures.items)
    ∙ ap (λ (ts : List (List ℕ)). ts ∷ []) c.in_ok-triangles.ensures.triangles

whole : (g : _) (c : goal.After-total_cost g)
    → IsWholeSurface g.C.CapRule.capping c.args.sections.now (map pair_parts c.args.pairs.now) c.args.solved.now
whole g c = c.requires.caps.close c.args.solved.now c.requires.solved

pub returns-clause-surface : goal.returns-clause-surface
returns-clause-surface g c = record {
  vertices = c.in_ok-vertices.ensures ∙ all_points c.args.sections.now c.sections.result.now c.sections.ensures.data;
  one_part = part g c;
}

pub returns-clause-valid : goal.returns-clause-valid
returns-clause-valid g c =
    let S = c.args.sections.now in
    let made = whole g c in
    let few = are_few S c.sections.result.now c.sections.ensures.kept c.sections.ensures.data in
    valid_from S c.sections.result.now c.in_ok-vertices.vertices.items (triangle_lists c.push.new.self.items) _
    c.sections.ensures.kept c.sections.ensures.data c.in_ok-vertices.ensures (part g c) made.some
    (omega (arith, made.few, few.vertices, few.contours, same_counts S.sections)) made.known

pub returns-clause-closed : goal.returns-clause-closed
returns-clause-closed g c = subst (All IsClosed) (sym (part g c)) (all_one IsClosed _ (whole g c).closed)

pub returns-clause-built : goal.returns-clause-built
returns-clause-built g c =
    let ps = map pair_parts c.args.pairs.now in
    let fits : SFits w128 c.total_cost.result = record { sfits = c.total_cost.type_inv } in
    record {
      pairs = ps;
      solutions = c.args.solved.now;
      are_pairs = c.requires.pairs;
      chosen = c.requires.solved;
      least = are_least (strips_in ps) c.args.solved.now c.requires.solved;
      surface = returns-clause-surface g c;
      pair_count = sym (length-map c.args.pairs.now pair_parts);
      cost = to_z-of_z fits ∙ c.total_cost.ensures.sum;
      folded = c.in_ok-triangles.ensures.folded;
    }

pub returns-clause-bounded : goal.returns-clause-bounded
returns-clause-bounded g c =
    let S = c.args.sections.now in
    let ps = map pair_parts c.args.pairs.now in
    let ts = capped_triangles g.C.CapRule.capping S ps c.args.solved.now in
    let count : length c.args.pairs.now ≡ length ps = sym (length-map c.args.pairs.now pair_parts) in
    let fits : SFits w128 c.total_cost.result = record { sfits = c.total_cost.type_inv } in
    let cost : to_z w128 (of_z w128 c.total_cost.result) ≡ c.total_cost.result = to_z-of_z fits in
    let parts = part g c in
    record {
      vertices = ap length (c.in_ok-vertices.ensures ∙ all_points S c.sections.result.now c.sections.ensures.data)
          ∙ points_count S;
      one_part = sym (length-map c.push.new.self.items _) ∙ ap length parts;
      triangles = omega (
        arith,
        ap (λ (ps : List (List (List ℕ))). sum_by length ps) parts,
        sum_by-cons {X = List (List ℕ)} length ts [],
        (whole g c).few,
      );
      folded = omega (arith, c.in_ok-triangles.ensures.folded, (whole g c).few_folded);
      pairs = omega (arith, count, pairs_within S ps c.requires.pairs, same_counts S.sections);
      some_cost = subst (λ (z : ℤ). pos 0 ≤ℤ z) (sym cost) c.total_cost.ensures.some;
      few_cost = subst (λ (z : ℤ). z ≤ℤ pos (length c.args.pairs.now * pair_cost_limit)) (sym cost)
          c.total_cost.ensures.few_cost;
    }
