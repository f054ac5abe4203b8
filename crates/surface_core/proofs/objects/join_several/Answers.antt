use Rattle.std.proofs.Common.{◌≡◌, ◌+◌, ◌*◌, ◌++◌, List, length, map, sum_by, ℕ, ℤ, pos, ◌+ℤ◌, ◌≤ℤ◌, sym, ap, ◌∙◌, arith, subst, All, to_z}
use mir.Syntax.{w128}
use Rattle.std.specs.List.{AllByRecursion}
use Rattle.std.proofs.lemmas.Int.{ints}
use Rattle.std.proofs.lemmas.List.{length-map}
use Rattle.plane_geom.specs.Planes.{signed_sum}
use Rattle.plane_geom.specs.Rings.{IsClosed}
use Rattle.triangle_meshes.specs.declared.meshes.Mesh.{Mesh}
use Rattle.triangle_meshes.specs.Meshes.{Surface, surface_of, IsValid}
use Rattle.triangle_meshes.specs.Joined.{joined}
use Rattle.surface_core.specs.declared.surfaces.Built.{Built}
use Rattle.surface_core.specs.Objects.{objects_in, surfaces_of, pair_cost_limit}
use Rattle.surface_core.proofs.ObjectFacts.{AreFewObjects, few_objects}
use Rattle.surface_core.proofs.JoinedSizes.{IsCheap, AreBounded, Cost, are_bounded, joined_valid, sum_next, cost_next, meshes_next, none_left, few_added, folded_added, cost_added, sum_ended, cost_ended}
use Rattle.surface_core.proofs.objects.join_several.Goals as goal
use Rattle.surface_core.proofs.objects.join_several.Goals.{After-items-items, In-Some, After-deref}

pub loop-built-init : goal.loop-built-init
loop-built-init c =
    let gives = c.into_iter-built-iterator.ensures.into_iter_gives in
    let rest = c.into_iter-built-iterator.result.rest.items in
    record {
      meshes = ap (λ (ms : List Mesh). map surface_of ms ++ surfaces_of rest) c.in_ok-meshes.ensures.items
          ∙ ap surfaces_of gives.0;
      pairs = omega (arith, ap (sum_by (λ (b : Built). b.pairs)) gives.0);
      folded = omega (arith, ap (sum_by (λ (b : Built). b.folded)) gives.0);
      cost = omega (arith, ints, ap (signed_sum (λ (b : Built). b.cost)) gives.0);
      some_cost = omega (arith, ints);
      few_cost = omega (arith, ints);
      cheap = subst (AllByRecursion IsCheap) (sym gives.0)
          (are_bounded (objects_in c.args.objects.now) c.args.each.items c.requires.bounded).cheap;
      left = omega (arith, gives.1, ap length gives.0);
    }

few : (c : After-items-items) → AreFewObjects (objects_in c.args.objects.now)
few c = few_objects c.args.objects.now c.items-items.ensures.accepted

bounded : (c : After-items-items) → AreBounded (objects_in c.args.objects.now) c.args.each.items
bounded c = are_bounded (objects_in c.args.objects.now) c.args.each.items c.requires.bounded

-- ---- in the loop
cost : (c : In-Some)
    → Cost (to_z w128 c.loop-built.cost-bits) c.in-Some.built.cost c.loop-built.pairs c.in-Some.built.pairs
cost c =
    let was = c.loop-built.invariant in
    let at = (goal.at.In-Some c).After-items-items in
    cost_added (objects_in c.args.objects.now) c.args.each.items c.loop-built.built-iterator.rest.items
    c.next.new.self.rest.items c.in-Some.built c.loop-built.pairs (to_z w128 c.loop-built.cost-bits) (few at)
    (bounded at) c.in-Some.ensures.steps.0 was.pairs was.cheap was.some_cost was.few_cost

pub overflow_add-pairs : goal.overflow_add-pairs
overflow_add-pairs c =
    let at = (goal.at.overflow_add-pairs c).After-items-items in
    omega (
      arith,
      few_added (objects_in c.args.objects.now) c.args.each.items c.loop-built.built-iterator.rest.items
          c.next.new.self.rest.items c.in-Some.built c.loop-built.pairs (few at) (bounded at)
          c.in-Some.ensures.steps.0 c.loop-built.invariant.pairs,
    )

pub overflow_add-cost : goal.overflow_add-cost
overflow_add-cost c = (cost (goal.at.overflow_add-cost c).In-Some).fits

pub overflow_add-folded : goal.overflow_add-folded
overflow_add-folded c =
    let at = (goal.at.overflow_add-folded c).After-items-items in
    omega (
      arith,
      folded_added (objects_in c.args.objects.now) c.args.each.items c.loop-built.built-iterator.rest.items
          c.next.new.self.rest.items c.in-Some.built c.loop-built.folded (few at) (bounded at)
          c.in-Some.ensures.steps.0 c.loop-built.invariant.folded,
    )

pub loop-built-preserved : goal.loop-built-preserved
loop-built-preserved c =
    let steps = c.in-Some.ensures.steps in
    let was = c.loop-built.invariant in
    let more = c.next.new.self.rest.items in
    let rest = c.loop-built.built-iterator.rest.items in
    let b = c.in-Some.built in
    let each = c.args.each.items in
    let f : Built → ℤ = λ x. x.cost in
    let s = to_z w128 c.loop-built.cost-bits in
    let sum = cost (goal.at.loop-built-preserved c).In-Some in
    record {
      meshes = meshes_next c.loop-built.meshes.items c.push.new.self.items rest more b (surfaces_of each)
          c.in_ok-push.ensures.items steps.0 was.meshes;
      pairs = sum_next (λ (x : Built). x.pairs) rest more b c.loop-built.pairs (sum_by (λ (x : Built). x.pairs) each)
          steps.0 was.pairs;
      folded = sum_next (λ (x : Built). x.folded) rest more b c.loop-built.folded
          (sum_by (λ (x : Built). x.folded) each) steps.0 was.folded;
      cost = ap (λ (z : ℤ). z +ℤ signed_sum f more) sum.is
          ∙ cost_next rest more b s (signed_sum f each) steps.0 was.cost;
      some_cost = subst (λ (z : ℤ). pos 0 ≤ℤ z) (sym sum.is) sum.some;
      few_cost = subst (λ (z : ℤ). z ≤ℤ pos ((c.loop-built.pairs + b.pairs) * pair_cost_limit)) (sym sum.is) sum.few;
      cheap = (subst (AllByRecursion IsCheap) steps.0 was.cheap).1;
      left = omega (arith, steps.1, was.left, ap length steps.0);
    }

-- ---- at the end
same : (c : After-deref) → map surface_of c.deref.result.now ≡ surfaces_of c.args.each.items
same c =
    let left = c.loop-built.built-iterator.rest in
    ap (map surface_of) c.deref.ensures.value
    ∙ none_left c.loop-built.meshes.items left.items left.len (surfaces_of c.args.each.items)
    c.loop-built.invariant.left c.in-None.ensures.steps.0 c.loop-built.invariant.meshes

whole : (c : After-deref) → IsValid (joined (surfaces_of c.args.each.items))
whole c =
    let at = (goal.at.After-deref c).After-items-items in
    joined_valid (objects_in c.args.objects.now) c.args.each.items (few at) (bounded at) c.requires.valid

pub join_meshes-requires-clause-some : goal.join_meshes-requires-clause-some
join_meshes-requires-clause-some c =
    let at = goal.at.join_meshes-requires-clause-some c in
    omega (
      arith,
      ap length (same at.After-deref),
      length-map c.deref.result.now surface_of,
      length-map c.args.each.items (λ (b : Built). surface_of b.mesh),
      (bounded at.After-items-items).count,
      (few at.After-items-items).some,
    )

pub join_meshes-requires-clause-whole : goal.join_meshes-requires-clause-whole
join_meshes-requires-clause-whole c =
    let at = (goal.at.join_meshes-requires-clause-whole c).After-deref in
    subst (λ (ss : List Surface). IsValid (joined ss)) (sym (same at)) (whole at)

pub join_meshes-requires-clause-each : goal.join_meshes-requires-clause-each
join_meshes-requires-clause-each c =
    subst (λ (ss : List Surface). All IsValid ss) (sym (same (goal.at.join_meshes-requires-clause-each c).After-deref))
    c.requires.valid

pub returns-clause-valid : goal.returns-clause-valid
returns-clause-valid c =
    let at = (goal.at.returns-clause-valid c).After-deref in
    subst IsValid (sym (c.in_ok-mesh.ensures.joined ∙ ap joined (same at))) (whole at)

pub returns-clause-closed : goal.returns-clause-closed
returns-clause-closed c =
    c.in_ok-mesh.ensures.closed (subst (λ (ss : List Surface). All (λ s. All IsClosed s.parts) ss)
    (sym (same (goal.at.returns-clause-closed c).After-deref)) c.requires.closed)

pub returns-clause-joined : goal.returns-clause-joined
returns-clause-joined c =
    let left = c.loop-built.built-iterator.rest in
    let was = c.loop-built.invariant in
    let none = c.in-None.ensures.steps.0 in
    let each = c.args.each.items in
    let pairs : Built → ℕ = λ b. b.pairs in
    let folded : Built → ℕ = λ b. b.folded in
    let cost : Built → ℤ = λ b. b.cost in
    record {
      mesh = c.in_ok-mesh.ensures.joined ∙ ap joined (same (goal.at.returns-clause-joined c).After-deref);
      pairs = sum_ended pairs left.items left.len c.loop-built.pairs (sum_by pairs each) was.left none was.pairs;
      cost = cost_ended cost left.items left.len (to_z w128 c.loop-built.cost-bits) (signed_sum cost each) was.left
          none was.cost;
      folded = sum_ended folded left.items left.len c.loop-built.folded (sum_by folded each) was.left none was.folded;
    }
