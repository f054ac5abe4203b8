use Rattle.std.proofs.Common.{arith, ◌≡◌, ◌<◌, ◌≤◌, ◌+◌, ◌*◌, ℕ, [], ◌∷◌, ap, sym, subst, length, sum_by, All, Result, Ok, Err, IfErr, IsErrAnd}
use Rattle.fku_types.specs.declared.limits.TheConstants.{MAX_COMPOSITE_VERTICES}
use Rattle.plane_geom.specs.declared.ring.Ring.{Ring}
use Rattle.plane_geom.specs.Rings.{RingView}
use Rattle.plane_geom.specs.RingViews.{ring_views}
use Rattle.plane_geom.proofs.Sums.{total, back}
use Rattle.plane_geom.proofs.Counts.{leaves_over}
use Rattle.ring_polygons.specs.Composites.{composite, ids_of}
use Rattle.ring_polygons.specs.declared.fault.ComposeFault.{ComposeFault}
use Rattle.ring_polygons.specs.declared.fault.ComposeFault.TheVariants.{NoMemory}
use Rattle.ring_polygons.specs.Faults.{IsCause}
use Rattle.ring_polygons.specs.Bridges.{IsCompositeOf}
use Rattle.ring_polygons.proofs.BridgeLaws.{composite_is, composite_total}
use Rattle.ring_polygons.proofs.Joining.{few_rings, count_is, views, some_views, composite_each}
use Rattle.ring_polygons.proofs.composing.compose.Goals as goal
use Rattle.ring_polygons.proofs.composing.compose.Goals.{After-count_vertices-count}

-- how many vertices the composite has, plus two
counted : (c : After-count_vertices-count) → c.count_vertices-count.result
    ≡ sum_by (λ (r : Ring). length r.points.items) c.args.rings.items + 2 * length c.args.rings.items
counted c = rw c.deref.ensures.value at c.count_vertices-count.ensures

-- memory ran out, and the composite is not too long
memory : {X : Type 0} (r : Result X ComposeFault) (n : ℕ) → n ≤ MAX_COMPOSITE_VERTICES → IsErrAnd r (λ e. e ≡ NoMemory)
    → IfErr r (IsCause n)
memory (Ok x) n l h = tt
memory (Err e) n l h = subst (IsCause n) (sym h) l

pub count_vertices-count-requires-clause-rings : goal.count_vertices-count-requires-clause-rings
count_vertices-count-requires-clause-rings c =
    omega (arith, ap length c.deref.ensures.value, few_rings c.args.rings.items c.requires.contours, c.requires.few)

pub overflow_cast-result : goal.overflow_cast-result
overflow_cast-result c = omega (
  arith,
  few_rings c.args.rings.items c.requires.contours,
  c.requires.few,
  counted (goal.at.overflow_cast-result c).After-count_vertices-count,
)

pub returns-then-count-clause-cause : goal.returns-then-count-clause-cause
returns-then-count-clause-cause c =
    let n = count_is c.args.rings.items c.requires.some c.requires.contours in
    let count = counted (goal.at.returns-then-count-clause-cause c).After-count_vertices-count in
    (omega (arith, n, count), omega (arith, n, count))

pub returns-in_err-join_all-clause-cause : goal.returns-in_err-join_all-clause-cause
returns-in_err-join_all-clause-cause c =
    let n : length (composite (ring_views c.args.rings.items)).points ≤ MAX_COMPOSITE_VERTICES =
    omega (
      arith,
      count_is c.args.rings.items c.requires.some c.requires.contours,
      counted (goal.at.returns-in_err-join_all-clause-cause c).After-count_vertices-count,
    ) in
    memory c.from_residual.result (length (composite (ring_views c.args.rings.items)).points) n
    c.from_residual.ensures.1

pub returns-clause-bridges : goal.returns-clause-bridges
returns-clause-bridges c =
    let rings = c.args.rings.items in
    subst (IsCompositeOf (ring_views rings)) (sym c.in_ok-join_all.ensures.value)
    (composite_is (ring_views rings) (views rings c.requires.contours) (some_views rings c.requires.some))

pub returns-clause-ring : goal.returns-clause-ring
returns-clause-ring c =
    let n = count_is c.args.rings.items c.requires.some c.requires.contours in
    record {
      enough = c.in_ok-join_all.ensures.enough;
      few = omega (
        arith,
        n,
        counted (goal.at.returns-clause-ring c).After-count_vertices-count,
        ap (λ (l : RingView). length l.points) c.in_ok-join_all.ensures.value,
      );
      in_range = c.in_ok-join_all.ensures.range;
    }

pub returns-clause-count : goal.returns-clause-count
returns-clause-count c = omega (
  arith,
  count_is c.args.rings.items c.requires.some c.requires.contours,
  ap (λ (l : RingView). length l.points) c.in_ok-join_all.ensures.value,
)

pub returns-clause-left_over : goal.returns-clause-left_over
returns-clause-left_over c =
    let rings = c.args.rings.items in
    let whole = c.in_ok-join_all.field-0 in
    let same = ap (λ (l : RingView). l.ids) c.in_ok-join_all.ensures.value in
    leaves_over (whole.ids.items ∷ []) (ids_of (ring_views rings)) [] (λ f.
    omega (
      arith,
      composite_total f (ring_views rings) (views rings c.requires.contours),
      ap (λ l. total f (l ∷ [])) same,
      ap (λ l. total (back f) (l ∷ [])) same,
    ))

pub returns-clause-vertices : goal.returns-clause-vertices
returns-clause-vertices c n below =
    let same = ap (λ (l : RingView). l.ids) c.in_ok-join_all.ensures.value in
    subst (All (λ (v : ℕ). v < n)) (sym same) (composite_each (λ (v : ℕ). v < n) c.args.rings.items below)
