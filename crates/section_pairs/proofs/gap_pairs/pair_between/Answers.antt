use Rattle.std.proofs.Common.{◌≡◌, ◌+◌, ◌≤◌, ℕ, List, length, ap, ◌∙◌, subst, arith, Err}
use Rattle.std.proofs.lemmas.Result.{err_from_is_err_and}
use Rattle.fku_types.specs.declared.limits.TheConstants.{MAX_COMPOSITE_VERTICES}
use Rattle.fku_types.specs.declared.fault.Fault.{Fault}
use Rattle.plane_geom.specs.Rings.{RingView}
use Rattle.plane_geom.specs.RingViews.{ring_views}
use Rattle.correspondence.specs.Gaps.{members_of}
use Rattle.section_pairs.specs.declared.gap_pairs.GapPair.{GapPair}
use Rattle.section_pairs.specs.Rings.{composite_at}
use Rattle.section_pairs.specs.Pairs.{sides_between, IsShort}
use Rattle.section_pairs.specs.SectionFaults.{IsFirstFault, HasLongSide, OrNoMemory}
use Rattle.section_pairs.proofs.Sides.{err_told, below_long, above_long}
use Rattle.section_pairs.proofs.gap_pairs.pair_between.Goals as goal

pub returns-in_err-below-clause-fault : goal.returns-in_err-below-clause-fault
returns-in_err-below-clause-fault c =
    let low = ring_views c.args.low.now in
    let high = ring_views c.args.high.now in
    let g = c.args.gap in
    let part = members_of c.args.component.now in
    let fault = c.in_err-below.field-0.0 in
    let exit = err_from_is_err_and c.from_residual.result c.from_residual.ensures.1 in
    let long : OrNoMemory (HasLongSide (g + 1, length (composite_at low part.below).points)) fault =
    subst (λ (places : List ℕ). OrNoMemory (HasLongSide (g + 1, length (composite_at low places).points)) fault)
    c.deref.ensures.value c.in_err-below.ensures.fault in
    err_told {X = GapPair} c.from_residual.result fault
    (OrNoMemory (IsFirstFault IsShort HasLongSide (sides_between low high g part)))
    (exit.1 ∙ ap (λ (e : Fault). Err e) exit.2) (below_long low high g part fault long)

pub returns-in_err-above-clause-fault : goal.returns-in_err-above-clause-fault
returns-in_err-above-clause-fault c =
    let low = ring_views c.args.low.now in
    let high = ring_views c.args.high.now in
    let g = c.args.gap in
    let part = members_of c.args.component.now in
    let fault = c.in_err-above.field-0.0 in
    let exit = err_from_is_err_and c.from_residual-in_err-above.result c.from_residual-in_err-above.ensures.1 in
    let value : length c.in_ok-below.below.points.items ≡ length (composite_at low part.below).points =
    ap (λ (r : RingView). length r.points) c.in_ok-below.ensures.value
    ∙ ap (λ (places : List ℕ). length (composite_at low places).points) c.deref.ensures.value in
    let short : length (composite_at low part.below).points ≤ MAX_COMPOSITE_VERTICES =
    omega (arith, value, c.in_ok-below.ensures.ring.few) in
    let long : OrNoMemory (HasLongSide (g + 2, length (composite_at high part.above).points)) fault =
    subst (λ (places : List ℕ). OrNoMemory (HasLongSide (g + 2, length (composite_at high places).points)) fault)
    c.deref-2.ensures.value c.in_err-above.ensures.fault in
    err_told {X = GapPair} c.from_residual-in_err-above.result fault
    (OrNoMemory (IsFirstFault IsShort HasLongSide (sides_between low high g part)))
    (exit.1 ∙ ap (λ (e : Fault). Err e) exit.2) (above_long low high g part fault short long)
