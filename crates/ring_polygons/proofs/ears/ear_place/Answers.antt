use Rattle.std.proofs.Common.{arith, ℕ, Bool, Option, sym, ap, ◌∙◌, length}
use Rattle.std.specs.Prelude.{unwrap_or}
use Rattle.ring_polygons.specs.Caps.{sign, is_ear}
use Rattle.ring_polygons.proofs.Ranges.{first_found, none_found}
use Rattle.ring_polygons.proofs.ears.ear_place.Goals as goal

pub returns-then-is_ear-clause-value : goal.returns-then-is_ear-clause-value
returns-then-is_ear-clause-value c =
    let test : ℕ → Bool = is_ear c.args.twins (sign c.args.left) c.args.points.now in
    sym (ap (λ (o : Option ℕ). unwrap_or o 0)
    (first_found test 0 (length c.args.points.now) c.loop-place.place (omega arith) (omega arith)
    (λ i p q. c.loop-place.invariant.none i q) (sym c.is_ear.ensures.value ∙ c.if-is_ear.true)))

pub returns-clause-value : goal.returns-clause-value
returns-clause-value c =
    let test : ℕ → Bool = is_ear c.args.twins (sign c.args.left) c.args.points.now in
    sym (ap (λ (o : Option ℕ). unwrap_or o 0)
    (none_found test 0 (length c.args.points.now) (λ i p q. c.loop-place.invariant.none i (omega arith))))
