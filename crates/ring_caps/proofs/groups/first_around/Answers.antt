use Rattle.std.proofs.Common.{ℕ, Bool, map, length, arith, sym, ◌∙◌, below_more}
use Rattle.correspondence.specs.Contours.{points_of}
use Rattle.ring_polygons.proofs.Ranges.{first_found, none_found}
use Rattle.ring_caps.specs.Groups.{is_around}
use Rattle.ring_caps.proofs.groups.first_around.Goals as goal

pub loop-other-preserved : goal.loop-other-preserved
loop-other-preserved c = below_more _ _ c.loop-other.invariant (sym c.is_around.ensures ∙ c.if-is_around.false)

pub returns-then-is_around : goal.returns-then-is_around
returns-then-is_around c =
    let test : ℕ → Bool = is_around (map points_of c.args.contours.now) c.args.place in
    sym (first_found test 0 (length c.args.contours.now) c.loop-other.other (omega arith) (omega arith)
    (λ i p q. c.loop-other.invariant i q) (sym c.is_around.ensures ∙ c.if-is_around.true))

pub returns : goal.returns
returns c =
    let test : ℕ → Bool = is_around (map points_of c.args.contours.now) c.args.place in
    sym (none_found test 0 (length c.args.contours.now) (λ i p q. c.loop-other.invariant i (omega arith)))
