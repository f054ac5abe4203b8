use Rattle.std.proofs.Common.{arith, ◌≡◌, ◌<◌, ℕ, ℤ, List, length, get_or, sym, subst, ◌∙◌}
use Rattle.std.proofs.lemmas.List.{get_or_default}
use Rattle.fku_types.specs.declared.points.Point.{Point}
use Rattle.ring_polygons.specs.declared.twins.Twins.{Twins}
use Rattle.ring_polygons.specs.declared.states.EarState.{EarState}
use Rattle.ring_polygons.specs.declared.states.EarState.TheVariants.{Open, NotConvex, Hindered}
use Rattle.ring_polygons.specs.Caps.{sign}
use Rattle.ring_polygons.specs.States.{IsTrueOf, AreTrue}
use Rattle.ring_polygons.proofs.EarTests.{not_along, hindered}
use Rattle.ring_polygons.proofs.ears.is_ear.Goals as goal

-- the state that is read is true of its corner
known : (w : Twins) (s : ℤ) (ring : List Point) (states : List EarState) (t : ℕ) (d state : EarState) → t < length ring
    → AreTrue w s ring states → get_or states t d ≡ state → IsTrueOf w s ring t state
known w s ring states t d state l h e =
    subst (IsTrueOf w s ring t) (sym (get_or_default states t d (Open 0) (omega (arith, h.one_each))) ∙ e) (h.each t l)

pub returns-in-NotConvex-clause-value : goal.returns-in-NotConvex-clause-value
returns-in-NotConvex-clause-value c =
    sym (not_along c.args.twins (sign c.args.left) c.args.points.now c.args.place
    (known c.args.twins (sign c.args.left) c.args.points.now c.args.states.now c.args.place _ NotConvex c.requires.place
    c.requires.states c.in-NotConvex.is))

pub returns-in-Hindered-clause-value : goal.returns-in-Hindered-clause-value
returns-in-Hindered-clause-value c =
    let k : ℕ = c.in-Hindered.field-0 in
    let is = known c.args.twins (sign c.args.left) c.args.points.now c.args.states.now c.args.place _ (Hindered k)
    c.requires.place c.requires.states c.in-Hindered.is in
    sym (hindered c.args.twins (sign c.args.left) c.args.points.now c.args.place k is.0 is.1)
