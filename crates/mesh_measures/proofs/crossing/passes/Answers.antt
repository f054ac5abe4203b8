use Rattle.std.proofs.Common.{◌≡◌, ◌∙◌, ◌≤◌, ◌&&◌, Bool, ℤ, unsigned_abs, to_z, of_z, ap, ap₂, sym, arith}
use mir.Syntax.{w128}
use Rattle.mesh_measures.specs.Turns.{turn}
use Rattle.mesh_measures.specs.Crossings.{are_opposite, have_one_sign, passes}
use Rattle.triangle_meshes.proofs.Sizes.{passed}
use Rattle.mesh_measures.proofs.Axes.{three}
use Rattle.mesh_measures.proofs.crossing.passes.Goals as goal

-- a volume passed to a call is itself
itself : (r v : ℤ) → r ≡ v → unsigned_abs r ≤ 48000000000000000000 → to_z w128 (of_z w128 r) ≡ v
itself r v e h = passed r (omega arith) ∙ e

pub returns-then-are_opposite : goal.returns-then-are_opposite
unfolding passes
returns-then-are_opposite c =
    let p = c.args.p in
    let q = c.args.q in
    let t = c.args.t.now in
    let e = sym (ap₂ are_opposite (itself _ _ c.turn.ensures.value c.turn.ensures.range)
    (itself _ _ c.turn-2.ensures.value c.turn-2.ensures.range)) ∙ sym c.are_opposite.ensures
    ∙ c.if-are_opposite.true in
    let h = three _ _ _ _ _ _ (itself _ _ c.turn-then-are_opposite.ensures.value c.turn-then-are_opposite.ensures.range)
    (itself _ _ c.turn-then-are_opposite-2.ensures.value c.turn-then-are_opposite-2.ensures.range)
    (itself _ _ c.turn-then-are_opposite-3.ensures.value c.turn-then-are_opposite-3.ensures.range) in
    c.have_one_sign.ensures ∙ h ∙ sym (ap
    (λ (b : Bool). b && have_one_sign (turn p q t.a t.b) (turn p q t.b t.c) (turn p q t.c t.a)) e)

pub returns-else-are_opposite : goal.returns-else-are_opposite
unfolding passes
returns-else-are_opposite c =
    let p = c.args.p in
    let q = c.args.q in
    let t = c.args.t.now in
    let e = sym (ap₂ are_opposite (itself _ _ c.turn.ensures.value c.turn.ensures.range)
    (itself _ _ c.turn-2.ensures.value c.turn-2.ensures.range)) ∙ sym c.are_opposite.ensures
    ∙ c.if-are_opposite.false in
    c.if-are_opposite.false ∙ sym (ap (λ (b : Bool).
    b && have_one_sign (turn p q t.a t.b) (turn p q t.b t.c) (turn p q t.c t.a)) e)
