use Rattle.std.proofs.Common.{◌≡◌, ◌∙◌, ◌||◌, Bool, true, false, ap, ap₂, sym}
use Rattle.mesh_measures.specs.Crossings.{passes, pierces}
use Rattle.mesh_measures.proofs.crossing.pierces.Goals as goal
use Rattle.mesh_measures.proofs.crossing.pierces.Goals.{then-passes, else-passes}

by_first : (v p q r : Bool) → v ≡ true → p ≡ true → v ≡ (p || q || r)
by_first v p q r e f = e ∙ sym (ap (λ (b : Bool). b || q || r) f)

by_second : (v p q r : Bool) → v ≡ true → p ≡ false → v ≡ q → v ≡ (p || q || r)
by_second v p q r e f g = e ∙ sym (ap₂ (λ (b d : Bool). b || d || r) f (sym g ∙ e))

by_third : (v w p q r : Bool) → w ≡ false → p ≡ false → w ≡ q → v ≡ r → v ≡ (p || q || r)
by_third v w p q r e f g h = h ∙ sym (ap₂ (λ (b d : Bool). b || d || r) f (sym g ∙ e))

pub returns-then-passes-2 : goal.returns-then-passes-2
unfolding pierces
returns-then-passes-2 c =
    let s = c.args.s.now in
    let t = c.args.t.now in
    elim c.if-passes.branch [
      | then-passes w ↦ by_first c.if-passes.value (passes s.a s.b t) (passes s.b s.c t) (passes s.c s.a t)
          c.if-passes-2.true (sym c.passes.ensures ∙ w.if-passes.true)
      | else-passes w ↦ by_second c.if-passes.value (passes s.a s.b t) (passes s.b s.c t) (passes s.c s.a t)
          c.if-passes-2.true (sym c.passes.ensures ∙ w.if-passes.false) (w.value-is ∙ w.passes-else-passes.ensures)
    ]

pub returns-else-passes-2 : goal.returns-else-passes-2
unfolding pierces
returns-else-passes-2 c =
    let s = c.args.s.now in
    let t = c.args.t.now in
    elim c.if-passes.branch [
      | then-passes w ↦ absurd (let e : true ≡ false = sym w.if-passes.true ∙ sym w.value-is ∙ c.if-passes-2.false in
          cc)
      | else-passes w ↦ by_third _ c.if-passes.value (passes s.a s.b t) (passes s.b s.c t) (passes s.c s.a t)
          c.if-passes-2.false (sym c.passes.ensures ∙ w.if-passes.false) (w.value-is ∙ w.passes-else-passes.ensures)
          c.passes-else-passes-2.ensures
    ]
