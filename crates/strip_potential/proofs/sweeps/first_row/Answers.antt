use Rattle.std.proofs.Common.{rules, ◌≡◌, ℕ, ◌+◌, ◌-◌, pos, length-set, sym, ap, ◌∙◌, arith, to_z, of_z, SFits, ℤ}
use mir.Syntax.{w128}
use Rattle.std.proofs.lemmas.Int.{ints}
use Rattle.fku_types.proofs.ListLaws.{set_more}
use Rattle.strip_graph.specs.declared.tilings.Step.TheVariants.{H}
use Rattle.strip_graph.specs.Strips.{IsStrip}
use Rattle.strip_potential.specs.Rows.{potential_at}
use Rattle.strip_potential.proofs.RowLaws.{potential_small, value_first, value_along, cost_at}
use Rattle.strip_potential.proofs.sweeps.first_row.Goals as goal

pub loop-c-init : goal.loop-c-init
loop-c-init c =
    let s = c.args.pair.now in
    let p : IsStrip s = c.low-low.ensures.strip in
    record {
      count = length-set c.args.values.now 0 (pos 0) ∙ c.requires;
      last = sym (value_first s p);
      done = set_more (λ (k : ℕ) (v : ℤ). v ≡ potential_at s 0 k) (pos 0) c.args.values.now 0 (pos 0)
          (omega (arith, c.requires)) (λ k lt. absurd (omega arith)) (sym (value_first s p));
    }

pub by_h-value-requires-clause-value : goal.by_h-value-requires-clause-value
by_h-value-requires-clause-value c =
    let s = c.args.pair.now in
    let p : IsStrip s = c.low-low.ensures.strip in
    omega (
      arith,
      ints,
      c.loop-c.value-is,
      c.loop-c.invariant.last,
      potential_small s 0 (c.loop-c.c - 1) p (omega (arith, p.low.enough))
          (omega (arith, c.loop-c.invariant.count, c.loop-c-test.true, c.loop-c.auto.values)),
    )

pub loop-c-preserved : goal.loop-c-preserved
loop-c-preserved c =
    let s = c.args.pair.now in
    let p : IsStrip s = c.low-low.ensures.strip in
    let k : ℕ = c.loop-c.c in
    let cost = cost_at c.round_row-here.result.strip s c.round_row-here.result.row 0 (k - 1) H
    c.round_row-here.ensures.strip c.round_row-here.ensures.row in
    let f : SFits w128 c.by_h-value.result = search rules in
    let is : to_z w128 (of_z w128 c.by_h-value.result) ≡ potential_at s 0 k =
    omega (
      arith,
      ints,
      c.loop-c.value-is,
      c.loop-c.invariant.last,
      c.by_h-value.ensures,
      cost,
      value_along s k p (omega (arith, c.loop-c.auto.c)),
    ) in
    let e : k ≡ k + 1 - 1 = omega arith in
    record {
      count = length-set c.loop-c.values k _ ∙ c.loop-c.invariant.count;
      last = is ∙ ap (potential_at s 0) e;
      done = set_more (λ (k : ℕ) (v : ℤ). v ≡ potential_at s 0 k) (pos 0) c.loop-c.values k _
          (omega (arith, c.loop-c-test.true, c.loop-c.auto.values)) c.loop-c.invariant.done is;
    }
