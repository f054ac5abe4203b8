use Rattle.std.proofs.Common.{rules, ◌≡◌, ◌≤◌, ℕ, ◌+◌, ◌-◌, pos, ◌+ℤ◌, length-set, ap, ◌∙◌, arith, to_z, of_z, SFits, ℤ}
use mir.Syntax.{w128}
use Rattle.std.proofs.lemmas.Int.{ints, clamps}
use Rattle.fku_types.proofs.ListLaws.{set_more, set_rest}
use Rattle.strip_graph.specs.declared.tilings.Step.TheVariants.{V, H}
use Rattle.strip_graph.specs.Strips.{IsStrip, arcs, cols}
use Rattle.strip_potential.specs.Rows.{potential_at}
use Rattle.strip_potential.proofs.RowLaws.{potential_small, value_down, value_both, cost_at}
use Rattle.strip_potential.proofs.sweeps.next_row.Goals as goal

pub by_v-requires-clause-value : goal.by_v-requires-clause-value
by_v-requires-clause-value c =
    let s = c.args.pair.now in
    let p : IsStrip s = c.low-low.ensures.strip in
    omega (
      arith,
      ints,
      c.requires.values.are 0 (omega arith),
      potential_small s c.args.row 0 p (omega (arith, c.requires.row)) (omega arith),
    )

pub loop-c-init : goal.loop-c-init
loop-c-init c =
    let s = c.args.pair.now in
    let r : ℕ = c.args.row in
    let p : IsStrip s = c.low-low.ensures.strip in
    let cost = cost_at c.round_row-above.result.strip s c.round_row-above.result.row r 0 V
    c.round_row-above.ensures.strip c.round_row-above.ensures.row in
    let g : SFits w128 c.by_v.result = search rules in
    let start = c.requires.values.are 0 (omega arith) in
    let small = potential_small s r 0 p (omega (arith, c.requires.row)) (omega arith) in
    let down : to_z w128 (of_z w128 c.by_v.result) ≡ potential_at s r 0 +ℤ pos (arcs s r 0 V) =
    omega (arith, ints, c.by_v.ensures, start, small, cost) in
    let first = value_down s r _ c.first_of-left.result c.args.offsets.now p c.requires.offsets down
    c.first_of-left.ensures.own c.first_of-left.ensures.none in
    let f : SFits w128 c.first_of-left.result = search rules in
    let is : to_z w128 (of_z w128 c.first_of-left.result) ≡ potential_at s (r + 1) 0 = omega (arith, ints, first) in
    record {
      count = length-set c.args.values.now 0 _ ∙ c.requires.values.count;
      last = is;
      done = set_more (λ (k : ℕ) (v : ℤ). v ≡ potential_at s (r + 1) k) (pos 0) c.args.values.now 0 _
          (omega (arith, c.requires.values.count)) (λ k lt. absurd (omega arith)) is;
      rest = set_rest (λ (k : ℕ) (v : ℤ). k ≤ cols s → v ≡ potential_at s r k) (pos 0) c.args.values.now 0 _
          (λ k le le'. c.requires.values.are k le');
    }

pub next_value-left-requires-clause-value : goal.next_value-left-requires-clause-value
next_value-left-requires-clause-value c =
    let s = c.args.pair.now in
    let p : IsStrip s = c.low-low.ensures.strip in
    let within : c.loop-c.c ≤ cols s =
    omega (arith, c.loop-c-test.true, c.loop-c.auto.values, c.loop-c.invariant.count) in
    omega (
      arith,
      ints,
      c.loop-c.invariant.rest c.loop-c.c (omega arith) within,
      potential_small s c.args.row c.loop-c.c p (omega (arith, c.requires.row)) within,
    )

pub next_value-left-requires-clause-left : goal.next_value-left-requires-clause-left
next_value-left-requires-clause-left c =
    let s = c.args.pair.now in
    let p : IsStrip s = c.low-low.ensures.strip in
    omega (
      arith,
      ints,
      c.loop-c.left-is,
      c.loop-c.invariant.last,
      potential_small s (c.args.row + 1) (c.loop-c.c - 1) p (omega (arith, c.requires.row))
          (omega (arith, c.loop-c-test.true, c.loop-c.auto.values, c.loop-c.invariant.count)),
    )

pub loop-c-preserved : goal.loop-c-preserved
loop-c-preserved c =
    let s = c.args.pair.now in
    let r : ℕ = c.args.row in
    let k : ℕ = c.loop-c.c in
    let p : IsStrip s = c.low-low.ensures.strip in
    let within : k ≤ cols s = omega (arith, c.loop-c-test.true, c.loop-c.auto.values, c.loop-c.invariant.count) in
    let v = cost_at c.round_row-above.result.strip s c.round_row-above.result.row r k V c.round_row-above.ensures.strip
    c.round_row-above.ensures.row in
    let h = cost_at c.round_row-below.result.strip s c.round_row-below.result.row (r + 1) (k - 1) H
    c.round_row-below.ensures.strip c.round_row-below.ensures.row in
    let here = c.loop-c.invariant.rest k (omega arith) within in
    let small = potential_small s r k p (omega (arith, c.requires.row)) within in
    let f : SFits w128 c.next_value-left.result = search rules in
    let is : to_z w128 (of_z w128 c.next_value-left.result) ≡ potential_at s (r + 1) k =
    omega (
      arith,
      ints,
      clamps,
      c.next_value-left.ensures,
      here,
      small,
      c.loop-c.left-is,
      c.loop-c.invariant.last,
      v,
      h,
      value_both s r k p (omega (arith, c.loop-c.auto.c)),
    ) in
    let e : k ≡ k + 1 - 1 = omega arith in
    record {
      count = length-set c.loop-c.values k _ ∙ c.loop-c.invariant.count;
      last = is ∙ ap (potential_at s (r + 1)) e;
      done = set_more (λ (k : ℕ) (v : ℤ). v ≡ potential_at s (r + 1) k) (pos 0) c.loop-c.values k _
          (omega (arith, within, c.loop-c.invariant.count)) c.loop-c.invariant.done is;
      rest = set_rest (λ (l : ℕ) (v : ℤ). l ≤ cols s → v ≡ potential_at s r l) (pos 0) c.loop-c.values k _
          c.loop-c.invariant.rest;
    }

pub returns : goal.returns
returns c = record {
  count = c.loop-c.invariant.count;
  are = λ k le. c.loop-c.invariant.done k
      (omega (arith, le, c.loop-c-test.false, c.loop-c.auto.values, c.loop-c.invariant.count));
}
