use Rattle.std.proofs.Common.{arith, ◌≡◌, ◌≤◌, ◌++◌, ℕ, List, [], ◌∷◌, Option, inl, inr, length, length-append, ap, subst, All, None, get_or}
use Rattle.std.proofs.lemmas.Bool.{cases_lt}
use Rattle.std.proofs.lemmas.Grind.{common_steps}
use Rattle.std.proofs.lemmas.List.{get_or_append_left}
use Rattle.std.proofs.lemmas.Result.{IfOk-from_err}
use Rattle.std.specs.Prelude.{IfSome, IsSome}
use Rattle.std.proofs.lemmas.List.Elements.{All-nil}
use Rattle.pair_pool.specs.Batches.{IsMadeAt}
use Rattle.pair_pool.proofs.Slots.{filled_more}
use Rattle.pair_pool.proofs.Taken.{none_taken, taken_more, next_right, all_taken}
use Rattle.pair_pool.proofs.placing.placed.Goals as goal

pub loop-place-init : goal.loop-place-init
loop-place-init g c =
    let gives = c.into_iter-place-iterator.ensures.into_iter_gives in
    let rest = c.into_iter-place-iterator.result.rest in
    record {
      next = tt;
      finite = tt;
      taken = none_taken c.args.drawn.items rest.items rest.len gives.0 (omega (arith, gives.1));
      slots = record {
        count = omega (
          arith,
          c.loop.invariant.count,
          c.loop-test.false,
          c.places-places.ensures,
          c.loop.auto.counter-end,
        );
        each = c.loop.invariant.each;
      };
      full = All-nil _;
    }

pub loop-place-preserved : goal.loop-place-preserved
loop-place-preserved g c =
    let drawn = c.args.drawn.items in
    let done = c.loop-place.yielded in
    let was = c.loop-place.place-iterator.rest in
    let rest = c.next.new.self.rest in
    let steps = c.in-Some.ensures.steps in
    let v = c.loop-place.invariant in
    let one : ℕ × g.row.B-Made.Denot = (c.in-Some.place, c.in-Some.made) in
    let at = next_right (λ d. IsMadeAt (g.B.Batch.places c.args.batch.now) (g.B.Batch.is_right c.args.batch.now) d.0
    d.1) drawn done was.items rest.items one was.len steps.0 v.taken c.requires in
    let filled = filled_more (g.B.Batch.places c.args.batch.now) (g.B.Batch.is_right c.args.batch.now) done
    c.loop-place.slots.items c.put.new.slots.items c.in-Some.place c.in-Some.made c.put.ensures at v.slots v.full in
    record {
      next = tt;
      finite = tt;
      taken = taken_more drawn done was.items rest.items one rest.len steps.0
          (omega (arith, steps.1, v.taken.left, ap length steps.0)) was.len v.taken;
      slots = filled.0;
      full = filled.1;
    }

pub returns-clause-full : goal.returns-clause-full
returns-clause-full g c =
    let rest = c.loop-place.place-iterator.rest in
    subst (All (λ d. IsSome (get_or c.loop-place.slots.items d.0 None)))
    (all_taken c.args.drawn.items c.loop-place.yielded rest.items rest.len c.in-None.ensures.steps.0
    c.loop-place.invariant.taken) c.loop-place.invariant.full

-- one slot more, which is empty
empty_from : {M : Type 0} (xs : List (Option M)) (k : ℕ) → length xs ≤ k → get_or (xs ++ None ∷ []) k None ≡ None
empty_from xs k ge = grind (arith, common_steps)

each_more : {M : Type 0} (P : ℕ → M → Type 0) (xs ys : List (Option M)) → ys ≡ xs ++ None ∷ []
    → ((k : ℕ) → IfSome (get_or xs k None) (P k)) → (k : ℕ) → IfSome (get_or ys k None) (P k)
each_more P xs ys e h k =
    elim (cases_lt k (length xs)) [
      | inl less ↦ rw (e, get_or_append_left xs (None ∷ []) None k less) (h k)
      | inr ge ↦ rw (e, empty_from xs k ge) tt
    ]

pub returns-in_err-push-clause-full : goal.returns-in_err-push-clause-full
returns-in_err-push-clause-full g c = IfOk-from_err c.from_residual-in_err-push.result _
    c.from_residual-in_err-push.ensures.0

pub loop-preserved : goal.loop-preserved
loop-preserved g c = record {
  count = omega (
    arith,
    ap length c.in_ok-push.ensures.items,
    length-append c.loop.slots.items (None ∷ []),
    c.loop.invariant.count,
  );
  each = each_more (g.B.Batch.is_right c.args.batch.now) c.loop.slots.items c.push.new.self.items
      c.in_ok-push.ensures.items c.loop.invariant.each;
}

pub put-requires : goal.put-requires
put-requires g c =
    let v = c.loop-place.invariant in
    let one : ℕ × g.row.B-Made.Denot = (c.in-Some.place, c.in-Some.made) in
    let rest = c.next.new.self.rest in
    let at = next_right (λ d. IsMadeAt (g.B.Batch.places c.args.batch.now) (g.B.Batch.is_right c.args.batch.now) d.0
    d.1) c.args.drawn.items c.loop-place.yielded c.loop-place.place-iterator.rest.items rest.items one
    c.loop-place.place-iterator.rest.len c.in-Some.ensures.steps.0 v.taken c.requires in
    omega (arith, at.within, v.slots.count)
