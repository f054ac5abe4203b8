-- Places in the order in which workers take them, and the slots for their values.
use Rattle.std.proofs.Common.{◌≡◌, ◌≢◌, ℕ, Bor, ◌<◌, ◌⊎◌, inl, inr, List, [], ◌∷◌, ◌++◌, All, length, get_or, set, Option, None, Some, refl, sym, ◌∙◌, ap, subst, arith, rules}
use Rattle.std.specs.Prelude.{IfSome, IsSome}
use Rattle.std.proofs.lemmas.List.{get_or_default, get_or-set_same, get_or-set_other, length-set, length-map}
use Rattle.std.proofs.lemmas.List.Elements.{All-push}
use Rattle.std.proofs.lemmas.List.Sorted.{All-permutation}
use Rattle.std.proofs.lemmas.Bool.{cases_eq}
use Rattle.strip_graph.specs.Strips.{Strip}
use Rattle.pair_pool.specs.declared.jobs.Job.{Job}
use Rattle.pair_pool.specs.Jobs.{AreByWork}
use Rattle.pair_pool.specs.Solvers.{referents}
use Rattle.pair_pool.specs.Batches.{IsMadeAt, AreSlots}

-- each job is at a place of the list
pub places_below : (pairs : List (Bor Strip)) (jobs given : List Job) → given ≡ jobs → AreByWork (referents pairs) jobs
    → All (λ j. j.place < length pairs) given
places_below pairs jobs given is h =
    let P : Job → Type 0 = λ j. j.place < length pairs in
    subst (All P) (sym is) (All-permutation P h.listed jobs h.same
    (λ k d l. omega (arith, (h.all.each k d l).place, h.all.count, length-map pairs (λ (p : Bor Strip). p.now), l)))

-- a slot gets a value that is right for its place, or is emptied
pub slot_set : {M : Type 0} (places : ℕ) (IsRight : ℕ → M → Type 0) (slots : List (Option M)) (i : ℕ) (o : Option M)
    → i < places → AreSlots places IsRight slots → IfSome o (IsRight i) → AreSlots places IsRight (set slots i o)
slot_set {M = M} places IsRight slots i o l h is = record {
  count = length-set slots i o ∙ h.count;
  each = λ k. by k (cases_eq k i);
}
  where
    by : (k : ℕ) → (k ≡ i) ⊎ (k ≢ i) → IfSome (get_or (set slots i o) k None) (IsRight k)
    by k (inl e) =
        let there : get_or (set slots i o) k None ≡ o = ap (λ (n : ℕ). get_or (set slots i o) n None) e
        ∙ get_or-set_same slots i o None (omega (arith, l, h.count)) in
        subst (λ (x : Option M). IfSome x (IsRight k)) (sym there) (subst (λ (n : ℕ). IfSome o (IsRight n)) (sym e) is)
    by k (inr ne) = subst (λ (x : Option M). IfSome x (IsRight k)) (sym (get_or-set_other slots i k o None ne))
        (h.each k)

-- the value in a slot is right for its place
pub slot_right : {M : Type 0} (places : ℕ) (IsRight : ℕ → M → Type 0) (slots : List (Option M)) (i : ℕ)
    (o was : Option M) → i < places → AreSlots places IsRight slots → was ≡ get_or slots i was → o ≡ was
    → IfSome o (IsRight i)
slot_right {M = M} places IsRight slots i o was l h at is =
    subst (λ (x : Option M). IfSome x (IsRight i))
    (sym (is ∙ (at ∙ get_or_default slots i was None (omega (arith, l, h.count))))) (h.each i)

-- the slot that gets a value is full, and full slots stay full
set_full : {M : Type 0} (slots : List (Option M)) (i : ℕ) (x : M) (k : ℕ) → i < length slots → k ≡ i
    → IsSome (get_or (set slots i (Some x)) k None)
set_full {M = M} slots i x k l e =
    subst IsSome (sym (ap (λ (n : ℕ). get_or (set slots i (Some x)) n None) e
    ∙ get_or-set_same slots i (Some x) None l)) (search rules)

stays_full : {M : Type 0} (slots : List (Option M)) (i : ℕ) (x : M) (k : ℕ) → i < length slots
    → IsSome (get_or slots k None) → IsSome (get_or (set slots i (Some x)) k None)
stays_full {M = M} slots i x k l full = elim (cases_eq k i) [
  | inl e ↦ set_full slots i x k l e
  | inr ne ↦ subst IsSome (sym (get_or-set_other slots i k (Some x) None ne)) full
]

-- the slot of a new value is filled, and those of earlier values stay so
pub filled_more : {M : Type 0} (places : ℕ) (IsRight : ℕ → M → Type 0) (done : List (ℕ × M))
    (slots new : List (Option M)) (place : ℕ) (made : M)
    → new ≡ set slots place (Some made) → IsMadeAt places IsRight place made → AreSlots places IsRight slots
    → All (λ d. IsSome (get_or slots d.0 None)) done
    → AreSlots places IsRight new × All (λ d. IsSome (get_or new d.0 None)) (done ++ (place, made) ∷ [])
filled_more {M = M} places IsRight done slots new place made e at h full =
    let there : place < length slots = omega (arith, at.within, h.count) in
    let Full : ℕ × M → Type 0 = λ d. IsSome (get_or (set slots place (Some made)) d.0 None) in
    let all : All Full (done ++ (place, made) ∷ []) =
    All-push Full done (place, made) (λ k d l. stays_full slots place made (get_or done k d).0 there (full k d l))
    (set_full slots place made place there refl) in (
      subst (AreSlots places IsRight) (sym e) (slot_set places IsRight slots place (Some made) at.within h at.right),
      subst (λ (x : List (Option M)). All (λ (d : ℕ × M). IsSome (get_or x d.0 None)) (done ++ (place, made) ∷ []))
          (sym e) all,
    )
