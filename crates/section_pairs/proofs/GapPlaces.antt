-- The places of the components of gaps.
use Rattle.std.proofs.Common.{ℕ, zero, suc, List, [], ◌∷◌, map, arith, All}
use Rattle.std.specs.List.{AllByRecursion}
use Rattle.correspondence.specs.declared.gaps.Component.{Component}
use Rattle.correspondence.specs.Components.{IsComponent}
use Rattle.correspondence.specs.Gaps.{members_of}
use Rattle.section_pairs.specs.Rings.{ArePicked}

pub below_places : (links : ℕ → ℕ → Type 0) (n m : ℕ) (cs : List Component)
    → AllByRecursion (IsComponent links n m) (map members_of cs) → All (λ (c : Component). ArePicked n c.below.items) cs
below_places links n m [] h k d l = absurd (omega (arith, l))
below_places links n m (c ∷ cs) h zero d l =
    record { rising = h.0.below_in_order; there = h.0.below_there; some = h.0.some_below }
below_places links n m (c ∷ cs) h (suc k) d l = below_places links n m cs h.1 k d (omega (arith, l))

pub above_places : (links : ℕ → ℕ → Type 0) (n m : ℕ) (cs : List Component)
    → AllByRecursion (IsComponent links n m) (map members_of cs) → All (λ (c : Component). ArePicked m c.above.items) cs
above_places links n m [] h k d l = absurd (omega (arith, l))
above_places links n m (c ∷ cs) h zero d l =
    record { rising = h.0.above_in_order; there = h.0.above_there; some = h.0.some_above }
above_places links n m (c ∷ cs) h (suc k) d l = above_places links n m cs h.1 k d (omega (arith, l))
