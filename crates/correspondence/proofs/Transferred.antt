-- Components by equal relations are the same.
use Rattle.std.proofs.Common.{◌↔◌, ℕ, List, [], ◌∷◌}
use Rattle.std.specs.List.{AllByRecursion}
use Rattle.correspondence.specs.Components.{Member, Below, Above, Members, AreLinked, Leads, IsComponent, AreComponents}

module _ (one other : ℕ → ℕ → Type 0) (same : (i j : ℕ) → one i j ↔ other i j) where
  linked : (x y : Member) → AreLinked one x y → AreLinked other x y
  linked (Below i) (Above j) h = (same i j).0 h
  linked (Above j) (Below i) h = (same i j).0 h
  linked (Below i) (Below j) h = absurd h
  linked (Above i) (Above j) h = absurd h

  leads : (x : Member) (via : List Member) (y : Member) → Leads one x via y → Leads other x via y
  leads x [] y e = e
  leads x (z ∷ via) y p = (linked x z p.0, leads z via y p.1)

pub same_component : (one other : ℕ → ℕ → Type 0) → ((i j : ℕ) → one i j ↔ other i j) → (n m : ℕ) (c : Members)
    → IsComponent one n m c → IsComponent other n m c
same_component one other same n m c h = record {
  whole = λ x y k. (
    λ i. let p = (h.whole x y k).0 i in (p.0, leads one other same x p.0 y p.1),
    λ p. (h.whole x y k).1 (p.0, leads other one (λ i j. ((same i j).1, (same i j).0)) x p.0 y p.1),
  );
  below_in_order = h.below_in_order;
  above_in_order = h.above_in_order;
  below_there = h.below_there;
  above_there = h.above_there;
  some_below = h.some_below;
  some_above = h.some_above;
}

each : (one other : ℕ → ℕ → Type 0) → ((i j : ℕ) → one i j ↔ other i j) → (n m : ℕ) (cs : List Members)
    → AllByRecursion (IsComponent one n m) cs → AllByRecursion (IsComponent other n m) cs
each one other same n m [] h = tt
each one other same n m (c ∷ cs) h = (same_component one other same n m c h.0, each one other same n m cs h.1)

pub same_components : (one other : ℕ → ℕ → Type 0) → ((i j : ℕ) → one i j ↔ other i j) → (n m : ℕ) (cs : List Members)
    → AreComponents one n m cs → AreComponents other n m cs
same_components one other same n m cs h = record {
  components = each one other same n m cs h.components;
  in_order = h.in_order;
  every = λ i j l k o. h.every i j l k ((same i j).1 o);
}
