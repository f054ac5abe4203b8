-- What written-out examples are made of and tested with: lists, modest numbers, and tests at each number below a bound.
use Rattle.std.proofs.Common.{◌≡◌, ℕ, zero, suc, ◌^◌, ◌<◌, ℤ, unsigned_abs, Bool, true, false, ◌&&◌, T, leb, List, [], ◌∷◌, All, lit≤, subst, arith, inl, inr, Vec, ltb, length, lit<}
use Rattle.std.proofs.lemmas.Bool.{cases_lt}
use Rattle.std.proofs.lemmas.List.Elements.{All-cons, All-nil}
use Rattle.std.specs.declared.alloc.Global.{Global}
use mathlib.Core.Path.{refl}
use Rattle.strip_graph.specs.Certificates.{IsModest}

-- a list, with the place of another one
abbrev pub list_at : {X Y : Type 0} → Vec Y Global → (xs : List X) → T (ltb (length xs) (2 ^ 63)) → Vec X Global
list_at v xs few = record {
  ptr = v.ptr;
  len = length xs;
  cap = length xs;
  alloc = v.alloc;
  items = xs;
  ok =
      (refl, omega arith);
  small = lit< few;
}

both : (a b : Bool) → T (a && b) → T a × T b
both true b t = (tt, t)
both false b t = absurd t

-- whether all numbers of a list are modest
abbrev pub are_modest : List ℤ → Bool
are_modest [] = true
are_modest (x ∷ xs) = leb (unsigned_abs x) (10 ^ 36) && are_modest xs

pub modest : (xs : List ℤ) → T (are_modest xs) → All IsModest xs
modest [] t = All-nil IsModest
modest (x ∷ xs) t = let k = both (leb (unsigned_abs x) (10 ^ 36)) (are_modest xs) t in
    All-cons IsModest x xs (lit≤ k.0) (modest xs k.1)

-- whether a test passes for each number below a bound
abbrev pub passes : ℕ → (ℕ → Bool) → Bool
passes zero test = true
passes (suc k) test = test k && passes k test

pub passes_at : (k : ℕ) (test : ℕ → Bool) → T (passes k test) → (i : ℕ) → i < k → T (test i)
passes_at zero test t i lt = absurd (omega arith)
passes_at (suc k) test t i lt =
    let b = both (test k) (passes k test) t in
    elim (cases_lt i k) [
      | inl less ↦ passes_at k test b.1 i less
      | inr ge ↦ (let e : k ≡ i = omega arith in subst (λ (x : ℕ). T (test x)) e b.0)
    ]
