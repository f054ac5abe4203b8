-- The first step of a row.
use Rattle.std.proofs.Common.{◌≡◌, ℕ, ◌+◌, ◌<◌, ◌↔◌, inl, inr, Option, Some, None, MatchOption, sym, subst, subst₂, arith}
use Rattle.std.proofs.lemmas.Bool.{cases_lt}
use Rattle.strip_graph.specs.declared.tilings.Step.{Step}
use Rattle.strip_graph.specs.declared.tilings.Step.TheVariants.{V, H}
use Rattle.cert_checker.specs.declared.checking.Place.{Place}
use Rattle.cert_checker.specs.Steps.{IsFirstInRow}

-- one column further, where both steps from the column are good
pub one_column : (Good : ℕ → Step → Type 0) (c : ℕ) → ((k : ℕ) (s : Step) → k < c → Good k s) → Good c V → Good c H
    → (k : ℕ) (s : Step) → k < c + 1 → Good k s
one_column Good c before v h k s lt =
    elim (cases_lt k c) [
      | inl less ↦ before k s less
      | inr more ↦ (let e : c ≡ k = omega (arith, lt, more) in subst (λ (x : ℕ). Good x s) e (both s))
    ]
  where
    both : (t : Step) → Good c t
    both V = v
    both H = h

-- H is the first of a row where all columns before it, and V, are good
pub first_h : (Good : ℕ → Step → Type 0) (c : ℕ) → ((k : ℕ) (s : Step) → k < c → Good k s) → Good c V → (Good c H → ⊥)
    → IsFirstInRow Good c H
first_h Good c before v wrong = record {
  fails = wrong;
  first = λ j s b. elim b [ inl less ↦ before j s less | inr e ↦ subst₂ Good (sym e.0) (sym e.1) v ];
}

-- the first of a row by two equivalent conditions
pub same_first : (A B : ℕ → Step → Type 0) (row : ℕ) (o : Option Place) → ((j : ℕ) (s : Step) → A j s ↔ B j s)
    → MatchOption o ((j : ℕ) (s : Step) → A j s) (λ p. p.row ≡ row × IsFirstInRow A p.col p.step)
    → MatchOption o ((j : ℕ) (s : Step) → B j s) (λ p. p.row ≡ row × IsFirstInRow B p.col p.step)
same_first A B row (Some p) same m =
    (m.0, record { fails = λ b. m.1.fails ((same p.col p.step).1 b); first = λ j s b. (same j s).0 (m.1.first j s b) })
same_first A B row None same m = λ j s. (same j s).0 (m j s)
