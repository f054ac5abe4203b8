-- The first pair in a relation, place by place.
use Rattle.std.proofs.Common.{ℕ, ◌+◌, ◌<◌, inl, inr, arith, subst}
use borrow.Author.Count.{below_more}
use Rattle.correspondence.specs.Pairs.{NonePartner, FirstPartner, FirstPair}

-- no partner below n + 1
pub one_partner_less : (R : ℕ → ℕ → Type 0) (e n : ℕ) → NonePartner R n e → (R e n → ⊥) → NonePartner R (n + 1) e
one_partner_less R e n below here h o w = below_more (λ k. e < k → R e k → ⊥) n (λ k l p. below k p l) (λ p. here) h w o

-- no place below k has a partner below n
abbrev pub NoneBelow : (ℕ → ℕ → Type 0) → ℕ → ℕ → Type 0
NoneBelow R n k = (g h : ℕ) → g < h → h < n → g < k → R g h → ⊥

pub one_place_less : (R : ℕ → ℕ → Type 0) (n k : ℕ) → NoneBelow R n k → NonePartner R n k → NoneBelow R n (k + 1)
one_place_less R n k below here g h o w l =
    below_more (λ i. (j : ℕ) → i < j → j < n → R i j → ⊥) k (λ i m j p q. below i j p q m) here g l h o w

pub pair_from : (R : ℕ → ℕ → Type 0) (n e f : ℕ) → NoneBelow R n e → FirstPartner R n e f → FirstPair R n e f
pair_from R n e f below p = record {
  ordered = p.ordered;
  within = p.within;
  related = p.related;
  first = λ g h o w b a. elim b [
    | inl l ↦ below g h o w l a
    | inr s ↦ p.first h (omega (arith, s.0)) s.1
        (let P : ℕ → Type 0 = λ k. R k h in subst P s.0 a)
  ];
}
