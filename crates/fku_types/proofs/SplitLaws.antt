-- Two splits of one list at an item: at one place, or the one before the other.
use Rattle.std.proofs.Common.{◌≡◌, ◌⊎◌, inl, inr, List, [], ◌∷◌, ◌++◌, refl, sym, ap, ap₂}

-- the item of one split comes before that of the other
pub record Before {A : Type 0} (bs : List A) (x : A) (cs : List A) : Type 0 where
  pub more : List A
  pub split : cs ≡ bs ++ x ∷ more

pub compare : {A : Type 0} (bs : List A) (x : A) (us cs : List A) (y : A) (vs : List A) → bs ++ x ∷ us ≡ cs ++ y ∷ vs
    → ((bs ≡ cs) × (x ≡ y)) ⊎ (Before bs x cs ⊎ Before cs y bs)
compare [] x us [] y vs e = inl (refl, (cc))
compare [] x us (c ∷ cs) y vs e = let d : c ≡ x = cc in inr (inl (record { more = cs; split = ap (λ z. z ∷ cs) d }))
compare (b ∷ bs) x us [] y vs e = let d : b ≡ y = cc in inr (inr (record { more = bs; split = ap (λ z. z ∷ bs) d }))
compare (b ∷ bs) x us (c ∷ cs) y vs e =
    let d : b ≡ c = cc in
    let r : bs ++ x ∷ us ≡ cs ++ y ∷ vs = cc in
    elim (compare bs x us cs y vs r) [
      | inl s ↦ inl (ap₂ (λ z zs. z ∷ zs) d s.0, s.1)
      | inr (inl s) ↦ inr (inl (record { more = s.more; split = ap₂ (λ z zs. z ∷ zs) (sym d) s.split }))
      | inr (inr s) ↦ inr (inr (record { more = s.more; split = ap₂ (λ z zs. z ∷ zs) d s.split }))
    ]
