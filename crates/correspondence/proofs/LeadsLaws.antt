-- Lists that lead from one contour to another, back, and on.
use Rattle.std.proofs.Common.{◌≡◌, ◌⊎◌, inl, inr, ℕ, List, [], ◌∷◌, ◌++◌, refl, sym, subst}
use Rattle.correspondence.specs.Components.{Member, Below, Above, AreLinked, Leads, AreConnected}

-- ---- lists that lead from one contour to another
linked_back : (links : ℕ → ℕ → Type 0) (x y : Member) → AreLinked links x y → AreLinked links y x
linked_back links (Below i) (Above j) h = h
linked_back links (Above j) (Below i) h = h
linked_back links (Below i) (Below j) h = absurd h
linked_back links (Above i) (Above j) h = absurd h

leads_append : (links : ℕ → ℕ → Type 0) (x : Member) (via : List Member) (y : Member) (next : List Member) (z : Member)
    → Leads links x via y → Leads links y next z → Leads links x (via ++ next) z
leads_append links x [] y next z e h = subst (λ (m : Member). Leads links m next z) (sym e) h
leads_append links x (w ∷ via) y next z p h = (p.0, leads_append links w via y next z p.1 h)

leads_back : (links : ℕ → ℕ → Type 0) (x : Member) (via : List Member) (y : Member) → Leads links x via y
    → AreConnected links y x
leads_back links x [] y e = ([], sym e)
leads_back links x (w ∷ via) y p =
    let r = leads_back links w via y p.1 in
    (r.0 ++ x ∷ [], leads_append links y r.0 w (x ∷ []) x r.1 (linked_back links x w p.0, refl))

pub connected_back : (links : ℕ → ℕ → Type 0) (x y : Member) → AreConnected links x y → AreConnected links y x
connected_back links x y h = leads_back links x h.0 y h.1

pub connected_on : (links : ℕ → ℕ → Type 0) (x y z : Member) → AreConnected links x y → AreConnected links y z
    → AreConnected links x z
connected_on links x y z h k = (h.0 ++ k.0, leads_append links x h.0 y k.0 z h.1 k.1)

-- a contour that is led to is the first, or is linked
pub last_step : (links : ℕ → ℕ → Type 0) (x : Member) (via : List Member) (y : Member) → Leads links x via y → (x ≡ y)
    ⊎ ((z : Member) × AreLinked links z y)
last_step links x [] y e = inl e
last_step links x (w ∷ via) y p = elim (last_step links w via y p.1)
    [ inl e ↦ inr (x, subst (AreLinked links x) e p.0) | inr z ↦ inr z ]
