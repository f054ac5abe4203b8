-- Components of a gap: connected contours below and above.
use Rattle.std.specs.Prelude.{◌≡◌, ◌↔◌, ℕ, ◌<◌, true, List, [], ◌∷◌, length, slice_index}
use Rattle.std.specs.List.{AllByRecursion, list_any}
use Rattle.correspondence.specs.Places.{has}

-- a contour of a gap: by its place in the section below, or in the section above
pub data Member : Type 0 where
  Below : ℕ → Member
  Above : ℕ → Member

-- the places of a component's contours below and above
pub record Members : Type 0 where
  pub below : List ℕ
  pub above : List ℕ

-- two contours correspond, the lower one first or last
abbrev pub AreLinked : (ℕ → ℕ → Type 0) → Member → Member → Type 0
AreLinked links (Below i) (Above j) = links i j
AreLinked links (Above j) (Below i) = links i j
AreLinked links (Below i) (Below j) = ⊥
AreLinked links (Above i) (Above j) = ⊥

-- a path leads from one contour to another, in which each corresponds with the next
abbrev pub Leads : (ℕ → ℕ → Type 0) → Member → List Member → Member → Type 0
Leads links x [] y = x ≡ y
Leads links x (z ∷ zs) y = AreLinked links x z × Leads links z zs y

abbrev pub AreConnected : (ℕ → ℕ → Type 0) → Member → Member → Type 0
AreConnected links x y = (via : List Member) × Leads links x via y

-- a contour is a member of a component
abbrev pub IsMember : Member → Members → Type 0
IsMember (Below i) c = has i c.below ≡ true
IsMember (Above j) c = has j c.above ≡ true

-- each number is below the next ones
abbrev pub IsRising : List ℕ → Type 0
IsRising [] = Unit {0}
IsRising (k ∷ ks) = AllByRecursion (λ m. k < m) ks × IsRising ks

-- all contours that are connected with one of its members, in file order, on both sides
pub record IsComponent (links : ℕ → ℕ → Type 0) (n m : ℕ) (c : Members) : Type 0 where
  pub whole : (x y : Member) → IsMember x c → IsMember y c ↔ AreConnected links x y
  pub below_in_order : IsRising c.below
  pub above_in_order : IsRising c.above
  pub below_there : AllByRecursion (λ k. k < n) c.below
  pub above_there : AllByRecursion (λ k. k < m) c.above
  pub some_below : 0 < length c.below
  pub some_above : 0 < length c.above

-- the components are in the order of their first contours below
abbrev pub AreInOrder : List Members → Type 0
AreInOrder [] = Unit {0}
AreInOrder (c ∷ cs) = AllByRecursion (λ d. slice_index c.below 0 < slice_index d.below 0) cs × AreInOrder cs

-- all components of the gap between n contours below and m above
pub record AreComponents (links : ℕ → ℕ → Type 0) (n m : ℕ) (cs : List Members) : Type 0 where
  pub components : AllByRecursion (IsComponent links n m) cs
  pub in_order : AreInOrder cs
  pub every : (i j : ℕ) → i < n → j < m → links i j → list_any (λ c. has i c.below) cs ≡ true
