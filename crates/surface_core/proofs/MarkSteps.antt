-- The rings without a mark, and what holds of all that a list gives.
use Rattle.std.proofs.Common.{◌≡◌, ℕ, zero, suc, ◌+◌, ◌<◌, ◌≤◌, not, Bool, true, false, cond, List, [], ◌∷◌, length, get_or, filter, map, flat_map, refl, sym, ap, ◌∙◌, arith, subst, All}
use Rattle.std.specs.List.{range_with_len, list_all}
use Rattle.std.proofs.lemmas.List.Folds.{flat_map-map}
use Rattle.std.proofs.lemmas.List.Sums.{AllPass-from_list_all}
use Rattle.plane_geom.specs.Rings.{RingView}
use Rattle.correspondence.specs.Places.{has}
use Rattle.section_pairs.specs.Rings.{pick}
use Rattle.surface_core.specs.Surfaces.{others}
use Rattle.section_pairs.proofs.SectionData.{all_left, all_right}
use Rattle.surface_core.specs.Marks.{AreSetAt, unmarked}

pub filter_same : (f g : ℕ → Bool) (a n : ℕ) → ((k : ℕ) → a ≤ k → k < a + n → f k ≡ g k)
    → filter f (range_with_len a n) ≡ filter g (range_with_len a n)
filter_same f g a zero h = refl
filter_same f g a (suc n) h =
    ap (λ (b : Bool). cond b (a ∷ filter f (range_with_len (a + 1) n)) (filter f (range_with_len (a + 1) n)))
    (h a (omega arith) (omega arith))
    ∙ ap (λ (l : List ℕ). cond (g a) (a ∷ l) l) (filter_same f g (a + 1) n (λ k p q. h k (omega arith) (omega arith)))

-- the rings without a mark are those at other places
pub unmarked_is : (rings : List RingView) (marks : List Bool) (n : ℕ) (places : List ℕ) → n ≡ length rings
    → AreSetAt marks n places → unmarked rings marks ≡ others rings places
unmarked_is rings marks n places e h =
    ap (pick rings) (filter_same (λ k. not (get_or marks k false)) (λ k. not (has k places)) 0 (length rings)
    (λ k a b. ap not (h.set k (omega (arith, e)))))

-- no ring is at another place where all marks are set
none_unset : (test : ℕ → Bool) (a n : ℕ) → ((k : ℕ) → a ≤ k → k < a + n → test k ≡ true)
    → filter (λ k. not (test k)) (range_with_len a n) ≡ []
none_unset test a zero h = refl
none_unset test a (suc n) h =
    ap (λ (b : Bool). cond (not b) (a ∷ filter (λ k. not (test k)) (range_with_len (a + 1) n))
    (filter (λ k. not (test k)) (range_with_len (a + 1) n))) (h a (omega arith) (omega arith))
    ∙ none_unset test (a + 1) n (λ k p q. h k (omega arith) (omega arith))

pub none_open : (rings : List RingView) (marks : List Bool) (n : ℕ) (places : List ℕ) → n ≡ length rings
    → AreSetAt marks n places → list_all (λ set. set) marks ≡ true → others rings places ≡ []
none_open rings marks n places e h all =
    sym (unmarked_is rings marks n places e h)
    ∙ ap (pick rings) (none_unset (λ k. get_or marks k false) 0 (length rings)
    (λ k a b. AllPass-from_list_all (λ set. set) marks all k false (omega (arith, h.count, e))))

-- what holds of all that a list gives holds of what each item gives
pub all_given : {X Y : Type 0} (P : Y → Type 0) (f : X → List Y) (xs : List X) (i : ℕ) (x : X) → i < length xs
    → x ≡ get_or xs i x → All P (flat_map f xs) → All P (f x)
all_given P f [] i x l e h = absurd (omega arith)
all_given {X = X} P f (y ∷ ys) zero x l e h =
    subst (λ (z : X). All P (f z)) (sym e) (all_left P (f y) (flat_map f ys) h)
all_given P f (y ∷ ys) (suc i) x l e h = all_given P f ys i x (omega arith) e (all_right P (f y) (flat_map f ys) h)

-- the same for items taken from other ones
pub all_mapped : {X Y Z : Type 0} (P : Y → Type 0) (f : Z → List Y) (g : X → Z) (xs : List X) (i : ℕ) (x : X)
    → i < length xs → x ≡ get_or xs i x → All P (flat_map f (map g xs)) → All P (f (g x))
all_mapped P f g xs i x l e h = all_given P (λ x. f (g x)) xs i x l e (subst (All P) (flat_map-map f g xs) h)
