-- The contours reached from a contour below are its component.
use Rattle.std.proofs.Common.{◌≡◌, inl, inr, ℕ, ◌+◌, ◌<◌, Bool, true, false, List, [], ◌∷◌, length, take, drop, get_or, refl, sym, ap, ◌∙◌, subst, arith}
use Rattle.std.specs.List.{AllByRecursion}
use Rattle.std.proofs.lemmas.List.{length-take, length-drop, get_or-take, get_or-drop}
use Rattle.correspondence.specs.Places.{has}
use Rattle.correspondence.specs.Components.{Member, Below, Above, Members, AreLinked, AreConnected, IsMember, IsComponent, IsRising}
use Rattle.correspondence.specs.Graphs.{mark, cell, adjacent, cell_links, IsGathered, AreReached, marked_places}
use Rattle.correspondence.proofs.Marked.{has_filter, filter_has, all_filter, filter_rises}
use Rattle.correspondence.proofs.LeadsLaws.{connected_back, connected_on, last_step}
use Rattle.correspondence.proofs.TableNodes.{member_below, member_above, cell_row, row_adjacent, connected_reaches, reaches_connected}
use Rattle.std.proofs.lemmas.Bool.{both_ways}

-- ---- a component
abbrev IsThere : ℕ → ℕ → Member → Type 0
IsThere n m (Below i) = i < n
IsThere n m (Above j) = j < m

linked_there : (table : List (List Bool)) (m : ℕ) → ((i : ℕ) → i < length table → length (get_or table i []) ≡ m)
    → (z y : Member) → AreLinked (cell_links table) z y → IsThere (length table) m y
linked_there table m w (Below i) (Above j) h = let c = cell_row table i j h in omega (arith, c.1, w i c.0)
linked_there table m w (Above j) (Below i) h = (cell_row table i j h).0
linked_there table m w (Below i) (Below j) h = absurd h
linked_there table m w (Above i) (Above j) h = absurd h

connected_there : (table : List (List Bool)) (m : ℕ) → ((i : ℕ) → i < length table → length (get_or table i []) ≡ m)
    → (x y : Member) → IsThere (length table) m x → AreConnected (cell_links table) x y → IsThere (length table) m y
connected_there table m w x y h c = elim (last_step (cell_links table) x c.0 y c.1) [
  | inl e ↦ subst (IsThere (length table) m) e h
  | inr z ↦ linked_there table m w z.0 y z.1
]

gathered_connected : (table : List (List Bool)) (m root : ℕ) (c : Members) → root < length table
    → IsGathered table m root c → (x : Member) → IsMember x c → IsThere (length table) m x
    × AreConnected (cell_links table) (Below root) x
gathered_connected table m root c l g (Below k) h =
    let r = (g.below k).0 h in (
      r.0,
      reaches_connected table root k (Below root) (Below k) (member_below (length table) root l)
          (member_below (length table) k r.0) r.1,
    )
gathered_connected table m root c l g (Above k) h =
    let r = (g.above k).0 h in (
      r.0,
      reaches_connected table root (length table + k) (Below root) (Above k) (member_below (length table) root l)
          (member_above (length table) k) r.1,
    )

connected_gathered : (table : List (List Bool)) (m root : ℕ) (c : Members) → IsGathered table m root c → (x : Member)
    → IsThere (length table) m x → AreConnected (cell_links table) (Below root) x → IsMember x c
connected_gathered table m root c g (Below k) t h = (g.below k).1 (t, connected_reaches table (Below root) (Below k) h)
connected_gathered table m root c g (Above k) t h = (g.above k).1 (t, connected_reaches table (Below root) (Above k) h)

pub gathered_component : (table : List (List Bool)) (m root : ℕ) (c : Members)
    → ((i : ℕ) → i < length table → length (get_or table i []) ≡ m) → root < length table → IsGathered table m root c
    → 0 < length c.above → IsComponent (cell_links table) (length table) m c
gathered_component table m root c w l g some = record {
  whole = λ x y h.
      let a = gathered_connected table m root c l g x h in (
        λ k. connected_on (cell_links table) x (Below root) y (connected_back (cell_links table) (Below root) x a.1)
            (gathered_connected table m root c l g y k).1,
        λ k. connected_gathered table m root c g y (connected_there table m w x y a.0 k)
            (connected_on (cell_links table) (Below root) x y a.1 k),
      );
  below_in_order = g.below_in_order;
  above_in_order = g.above_in_order;
  below_there = g.below_there;
  above_there = g.above_there;
  some_below = has_some root c.below ((g.below root).1 (l, ([], refl)));
  some_above = some;
}
  where
    has_some : (k : ℕ) (ks : List ℕ) → has k ks ≡ true → 0 < length ks
    has_some k [] h = absurd (both_ways false refl h)
    has_some k (j ∷ ks) h = omega arith

-- if no contour above is reached, the contour below corresponds with none
pub none_above : (table : List (List Bool)) (m root : ℕ) (c : Members)
    → ((i : ℕ) → i < length table → length (get_or table i []) ≡ m) → root < length table → IsGathered table m root c
    → c.above ≡ [] → (j : ℕ) → cell table root j ≡ true → ⊥
none_above table m root c w l g e j h =
    let there : has j c.above ≡ true =
    (g.above j).1 (
      omega (arith, (cell_row table root j h).1, w root l),
      ((length table + j) ∷ [], (row_adjacent table root j h, refl)),
    ) in
    absurd (both_ways (has j []) refl (sym (ap (has j) e) ∙ there))

-- ---- the marked contours are gathered
pub gathered_at : (table : List (List Bool)) (m root : ℕ) (marks : List Bool) (c : Members)
    → AreReached (adjacent table) root (length table + m) marks
    → c.below ≡ marked_places (take (length table) marks) → c.above ≡ marked_places (drop (length table) marks)
    → IsGathered table m root c
gathered_at table m root marks c r e f =
    let n = length table in
    let low : length (take n marks) ≡ n = omega (arith, length-take n marks, r.size) in
    let high : length (drop n marks) ≡ m = omega (arith, length-drop n marks, r.size) in
    record {
      below = λ k. (
        λ h.
            let p = has_filter (mark (take n marks)) 0 (length (take n marks)) k (sym (ap (has k) e) ∙ h) in
            let l : k < n = omega (arith, p.1, low) in
            (l, (r.reached k).0 (sym (get_or-take n marks k false l) ∙ p.2)),
        λ h. ap (has k) e ∙ filter_has (mark (take n marks)) 0 (length (take n marks)) k (omega arith)
            (omega (arith, h.0, low)) (get_or-take n marks k false h.0 ∙ (r.reached k).1 h.1),
      );
      above = λ k. (
        λ h.
            let p = has_filter (mark (drop n marks)) 0 (length (drop n marks)) k (sym (ap (has k) f) ∙ h) in
            let l : k < m = omega (arith, p.1, high) in
            (l, (r.reached (n + k)).0 (sym (get_or-drop n marks k false) ∙ p.2)),
        λ h. ap (has k) f ∙ filter_has (mark (drop n marks)) 0 (length (drop n marks)) k (omega arith)
            (omega (arith, h.0, high)) (get_or-drop n marks k false ∙ (r.reached (n + k)).1 h.1),
      );
      below_in_order = subst IsRising (sym e) (filter_rises (mark (take n marks)) 0 (length (take n marks)));
      above_in_order = subst IsRising (sym f) (filter_rises (mark (drop n marks)) 0 (length (drop n marks)));
      below_there = subst (AllByRecursion (λ k. k < n)) (sym e)
          (all_filter (λ k. k < n) (mark (take n marks)) 0 (length (take n marks)) (λ k a b. omega (arith, b, low)));
      above_there = subst (AllByRecursion (λ k. k < m)) (sym f)
          (all_filter (λ k. k < m) (mark (drop n marks)) 0 (length (drop n marks)) (λ k a b. omega (arith, b, high)));
    }
