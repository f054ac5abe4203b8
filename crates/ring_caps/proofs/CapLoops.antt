-- The loops over groups and over sections: one more, and the first that is too long.
use Rattle.std.proofs.Common.{◌≡◌, inl, inr, ℕ, zero, suc, ◌+◌, ◌-◌, ◌<◌, List, [], ◌∷◌, ◌++◌, length, take, map, get_or, flat_map, sym, ap, ap₂, ◌∙◌, arith, subst, All, Vec}
use Rattle.std.specs.Global.{Global}
use Rattle.std.specs.List.{range_with_len}
use Rattle.std.proofs.lemmas.List.{append-nil, length-map, map-append, get_or-map}
use Rattle.std.proofs.lemmas.List.Elements.{All-append}
use Rattle.std.proofs.lemmas.List.Sums.{sum_by-append, sum_by-cons}
use Rattle.std.proofs.lemmas.Grind.{flat_map-append}
use Rattle.std.proofs.lemmas.Simd.{map-map}
use Rattle.fku_types.specs.declared.fault.Fault.{Fault}
use Rattle.plane_geom.specs.Rings.{RingView}
use Rattle.section_pairs.specs.Rings.{pick}
use Rattle.section_pairs.specs.Pairs.{IsShort}
use Rattle.section_pairs.specs.SectionFaults.{IsFirstFault, OrNoMemory}
use Rattle.section_pairs.proofs.Firsts.{front_more, first_here, first_left, first_right, all_one}
use Rattle.fku_types.proofs.ListLaws.{range_more}
use Rattle.ring_caps.specs.GroupCaps.{group_cap, group_folded}
use Rattle.ring_caps.specs.RingSurfaces.{ring_tops, groups_folded, group_size, side_sizes, HasLongGroup}
use Rattle.ring_caps.specs.Held.{lists}

abbrev places : Vec ℕ Global → List ℕ
places v = v.items

-- ---- groups
pub group_at : (P : List ℕ → Type 0) (groups : List (Vec ℕ Global)) (i : ℕ) (v : Vec ℕ Global) → i < length groups
    → v ≡ get_or groups i v → All P (lists groups) → P v.items
group_at P groups i v l e h = subst P (get_or-map places groups i v [] l ∙ ap places (sym e))
    (h i [] (omega (arith, l, length-map groups places)))

front : (groups : List (Vec ℕ Global)) (i : ℕ) (v : Vec ℕ Global) → i < length groups → v ≡ get_or groups i v
    → lists (take (i + 1) groups) ≡ lists (take i groups) ++ v.items ∷ []
front groups i v l e = front_more places groups i v l e

pub tops_more : (rings : List RingView) (groups : List (Vec ℕ Global)) (i : ℕ) (v : Vec ℕ Global)
    (old now more : List (List ℕ)) → i < length groups → v ≡ get_or groups i v
    → old ≡ ring_tops rings (lists (take i groups)) → more ≡ group_cap (pick rings v.items) → now ≡ old ++ more →
    now ≡ ring_tops rings (lists (take (i + 1) groups))
tops_more rings groups i v old now more l e o m n =
    n ∙ ap₂ (λ (x y : List (List ℕ)). x ++ y) o (m ∙ sym (append-nil (group_cap (pick rings v.items))))
    ∙ sym (flat_map-append (λ (g : List ℕ). group_cap (pick rings g)) (lists (take i groups)) (v.items ∷ []))
    ∙ ap (ring_tops rings) (sym (front groups i v l e))

pub folded_more : (rings : List RingView) (groups : List (Vec ℕ Global)) (i : ℕ) (v : Vec ℕ Global) (old now more : ℕ)
    → i < length groups → v ≡ get_or groups i v → old ≡ groups_folded rings (lists (take i groups))
    → more ≡ group_folded (pick rings v.items) → now ≡ old + more →
    now ≡ groups_folded rings (lists (take (i + 1) groups))
folded_more rings groups i v old now more l e o m n =
    omega (
      arith,
      n,
      o,
      m,
      ap (groups_folded rings) (front groups i v l e),
      sum_by-append (λ (g : List ℕ). group_folded (pick rings g)) (lists (take i groups)) (v.items ∷ []),
      sum_by-cons (λ (g : List ℕ). group_folded (pick rings g)) v.items [],
    )

pub sizes_more : (s : ℕ) (rings : List RingView) (groups : List (Vec ℕ Global)) (i : ℕ) (v : Vec ℕ Global)
    → i < length groups → v ≡ get_or groups i v → All IsShort (side_sizes s rings (lists (take i groups)))
    → IsShort (group_size s rings v.items) → All IsShort (side_sizes s rings (lists (take (i + 1) groups)))
sizes_more s rings groups i v l e h k =
    let all = ap (side_sizes s rings) (front groups i v l e)
    ∙ map-append (group_size s rings) (lists (take i groups)) (v.items ∷ []) in
    subst (λ (ys : List (ℕ × ℕ)). All IsShort ys) (sym all)
    (All-append IsShort (side_sizes s rings (lists (take i groups))) (group_size s rings v.items ∷ []) h
    (all_one IsShort (group_size s rings v.items) k))

pub long_group : (s : ℕ) (rings : List RingView) (groups : List (Vec ℕ Global)) (i : ℕ) (v : Vec ℕ Global)
    (fault : Fault) → i < length groups → v ≡ get_or groups i v
    → All IsShort (side_sizes s rings (lists (take i groups)))
    → OrNoMemory (HasLongGroup (group_size s rings v.items)) fault →
    OrNoMemory (IsFirstFault IsShort HasLongGroup (side_sizes s rings (lists groups))) fault
long_group s rings groups i v fault l e h (inl m) = inl m
long_group s rings groups i v fault l e h (inr k) =
    let size : Vec ℕ Global → ℕ × ℕ = λ w. group_size s rings w.items in
    let before : All IsShort (map size (take i groups)) =
    subst (λ (ys : List (ℕ × ℕ)). All IsShort ys) (map-map (group_size s rings) places (take i groups)) h in
    inr (subst (λ (ys : List (ℕ × ℕ)). IsFirstFault IsShort HasLongGroup ys fault)
    (sym (map-map (group_size s rings) places groups))
    (first_here size IsShort HasLongGroup groups i v fault l e before k))

-- ---- both sides of a section
pub long_below : (xs ys : List (ℕ × ℕ)) (fault : Fault) → OrNoMemory (IsFirstFault IsShort HasLongGroup xs) fault
    → OrNoMemory (IsFirstFault IsShort HasLongGroup (xs ++ ys)) fault
long_below xs ys fault (inl m) = inl m
long_below xs ys fault (inr k) = inr (first_left IsShort HasLongGroup xs ys fault k)

pub long_above : (xs ys : List (ℕ × ℕ)) (fault : Fault) → All IsShort xs
    → OrNoMemory (IsFirstFault IsShort HasLongGroup ys) fault
    → OrNoMemory (IsFirstFault IsShort HasLongGroup (xs ++ ys)) fault
long_above xs ys fault h (inl m) = inl m
long_above xs ys fault h (inr k) = inr (first_right IsShort HasLongGroup xs ys fault h k)

-- ---- sections
range_split : (a n i : ℕ) → i < n → range_with_len a n ≡ range_with_len a i ++ (a + i)
    ∷ range_with_len (a + i + 1) (n - i - 1)
range_split a zero i l = absurd (omega arith)
range_split a (suc n) zero l =
    let first : a ≡ a + 0 = omega arith in
    let next : a + 1 ≡ a + 0 + 1 = omega arith in
    let count : n ≡ suc n - 0 - 1 = omega arith in
    ap₂ (λ (k : ℕ) (ks : List ℕ). k ∷ ks) first (ap₂ range_with_len next count)
range_split a (suc n) (suc i) l =
    let place : a + 1 + i ≡ a + suc i = omega arith in
    let next : a + 1 + i + 1 ≡ a + suc i + 1 = omega arith in
    let count : n - i - 1 ≡ suc n - suc i - 1 = omega arith in
    ap (λ (ks : List ℕ). a ∷ ks) (range_split (a + 1) n i (omega arith)
    ∙ ap₂ (λ (k : ℕ) (ks : List ℕ). range_with_len (a + 1) i ++ k ∷ ks) place (ap₂ range_with_len next count))

pub sections_short : (f : ℕ → List (ℕ × ℕ)) (s : ℕ) → All IsShort (flat_map f (range_with_len 0 s)) → All IsShort (f s)
    → All IsShort (flat_map f (range_with_len 0 (s + 1)))
sections_short f s h k =
    let all = ap (flat_map f) (range_more s) ∙ flat_map-append f (range_with_len 0 s) (s ∷ [])
    ∙ ap (λ (ys : List (ℕ × ℕ)). flat_map f (range_with_len 0 s) ++ ys) (append-nil (f s)) in
    subst (λ (ys : List (ℕ × ℕ)). All IsShort ys) (sym all)
    (All-append IsShort (flat_map f (range_with_len 0 s)) (f s) h k)

pub long_section : (f : ℕ → List (ℕ × ℕ)) (n s : ℕ) (fault : Fault) → s < n
    → All IsShort (flat_map f (range_with_len 0 s)) → OrNoMemory (IsFirstFault IsShort HasLongGroup (f s)) fault
    → OrNoMemory (IsFirstFault IsShort HasLongGroup (flat_map f (range_with_len 0 n))) fault
long_section f n s fault l h (inl m) = inl m
long_section f n s fault l h (inr k) =
    let here : 0 + s ≡ s = omega arith in
    let rest : List ℕ = range_with_len (0 + s + 1) (n - s - 1) in
    let all = ap (flat_map f) (range_split 0 n s l ∙ ap (λ (i : ℕ). range_with_len 0 s ++ i ∷ rest) here)
    ∙ flat_map-append f (range_with_len 0 s) (s ∷ rest) in
    inr (subst (λ (ys : List (ℕ × ℕ)). IsFirstFault IsShort HasLongGroup ys fault) (sym all)
    (first_right IsShort HasLongGroup (flat_map f (range_with_len 0 s)) (f s ++ flat_map f rest) fault h
    (first_left IsShort HasLongGroup (f s) (flat_map f rest) fault k)))
