-- Groups from the marks and parents of the code are those of the definition, and may be joined.
use Rattle.std.proofs.Common.{◌≡◌, ℕ, zero, suc, ◌+◌, ◌<◌, ◌≤◌, ◌==◌, ◌&&◌, not, Bool, true, false, cond, Option, None, Some, List, [], ◌∷◌, ◌++◌, length, map, filter, refl, sym, ap, ap₂, ◌∙◌, arith, sum_by}
use Rattle.std.specs.List.{range_with_len, AllByRecursion}
use Rattle.std.proofs.lemmas.List.Elements.{filter-append}
use Rattle.std.proofs.lemmas.List.{map-append}
use Rattle.std.proofs.lemmas.List.Sums.{sum_by-cons}
use Rattle.plane_geom.specs.Rings.{RingView}
use Rattle.ring_polygons.specs.Composites.{view_at}
use Rattle.section_pairs.specs.Rings.{pick}
use Rattle.surface_core.specs.Marks.{AreSetAt}
use Rattle.surface_core.proofs.MarkSteps.{filter_same}
use Rattle.fku_types.specs.declared.limits.TheConstants.{MAX_SECTION_VERTICES}
use Rattle.fku_types.proofs.ListLaws.{all_map, range_more}
use Rattle.surface_core.proofs.PlaceSums.{weight, pick_weight, pick_all}
use Rattle.ring_caps.specs.Groups.{parent_passes, begins, joins_group, group, groups, is_capped}
use Rattle.ring_caps.specs.Held.{capped_by, IsGroup}
use Rattle.ring_caps.proofs.GroupSums.{AreFamilies, one_group}

-- ---- one list of groups
passes_same : (f g : ℕ → Bool) (n : ℕ) (o : Option ℕ) → ((k : ℕ) → k < n → f k ≡ g k) → ((j : ℕ) → o ≡ Some j → j < n)
    → parent_passes f o ≡ parent_passes g o
passes_same f g n None e h = refl
passes_same f g n (Some j) e h = e j (h j refl)

begins_same : (capped capped' : ℕ → Bool) (parents parents' : ℕ → Option ℕ) (n : ℕ)
    → ((k : ℕ) → k < n → capped k ≡ capped' k) → ((k : ℕ) → k < n → parents k ≡ parents' k) → AreFamilies parents' n →
    (k : ℕ) → k < n → begins capped parents k ≡ begins capped' parents' k
begins_same capped capped' parents parents' n o p h k l =
    ap₂ (λ (a b : Bool). a && not b) (o k l)
    (ap (parent_passes capped) (p k l) ∙ passes_same capped capped' n (parents' k) o (λ j e. h.there k j l e))

goes_on_same : (capped capped' : ℕ → Bool) (parents parents' : ℕ → Option ℕ) (n : ℕ)
    → ((k : ℕ) → k < n → capped k ≡ capped' k) → ((k : ℕ) → k < n → parents k ≡ parents' k) →
    (k j : ℕ) → j < n → joins_group capped parents k j ≡ joins_group capped' parents' k j
goes_on_same capped capped' parents parents' n o p k j l =
    ap₂ (λ (a : Bool) (b : Option ℕ). a && parent_passes (λ i. i == k) b) (o j l) (p j l)

map_same : {X Y : Type 0} (f g : X → Y) → ((x : X) → f x ≡ g x) → (xs : List X) → map f xs ≡ map g xs
map_same f g h [] = refl
map_same {Y = Y} f g h (x ∷ xs) = ap₂ (λ (y : Y) (ys : List Y). y ∷ ys) (h x) (map_same f g h xs)

pub groups_same : (capped capped' : ℕ → Bool) (parents parents' : ℕ → Option ℕ) (n : ℕ)
    → ((k : ℕ) → k < n → capped k ≡ capped' k) → ((k : ℕ) → k < n → parents k ≡ parents' k) → AreFamilies parents' n →
    groups capped parents n ≡ groups capped' parents' n
groups_same capped capped' parents parents' n o p h =
    map_same (group capped parents n) (group capped' parents' n)
    (λ k. ap (λ (l : List ℕ). k ∷ l) (filter_same (joins_group capped parents k) (joins_group capped' parents' k) 0
    n (λ j a b. goes_on_same capped capped' parents parents' n o p k j (omega arith))))
    (filter (begins capped parents) (range_with_len 0 n))
    ∙ ap (map (group capped' parents' n))
    (filter_same (begins capped parents) (begins capped' parents') 0 n
    (λ k a b. begins_same capped capped' parents parents' n o p h k (omega arith)))

-- a contour without a mark has a cap
pub capped_same : (marks : List Bool) (n : ℕ) (joined : List ℕ) → AreSetAt marks n joined → (k : ℕ) → k < n
    → capped_by marks k ≡ is_capped joined k
capped_same marks n joined h k l = ap not (h.set k l)

-- ---- what holds of each group
kept_all : (P : ℕ → Type 0) (b : Bool) (k : ℕ) (ks : List ℕ) → (b ≡ true → P k) → AllByRecursion P ks
    → AllByRecursion P (cond b (k ∷ ks) ks)
kept_all P true k ks h r = (h refl, r)
kept_all P false k ks h r = r

pub filter_all : (P : ℕ → Type 0) (test : ℕ → Bool) (a n : ℕ) → ((k : ℕ) → a ≤ k → k < a + n → test k ≡ true → P k)
    → AllByRecursion P (filter test (range_with_len a n))
filter_all P test a zero h = tt
filter_all P test a (suc n) h =
    kept_all P (test a) a (filter test (range_with_len (a + 1) n)) (λ t. h a (omega arith) (omega arith) t)
    (filter_all P test (a + 1) n (λ k l b t. h k (omega arith) (omega arith) t))

-- how many points rings have
abbrev points_of : RingView → ℕ
points_of r = length r.points

weight_sum : (rings : List RingView) → weight points_of rings ≡ sum_by points_of rings
weight_sum [] = refl
weight_sum (r ∷ rings) = omega (arith, weight_sum rings, sum_by-cons points_of r rings)

pub is_group : (rings : List RingView) (capped : ℕ → Bool) (parents : ℕ → Option ℕ) (k : ℕ)
    → AreFamilies parents (length rings) → k < length rings → begins capped parents k ≡ true
    → sum_by points_of rings ≤ MAX_SECTION_VERTICES →
    IsGroup rings (group capped parents (length rings) k)
is_group rings capped parents k h l b few =
    let n : ℕ = length rings in
    let g : List ℕ = group capped parents n k in
    let r : ℕ → ℕ = λ i. points_of (view_at rings i) in
    record {
      some = omega arith;
      there = (l, filter_all (λ j. j < n) (joins_group capped parents k) 0 n (λ j a c t. omega arith));
      few = omega (
        arith,
        few,
        weight_sum (pick rings g),
        pick_weight points_of rings g,
        one_group r capped parents n k h l b,
        pick_weight points_of rings (range_with_len 0 n),
        ap (weight points_of) (pick_all rings),
        weight_sum rings,
      );
    }

pub are_groups : (rings : List RingView) (capped : ℕ → Bool) (parents : ℕ → Option ℕ)
    → AreFamilies parents (length rings) → sum_by points_of rings ≤ MAX_SECTION_VERTICES
    → AllByRecursion (IsGroup rings) (groups capped parents (length rings))
are_groups rings capped parents h few =
    let n : ℕ = length rings in
    all_map (IsGroup rings) (group capped parents n) (filter (begins capped parents) (range_with_len 0 n))
    (filter_all (λ k. IsGroup rings (group capped parents n k)) (begins capped parents) 0 n
    (λ k a l b. is_group rings capped parents k h (omega arith) b few))

-- ---- one more, in loops
pub places_more : (test : ℕ → Bool) (head k : ℕ) (old now : List ℕ) → old ≡ head ∷ filter test (range_with_len 0 k)
    → now ≡ old ++ cond (test k) (k ∷ []) [] → now ≡ head ∷ filter test (range_with_len 0 (k + 1))
places_more test head k old now e n =
    n ∙ ap (λ (l : List ℕ). l ++ cond (test k) (k ∷ []) []) e
    ∙ ap (λ (l : List ℕ). head ∷ l) (sym (filter-append test (range_with_len 0 k) (k ∷ []))
    ∙ ap (filter test) (sym (range_more k)))

one_mapped : (f : ℕ → List ℕ) (b : Bool) (k : ℕ) → cond b (f k ∷ []) [] ≡ map f (cond b (k ∷ []) [])
one_mapped f true k = refl
one_mapped f false k = refl

pub groups_more : (test : ℕ → Bool) (f : ℕ → List ℕ) (k : ℕ) (old now : List (List ℕ))
    → old ≡ map f (filter test (range_with_len 0 k)) → now ≡ old ++ cond (test k) (f k ∷ []) []
    → now ≡ map f (filter test (range_with_len 0 (k + 1)))
groups_more test f k old now e n =
    n ∙ ap₂ (λ (l m : List (List ℕ)). l ++ m) e (one_mapped f (test k) k)
    ∙ sym (map-append f (filter test (range_with_len 0 k)) (filter test (k ∷ [])))
    ∙ ap (map f) (sym (filter-append test (range_with_len 0 k) (k ∷ [])) ∙ ap (filter test) (sym (range_more k)))
