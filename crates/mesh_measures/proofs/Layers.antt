-- Of the triangles after one, only those near it can cross it.
use Rattle.std.proofs.Common.{◌≡◌, ℕ, suc, ◌+◌, ◌<◌, ◌≤◌, ◌&&◌, ◌==◌, Bool, true, false, cond, List, [], ◌∷◌, length, take, drop, get_or, refl, sym, ap, ap₂, subst, ◌∙◌, arith, count_by, ℤ, ◌≤ℤ◌, int_lt, All}
use Rattle.std.specs.Prelude.{int_le}
use Rattle.std.specs.List.Sorted.{IsPartitionedBy}
use Rattle.std.proofs.lemmas.Int.{ints}
use Rattle.std.proofs.lemmas.List.{get_or-take, get_or-drop, length-take-le, length-drop}
use Rattle.std.proofs.lemmas.List.Elements.{All-take, All-drop}
use Rattle.std.proofs.lemmas.List.Sums.{sum_by-take-drop, sum_by_more_le}
use Rattle.mesh_measures.specs.declared.triangle_boxes.Boxed.{Boxed}
use Rattle.mesh_measures.specs.TriangleBoxes.{IsBoxed, ComesAfter, IsSwept, crosses, crosses_at, x_of, z_of, RisesBy, LiesPast}
use Rattle.mesh_measures.proofs.Apart.{before_x, before_z}
use Rattle.fku_types.proofs.ListLaws.{count-cons}

less_before : (a b m : ℤ) → a ≤ℤ b → int_lt b m ≡ true → int_lt a m ≡ true
less_before a b m h e = sym (let k : true ≡ int_lt a m = omega (arith, ints) in k)

at_most_before : (a b m : ℤ) → a ≤ℤ b → int_le b m ≡ true → int_le a m ≡ true
at_most_before a b m h e = sym (let k : true ≡ int_le a m = omega (arith, ints) in k)

pub parted_le : (f : Boxed → ℤ) (xs : List Boxed) (m : ℤ) → RisesBy f xs → IsPartitionedBy (λ b. int_le (f b) m) xs
parted_le f xs m up = λ i j d le below e. at_most_before (f (get_or xs i d)) (f (get_or xs j d)) m (up i j d le below) e

pub parted_lt : (f : Boxed → ℤ) (xs : List Boxed) (m : ℤ) → RisesBy f xs → IsPartitionedBy (λ b. int_lt (f b) m) xs
parted_lt f xs m up = λ i j d le below e. less_before (f (get_or xs i d)) (f (get_or xs j d)) m (up i j d le below) e

-- ---- those of one height, and those that begin higher
same_height : (a b c m : ℤ) → m ≤ℤ a → a ≤ℤ m → m ≤ℤ b → b ≤ℤ m → a ≡ b
same_height a b c m h k l n = omega (arith, ints)

pub level_rises : (e : Boxed) (xs : List Boxed) (n : ℕ) → All (ComesAfter e) xs → IsSwept xs → n ≤ length xs
    → ((k : ℕ) (d : Boxed) → k < n → (get_or xs k d).least.z ≤ℤ e.least.z) → RisesBy x_of (take n xs)
level_rises e xs n behind swept le level = λ i j d below there.
    let there' : j < n = omega (arith, length-take-le n xs le) in
    let here' : i < n = omega arith in
    let here'' : i < length xs = omega arith in
    let there'' : j < length xs = omega arith in
    let a = get_or xs i d in
    let b = get_or xs j d in
    let same : a.least.z ≡ b.least.z =
    same_height a.least.z b.least.z a.least.z e.least.z (behind i d here'').height (level i d here')
    (behind j d there'').height (level j d there') in
    subst (λ (x : Boxed). x_of x ≤ℤ x_of (get_or (take n xs) j d)) (sym (get_or-take n xs i d here'))
    (subst (λ (y : Boxed). x_of a ≤ℤ x_of y) (sym (get_or-take n xs j d there'))
    ((swept i j d below there'').level same))

pub higher_rises : (xs : List Boxed) (n : ℕ) → IsSwept xs → RisesBy z_of (drop n xs)
higher_rises xs n swept = λ i j d below there.
    let there' : n + j < length xs = omega (arith, length-drop n xs) in
    subst (λ (x : Boxed). z_of x ≤ℤ z_of (get_or (drop n xs) j d)) (sym (get_or-drop n xs i d))
    (subst (λ (y : Boxed). z_of (get_or xs (n + i) d) ≤ℤ z_of y) (sym (get_or-drop n xs j d))
    (swept (n + i) (n + j) d (omega arith) there').height)

-- ---- counts
none_counted : {X : Type 0} (p : X → Bool) (xs : List X) → ((k : ℕ) (d : X) → k < length xs → p (get_or xs k d) ≡ false)
    → count_by p xs ≡ 0
none_counted p [] h = refl
none_counted p (x ∷ xs) h =
    count-cons p x xs ∙ ap (λ (b : Bool). cond b 1 0 + count_by p xs) (h 0 x (omega arith))
    ∙ (let rest = none_counted p xs (λ k d l. h (suc k) d (omega arith)) in let z : 0 + count_by p xs ≡ 0 =
    omega arith in z)

-- those from a place on are not counted
pub counted_front : {X : Type 0} (p : X → Bool) (xs : List X) (n : ℕ)
    → ((k : ℕ) (d : X) → n ≤ k → k < length xs → p (get_or xs k d) ≡ false) → count_by p (take n xs) ≡ count_by p xs
counted_front {X = X} p xs n h =
    let whole = sum_by-take-drop (λ (x : X). cond (p x) 1 0) xs n in
    let none = none_counted p (drop n xs)
    (λ k d l. ap p (get_or-drop n xs k d) ∙ h (n + k) d (omega arith) (omega (arith, length-drop n xs))) in
    omega arith

-- what a triangle crosses among a part of the later ones
pub record Scan (e : Boxed) (xs level higher : List Boxed) (n near low : ℕ) : Type 0 where
  pub first : IsBoxed e
  pub boxed : All IsBoxed xs
  pub front : level ≡ take n xs
  pub back : higher ≡ drop n xs
  pub x_past : LiesPast x_of e.greatest.x level near
  pub z_past : LiesPast z_of e.greatest.z higher low

pub scanned : (e : Boxed) (xs level higher : List Boxed) (n near low : ℕ) → Scan e xs level higher n near low
    → (p : Boxed → Bool) → ((f : Boxed) → crosses e f ≡ false → p f ≡ false)
    → count_by p (take near level) + count_by p (take low higher) ≡ count_by p xs
scanned e xs level higher n near low s p only =
    let level_boxed : All IsBoxed level = subst (All IsBoxed) (sym s.front) (All-take IsBoxed n xs s.boxed) in
    let higher_boxed : All IsBoxed higher = subst (All IsBoxed) (sym s.back) (All-drop IsBoxed n xs s.boxed) in
    let first = counted_front p level near
    (λ k d from below. only (get_or level k d)
    (before_x e (get_or level k d) s.first (level_boxed k d below) (s.x_past k d from below))) in
    let second = counted_front p higher low
    (λ k d from below. only (get_or higher k d)
    (before_z e (get_or higher k d) s.first (higher_boxed k d below) (s.z_past k d from below))) in
    ap₂ ◌+◌ (first ∙ ap (count_by p) s.front) (second ∙ ap (count_by p) s.back)
    ∙ sum_by-take-drop (λ (x : Boxed). cond (p x) 1 0) xs n

pub only_crossed : (e : Boxed) (i : ℕ) (f : Boxed) → crosses e f ≡ false → crosses_at e i f ≡ false
only_crossed e i f h = ap (λ (b : Bool). (f.place == i) && b) h ∙ neither (f.place == i)
  where
    neither : (b : Bool) → (b && false) ≡ false
    neither true = refl
    neither false = refl

-- there is room for one more
pub room_one : (p : Boxed → Bool) (xs : List Boxed) (k : ℕ) (d : Boxed) (old now most : ℕ) → k < length xs
    → now ≡ old + count_by p (take k xs) → old + count_by p xs < most → now + count_by p (get_or xs k d ∷ []) < most
room_one p xs k d old now most l e room =
    let more = sum_by_more_le (λ (x : Boxed). cond (p x) 1 0) xs k d l in
    let one : count_by p (get_or xs k d ∷ []) ≡ 0 + cond (p (get_or xs k d)) 1 0 = refl in
    omega arith
