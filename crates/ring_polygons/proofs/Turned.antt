-- The vertex numbers of triangles, and triangles turned over for a face.
use Rattle.std.proofs.Common.{arith, ◌≡◌, ◌<◌, ◌+◌, ◌-◌, ◌%◌, ℕ, suc, List, [], ◌∷◌, ◌++◌, length, get_or, set, swap, refl, ap, sym, ◌∙◌, take, drop, map, All, subst, remove}
use Rattle.std.specs.List.{AllByRecursion}
use Rattle.std.proofs.lemmas.List.{get_or-append_right, get_or-drop, length-map, length-take-le, get_or_default, map-append}
use Rattle.std.proofs.lemmas.List.Edits.{map_over_more, length-remove}
use Rattle.std.proofs.lemmas.List.Elements.{All-from_recursion, recursion_from_All, All-cons, All-nil, All-get_or, All-append, All-take, All-drop}
use Rattle.plane_geom.specs.Rings.{item_around}
use Rattle.plane_geom.proofs.Sums.{ring_sum, total, back}
use Rattle.ring_polygons.specs.declared.faces.Face.{Face}
use Rattle.ring_polygons.specs.declared.faces.Face.TheVariants.{Below, Above}
use Rattle.ring_polygons.specs.Caps.{corner, cut, turned_over, faced}
use Rattle.ring_polygons.proofs.CutLaws.{AreCorners, HasThree}

-- a triangle with its last two vertices exchanged
abbrev pub flip : List ℕ → List ℕ
flip t = swap t 1 2

flip_is : (t : List ℕ) → length t ≡ 3 → get_or t 0 0 ∷ get_or t 2 0 ∷ get_or t 1 0 ∷ [] ≡ flip t
flip_is [] h = absurd (omega (arith, h))
flip_is (a ∷ []) h = absurd (omega (arith, h))
flip_is (a ∷ b ∷ []) h = absurd (omega (arith, h))
flip_is (a ∷ b ∷ c ∷ []) h = refl
flip_is (a ∷ b ∷ c ∷ e ∷ t) h = absurd (omega (arith, h))

still : (xs ys : List (List ℕ)) (i : ℕ) (d : List ℕ) → i < length xs → ys ≡ map flip (take i xs) ++ drop i xs
    → get_or ys i d ≡ get_or xs i d
still xs ys i d l e =
    let front : length (map flip (take i xs)) ≡ i =
    omega (arith, length-map (take i xs) flip, length-take-le i xs (omega arith)) in
    ap (λ (zs : List (List ℕ)). get_or zs i d) e
    ∙ get_or-append_right (map flip (take i xs)) (drop i xs) i i d front (omega arith)
    ∙ get_or-drop i xs (i - i) d
    ∙ ap (λ (k : ℕ). get_or xs k d) (omega arith)

-- one more triangle is turned over
pub flip_more : (xs ys : List (List ℕ)) (i : ℕ) → i < length xs → length ys ≡ length xs → length (get_or xs i []) ≡ 3
    → ys ≡ map flip (take i xs) ++ drop i xs →
    set ys i (get_or (get_or ys i []) 0 0 ∷ get_or (get_or ys i []) 2 0 ∷ get_or (get_or ys i []) 1 0 ∷ [])
    ≡ map flip (take (i + 1) xs) ++ drop (i + 1) xs
flip_more xs ys i l n three e =
    let t : List ℕ = get_or ys i [] in
    let size : length t ≡ 3 = ap length (still xs ys i [] l e) ∙ three in
    ap (set ys i) (flip_is t size) ∙ map_over_more flip xs ys i t l e (get_or_default ys i [] t (omega arith))

all_three : {X : Type 0} (P : X → Type 0) (a b c : X) → P a → P b → P c → All P (a ∷ b ∷ c ∷ [])
all_three P a b c p q r = All-cons P a (b ∷ c ∷ []) p (All-cons P b (c ∷ []) q (All-cons P c [] r (All-nil P)))

-- what holds of each item of a ring holds of each item of the parts that are cut off
corner_all : {X : Type 0} (P : X → Type 0) (d : X) (xs : List X) (t : ℕ) → t < length xs → All P xs
    → All P (corner d xs t)
corner_all P d xs t l h =
    let first : (t + length xs - 1) % length xs < length xs = omega arith in
    let third : (t + 1) % length xs < length xs = omega arith in
    all_three P (item_around d xs (t + length xs - 1)) (get_or xs t d) (item_around d xs (t + 1))
    (All-get_or P xs ((t + length xs - 1) % length xs) d first h) (All-get_or P xs t d l h)
    (All-get_or P xs ((t + 1) % length xs) d third h)

remove_all : {X : Type 0} (P : X → Type 0) (xs : List X) (t : ℕ) → All P xs → All P (remove xs t)
remove_all P xs t h = All-append P (take t xs) (drop (suc t) xs) (All-take P t xs h) (All-drop P (suc t) xs h)

cut_each : {X : Type 0} (P : X → Type 0) (d : X) (ts : List ℕ) (xs : List X) → AreCorners (length xs) ts → All P xs
    → AllByRecursion (All P) (cut d ts xs)
cut_each P d [] xs a h = (h, tt)
cut_each P d (t ∷ ts) xs a h =
    let n : length (remove xs t) ≡ length xs - 1 = omega (arith, length-remove xs t a.0) in (
      corner_all P d xs t a.0 h,
      cut_each P d ts (remove xs t) (subst (λ (i : ℕ). AreCorners i ts) (sym n) a.2)
          (remove_all P xs t h),
    )

pub cut_all : {X : Type 0} (P : X → Type 0) (d : X) (ts : List ℕ) (xs : List X) → AreCorners (length xs) ts → All P xs
    → All (All P) (cut d ts xs)
cut_all P d ts xs a h = All-from_recursion (All P) (cut d ts xs) (cut_each P d ts xs a h)

flip_all : (P : ℕ → Type 0) (t : List ℕ) → HasThree t → All P t → All P (flip t)
flip_all P [] n h = absurd (omega (arith, n))
flip_all P (a ∷ []) n h = absurd (omega (arith, n))
flip_all P (a ∷ b ∷ []) n h = absurd (omega (arith, n))
flip_all P (a ∷ b ∷ c ∷ []) n h = all_three P a c b (h 0 0 (omega arith)) (h 2 0 (omega arith)) (h 1 0 (omega arith))
flip_all P (a ∷ b ∷ c ∷ e ∷ t) n h = absurd (omega (arith, n))

flips_each : (P : ℕ → Type 0) (ts : List (List ℕ)) → AllByRecursion HasThree ts → AllByRecursion (All P) ts
    → AllByRecursion (All P) (turned_over ts)
flips_each P [] n h = tt
flips_each P (t ∷ ts) n h = (flip_all P t n.0 h.0, flips_each P ts n.1 h.1)

flip_three : (t : List ℕ) → HasThree t → HasThree (flip t)
flip_three [] h = absurd (omega (arith, h))
flip_three (a ∷ []) h = absurd (omega (arith, h))
flip_three (a ∷ b ∷ []) h = absurd (omega (arith, h))
flip_three (a ∷ b ∷ c ∷ []) h = refl
flip_three (a ∷ b ∷ c ∷ e ∷ t) h = absurd (omega (arith, h))

turned_three : (ts : List (List ℕ)) → AllByRecursion HasThree ts → AllByRecursion HasThree (turned_over ts)
turned_three [] h = tt
turned_three (t ∷ ts) h = (flip_three t h.0, turned_three ts h.1)

-- a triangle with its last two vertices exchanged has the edges reversed
flip_sum : (f : ℕ → ℕ → ℕ) (t : List ℕ) → HasThree t → ring_sum f (flip t) ≡ ring_sum (back f) t
flip_sum f [] h = absurd (omega (arith, h))
flip_sum f (a ∷ []) h = absurd (omega (arith, h))
flip_sum f (a ∷ b ∷ []) h = absurd (omega (arith, h))
flip_sum f (a ∷ b ∷ c ∷ []) h = omega arith
flip_sum f (a ∷ b ∷ c ∷ e ∷ t) h = absurd (omega (arith, h))

pub turned_total : (f : ℕ → ℕ → ℕ) (ts : List (List ℕ)) → AllByRecursion HasThree ts
    → total f (turned_over ts) ≡ total (back f) ts
turned_total f [] h = refl
turned_total f (t ∷ ts) h = omega (arith, flip_sum f t h.0, turned_total f ts h.1)

-- ---- turned for a face
pub faced_all : (P : ℕ → Type 0) (face : Face) (ts : List (List ℕ)) → AllByRecursion HasThree ts → All (All P) ts
    → All (All P) (faced face ts)
faced_all P Below ts n h = All-from_recursion (All P) (turned_over ts)
    (flips_each P ts n (recursion_from_All (All P) ts h))
faced_all P Above ts n h = h

pub faced_three : (face : Face) (ts : List (List ℕ)) → AllByRecursion HasThree ts
    → AllByRecursion HasThree (faced face ts)
faced_three Below ts n = turned_three ts n
faced_three Above ts n = n

pub length-faced : (face : Face) (ts : List (List ℕ)) → length (faced face ts) ≡ length ts
length-faced Below ts = length-map ts flip
length-faced Above ts = refl

pub faced-append : (face : Face) (xs ys : List (List ℕ)) → faced face (xs ++ ys) ≡ faced face xs ++ faced face ys
faced-append Below xs ys = map-append flip xs ys
faced-append Above xs ys = refl
