-- Short composites, and the first that is too long.
use Rattle.std.proofs.Common.{inl, inr, ◌≡◌, ℕ, ◌+◌, ◌<◌, ◌≤◌, List, [], ◌∷◌, ◌++◌, length, take, drop, get_or, map, flat_map, refl, sym, ap, ap₂, ◌∙◌, subst}
use Rattle.std.specs.Prelude.{All, Result, Err, IfErr}
use Rattle.std.proofs.lemmas.List.{map-append, append-nil}
use Rattle.std.proofs.lemmas.List.Elements.{All-append, All-nil}
use Rattle.std.proofs.lemmas.Grind.{flat_map-append}
use Rattle.fku_types.specs.declared.limits.TheConstants.{MAX_COMPOSITE_VERTICES}
use Rattle.fku_types.proofs.ListLaws.{split_at}
use Rattle.fku_types.specs.declared.fault.Fault.{Fault}
use Rattle.plane_geom.specs.Rings.{RingView}
use Rattle.correspondence.specs.Components.{Members}
use Rattle.section_pairs.specs.Rings.{composite_at}
use Rattle.section_pairs.specs.Pairs.{sides_between, IsShort}
use Rattle.section_pairs.specs.SectionFaults.{IsFirstFault, HasLongSide, OrNoMemory}
use Rattle.section_pairs.proofs.Firsts.{front_more, first_left, first_right, all_one}

-- a result with this fault
pub err_told : {X : Type 0} (r : Result X Fault) (fault : Fault) (Q : Fault → Type 0) → r ≡ Err fault → Q fault
    → IfErr r Q
err_told {X = X} r fault Q e q = subst (λ (r : Result X Fault). IfErr r Q) (sym e) q

pub below_long : (low high : List RingView) (g : ℕ) (c : Members) (fault : Fault)
    → OrNoMemory (HasLongSide (g + 1, length (composite_at low c.below).points)) fault
    → OrNoMemory (IsFirstFault IsShort HasLongSide (sides_between low high g c)) fault
below_long low high g c fault (inl e) = inl e
below_long low high g c fault (inr h) = inr (record {
  before = [];
  item = (g + 1, length (composite_at low c.below).points);
  after = (g + 2, length (composite_at high c.above).points) ∷ [];
  split = refl;
  good_before = All-nil IsShort;
  has = h;
})

pub above_long : (low high : List RingView) (g : ℕ) (c : Members) (fault : Fault)
    → length (composite_at low c.below).points ≤ MAX_COMPOSITE_VERTICES
    → OrNoMemory (HasLongSide (g + 2, length (composite_at high c.above).points)) fault
    → OrNoMemory (IsFirstFault IsShort HasLongSide (sides_between low high g c)) fault
above_long low high g c fault l (inl e) = inl e
above_long low high g c fault l (inr h) = inr (record {
  before = (g + 1, length (composite_at low c.below).points) ∷ [];
  item = (g + 2, length (composite_at high c.above).points);
  after = [];
  split = refl;
  good_before = all_one IsShort (g + 1, length (composite_at low c.below).points) l;
  has = h;
})

-- ---- lists of lists, up to one of them
flat_split : {X Z Y : Type 0} (f : X → Z) (S : Z → List Y) (xs : List X) (i : ℕ) (x : X) → i < length xs
    → x ≡ get_or xs i x → flat_map S (map f xs) ≡ flat_map S (map f (take i xs))
    ++ (S (f x) ++ flat_map S (map f (drop (i + 1) xs)))
flat_split {X = X} f S xs i x l e =
    ap (λ (ys : List X). flat_map S (map f ys)) (split_at xs i x l e)
    ∙ ap (flat_map S) (map-append f (take i xs) (x ∷ drop (i + 1) xs))
    ∙ flat_map-append S (map f (take i xs)) (f x ∷ map f (drop (i + 1) xs))

flat_more : {X Z Y : Type 0} (f : X → Z) (S : Z → List Y) (xs : List X) (i : ℕ) (x : X) → i < length xs
    → x ≡ get_or xs i x → flat_map S (map f (take (i + 1) xs)) ≡ flat_map S (map f (take i xs)) ++ S (f x)
flat_more {Y = Y} f S xs i x l e =
    ap (flat_map S) (front_more f xs i x l e)
    ∙ flat_map-append S (map f (take i xs)) (f x ∷ [])
    ∙ ap (λ (ys : List Y). flat_map S (map f (take i xs)) ++ ys) (append-nil (S (f x)))

pub short_more : {X Z Y : Type 0} (f : X → Z) (S : Z → List Y) (P : Y → Type 0) (xs : List X) (i : ℕ) (x : X)
    → i < length xs → x ≡ get_or xs i x → All P (flat_map S (map f (take i xs))) → All P (S (f x))
    → All P (flat_map S (map f (take (i + 1) xs)))
short_more {Y = Y} f S P xs i x l e h k =
    subst (λ (ys : List Y). All P ys) (sym (flat_more f S xs i x l e))
    (All-append P (flat_map S (map f (take i xs))) (S (f x)) h k)

pub long_here : {X Z Y : Type 0} (f : X → Z) (S : Z → List Y) (Good : Y → Type 0) (Has : Y → Fault → Type 0)
    (xs : List X) (i : ℕ) (x : X) (fault : Fault) → i < length xs → x ≡ get_or xs i x
    → All Good (flat_map S (map f (take i xs))) → OrNoMemory (IsFirstFault Good Has (S (f x))) fault
    → OrNoMemory (IsFirstFault Good Has (flat_map S (map f xs))) fault
long_here f S Good Has xs i x fault l e h (inl k) = inl k
long_here {Y = Y} f S Good Has xs i x fault l e h (inr k) = inr (
    subst (λ (ys : List Y). IsFirstFault Good Has ys fault) (sym (flat_split f S xs i x l e))
    (first_right Good Has (flat_map S (map f (take i xs))) (S (f x) ++ flat_map S (map f (drop (i + 1) xs))) fault h
    (first_left Good Has (S (f x)) (flat_map S (map f (drop (i + 1) xs))) fault k))
    )

-- ---- one more
pub pairs_more : {X Z Y V : Type 0} (f : X → Z) (F : Z → Y) (G : V → Y) (old new : List V) (p : V) (xs : List X) (i : ℕ)
    (x : X) → i < length xs → x ≡ get_or xs i x
    → new ≡ old ++ p ∷ [] → map G old ≡ map F (map f (take i xs)) → G p ≡ F (f x)
    → map G new ≡ map F (map f (take (i + 1) xs))
pairs_more {Y = Y} f F G old new p xs i x l e m h k =
    ap (map G) m ∙ map-append G old (p ∷ []) ∙ ap₂ (λ (ys : List Y) (y : Y). ys ++ y ∷ []) h k
    ∙ sym (map-append F (map f (take i xs)) (f x ∷ [])) ∙ ap (map F) (sym (front_more f xs i x l e))
