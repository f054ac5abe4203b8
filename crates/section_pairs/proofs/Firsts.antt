-- The first item of a list that is not good.
use Rattle.std.proofs.Common.{◌≡◌, ℕ, ◌+◌, ◌<◌, ◌≤◌, List, [], ◌∷◌, ◌++◌, length, take, drop, get_or, map, sym, ap, ◌∙◌, subst, append_assoc, take_all}
use Rattle.std.specs.Prelude.{All, Result, Err, MatchResult}
use Rattle.std.proofs.lemmas.List.{map-append}
use Rattle.std.proofs.lemmas.List.Elements.{All-append, All-cons, All-nil, All-push}
use Rattle.fku_types.proofs.ListLaws.{take_next, split_at}
use Rattle.fku_types.specs.declared.fault.Fault.{Fault}
use Rattle.section_pairs.specs.SectionFaults.{IsFirstFault}

pub all_one : {Y : Type 0} (P : Y → Type 0) (y : Y) → P y → All P (y ∷ [])
all_one P y h = All-cons P y [] h (All-nil P)

pub front_more : {X Y : Type 0} (f : X → Y) (xs : List X) (i : ℕ) (x : X) → i < length xs → x ≡ get_or xs i x
    → map f (take (i + 1) xs) ≡ map f (take i xs) ++ f x ∷ []
front_more f xs i x l e = ap (map f) (take_next xs i x l e) ∙ map-append f (take i xs) (x ∷ [])

-- the items up to a place are good, and so is the one there
pub all_more : {X Y : Type 0} (f : X → Y) (P : Y → Type 0) (xs : List X) (i : ℕ) (x : X) → i < length xs
    → x ≡ get_or xs i x → All P (map f (take i xs)) → P (f x) → All P (map f (take (i + 1) xs))
all_more {Y = Y} f P xs i x l e h k =
    subst (λ (ys : List Y). All P ys) (sym (front_more f xs i x l e)) (All-push P (map f (take i xs)) (f x) h k)

pub all_whole : {X Y : Type 0} (f : X → Y) (P : Y → Type 0) (xs : List X) (i : ℕ) → length xs ≤ i
    → All P (map f (take i xs)) → All P (map f xs)
all_whole {X = X} f P xs i l h = subst (λ (ys : List X). All P (map f ys)) (take_all i xs l) h

-- the item at a place is the first that is not good
pub first_here : {X Y : Type 0} (f : X → Y) (Good : Y → Type 0) (Has : Y → Fault → Type 0) (xs : List X) (i : ℕ) (x : X)
    (fault : Fault) → i < length xs → x ≡ get_or xs i x
    → All Good (map f (take i xs)) → Has (f x) fault → IsFirstFault Good Has (map f xs) fault
first_here f Good Has xs i x fault l e h k = record {
  before = map f (take i xs);
  item = f x;
  after = map f (drop (i + 1) xs);
  split = ap (map f) (split_at xs i x l e) ∙ map-append f (take i xs) (x ∷ drop (i + 1) xs);
  good_before = h;
  has = k;
}

-- it is also the first of a longer list
pub first_left : {Y : Type 0} (Good : Y → Type 0) (Has : Y → Fault → Type 0) (xs ys : List Y) (fault : Fault)
    → IsFirstFault Good Has xs fault → IsFirstFault Good Has (xs ++ ys) fault
first_left {Y = Y} Good Has xs ys fault h = record {
  before = h.before;
  item = h.item;
  after = h.after ++ ys;
  split = ap (λ (zs : List Y). zs ++ ys) h.split ∙ append_assoc h.before (h.item ∷ h.after) ys;
  good_before = h.good_before;
  has = h.has;
}

pub first_right : {Y : Type 0} (Good : Y → Type 0) (Has : Y → Fault → Type 0) (xs ys : List Y) (fault : Fault)
    → All Good xs → IsFirstFault Good Has ys fault → IsFirstFault Good Has (xs ++ ys) fault
first_right {Y = Y} Good Has xs ys fault g h = record {
  before = xs ++ h.before;
  item = h.item;
  after = h.after;
  split = ap (λ (zs : List Y). xs ++ zs) h.split ∙ sym (append_assoc xs h.before (h.item ∷ h.after));
  good_before = All-append Good xs h.before g h.good_before;
  has = h.has;
}

-- a result with this fault
pub told : (r : Result Unit Fault) (fault : Fault) (P : Type 0) (Q : Fault → Type 0) → r ≡ Err fault → Q fault
    → MatchResult r (λ _. P) Q
told r fault P Q e q = subst (λ (r : Result Unit Fault). MatchResult r (λ _. P) Q) (sym e) q
