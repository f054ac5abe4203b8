-- Successive reads and writes.
use Rattle.std.proofs.Common.{◌≡◌, ℕ, ◌+◌, ◌≤◌, length, length-append, List, ◌++◌, take, drop, Option, None, Some, refl, ap, sym, ◌∙◌, append_assoc, arith}
use Rattle.std.proofs.lemmas.List.{length-take, take-append-drop, take-take, drop-take, drop-drop}
use Rattle.std.specs.Io.KnownBytes.{Appends, Consumes}
use Rattle.text_io.specs.Outside.{TakesSome}

pub Appends-more : (a b c : Option (List ℕ)) (xs ys : List ℕ) → Appends a b xs → Appends b c ys → Appends a c (xs ++ ys)
Appends-more None b c xs ys h k = tt
Appends-more (Some s) None c xs ys h k = absurd h
Appends-more (Some s) (Some t) None xs ys h k = absurd k
Appends-more (Some s) (Some t) (Some u) xs ys h k = k ∙ ap (λ (r : List ℕ). r ++ ys) h ∙ append_assoc s xs ys

Consumes-more : (a b c : Option (List ℕ)) (xs ys : List ℕ) → Consumes a b xs → Consumes b c ys → Consumes a c (xs ++ ys)
Consumes-more None b c xs ys h k = tt
Consumes-more (Some s) None c xs ys h k = absurd h
Consumes-more (Some s) (Some t) None xs ys h k = absurd k
Consumes-more (Some s) (Some t) (Some u) xs ys h k = h ∙ ap (λ (r : List ℕ). xs ++ r) k ∙ sym (append_assoc xs ys u)

-- a read that gives bytes takes some
pub took_some : (a b c : Option (List ℕ)) (xs buf : List ℕ) (n : ℕ) → Consumes a b xs → (1 ≤ n) × (n ≤ length buf)
    × Consumes b c (take n buf) → TakesSome a c (λ (bytes : List ℕ). 1 ≤ length bytes)
took_some a b c xs buf n h k = (
  xs ++ take n buf,
  Consumes-more a b c xs (take n buf) h k.2,
  omega (arith, length-append xs (take n buf), length-take n buf, k.0, k.1),
)

pub take_both : (n m : ℕ) (xs : List ℕ) → take (n + m) xs ≡ take n xs ++ take m (drop n xs)
take_both n m xs =
    let whole : take (n + m) xs ≡ take n (take (n + m) xs) ++ drop n (take (n + m) xs) =
    sym (take-append-drop n (take (n + m) xs)) in
    whole ∙ rw (take-take n (n + m) xs (omega arith), drop-take n m xs) refl

-- what was left is what was copied, and then what is left now
pub supplied : (left bytes buf : List ℕ) (taken n : ℕ) → left ≡ drop taken bytes
    → take n buf ≡ take n (drop taken bytes) → left ≡ take n buf ++ drop (taken + n) bytes
supplied left bytes buf taken n l c =
    l ∙ sym (take-append-drop n (drop taken bytes)) ∙ ap (λ (r : List ℕ). r ++ drop n (drop taken bytes)) (sym c)
    ∙ ap (λ (r : List ℕ). take n buf ++ r) (drop-drop n taken bytes)
