-- A text has its fault at one line at most, and none if it reads; and where the line lies that is at fault.
use Rattle.std.proofs.Common.{◌≡◌, ℕ, ◌+◌, List, [], ◌∷◌, ◌++◌, length, drop, refl, ap, sym, ◌∙◌, subst, append_assoc, append-nil, arith, inl, inr}
use Rattle.std.specs.Prelude.{slice_range}
use Rattle.std.specs.List.{AllZip}
use Rattle.std.proofs.lemmas.List.{map-append}
use Rattle.std.proofs.lemmas.Slice.Zip.{all_zipped_more}
use Rattle.text_io.specs.Text.{lines, words, kept_from, IsKeptLineAt}
use Rattle.text_io.specs.WordLists.{Word, Matches, Line, Kept, lines_of}
use Rattle.text_io.specs.Formats.{ReadsAs, BeginsAny, IsLineAtFault, HasLineFault, kept_behind, last_line, HasRead}

-- fronts of lines that begin one begin it too
record Parted (xs : List Line) (front : List (List Word)) : Type 0 where
  here : List (List Word)
  there : List (List Word)
  split : front ≡ here ++ there
  match : AllZip Matches xs here

parted : (xs ys : List Line) (front : List (List Word)) → AllZip Matches (xs ++ ys) front → Parted xs front
parted [] ys front z = record { here = []; there = front; split = refl; match = tt }
parted (x ∷ xs) ys [] z = absurd z
parted (x ∷ xs) ys (f ∷ fs) z = let p = parted xs ys fs z.1 in
    record {
      here = f ∷ p.here;
      there = p.there;
      split = ap (λ (ls : List (List Word)). f ∷ ls) p.split;
      match = (z.0, p.match);
    }

pub begins_front : {P : Type 0} {Is : P → Type 0} {form : P → List (List Word)} (xs ys : List Line)
    → BeginsAny Is form (xs ++ ys) → BeginsAny Is form xs
begins_front xs ys b =
    let p = parted xs ys b.front b.match in
    record {
      says = b.says;
      lawful = b.lawful;
      front = p.here;
      rest = p.there ++ b.rest;
      split = b.split ∙ ap (λ (ls : List (List Word)). ls ++ b.rest) p.split ∙ append_assoc p.here p.there b.rest;
      match = p.match;
    }

-- all lines of one begin it
pub begins_whole : {P : Type 0} {Is : P → Type 0} {form : P → List (List Word)} (p : P) → Is p → (lines : List Line)
    → AllZip Matches lines (form p) → BeginsAny Is form lines
begins_whole {P} {Is} {form} p is lines m =
    record { says = p; lawful = is; front = form p; rest = []; split = sym (append-nil (form p)); match = m }

-- no lines behind a line at fault begin one
no_later : {P : Type 0} {Is : P → Type 0} {form : P → List (List Word)} (before : List Kept) (n : ℕ) (line : Line)
    (ys zs : List Kept) → ys ≡ before ++ (n, line) ∷ zs → (BeginsAny Is form (lines_of before ++ line ∷ []) → ⊥)
    → BeginsAny Is form (lines_of ys) → ⊥
no_later {P} {Is} {form} before n line ys zs e none b =
    let split : lines_of ys ≡ (lines_of before ++ line ∷ []) ++ lines_of zs =
    ap lines_of e ∙ map-append (λ (k : Kept). k.1) before ((n, line) ∷ zs)
    ∙ sym (append_assoc (lines_of before) (line ∷ []) (lines_of zs)) in
    none (begins_front (lines_of before ++ line ∷ []) (lines_of zs) (subst (BeginsAny Is form) split b))

fault_stops : {P : Type 0} {Is : P → Type 0} {form : P → List (List Word)} (kept : List Kept) (n : ℕ)
    → IsLineAtFault Is form kept n → BeginsAny Is form (lines_of kept) → ⊥
fault_stops kept n f b = no_later f.before n f.line kept f.after f.split f.none b

-- a text that reads has no fault
pub no_line_fault : {P : Type 0} {Is : P → Type 0} {form : P → List (List Word)} (kept : List Kept) (last n : ℕ) (p : P)
    → ReadsAs Is form kept p → HasLineFault Is form kept last n → ⊥
no_line_fault kept last n p r (inl f) = fault_stops kept n f (begins_whole p r.lawful (lines_of kept) r.match)
no_line_fault kept last n p r (inr s) = s.none p r

-- two places in one list
data Places {X : Type 0} (xs ys : List X) (x y : X) : Type 0 where
  equal : x ≡ y → Places xs ys x y
  earlier : (zs : List X) → ys ≡ xs ++ x ∷ zs → Places xs ys x y
  behind : (zs : List X) → xs ≡ ys ++ y ∷ zs → Places xs ys x y

one_further : {X : Type 0} (z : X) (xs ys : List X) (x y : X) → Places xs ys x y → Places (z ∷ xs) (z ∷ ys) x y
one_further z xs ys x y (equal e) = equal e
one_further {X} z xs ys x y (earlier zs e) = earlier zs (ap (λ (l : List X). z ∷ l) e)
one_further {X} z xs ys x y (behind zs e) = behind zs (ap (λ (l : List X). z ∷ l) e)

places : {X : Type 0} (xs ys : List X) (x y : X) (ps qs : List X) → xs ++ x ∷ ps ≡ ys ++ y ∷ qs → Places xs ys x y
places [] [] x y ps qs e = equal (cc)
places {X} [] (b ∷ ys) x y ps qs e = let f : b ≡ x = cc in earlier ys (ap (λ (k : X). k ∷ ys) f)
places {X} (a ∷ xs) [] x y ps qs e = let f : a ≡ y = cc in behind xs (ap (λ (k : X). k ∷ xs) f)
places {X} (a ∷ xs) (b ∷ ys) x y ps qs e =
    let f : a ≡ b = cc in
    let g : xs ++ x ∷ ps ≡ ys ++ y ∷ qs = cc in
    subst (λ (k : X). Places (a ∷ xs) (k ∷ ys) x y) f (one_further a xs ys x y (places xs ys x y ps qs g))

lines_at_fault : {P : Type 0} {Is : P → Type 0} {form : P → List (List Word)} (kept : List Kept) (m n : ℕ)
    → IsLineAtFault Is form kept m → IsLineAtFault Is form kept n → m ≡ n
lines_at_fault kept m n f g =
    elim (places f.before g.before (m, f.line) (n, g.line) f.after g.after (sym f.split ∙ g.split)) [
      | equal e ↦ ap (λ (k : Kept). k.0) e
      | earlier zs e ↦ absurd (no_later f.before m f.line g.before zs e f.none g.begins)
      | behind zs e ↦ absurd (no_later g.before n g.line f.before zs e g.none f.begins)
    ]

-- a text has one fault
pub one_line_fault : {P : Type 0} {Is : P → Type 0} {form : P → List (List Word)} (kept : List Kept) (last m n : ℕ)
    → HasLineFault Is form kept last m → HasLineFault Is form kept last n → m ≡ n
one_line_fault kept last m n (inl f) (inl g) = lines_at_fault kept m n f g
one_line_fault kept last m n (inl f) (inr t) = absurd (fault_stops kept m f t.begins)
one_line_fault kept last m n (inr s) (inl g) = absurd (fault_stops kept n g s.begins)
one_line_fault kept last m n (inr s) (inr t) = s.past ∙ sym t.past

-- ---- how far a text was read

-- nothing was read yet
pub none_read : (passed : ℕ) (text : List ℕ) → HasRead passed text 0 passed []
none_read passed text = record {
  within = omega arith;
  counted = omega arith;
  left = refl;
  before = [];
  split = refl;
  match = tt;
}

abbrev pub line_in : List ℕ → ℕ → ℕ → Line
line_in text first end = words (slice_range text first end)

-- one more line
pub line_read : (passed : ℕ) (text : List ℕ) (at n number first end next : ℕ) (read : List (List Word))
    (form : List Word) → HasRead passed text at n read → IsKeptLineAt text at n number first end next
    → Matches (words (slice_range text first end)) form → HasRead passed text next number (read ++ form ∷ [])
line_read passed text at n number first end next read form r k m =
    let line = line_in text first end in
    let later = kept_from (number + 1) (lines (drop next text)) in
    record {
      within = k.in_order.3;
      counted = omega (arith, r.counted, k.counted.0, k.counted.1);
      left = sym k.lines ∙ r.left;
      before = r.before ++ (number, line) ∷ [];
      split = r.split ∙ ap (λ (xs : List Kept). r.before ++ xs) k.kept
          ∙ sym (append_assoc r.before ((number, line) ∷ []) later);
      match = subst (λ (ls : List Line). AllZip Matches ls (read ++ form ∷ []))
          (sym (map-append (λ (k : Kept). k.1) r.before ((number, line) ∷ [])))
          (all_zipped_more Matches (lines_of r.before) read line form r.match m);
    }

-- a line that continues nothing is at fault
pub line_fault : {P : Type 0} {Is : P → Type 0} {form : P → List (List Word)} (passed : ℕ) (text : List ℕ)
    (at n number first end next : ℕ) (read : List (List Word)) → HasRead passed text at n read
    → IsKeptLineAt text at n number first end next
    → ((before : List Line) → AllZip Matches before read → BeginsAny Is form before)
    → ((before : List Line) → AllZip Matches before read
    → BeginsAny Is form (before ++ words (slice_range text first end) ∷ []) → ⊥)
    → HasLineFault Is form (kept_behind passed text) (last_line passed text) number
line_fault passed text at n number first end next read r k begins stuck =
    inl
    (record {
      before = r.before;
      line = line_in text first end;
      after = kept_from (number + 1) (lines (drop next text));
      split = r.split ∙ ap (λ (xs : List Kept). r.before ++ xs) k.kept;
      begins = begins (lines_of r.before) r.match;
      none = stuck (lines_of r.before) r.match;
    })

-- all kept lines were read
pub all_read : (passed : ℕ) (text : List ℕ) (at n : ℕ) (read : List (List Word)) → HasRead passed text at n read
    → kept_from (n + 1) (lines (drop at text)) ≡ [] → AllZip Matches (lines_of (kept_behind passed text)) read
all_read passed text at n read r e =
    let whole : lines_of (kept_behind passed text) ≡ lines_of r.before =
    ap lines_of (r.split ∙ ap (λ (xs : List Kept). r.before ++ xs) e ∙ append-nil r.before) in
    subst (λ (ls : List Line). AllZip Matches ls read) (sym whole) r.match

-- a text that ends before all lines stops too soon
pub stop_fault : {P : Type 0} {Is : P → Type 0} {form : P → List (List Word)} (passed : ℕ) (text : List ℕ) (at n : ℕ)
    (read : List (List Word)) → HasRead passed text at n read → kept_from (n + 1) (lines (drop at text)) ≡ []
    → ((before : List Line) → AllZip Matches before read → BeginsAny Is form before)
    → ((p : P) (before : List Line) → AllZip Matches before read → AllZip Matches before (form p) → ⊥)
    → HasLineFault Is form (kept_behind passed text) (last_line passed text) (n + length (lines (drop at text)) + 1)
stop_fault passed text at n read r e begins short =
    let all = all_read passed text at n read r e in
    inr
    (record {
      past = ap (λ (k : ℕ). k + 1) r.left;
      begins = begins (lines_of (kept_behind passed text)) all;
      none = λ p reads. short p (lines_of (kept_behind passed text)) all reads.match;
    })
