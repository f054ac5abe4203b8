-- Fields of integers: blanks, and a number after them.
use Rattle.std.proofs.Common.{◌≡◌, ℕ, zero, suc, ◌-◌, ◌<◌, ℤ, List, [], ◌∷◌, ◌++◌, length, take, drop, get_or, replicate, sym, ap, ap₂, ◌∙◌, arith}
use Rattle.std.specs.Fmt.{signed_decimal}
use Rattle.std.proofs.lemmas.List.{length-append, length-replicate, take_all, length-drop}
use Rattle.byu_text.specs.Fields.{FitsField, number_field}
use Rattle.byu_text.proofs.FieldLaws.{text_begins}

-- the rest after the blanks is determined by the whole
blanks_one : (k j : ℕ) (r s : List ℕ) → (get_or r 0 0 ≡ 32 → ⊥) → (get_or s 0 0 ≡ 32 → ⊥)
    → replicate k 32 ++ r ≡ replicate j 32 ++ s → r ≡ s
blanks_one zero zero r s a b e = e
blanks_one zero (suc j) r s a b e = absurd (a (ap (λ (l : List ℕ). get_or l 0 0) e))
blanks_one (suc k) zero r s a b e = absurd (b (ap (λ (l : List ℕ). get_or l 0 0) (sym e)))
blanks_one (suc k) (suc j) r s a b e = let tail : replicate k 32 ++ r ≡ replicate j 32 ++ s = cc in
    blanks_one k j r s a b tail

pub behind_field : (z : ℤ) (k : ℕ) (field rest : List ℕ) → FitsField z → (get_or rest 0 0 ≡ 32 → ⊥)
    → field ≡ replicate k 32 ++ rest → field ≡ number_field z → rest ≡ signed_decimal z
behind_field z k field rest h b e f =
    blanks_one k (8 - length (signed_decimal z)) rest (signed_decimal z) b (text_begins z h) (sym e ∙ f)

pub field_of : (z : ℤ) (k : ℕ) (field rest : List ℕ) → length field ≡ 8 → field ≡ replicate k 32 ++ rest
    → rest ≡ signed_decimal z → field ≡ number_field z
field_of z k field rest l e f =
    let n : k ≡ 8 - length (signed_decimal z) =
    omega (arith, l, ap length e, length-append (replicate k 32) rest, length-replicate {A = ℕ} k 32, ap length f)
    in
    e ∙ ap (λ (r : List ℕ). replicate k 32 ++ r) f ∙ ap (λ (i : ℕ). replicate i 32 ++ signed_decimal z) n

-- all but the first of some bytes
others_of : (text : List ℕ) → take (length text - 1) (drop 1 text) ≡ drop 1 text
others_of text = take_all (length text - 1) (drop 1 text) (omega (arith, length-drop 1 text))

-- a minus, and the digits after it
pub behind_minus : (text digits : List ℕ) → text ≡ 45 ∷ digits → take (length text - 1) (drop 1 text) ≡ digits
behind_minus text digits e = others_of text ∙ ap (drop 1) e

pub minus_before : (text digits : List ℕ) → 0 < length text → get_or text 0 0 ≡ 45
    → take (length text - 1) (drop 1 text) ≡ digits → text ≡ 45 ∷ digits
minus_before [] digits l s e = absurd (omega arith)
minus_before (b ∷ text) digits l s e = ap₂ (λ (x : ℕ) (xs : List ℕ). x ∷ xs) s (sym (others_of (b ∷ text)) ∙ e)
