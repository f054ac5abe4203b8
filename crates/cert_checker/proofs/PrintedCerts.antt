-- The canonical text of a certificate, part by part; and its lines can be read back.
use Rattle.std.proofs.Common.{◌≡◌, ℕ, ◌+◌, ◌*◌, ◌<◌, ◌≤◌, ◌^◌, true, ℤ, pos, List, [], ◌∷◌, ◌++◌, map, refl, ap, sym, ◌∙◌, append_assoc, append-nil, inl, inr, arith}
use Rattle.std.specs.Prelude.{codes, decimal, nat_le}
use Rattle.std.specs.Fmt.{digits}
use Rattle.std.specs.List.{flat_map, AllByRecursion, list_all}
use Rattle.std.specs.Fmt.{signed_decimal}
use Rattle.std.proofs.lemmas.Bool.{and_parts, cases_Bool, cond-true, cond-false}
use Rattle.std.proofs.lemmas.Bool.Decides.{nat_tests}
use Rattle.std.proofs.lemmas.Grind.{flat_map-append}
use Rattle.std.proofs.lemmas.List.{length-map}
use Rattle.std.proofs.lemmas.List.Elements.{recursion_from_All}
use Rattle.strip_graph.specs.declared.tilings.Step.{Step}
use Rattle.strip_graph.specs.declared.tilings.Step.TheVariants.{V, H}
use Rattle.strip_graph.specs.Certificates.{IsModest}
use Rattle.text_io.specs.Text.{words, is_kept, kept_from}
use Rattle.text_io.specs.WordLists.{number, spaced, line_text, IsWritable, IsWritableLine, Line, lines_of}
use Rattle.cert_checker.specs.CertTexts.{CertHead, CertParts, IsHead, IsWord, IsValueRow, IsLawfulCertificate, letter, head_line, word_line, row_line, certificate_end, rows_in, value_lines, cert_lines, cert_text}
use Rattle.cert_checker.specs.LineSteps.{after_blank}
use Rattle.cert_checker.proofs.RowLists.{rows_each}

-- the words of kept lines, wherever their numbers begin
pub lines_any : (n m : ℕ) (ls : List (List ℕ)) → lines_of (kept_from n ls) ≡ lines_of (kept_from m ls)
lines_any n m [] = refl
lines_any n m (l ∷ ls) =
    elim (cases_Bool (is_kept (words l))) [
      | inl e ↦ ap lines_of (cond-true _ _ _ e) ∙ ap (λ (xs : List Line). words l ∷ xs) (lines_any (n + 1) (m + 1) ls)
          ∙ sym (ap lines_of (cond-true _ _ _ e))
      | inr e ↦ ap lines_of (cond-false _ _ _ e) ∙ lines_any (n + 1) (m + 1) ls ∙ sym (ap lines_of (cond-false _ _ _ e))
    ]

-- words that can be written
all_from : (w : List ℕ) → list_all (nat_le 36) w ≡ true → AllByRecursion (λ (b : ℕ). 36 ≤ b) w
all_from [] e = tt
all_from (b ∷ w) e =
    let p = and_parts (nat_le 36 b) (list_all (nat_le 36) w) e in
    (let q : nat_le 36 b ≡ true = p.0 in grind (arith, nat_tests), all_from w p.1)

count_writable : (n : ℕ) → n ≤ 10 ^ 36 → IsWritable (number (pos n))
count_writable n h = let m : n < 10 ^ 64 = omega (arith, h) in m

value_writable : (z : ℤ) → IsModest z → IsWritable (number z)
value_writable z h = omega (arith, h)

letters_plain : (w : List Step) → AllByRecursion (λ (b : ℕ). 36 ≤ b) (map letter w)
letters_plain [] = tt
letters_plain (V ∷ w) = (omega arith, letters_plain w)
letters_plain (H ∷ w) = (omega arith, letters_plain w)

head_writable : (h : CertHead) → IsHead h → IsWritableLine (head_line h)
head_writable h i = (
  omega arith,
  (
    (omega arith, all_from (codes "CERT") refl),
    (
      count_writable 1 (omega arith),
      (
        (omega arith, all_from (codes "PAIR") refl),
        (
          count_writable h.pair (omega (arith, i.pair.1)),
          (
            (omega arith, all_from (codes "ROWS") refl),
            (
              count_writable h.rows (omega (arith, i.rows.1)),
              (
                (omega arith, all_from (codes "COLS") refl),
                (
                  count_writable h.cols (omega (arith, i.cols.1)),
                  (
                    (omega arith, all_from (codes "COST") refl),
                    (
                      value_writable h.cost i.cost,
                      (
                        (omega arith, all_from (codes "START") refl),
                        (count_writable h.start (omega (arith, i.start)), tt),
                      ),
                    ),
                  ),
                ),
              ),
            ),
          ),
        ),
      ),
    ),
  ),
)

word_writable : (w : List Step) → IsWord w → IsWritableLine (word_line w)
word_writable w i = (
  omega arith,
  (
    (omega arith, all_from (codes "WORD") refl),
    ((omega (arith, length-map w letter, i.0), letters_plain w), tt),
  ),
)

values_writable : (xs : List ℤ) → AllByRecursion IsModest xs → AllByRecursion IsWritable (row_line xs)
values_writable [] h = tt
values_writable (x ∷ xs) h = (value_writable x h.0, values_writable xs h.1)

row_writable : (w : ℕ) (xs : List ℤ) → 0 < w → IsValueRow w xs → IsWritableLine (row_line xs)
row_writable w xs some r = (
  omega (arith, length-map xs number, r.0, some),
  values_writable xs (recursion_from_All IsModest xs r.1),
)

rows_writable : (w : ℕ) (rs : List (List ℤ)) → 0 < w → AllByRecursion (IsValueRow w) rs
    → AllByRecursion IsWritableLine (map row_line rs ++ certificate_end ∷ [])
rows_writable w [] some h = ((omega arith, ((omega arith, all_from (codes "END") refl), tt)), tt)
rows_writable w (r ∷ rs) some h = (row_writable w r some h.0, rows_writable w rs some h.1)

pub each_row : (C : CertParts) → IsLawfulCertificate C
    → AllByRecursion (IsValueRow (C.head.cols + 1)) (rows_in (C.head.cols + 1) (2 * C.head.rows) C.values)
each_row C l =
    let w = C.head.cols + 1 in
    let k = 2 * C.head.rows in
    recursion_from_All (IsValueRow w) (rows_in w k C.values) (rows_each w k C.values (omega (arith, l.count)) l.values)

pub lines_writable : (C : CertParts) → IsLawfulCertificate C → AllByRecursion IsWritableLine (cert_lines C)
lines_writable C l = (
  head_writable C.head l.head,
  (
    word_writable C.word l.word,
    rows_writable (C.head.cols + 1) (rows_in (C.head.cols + 1) (2 * C.head.rows) C.values)
        (omega arith) (each_row C l),
  ),
)

-- the text part by part
pub text_parts : (C : CertParts) (o n1 n2 n3 n4 : List ℕ) → n1 ≡ o ++ line_text (head_line C.head)
    → n2 ≡ n1 ++ line_text (word_line C.word) → n3 ≡ n2 ++ flat_map line_text (value_lines C) → n4 ≡ n3 ++ codes "END\n"
    → n4 ≡ o ++ cert_text C
text_parts C o n1 n2 n3 n4 e1 e2 e3 e4 =
    let a = line_text (head_line C.head) in
    let b = line_text (word_line C.word) in
    let c = flat_map line_text (value_lines C) in
    let e = codes "END\n" in
    e4
    ∙ ap (λ (x : List ℕ). x ++ e) (e3 ∙ ap (λ (x : List ℕ). x ++ c) (e2 ∙ ap (λ (x : List ℕ). x ++ b) e1))
    ∙ append_assoc ((o ++ a) ++ b) c e
    ∙ append_assoc (o ++ a) b (c ++ e)
    ∙ append_assoc o a (b ++ (c ++ e))
    ∙ sym (ap (λ (x : List ℕ). o ++ (a ++ (b ++ x))) (flat_map-append line_text (value_lines C) (certificate_end ∷ [])))

-- the numbers of a row, with a blank before each but the first
pub row_text : (x : ℤ) (xs : List ℤ) → spaced (row_line (x ∷ xs)) ≡ signed_decimal x ++ flat_map after_blank xs
row_text x [] = sym (append-nil (signed_decimal x))
row_text x (y ∷ ys) = ap (λ (t : List ℕ). signed_decimal x ++ 32 ∷ t) (row_text y ys)

pub row_put : (row : List ℤ) (x : ℤ) (xs : List ℤ) (o n1 n2 n3 : List ℕ) → row ≡ x ∷ xs → n1 ≡ o ++ signed_decimal x
    → n2 ≡ n1 ++ flat_map after_blank xs → n3 ≡ n2 ++ codes "\n" → n3 ≡ o ++ line_text (row_line row)
row_put row x xs o n1 n2 n3 e e1 e2 e3 =
    let a = signed_decimal x in
    let b = flat_map after_blank xs in
    let f = codes "\n" in
    e3
    ∙ ap (λ (t : List ℕ). t ++ f) (e2 ∙ ap (λ (t : List ℕ). t ++ b) e1 ∙ append_assoc o a b)
    ∙ append_assoc o (a ++ b) f
    ∙ ap (λ (t : List ℕ). o ++ (t ++ f)) (sym (row_text x xs))
    ∙ ap (λ (r : List ℤ). o ++ line_text (row_line r)) (sym e)

-- the first line in two pieces
one_text : decimal 1 ≡ 49 ∷ []
unfolding digits
one_text = refl

abbrev sizes_text : CertHead → List ℕ → List ℕ
sizes_text h rest = codes " PAIR "
    ++ (decimal h.pair ++ (codes " ROWS " ++ (decimal h.rows ++ (codes " COLS " ++ (decimal h.cols ++ rest)))))

abbrev start_text : CertHead → List ℕ
start_text h = codes " COST " ++ (signed_decimal h.cost ++ (codes " START " ++ (decimal h.start ++ codes "\n")))

pub head_text : (h : CertHead) (o n1 n2 : List ℕ)
    → n1 ≡ o ++ (codes "CERT 1 PAIR " ++ (decimal h.pair
    ++ (codes " ROWS " ++ (decimal h.rows ++ (codes " COLS " ++ decimal h.cols))))) → n2 ≡ n1 ++ start_text h
    → n2 ≡ o ++ line_text (head_line h)
head_text h o n1 n2 e1 e2 =
    let p = decimal h.pair in
    let r = decimal h.rows in
    let k = decimal h.cols in
    let z = signed_decimal h.cost in
    let ends = codes "\n" in
    let sizes = codes " ROWS " ++ (r ++ (codes " COLS " ++ k)) in
    let start = codes " START " ++ decimal h.start in
    let cost = codes " COST " ++ (z ++ start) in
    let cols = codes " COLS " ++ (k ++ cost) in
    let rows = codes " ROWS " ++ (r ++ cols) in
    let pair = codes " PAIR " ++ (p ++ rows) in
    let front = codes "CERT 1 PAIR " ++ (p ++ sizes) in
    let here : front ++ start_text h ≡ codes "CERT " ++ ((49 ∷ []) ++ sizes_text h (start_text h)) =
    ap (λ (t : List ℕ). codes "CERT 1 PAIR " ++ t)
    (append_assoc p sizes (start_text h)
    ∙ ap (λ (t : List ℕ). p ++ (codes " ROWS " ++ t)) (append_assoc r (codes " COLS " ++ k) (start_text h))) in
    let five : (z ++ start) ++ ends ≡ z ++ (start ++ ends) = append_assoc z start ends in
    let four : (k ++ cost) ++ ends ≡ k ++ start_text h = append_assoc k cost ends
    ∙ ap (λ (t : List ℕ). k ++ (codes " COST " ++ t)) five in
    let three : (r ++ cols) ++ ends ≡ r ++ (codes " COLS " ++ (k ++ start_text h)) = append_assoc r cols ends
    ∙ ap (λ (t : List ℕ). r ++ (codes " COLS " ++ t)) four in
    let two : (p ++ rows) ++ ends ≡ p ++ (codes " ROWS " ++ (r ++ (codes " COLS " ++ (k ++ start_text h)))) =
    append_assoc p rows ends ∙ ap (λ (t : List ℕ). p ++ (codes " ROWS " ++ t)) three in
    let one : (decimal 1 ++ pair) ++ ends ≡ decimal 1 ++ sizes_text h (start_text h) =
    append_assoc (decimal 1) pair ends ∙ ap (λ (t : List ℕ). decimal 1 ++ (codes " PAIR " ++ t)) two in
    let there : line_text (head_line h) ≡ codes "CERT " ++ (decimal 1 ++ sizes_text h (start_text h)) =
    ap (λ (t : List ℕ). codes "CERT " ++ t) one in
    e2
    ∙ ap (λ (t : List ℕ). t ++ start_text h) e1
    ∙ append_assoc o front (start_text h)
    ∙ ap (λ (t : List ℕ). o ++ t) (here
    ∙ ap (λ (t : List ℕ). codes "CERT " ++ (t ++ sizes_text h (start_text h))) (sym one_text) ∙ sym there)
