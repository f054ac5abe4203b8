-- The canonical text of a certificate is short.
use Rattle.std.proofs.Common.{◌≡◌, ℕ, suc, ◌+◌, ◌*◌, ◌<◌, ◌≤◌, ◌^◌, ℤ, pos, negsuc, List, [], ◌∷◌, ◌++◌, map, length, ap, arith, length-append}
use Rattle.std.specs.Prelude.{codes, decimal}
use Rattle.std.specs.List.{flat_map, AllByRecursion, sum_by}
use Rattle.std.specs.Fmt.{signed_decimal}
use Rattle.std.proofs.Math.Nat.{mul-le-mul_right, mul-le-mul_left}
use Rattle.std.proofs.lemmas.Fmt.{length-decimal-le_wide}
use Rattle.std.proofs.lemmas.Grind.{flat_map-append}
use Rattle.std.proofs.lemmas.List.{length-map}
use Rattle.std.proofs.lemmas.List.Elements.{recursion_from_All}
use Rattle.std.proofs.lemmas.List.Sums.{sum_by-cons}
use Rattle.fku_types.specs.declared.limits.TheConstants.{MAX_CHECK_BYTES, MAX_COMPOSITE_VERTICES}
use Rattle.strip_graph.specs.declared.tilings.Step.{Step}
use Rattle.strip_graph.specs.Certificates.{IsModest}
use Rattle.text_io.specs.WordLists.{Word, text, number, word_text, spaced, line_text}
use Rattle.cert_checker.specs.CertTexts.{CertHead, CertParts, IsHead, IsWord, IsValueRow, IsLawfulCertificate, letter, named, head_line, word_line, row_line, certificate_end, rows_in, value_lines, cert_text}
use Rattle.cert_checker.proofs.RowLists.{rows_count}
use Rattle.cert_checker.proofs.PrintedCerts.{each_row}

abbrev Size : Word → ℕ
Size w = length (word_text w) + 1

spaced_short : (w : Word) (ws : List Word) → length (spaced (w ∷ ws)) + 1 ≡ sum_by Size (w ∷ ws)
spaced_short w [] = omega (arith, sum_by-cons Size w [])
spaced_short w (v ∷ ws) = omega (
  arith,
  sum_by-cons Size w (v ∷ ws),
  length-append (word_text w) (32 ∷ spaced (v ∷ ws)),
  spaced_short v ws,
)

line_size : (w : Word) (ws : List Word) → length (line_text (w ∷ ws)) ≡ sum_by Size (w ∷ ws)
line_size w ws = omega (arith, length-append (spaced (w ∷ ws)) (10 ∷ []), spaced_short w ws)

decimal_size : (k n : ℕ) → 0 < k → n < 10 ^ k → n ≤ 10 ^ 36 → length (decimal n) ≤ k
decimal_size k n some h le = length-decimal-le_wide k n some h (omega (arith, le))

value_size : (z : ℤ) → IsModest z → length (signed_decimal z) ≤ 38
value_size (pos n) h = let m : n ≤ 10 ^ 36 = h in omega (arith, decimal_size 37 n (omega arith) (omega (arith, m)) m)
value_size (negsuc n) h = let m : suc n ≤ 10 ^ 36 = h in
    omega (arith, decimal_size 37 (suc n) (omega arith) (omega (arith, m)) m)

values_size : (xs : List ℤ) → AllByRecursion IsModest xs → sum_by Size (row_line xs) ≤ 39 * length xs
values_size [] h = omega arith
values_size (x ∷ xs) h = omega (arith, sum_by-cons Size (number x) (row_line xs), value_size x h.0, values_size xs h.1)

row_size : (w : ℕ) (xs : List ℤ) → 0 < w → IsValueRow w xs → length (line_text (row_line xs)) ≤ 39 * w
row_size w [] some r = absurd (omega (arith, r.0, some))
row_size w (x ∷ xs) some r = omega
    (arith, line_size (number x) (row_line xs), values_size (x ∷ xs) (recursion_from_All IsModest (x ∷ xs) r.1), r.0)

rows_size : (w : ℕ) (rs : List (List ℤ)) → 0 < w → AllByRecursion (IsValueRow w) rs
    → length (flat_map line_text (map row_line rs)) ≤ length rs * (39 * w)
rows_size w [] some h = omega arith
rows_size w (r ∷ rs) some h = omega (
  arith,
  length-append (line_text (row_line r)) (flat_map line_text (map row_line rs)),
  row_size w r some h.0,
  rows_size w rs some h.1,
)

named_size : (k : List ℕ) (z : ℤ) (ws : List Word)
    → sum_by Size (text k ∷ number z ∷ ws) ≡ length k + length (signed_decimal z) + 2 + sum_by Size ws
named_size k z ws = omega (arith, sum_by-cons Size (text k) (number z ∷ ws), sum_by-cons Size (number z) ws)

head_size : (h : CertHead) → IsHead h → length (line_text (head_line h)) ≤ 200
head_size h i =
    let start = named (codes "START") (pos h.start) in
    let cost = named (codes "COST") h.cost ++ start in
    let cols = named (codes "COLS") (pos h.cols) ++ cost in
    let rows = named (codes "ROWS") (pos h.rows) ++ cols in
    let pair = named (codes "PAIR") (pos h.pair) ++ rows in
    omega (
      arith,
      line_size (text (codes "CERT")) (number (pos 1) ∷ pair),
      named_size (codes "CERT") (pos 1) pair,
      named_size (codes "PAIR") (pos h.pair) rows,
      named_size (codes "ROWS") (pos h.rows) cols,
      named_size (codes "COLS") (pos h.cols) cost,
      named_size (codes "COST") h.cost start,
      named_size (codes "START") (pos h.start) [],
      decimal_size 4 1 (omega arith) (omega arith) (omega arith),
      decimal_size 5 h.pair (omega arith) (omega (arith, i.pair.1)) (omega (arith, i.pair.1)),
      decimal_size 4 h.rows (omega arith) (omega (arith, i.rows.1)) (omega (arith, i.rows.1)),
      decimal_size 4 h.cols (omega arith) (omega (arith, i.cols.1)) (omega (arith, i.cols.1)),
      value_size h.cost i.cost,
      decimal_size 4 h.start (omega arith) (omega (arith, i.start)) (omega (arith, i.start)),
    )

word_size : (w : List Step) → IsWord w → length (line_text (word_line w)) ≤ 8200
word_size w i = omega (
  arith,
  line_size (text (codes "WORD")) (text (map letter w) ∷ []),
  sum_by-cons Size (text (codes "WORD")) (text (map letter w) ∷ []),
  sum_by-cons Size (text (map letter w)) [],
  length-map w letter,
  i.1,
)

-- with room for a section text before it
pub text_size : (C : CertParts) → IsLawfulCertificate C → length (cert_text C) ≤ 1400000000
text_size C l =
    let w = C.head.cols + 1 in
    let k = 2 * C.head.rows in
    let rs = rows_in w k C.values in
    let a = line_text (head_line C.head) in
    let b = line_text (word_line C.word) in
    let c = flat_map line_text (value_lines C) in
    let wide : w ≤ MAX_COMPOSITE_VERTICES + 1 = omega (arith, l.head.cols.1) in
    let long : length rs ≤ 2 * MAX_COMPOSITE_VERTICES = omega (arith, rows_count w k C.values, l.head.rows.1) in
    omega (
      arith,
      length-append a (b ++ flat_map line_text (value_lines C ++ certificate_end ∷ [])),
      length-append b (flat_map line_text (value_lines C ++ certificate_end ∷ [])),
      ap length (flat_map-append line_text (value_lines C) (certificate_end ∷ [])),
      length-append c (flat_map line_text (certificate_end ∷ [])),
      head_size C.head l.head,
      word_size C.word l.word,
      rows_size w rs (omega arith) (each_row C l),
      mul-le-mul_left (length rs) (mul-le-mul_left 39 wide),
      mul-le-mul_right (39 * (MAX_COMPOSITE_VERTICES + 1)) long,
    )

pub text_short : (C : CertParts) → IsLawfulCertificate C → length (cert_text C) ≤ MAX_CHECK_BYTES
text_short C l = omega (arith, text_size C l)
