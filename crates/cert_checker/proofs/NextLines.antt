-- The next line of a front has one form: a line of another form continues nothing, and the first lines are not all
-- lines.
use Rattle.std.proofs.Common.{◌≡◌, ℕ, suc, ◌+◌, ◌-◌, ◌*◌, ◌<◌, ◌≤◌, ℤ, List, [], ◌∷◌, ◌++◌, map, length, ap, sym, ◌∙◌, subst, append_assoc, arith, length-append}
use Rattle.std.specs.Prelude.{slice_range, get_or}
use Rattle.std.specs.List.{AllZip}
use Rattle.std.proofs.Math.Nat.{mul-le-mul_right}
use Rattle.std.proofs.lemmas.List.{map-append, length-map, get_or_at}
use Rattle.std.proofs.lemmas.List.Elements.{All-get_or}
use Rattle.std.proofs.lemmas.Slice.Zip.{AllZip-long}
use Rattle.strip_graph.specs.declared.tilings.Step.{Step}
use Rattle.text_io.specs.WordLists.{Word, Matches, Line}
use Rattle.cert_checker.specs.CertTexts.{CertHead, CertParts, IsHead, IsWord, IsValueRow, IsLawfulCertificate, head_line, word_line, row_line, certificate_end, rows_in, value_lines, cert_lines}
use Rattle.cert_checker.specs.CertReading.{BeginsCertificate}
use Rattle.cert_checker.specs.LineSteps.{first_lines}
use Rattle.cert_checker.proofs.HeadLines.{head_one}
use Rattle.cert_checker.proofs.RowLists.{rows_count, rows_begin, rows_each}

-- the first line of a front is that of its certificate
front_head : (one : Line) (more : List Line) (front rest : List (List Word)) (C : CertParts)
    → cert_lines C ≡ front ++ rest → AllZip Matches (one ∷ more) front → Matches one (head_line C.head)
front_head one more [] rest C e m = absurd m
front_head one more (f ∷ fs) rest C e m = let q : head_line C.head ≡ f = cc in subst (Matches one) (sym q) m.0

-- the second one
word_forced : (one line : Line) (front rest : List (List Word)) (C : CertParts) → cert_lines C ≡ front ++ rest
    → AllZip Matches (one ∷ line ∷ []) front → Matches line (word_line C.word)
word_forced one line [] rest C e m = absurd m
word_forced one line (f ∷ []) rest C e m = absurd m.1
word_forced one line (f ∷ g ∷ fs) rest C e m = let q : word_line C.word ≡ g = cc in subst (Matches line) (sym q) m.1.0

-- the lines after them
pub record RowsForced (one : Line) (more : List Line) (C : CertParts) : Type 0 where
  pub head : Matches one (head_line C.head)
  pub front : List (List Word)
  pub rest : List (List Word)
  pub split : value_lines C ++ certificate_end ∷ [] ≡ front ++ rest
  pub match : AllZip Matches more front

rows_forced : (one two : Line) (more : List Line) (front rest : List (List Word)) (C : CertParts)
    → cert_lines C ≡ front ++ rest → AllZip Matches (one ∷ two ∷ more) front → RowsForced one more C
rows_forced one two more [] rest C e m = absurd m
rows_forced one two more (f ∷ []) rest C e m = absurd m.1
rows_forced one two more (f ∷ g ∷ fs) rest C e m =
    let q : head_line C.head ≡ f = cc in
    let r : value_lines C ++ certificate_end ∷ [] ≡ fs ++ rest = cc in
    record { head = subst (Matches one) (sym q) m.0; front = fs; rest = rest; split = r; match = m.1.1 }

-- the line at a place of a front
at_place : (ls : List Line) (line : Line) (fs rest qs : List (List Word)) (q : List Word) (more : List (List Word))
    → AllZip Matches (ls ++ line ∷ []) fs → fs ++ rest ≡ qs ++ q ∷ more → length qs ≡ length ls → Matches line q
at_place [] line [] rest qs q more m e n = absurd m
at_place [] line (f ∷ fs) rest [] q more m e n = let p : f ≡ q = cc in subst (Matches line) p m.0
at_place [] line (f ∷ fs) rest (r ∷ qs) q more m e n = absurd (omega (arith, n))
at_place (l ∷ ls) line [] rest qs q more m e n = absurd m
at_place (l ∷ ls) line (f ∷ fs) rest [] q more m e n = absurd (omega (arith, n))
at_place (l ∷ ls) line (f ∷ fs) rest (r ∷ qs) q more m e n = let p : fs ++ rest ≡ qs ++ q ∷ more = cc in
    at_place ls line fs rest qs q more m.1 p (omega (arith, n))

-- a row of a lawful certificate
pub record RowAt (C : CertParts) (k : ℕ) : Type 0 where
  pub row : List ℤ
  pub is_row : IsValueRow (C.head.cols + 1) row
  pub later : List (List Word)
  pub split : value_lines C ++ certificate_end ∷ [] ≡ map row_line (rows_in (C.head.cols + 1) k C.values)
      ++ row_line row ∷ later

row_at : (C : CertParts) (k : ℕ) → IsLawfulCertificate C → k < 2 * C.head.rows → RowAt C k
row_at C k l lt =
    let width = C.head.cols + 1 in
    let j = 2 * C.head.rows - suc k in
    let b = rows_begin width (suc k) j C.values in
    let row = slice_range C.values (k * width) (k * width + width) in
    let before = rows_in width k C.values in
    let e : 2 * C.head.rows ≡ suc k + j = omega (arith, lt) in
    let few : suc k ≤ 2 * C.head.rows = omega (arith, lt) in
    let room : suc k * width ≤ length C.values = omega (arith, l.count, mul-le-mul_right width few) in
    let each = rows_each width (suc k) C.values room l.values in
    let here : get_or (before ++ row ∷ []) k [] ≡ row = get_or_at before row [] [] k (rows_count width k C.values) in
    let inside : k < length (rows_in width (suc k) C.values) = omega (arith, rows_count width (suc k) C.values) in
    let ends = certificate_end ∷ [] in
    record {
      row = row;
      is_row = subst (IsValueRow width) here
          (All-get_or (IsValueRow width) (rows_in width (suc k) C.values) k [] inside each);
      later = map row_line b.later ++ ends;
      split = ap (λ (rs : List (List ℤ)). map row_line rs ++ ends)
          (ap (λ (n : ℕ). rows_in width n C.values) e ∙ b.same ∙ append_assoc before (row ∷ []) b.later)
          ∙ ap (λ (ls : List (List Word)). ls ++ ends) (map-append row_line before (row ∷ b.later))
          ∙ append_assoc (map row_line before) (row_line row ∷ map row_line b.later) ends;
    }

-- only a first line begins a front
pub stuck_head : (line : Line) → ((h : CertHead) → IsHead h → Matches line (head_line h) → ⊥) → (before : List Line)
    → AllZip Matches before [] → BeginsCertificate (before ++ line ∷ []) → ⊥
stuck_head line none [] z b = none b.says.head b.lawful.head (front_head line [] b.front b.rest b.says b.split b.match)
stuck_head line none (l ∷ ls) z b = absurd z

-- only a word continues a first line
pub stuck_word : (h : CertHead) (line : Line) → ((w : List Step) → IsWord w → Matches line (word_line w) → ⊥)
    → (before : List Line) → AllZip Matches before (head_line h ∷ []) → BeginsCertificate (before ++ line ∷ []) → ⊥
stuck_word h line none [] z b = absurd z
stuck_word h line none (one ∷ []) z b =
    none b.says.word b.lawful.word (word_forced one line b.front b.rest b.says b.split b.match)
stuck_word h line none (one ∷ two ∷ ls) z b = absurd z.1

same_size : (h g : CertHead) → g ≡ h → (2 * g.rows ≡ 2 * h.rows) × (g.cols + 1 ≡ h.cols + 1)
same_size h g e = (ap (λ (x : CertHead). 2 * x.rows) e, ap (λ (x : CertHead). x.cols + 1) e)

-- only a row continues rows
pub stuck_row : (h : CertHead) (w : List Step) (k : ℕ) (v : List ℤ) (line : Line) → k < 2 * h.rows
    → ((row : List ℤ) → IsValueRow (h.cols + 1) row → Matches line (row_line row) → ⊥) → (before : List Line)
    → AllZip Matches before (first_lines h w k v) → BeginsCertificate (before ++ line ∷ []) → ⊥
stuck_row h w k v line lt none [] z b = absurd z
stuck_row h w k v line lt none (one ∷ []) z b = absurd z.1
stuck_row h w k v line lt none (one ∷ two ∷ ls) z b =
    let f = rows_forced one two (ls ++ line ∷ []) b.front b.rest b.says b.split b.match in
    let same = same_size h b.says.head (head_one one h b.says.head z.0 f.head) in
    let r = row_at b.says k b.lawful (omega (arith, lt, same.0)) in
    let qs = map row_line (rows_in (b.says.head.cols + 1) k b.says.values) in
    let long : length qs ≡ length ls =
    omega (
      arith,
      length-map (rows_in (b.says.head.cols + 1) k b.says.values) row_line,
      rows_count (b.says.head.cols + 1) k b.says.values,
      AllZip-long Matches ls (map row_line (rows_in (h.cols + 1) k v)) z.1.1,
      length-map (rows_in (h.cols + 1) k v) row_line,
      rows_count (h.cols + 1) k v,
    ) in
    none r.row (subst (λ (n : ℕ). IsValueRow n r.row) same.1 r.is_row)
    (at_place ls line f.front f.rest qs (row_line r.row) r.later f.match (sym f.split ∙ r.split) long)

-- only END continues all rows
pub stuck_end : (h : CertHead) (w : List Step) (v : List ℤ) (line : Line) → (Matches line certificate_end → ⊥)
    → (before : List Line) → AllZip Matches before (first_lines h w (2 * h.rows) v)
    → BeginsCertificate (before ++ line ∷ []) → ⊥
stuck_end h w v line none [] z b = absurd z
stuck_end h w v line none (one ∷ []) z b = absurd z.1
stuck_end h w v line none (one ∷ two ∷ ls) z b =
    let f = rows_forced one two (ls ++ line ∷ []) b.front b.rest b.says b.split b.match in
    let same = same_size h b.says.head (head_one one h b.says.head z.0 f.head) in
    let qs = value_lines b.says in
    let long : length qs ≡ length ls =
    omega (
      arith,
      length-map (rows_in (b.says.head.cols + 1) (2 * b.says.head.rows) b.says.values) row_line,
      rows_count (b.says.head.cols + 1) (2 * b.says.head.rows) b.says.values,
      AllZip-long Matches ls (map row_line (rows_in (h.cols + 1) (2 * h.rows) v)) z.1.1,
      length-map (rows_in (h.cols + 1) (2 * h.rows) v) row_line,
      rows_count (h.cols + 1) (2 * h.rows) v,
      same.0,
    ) in
    none (at_place ls line f.front f.rest qs certificate_end [] f.match (sym f.split) long)

lines_count : (h : CertHead) (w : List Step) (k : ℕ) (v : List ℤ) → length (first_lines h w k v) ≡ 2 + k
lines_count h w k v = omega (arith, length-map (rows_in (h.cols + 1) k v) row_line, rows_count (h.cols + 1) k v)

cert_count : (C : CertParts) → length (cert_lines C) ≡ 3 + 2 * C.head.rows
cert_count C = omega (
  arith,
  length-append (value_lines C) (certificate_end ∷ []),
  length-map (rows_in (C.head.cols + 1) (2 * C.head.rows) C.values) row_line,
  rows_count (C.head.cols + 1) (2 * C.head.rows) C.values,
)

-- nothing continues a whole certificate
pub stuck_past : (h : CertHead) (w : List Step) (v : List ℤ) (line : Line) (before : List Line)
    → AllZip Matches before (first_lines h w (2 * h.rows) v ++ certificate_end ∷ [])
    → BeginsCertificate (before ++ line ∷ []) → ⊥
stuck_past h w v line [] z b = absurd z
stuck_past h w v line (one ∷ ls) z b =
    let same = same_size h b.says.head
    (head_one one h b.says.head z.0 (front_head one (ls ++ line ∷ []) b.front b.rest b.says b.split b.match)) in
    omega (
      arith,
      AllZip-long Matches (one ∷ ls) (first_lines h w (2 * h.rows) v ++ certificate_end ∷ []) z,
      length-append (first_lines h w (2 * h.rows) v) (certificate_end ∷ []),
      lines_count h w (2 * h.rows) v,
      AllZip-long Matches ((one ∷ ls) ++ line ∷ []) b.front b.match,
      length-append (one ∷ ls) (line ∷ []),
      ap length b.split,
      length-append b.front b.rest,
      cert_count b.says,
      same.0,
    )

-- the first lines are not all lines
pub short_none : (C : CertParts) (lines : List Line) → AllZip Matches lines [] → AllZip Matches lines (cert_lines C) → ⊥
short_none C [] z m = absurd m
short_none C (l ∷ ls) z m = absurd z

pub short_head : (h : CertHead) (C : CertParts) (lines : List Line) → AllZip Matches lines (head_line h ∷ [])
    → AllZip Matches lines (cert_lines C) → ⊥
short_head h C [] z m = absurd z
short_head h C (one ∷ []) z m = absurd m.1
short_head h C (one ∷ two ∷ ls) z m = absurd z.1

pub short_rows : (h : CertHead) (w : List Step) (k : ℕ) (v : List ℤ) → k ≤ 2 * h.rows
    → (C : CertParts) (lines : List Line) → AllZip Matches lines (first_lines h w k v)
    → AllZip Matches lines (cert_lines C) → ⊥
short_rows h w k v le C [] z m = absurd z
short_rows h w k v le C (one ∷ ls) z m =
    let same = same_size h C.head (head_one one h C.head z.0 m.0) in
    omega (
      arith,
      AllZip-long Matches (one ∷ ls) (first_lines h w k v) z,
      lines_count h w k v,
      AllZip-long Matches (one ∷ ls) (cert_lines C) m,
      cert_count C,
      same.0,
      le,
    )
