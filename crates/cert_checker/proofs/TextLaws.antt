-- A text reads as at most one certificate.
use Rattle.std.proofs.Common.{◌≡◌, ◌+◌, ◌*◌, ℤ, List, [], ◌∷◌, ◌++◌, map, length, Some, refl, ap, ap₂, sym, ◌∙◌, subst, arith}
use Rattle.std.specs.List.{AllZip, flat_map}
use Rattle.strip_graph.specs.declared.tilings.Step.{Step}
use Rattle.strip_graph.specs.declared.tilings.Step.TheVariants.{V, H}
use Rattle.text_io.specs.WordLists.{Matches, Line, Kept, lines_of}
use Rattle.cert_checker.specs.CertTexts.{CertHead, CertParts, IsLawfulCertificate, letter, row_line, certificate_end, rows_in, cert_lines}
use Rattle.cert_checker.specs.CertReading.{ReadsAsCertificate}
use Rattle.cert_checker.proofs.HeadLines.{head_one}
use Rattle.cert_checker.proofs.RowLists.{rows_count, rows_joined}

letter_one : (s t : Step) → letter s ≡ letter t → s ≡ t
letter_one V V e = refl
letter_one V H e = absurd (omega (arith, e))
letter_one H V e = absurd (omega (arith, e))
letter_one H H e = refl

pub letters_one : (w v : List Step) → map letter w ≡ map letter v → w ≡ v
letters_one [] [] e = refl
letters_one [] (t ∷ v) e = absurd (cc)
letters_one (s ∷ w) [] e = absurd (cc)
letters_one (s ∷ w) (t ∷ v) e =
    let a : letter s ≡ letter t = cc in
    let b : map letter w ≡ map letter v = cc in
    ap₂ (λ (x : Step) (xs : List Step). x ∷ xs) (letter_one s t a) (letters_one w v b)

-- a line is one row at most
row_one : (ws : Line) (xs ys : List ℤ) → Matches ws (row_line xs) → Matches ws (row_line ys) → xs ≡ ys
row_one [] [] [] m n = refl
row_one [] [] (y ∷ ys) m n = absurd n
row_one [] (x ∷ xs) ys m n = absurd m
row_one (w ∷ ws) [] ys m n = absurd m
row_one (w ∷ ws) (x ∷ xs) [] m n = absurd n
row_one (w ∷ ws) (x ∷ xs) (y ∷ ys) m n =
    let e : Some x ≡ Some y = sym m.0 ∙ n.0 in
    let f : x ≡ y = cc in
    ap₂ (λ (z : ℤ) (zs : List ℤ). z ∷ zs) f (row_one ws xs ys m.1 n.1)

rows_one : (ls : List Line) (rs ss : List (List ℤ)) → length rs ≡ length ss
    → AllZip Matches ls (map row_line rs ++ certificate_end ∷ [])
    → AllZip Matches ls (map row_line ss ++ certificate_end ∷ []) → rs ≡ ss
rows_one ls [] [] n z y = refl
rows_one ls [] (s ∷ ss) n z y = absurd (omega (arith, n))
rows_one ls (r ∷ rs) [] n z y = absurd (omega (arith, n))
rows_one [] (r ∷ rs) (s ∷ ss) n z y = absurd z
rows_one (l ∷ ls) (r ∷ rs) (s ∷ ss) n z y =
    ap₂ (λ (q : List ℤ) (qs : List (List ℤ)). q ∷ qs) (row_one l r s z.0 y.0)
    (rows_one ls rs ss (omega (arith, n)) z.1 y.1)

-- lines are those of one certificate at most
pub cert_one : (ls : List Line) (C D : CertParts) → IsLawfulCertificate C → IsLawfulCertificate D
    → AllZip Matches ls (cert_lines C) → AllZip Matches ls (cert_lines D) → C ≡ D
cert_one [] C D l k z y = absurd z
cert_one (a ∷ []) C D l k z y = absurd z.1
cert_one (a ∷ [] ∷ ls) C D l k z y = absurd z.1.0
cert_one (a ∷ (b ∷ []) ∷ ls) C D l k z y = absurd z.1.0.1
cert_one (a ∷ (b ∷ c ∷ more) ∷ ls) C D l k z y =
    let head : C.head ≡ D.head = head_one a D.head C.head y.0 z.0 in
    let word : C.word ≡ D.word = letters_one C.word D.word (sym z.1.0.1.0 ∙ y.1.0.1.0) in
    let width = λ (h : CertHead). h.cols + 1 in
    let count = λ (h : CertHead). 2 * h.rows in
    let there : rows_in (width C.head) (count C.head) D.values ≡ rows_in (width D.head) (count D.head) D.values =
    ap (λ (h : CertHead). rows_in (width h) (count h) D.values) head in
    let rows : rows_in (width C.head) (count C.head) C.values ≡ rows_in (width C.head) (count C.head) D.values =
    rows_one ls (rows_in (width C.head) (count C.head) C.values) (rows_in (width C.head) (count C.head) D.values)
    (omega (
      arith,
      rows_count (width C.head) (count C.head) C.values,
      rows_count (width C.head) (count C.head) D.values,
    ))
    z.1.1 (subst (λ (rs : List (List ℤ)). AllZip Matches ls (map row_line rs ++ certificate_end ∷ [])) (sym there)
    y.1.1) in
    let values : C.values ≡ D.values =
    sym (rows_joined (width C.head) (count C.head) C.values l.count)
    ∙ ap (flat_map (λ (r : List ℤ). r)) (rows ∙ there)
    ∙ rows_joined (width D.head) (count D.head) D.values k.count in
    λ i. record { head = head i; word = word i; values = values i }

pub reads_one : (kept : List Kept) (C D : CertParts) → ReadsAsCertificate kept C → ReadsAsCertificate kept D → C ≡ D
reads_one kept C D r s = cert_one (lines_of kept) C D r.lawful s.lawful r.match s.match
