-- Lines of a front are completed to those of a whole certificate.
use Rattle.std.proofs.Common.{◌≡◌, ℕ, suc, ◌+◌, ◌-◌, ◌*◌, ◌≤◌, ℤ, pos, List, [], ◌∷◌, ◌++◌, map, length, replicate, refl, ap, ap₂, sym, ◌∙◌, append_assoc, arith, length-append}
use Rattle.std.specs.Prelude.{All}
use Rattle.std.specs.List.{AllZip}
use Rattle.std.proofs.Math.Nat.{mul-le-mul_right}
use Rattle.std.proofs.lemmas.List.{map-append, length-replicate}
use Rattle.std.proofs.lemmas.List.Elements.{All-append, All-replicate, All-nil}
use Rattle.strip_graph.specs.declared.tilings.Step.{Step}
use Rattle.strip_graph.specs.declared.tilings.Step.TheVariants.{V}
use Rattle.strip_graph.specs.Certificates.{IsModest}
use Rattle.text_io.specs.WordLists.{Word, Matches, Line}
use Rattle.cert_checker.specs.CertTexts.{CertHead, CertParts, IsHead, IsWord, IsLawfulCertificate, head_line, word_line, row_line, certificate_end, rows_in, value_lines, cert_lines}
use Rattle.cert_checker.specs.CertReading.{BeginsCertificate}
use Rattle.cert_checker.specs.LineSteps.{first_lines}
use Rattle.cert_checker.proofs.RowLists.{rows_same, row_put, rows_begin}

-- a first line, a word and numbers, with numbers 0 for those that are missing
abbrev pub missing : CertHead → ℕ → ℕ
missing h k = 2 * h.rows * (h.cols + 1) - k * (h.cols + 1)

abbrev pub filled : CertHead → List Step → ℕ → List ℤ → CertParts
filled h w k v = record { head = h; word = w; values = v ++ replicate (missing h k) (pos 0) }

few_rows : (h : CertHead) (k : ℕ) → k ≤ 2 * h.rows → k * (h.cols + 1) ≤ 2 * h.rows * (h.cols + 1)
few_rows h k le = mul-le-mul_right (h.cols + 1) le

zero_modest : IsModest (pos 0)
zero_modest = omega arith

pub filled_lawful : (h : CertHead) (w : List Step) (k : ℕ) (v : List ℤ) → IsHead h → IsWord w → k ≤ 2 * h.rows
    → length v ≡ k * (h.cols + 1) → All IsModest v → IsLawfulCertificate (filled h w k v)
filled_lawful h w k v ih iw le n m =
    record {
      head = ih;
      word = iw;
      count = omega (
        arith,
        length-append v (replicate (missing h k) (pos 0)),
        length-replicate (missing h k) (pos 0),
        few_rows h k le,
        n,
      );
      values = All-append IsModest v (replicate (missing h k) (pos 0)) m
          (All-replicate IsModest (missing h k) (pos 0) zero_modest);
    }

-- the lines after the first ones
pub record Continues (h : CertHead) (w : List Step) (k : ℕ) (v : List ℤ) : Type 0 where
  pub rest : List (List Word)
  pub split : cert_lines (filled h w k v) ≡ first_lines h w k v ++ rest

pub continued : (h : CertHead) (w : List Step) (k : ℕ) (v : List ℤ) → k ≤ 2 * h.rows → length v ≡ k * (h.cols + 1)
    → Continues h w k v
continued h w k v le n =
    let width = h.cols + 1 in
    let zeros = replicate (missing h k) (pos 0) in
    let all = v ++ zeros in
    let j = 2 * h.rows - k in
    let b = rows_begin width k j all in
    let e : 2 * h.rows ≡ k + j = omega (arith, le) in
    let same : rows_in width (2 * h.rows) all ≡ rows_in width k v ++ b.later =
    ap (λ (x : ℕ). rows_in width x all) e ∙ b.same
    ∙ ap (λ (rs : List (List ℤ)). rs ++ b.later) (rows_same width k v zeros (omega (arith, n))) in
    let ends = certificate_end ∷ [] in
    record {
      rest = map row_line b.later ++ ends;
      split = ap (λ (ls : List (List Word)). head_line h ∷ word_line w ∷ ls)
          (ap (λ (rs : List (List ℤ)). map row_line rs ++ ends) same
          ∙ ap (λ (ls : List (List Word)). ls ++ ends) (map-append row_line (rows_in width k v) b.later)
          ∙ append_assoc (map row_line (rows_in width k v)) (map row_line b.later) ends);
    }

one_letter : IsWord (V ∷ [])
one_letter = (omega arith, omega arith)

abbrev some_head : CertHead
some_head = record { pair = 1; rows = 3; cols = 3; cost = pos 0; start = 0 }

some_head_is : IsHead some_head
some_head_is = record {
  pair = (omega arith, omega arith);
  rows = (omega arith, omega arith);
  cols =
      (omega arith, omega arith);
  cost = omega arith;
  start = omega arith;
}

-- lines that match a front of a certificate's lines begin one
pub begins_none : (lines : List Line) → AllZip Matches lines [] → BeginsCertificate lines
begins_none lines m =
    let C = filled some_head (V ∷ []) 0 [] in
    record {
      says = C;
      lawful = filled_lawful some_head (V ∷ []) 0 [] some_head_is one_letter (omega arith) refl
          (All-nil IsModest);
      front = [];
      rest = cert_lines C;
      split = refl;
      match = m;
    }

pub begins_head : (h : CertHead) → IsHead h → (lines : List Line) → AllZip Matches lines (head_line h ∷ [])
    → BeginsCertificate lines
begins_head h ih lines m =
    let C = filled h (V ∷ []) 0 [] in
    let none : 0 ≡ 0 * (h.cols + 1) = omega arith in
    record {
      says = C;
      lawful = filled_lawful h (V ∷ []) 0 [] ih one_letter (omega arith) none (All-nil IsModest);
      front = head_line h ∷ [];
      rest = word_line (V ∷ []) ∷ (value_lines C ++ certificate_end ∷ []);
      split = refl;
      match = m;
    }

pub begins_rows : (h : CertHead) (w : List Step) (k : ℕ) (v : List ℤ) → IsHead h → IsWord w → k ≤ 2 * h.rows
    → length v ≡ k * (h.cols + 1) → All IsModest v → (lines : List Line) → AllZip Matches lines (first_lines h w k v)
    → BeginsCertificate lines
begins_rows h w k v ih iw le n m lines z =
    let c = continued h w k v le n in
    record {
      says = filled h w k v;
      lawful = filled_lawful h w k v ih iw le n m;
      front = first_lines h w k v;
      rest =
          c.rest;
      split = c.split;
      match = z;
    }

-- the first lines with one row more
pub lines_more : (h : CertHead) (w : List Step) (k : ℕ) (v new row : List ℤ) → length v ≡ k * (h.cols + 1)
    → length row ≡ h.cols + 1 → new ≡ v ++ row → first_lines h w k v ++ row_line row ∷ [] ≡ first_lines h w (k + 1) new
lines_more h w k v new row n r e =
    let width = h.cols + 1 in
    let next : k + 1 ≡ suc k = omega arith in
    let rows : rows_in width (k + 1) new ≡ rows_in width k v ++ row ∷ [] =
    ap₂ (λ (x : ℕ) (xs : List ℤ). rows_in width x xs) next e ∙ row_put width k v row n r in
    ap (λ (ls : List (List Word)). head_line h ∷ word_line w ∷ ls)
    (sym (ap (map row_line) rows ∙ map-append row_line (rows_in width k v) (row ∷ [])))
