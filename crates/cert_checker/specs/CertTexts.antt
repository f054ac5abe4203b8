-- Certificates as their texts have them, and the lines of these texts.
use Rattle.std.specs.Prelude.{ℕ, zero, suc, ◌≡◌, ◌+◌, ◌*◌, ◌≤◌, ℤ, pos, List, [], ◌∷◌, ◌++◌, map, length, slice_range, All, codes}
use Rattle.std.specs.List.{flat_map}
use Rattle.fku_types.specs.declared.limits.TheConstants.{MAX_COMPOSITE_VERTICES, MAX_PAIRS, MAX_START_ROW, MAX_STEPS}
use Rattle.strip_graph.specs.declared.tilings.Step.{Step}
use Rattle.strip_graph.specs.declared.tilings.Step.TheVariants.{V, H}
use Rattle.strip_graph.specs.Certificates.{IsModest}
use Rattle.text_io.specs.WordLists.{Word, text, number, line_text}
use Rattle.cert_checker.specs.declared.certs.CertText.{CertText}

-- the first line: a pair by its number, its rows and columns, what the tiling costs, and the start row
pub record CertHead : Type 0 where
  pub pair : ℕ
  pub rows : ℕ
  pub cols : ℕ
  pub cost : ℤ
  pub start : ℕ

-- a certificate: its first line, the word, and the numbers row after row
pub record CertParts : Type 0 where
  pub head : CertHead
  pub word : List Step
  pub values : List ℤ

-- the numbers of a first line are in their ranges
pub record IsHead (h : CertHead) : Type 0 where
  pub pair : (1 ≤ h.pair) × (h.pair ≤ MAX_PAIRS)
  pub rows : (3 ≤ h.rows) × (h.rows ≤ MAX_COMPOSITE_VERTICES)
  pub cols : (3 ≤ h.cols) × (h.cols ≤ MAX_COMPOSITE_VERTICES)
  pub cost : IsModest h.cost
  pub start : h.start ≤ MAX_START_ROW

-- a word of 1 to MAX_STEPS letters
abbrev pub IsWord : List Step → Type 0
IsWord word = (1 ≤ length word) × (length word ≤ MAX_STEPS)

-- a row of so many numbers, none too large in absolute value
abbrev pub IsValueRow : ℕ → List ℤ → Type 0
IsValueRow width row = (length row ≡ width) × All IsModest row

-- a certificate that a text can hold: 2 * rows rows of cols + 1 numbers
pub record IsLawfulCertificate (C : CertParts) : Type 0 where
  pub head : IsHead C.head
  pub word : IsWord C.word
  pub count : length C.values ≡ 2 * C.head.rows * (C.head.cols + 1)
  pub values : All IsModest C.values

-- the letter of a step
abbrev pub letter : Step → ℕ
letter V = 86
letter H = 72

-- a keyword with the number after it
abbrev pub named : List ℕ → ℤ → List Word
named keyword z = text keyword ∷ number z ∷ []

abbrev pub head_line : CertHead → List Word
head_line h = named (codes "CERT") (pos 1)
    ++ (named (codes "PAIR") (pos h.pair)
    ++ (named (codes "ROWS") (pos h.rows)
    ++ (named (codes "COLS") (pos h.cols) ++ (named (codes "COST") h.cost ++ named (codes "START") (pos h.start)))))

abbrev pub word_line : List Step → List Word
word_line word = text (codes "WORD") ∷ text (map letter word) ∷ []

abbrev pub row_line : List ℤ → List Word
row_line row = map number row

abbrev pub certificate_end : List Word
certificate_end = text (codes "END") ∷ []

-- the first rows of this width in a list of numbers
abbrev pub rows_in : ℕ → ℕ → List ℤ → List (List ℤ)
rows_in width zero values = []
rows_in width (suc k) values = rows_in width k values ++ slice_range values (k * width) (k * width + width) ∷ []

abbrev pub value_lines : CertParts → List (List Word)
value_lines C = map row_line (rows_in (C.head.cols + 1) (2 * C.head.rows) C.values)

-- the word lists of the lines of a certificate's text
abbrev pub cert_lines : CertParts → List (List Word)
cert_lines C = head_line C.head ∷ word_line C.word ∷ (value_lines C ++ certificate_end ∷ [])

-- the canonical text: one blank between words, a line feed after every line, no leading zeros
abbrev pub cert_text : CertParts → List ℕ
cert_text C = flat_map line_text (cert_lines C)

-- the certificate of the code
abbrev pub certificate_parts : CertText → CertParts
certificate_parts t = record {
  head = record {
    pair = t.pair;
    rows = t.cert.rows;
    cols = t.cert.cols;
    cost = t.cert.cost;
    start = t.cert.tiling.row;
  };
  word = t.cert.tiling.word.items;
  values = t.cert.pi.items;
}
