-- The definitions of certificate texts at worked examples: the certificate of two equal squares, one above the other.
use Rattle.std.proofs.Common.{◌≡◌, ℕ, ◌+◌, ◌-◌, ◌^◌, ℤ, pos, negsuc, List, [], ◌∷◌, refl, inl, arith, Some}
use Rattle.std.specs.Prelude.{codes}
use Rattle.std.specs.Fmt.{digits}
use Rattle.strip_graph.specs.declared.tilings.Step.TheVariants.{V, H}
use Rattle.strip_graph.specs.Certificates.{IsModest}
use Rattle.strip_graph.proofs.ComputedTests.{modest}
use Rattle.text_io.specs.Text.{words}
use Rattle.text_io.specs.WordLists.{Matches, Line}
use Rattle.cert_checker.specs.CertTexts.{CertHead, CertParts, IsHead, IsValueRow, IsLawfulCertificate, head_line, cert_text}
use Rattle.text_io.specs.Formats.{kept_behind}
use Rattle.cert_checker.specs.CertReading.{ReadsAsCertificate, HasCertificateFault}
use Rattle.cert_checker.proofs.Fronts.{begins_none}
use Rattle.cert_checker.proofs.NextLines.{stuck_head}

abbrev head : CertHead
head = record { pair = 1; rows = 4; cols = 4; cost = pos 1200; start = 0 }

abbrev numbers : List ℤ
numbers = pos 0 ∷ pos 200 ∷ pos 500 ∷ pos 700 ∷ pos 800 ∷ pos 200 ∷ pos 300 ∷ pos 500 ∷ pos 800 ∷ pos 1000 ∷ pos 300
    ∷ pos 500 ∷ pos 600 ∷ pos 800 ∷ pos 1100 ∷ pos 500 ∷ pos 800 ∷ pos 800 ∷ pos 900 ∷ pos 1100 ∷ pos 600 ∷ pos 800
    ∷ pos 1100 ∷ pos 1100 ∷ pos 1200 ∷ pos 800 ∷ pos 900 ∷ pos 1100 ∷ pos 1400 ∷ pos 1400 ∷ pos 1100 ∷ pos 1100
    ∷ pos 1200 ∷ pos 1400 ∷ pos 1700 ∷ pos 1300 ∷ pos 1400 ∷ pos 1400 ∷ pos 1500 ∷ pos 1700 ∷ []

abbrev squares : CertParts
squares = record { head = head; word = V ∷ H ∷ V ∷ H ∷ V ∷ H ∷ V ∷ H ∷ []; values = numbers }

good_head : IsHead head
good_head = record {
  pair = (omega arith, omega arith);
  rows = (omega arith, omega arith);
  cols =
      (omega arith, omega arith);
  cost = omega arith;
  start = omega arith;
}

lawful : IsLawfulCertificate squares
lawful = record { head = good_head; word = (omega arith, omega arith); count = refl; values = modest numbers tt }

-- the canonical text
abbrev text : List ℕ
text =
    codes
    "CERT 1 PAIR 1 ROWS 4 COLS 4 COST 1200 START 0\nWORD VHVHVHVH\n0 200 500 700 800\n200 300 500 800 1000\n300 500 600 800 1100\n500 800 800 900 1100\n600 800 1100 1100 1200\n800 900 1100 1400 1400\n1100 1100 1200 1400 1700\n1300 1400 1400 1500 1700\nEND\n"

printed : cert_text squares ≡ text
unfolding digits
printed = refl

reads : ReadsAsCertificate (kept_behind 0 text) squares
reads = record {
  lawful = lawful;
  match = (
    (refl, (refl, (refl, (refl, (refl, (refl, (refl, (refl, (refl, (refl, (refl, (refl, tt)))))))))))),
    (
      (refl, (refl, tt)),
      (
        (refl, (refl, (refl, (refl, (refl, tt))))),
        (
          (refl, (refl, (refl, (refl, (refl, tt))))),
          (
            (refl, (refl, (refl, (refl, (refl, tt))))),
            (
              (refl, (refl, (refl, (refl, (refl, tt))))),
              (
                (refl, (refl, (refl, (refl, (refl, tt))))),
                (
                  (refl, (refl, (refl, (refl, (refl, tt))))),
                  (
                    (refl, (refl, (refl, (refl, (refl, tt))))),
                    ((refl, (refl, (refl, (refl, (refl, tt))))), ((refl, tt), tt)),
                  ),
                ),
              ),
            ),
          ),
        ),
      ),
    ),
  );
}

-- a pair 0
abbrev pair_0 : Line
pair_0 = words (codes "CERT 1 PAIR 0 ROWS 4 COLS 4 COST 1200 START 0")

some_pos : (m n : ℕ) → Some (pos m) ≡ Some (pos n) → m ≡ n
some_pos m n e = cc

no_pair_0 : (h : CertHead) → IsHead h → Matches pair_0 (head_line h) → ⊥
no_pair_0 h i m = omega (arith, some_pos 0 h.pair m.1.1.1.0, i.pair.0)

first_line : HasCertificateFault (kept_behind 16 (codes "# PAIR 0\nCERT 1 PAIR 0 ROWS 4 COLS 4 COST 1200 START 0\n")) 18
    18
first_line = inl (record {
  before = [];
  line = pair_0;
  after = [];
  split = refl;
  begins = begins_none [] tt;
  none =
      stuck_head pair_0 no_pair_0 [] tt;
})

-- numbers at 10 ^ 36, and one above it
at_most : IsValueRow 2 (pos (10 ^ 36) ∷ negsuc (10 ^ 36 - 1) ∷ [])
at_most = (refl, modest (pos (10 ^ 36) ∷ negsuc (10 ^ 36 - 1) ∷ []) tt)

beyond : IsModest (pos (10 ^ 36 + 1)) → ⊥
beyond h = omega (arith, h)
