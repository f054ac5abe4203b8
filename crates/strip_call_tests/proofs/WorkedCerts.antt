-- Certificates as the code holds them, the fault of no text, and the limits of their numbers; and how many pairs a
-- solver has solved.
use Rattle.std.proofs.Common.{◌≡◌, ℕ, ◌^◌, ℤ, pos, negsuc, List, [], ◌∷◌, Vec, refl, arith, inr}
use Rattle.std.specs.declared.alloc.Global.{Global}
use Rattle.fku_types.specs.declared.fault.Fault.TheVariants.{CertForm}
use Rattle.text_io.specs.WordLists.{Kept}
use Rattle.strip_graph.specs.declared.tilings.Step.TheVariants.{V, H}
use Rattle.strip_graph.proofs.ComputedTests.{list_at}
use Rattle.cert_checker.specs.CertTexts.{CertHead, IsHead, IsWord, certificate_parts}
use Rattle.text_io.specs.Formats.{kept_behind, last_line}
use Rattle.cert_checker.specs.CertReading.{IsCertificateFault}
use Rattle.cert_checker.proofs.Fronts.{begins_none}
use Rattle.cert_checker.proofs.NextLines.{short_none}
use Rattle.pair_pool.specs.Solvers.{Solver}

-- the pair, the counts, the cost and the start row are in the head; then follow the word and the numbers
parts : (v : Vec ℤ Global) → certificate_parts
    (record {
      pair = 7;
      cert = record {
        rows = 3;
        cols = 4;
        cost = negsuc 9;
        tiling =
            record { row = 2; word = list_at v (V ∷ H ∷ []) tt };
        pi = list_at v (pos 5 ∷ negsuc 0 ∷ []) tt;
      };
    })
    ≡ record {
      head = record { pair = 7; rows = 3; cols = 4; cost = negsuc 9; start = 2 };
      word = V ∷ H ∷ [];
      values =
          pos 5 ∷ negsuc 0 ∷ [];
    }
parts v = refl

-- the fault of no text at all, after 16 lines of an input: one past these
abbrev no_lines : List Kept
no_lines = kept_behind 16 []

no_text : IsCertificateFault no_lines (last_line 16 []) (CertForm 17)
no_text = inr (record { past = refl; begins = begins_none [] tt; none = λ C r. short_none C [] tt r.match })

-- the numbers of a first line
abbrev head : ℕ → ℕ → ℕ → ℤ → ℕ → CertHead
head pair rows cols cost start = record { pair = pair; rows = rows; cols = cols; cost = cost; start = start }

ends : IsHead (head 65536 4096 4096 (pos (10 ^ 36)) 4095)
ends = record {
  pair = (omega arith, omega arith);
  rows = (omega arith, omega arith);
  cols = (omega arith, omega arith);
  cost = omega arith;
  start = omega arith;
}

-- the letters of a word
letters : IsWord (V ∷ H ∷ [])
letters = (omega arith, omega arith)

-- a solver
abbrev solver : ℕ → ℕ → Solver
solver solved workers = record { solved_pairs = solved; worker_count = workers }

solvers : ((solver 7 2).solved_pairs ≡ 7) × ((solver 7 2).worker_count ≡ 2)
solvers = (refl, refl)
