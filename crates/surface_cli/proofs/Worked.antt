-- The definitions of a run at worked examples, by computation.
use Rattle.std.proofs.Common.{◌≡◌, ℕ, ℤ, Option, List, [], ◌∷◌, ◌++◌, negsuc, Some, None, refl, sym, ◌∙◌, length, length-append, ap, arith}
use Rattle.std.specs.Prelude.{codes, decimal}
use Rattle.pair_pool.specs.Solvers.{Solver}
use Rattle.surface_core.specs.Objects.{numbered}
use Rattle.pair_commands.specs.Tilings.{objects_text}
use Rattle.surface_cli.specs.Headline.{IsCertifiedInput, IsLeastListing}
use Rattle.surface_cli.specs.declared.commands.Command.TheVariants.{Tilings, Check, Demo, Count}
use Rattle.command_replies.specs.declared.status.Status.TheVariants.{BadWords, ReadFault, WriteFault, NoMemory}
use Rattle.surface_cli.specs.Commands.{input_limit, usage}
use Rattle.surface_cli.specs.Words.{meaning}
use Rattle.surface_cli.specs.declared.words.Task.{Task}
use Rattle.surface_cli.specs.Run.{IsRun, IsWork, Outside, Runs, workers_of}
use Rattle.surface_cli.proofs.RunLemmas.{is_run}

limits_of_the_inputs : (input_limit Tilings ≡ Some 67108864) × (input_limit Check ≡ Some 2147483648)
    × (input_limit Count ≡ Some 268435456) × (input_limit (Demo 7 40 200) ≡ None)
limits_of_the_inputs = (refl, refl, refl, refl)

-- an outside whose sink had no byte and then one, without a fault
abbrev written : Outside
written = record {
  left = Some [];
  left_after = Some [];
  held = Some [];
  held_after = Some (82 ∷ []);
  read_faults = 0;
  read_faults_after = 0;
  write_faults = 0;
  write_faults_after = 0;
}

-- if memory ran out, or a read failed, nothing was written; a fault is reported only if it was counted
nothing_is_written : (Runs [] written NoMemory → ⊥) × (Runs [] written ReadFault → ⊥) × (Runs [] written WriteFault → ⊥)
nothing_is_written = (λ h. omega (arith, ap length h), λ h. omega (arith, h.1), λ h. omega (arith, h.0))

-- no words have no meaning: the usage line is written after what the sink held, the input stays unread, and the solver
-- as it was
no_meaning : meaning [] ≡ None
unfolding meaning
no_meaning = refl

abbrev usage_written : List ℕ → Outside
usage_written left = record written
    { left = Some left; left_after = Some left; held = Some (35 ∷ []); held_after = Some (35 ∷ usage) }

usage_run : (left : List ℕ) → IsRun [] (usage_written left) BadWords
usage_run left = is_run [] (usage_written left) BadWords (no_meaning, refl, refl)

abbrev solver : Solver
solver = record { solved_pairs = 5; worker_count = 3 }

usage_work : (left : List ℕ) → IsWork [] (Some left) solver solver BadWords
usage_work left = record {
  counts = refl;
  later = omega arith;
  workers = sym (ap (λ (m : Option Task). workers_of m 3) no_meaning);
}

-- a text without a byte lists no tilings
not_empty : (input : List ℕ) → IsLeastListing input [] → ⊥
not_empty input h = ends (objects_text h.objects.version 1 h.objects.objects h.pairs h.tilings)
    (codes "AIRS " ++ (decimal (length (numbered h.pairs)) ++ codes "\n")) 80 h.written
  where
    ends : (front back : List ℕ) (b : ℕ) → [] ≡ front ++ b ∷ back → ⊥
    ends front back b e = omega (arith, ap length e, length-append front (b ∷ back))

-- pairs are counted from 1
no_pair_0 : (input : List ℕ) (c : ℤ) → IsCertifiedInput input 0 c → ⊥
no_pair_0 input c h = omega (arith, h.is_pair.counted)

-- no certificate with a cost below 0 is accepted
not_below_0 : (input : List ℕ) (k n : ℕ) → IsCertifiedInput input k (negsuc n) → ⊥
not_below_0 input k n h = let e = sym h.says.1 ∙ h.least.cost in absurd (cc)
