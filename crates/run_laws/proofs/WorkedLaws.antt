-- The words of the laws of runs at worked examples: two equal squares, one above the other.
use Rattle.std.proofs.Common.{◌≡◌, ℕ, zero, suc, List, [], ◌∷◌, pos, inl, inr, refl, sym, subst, arith}
use Rattle.std.specs.Prelude.{codes}
use Rattle.std.proofs.lemmas.Int.{ints}
use Rattle.text_io.specs.Text.{kept_lines}
use Rattle.clap.proofs.OnLiterals.{clap_on_literals}
use Rattle.fku_types.specs.declared.fault.Fault.{Fault}
use Rattle.section_core.specs.declared.parts.Version.TheVariants.{Two}
use Rattle.section_core.specs.Parts.{Parts, FileParts, as_file}
use Rattle.section_core.specs.Texts.{IsTextOfFile}
use Rattle.section_core.proofs.Answers.{file_holds}
use Rattle.section_pairs.proofs.Worked.{squares}
use Rattle.section_pairs.proofs.WorkedSquares.{pair, squares_paired}
use Rattle.section_slices.specs.Slices.{IsOnSection, IsOutside}
use Rattle.section_slices.proofs.SliceHeights.{no_section}
use Rattle.surface_core.specs.Objects.{IsFoundIn}
use Rattle.surface_core.proofs.ObjectLaws.{objects_paired_or_found}
use Rattle.surface_commands.specs.Slice.{IsHeightFaultOfAll, outside, on_section}
use Rattle.surface_cli.specs.Words.{meaning, where_taken}
use Rattle.surface_cli.specs.declared.commands.Command.{Command}
use Rattle.surface_cli.specs.declared.commands.Command.TheVariants.{Certify, Slice, Tilings}
use Rattle.surface_cli.specs.Run.{IsInputWithin}
use Rattle.run_laws.specs.Laws.{EndsLine, Fits, IsValidInput, certify_fits, command_of, slice_fits, tilings_fit}

-- words for one and two workers ask for one command
abbrev two_workers : List (List ℕ)
two_workers = codes "tilings" ∷ codes "--workers" ∷ codes "2" ∷ []

commands : command_of two_workers ≡ command_of (codes "tilings" ∷ [])
unfolding clap_on_literals meaning where_taken
commands = refl

abbrev squares_text : List ℕ
squares_text =
    codes
    "SECTIONS 1\nCOST span\nPAIR overlap\nSECTION 0\nCONTOUR a 4\n0 0\n10 0\n10 10\n0 10\nSECTION 10\nCONTOUR b 4\n0 0\n10 0\n10 10\n0 10\nEND\n"

abbrev file : FileParts
file = as_file squares

read : IsTextOfFile squares_text file
read = file_holds Two (kept_lines squares_text)

-- the squares' text ends with a line feed
squares_end : EndsLine squares_text
squares_end = (
  codes
      "SECTIONS 1\nCOST span\nPAIR overlap\nSECTION 0\nCONTOUR a 4\n0 0\n10 0\n10 10\n0 10\nSECTION 10\nCONTOUR b 4\n0 0\n10 0\n10 10\n0 10\nEND",
  refl,
)

-- a height between the squares has no fault
not_outside : IsOutside squares (pos 5) → ⊥
not_outside (inl all) = absurd (omega (arith, ints, all 0 no_section (omega arith)))
not_outside (inr all) = absurd (omega (arith, ints, all 1 no_section (omega arith)))

not_on_section : IsOnSection squares (pos 5) → ⊥
not_on_section (zero, l, e) = absurd (omega (arith, ints, e))
not_on_section (suc zero, l, e) = absurd (omega (arith, ints, e))
not_on_section (suc (suc k), l, e) = absurd (omega (arith, l))

no_fault_between : (fault : Fault) → IsHeightFaultOfAll file (pos 5) fault → ⊥
no_fault_between _ (outside all) = not_outside (all 0 squares (omega arith))
no_fault_between _ (on_section zero S there on) = let same : squares ≡ S = cc in
    not_on_section (subst (λ (T : Parts). IsOnSection T (pos 5)) (sym same) on)
no_fault_between _ (on_section (suc k) S there on) = absurd (cc)

-- valid inputs
faultless : (f : Fault) → IsFoundIn file f → ⊥
faultless f h = objects_paired_or_found file ((pair ∷ []) ∷ []) f (squares_paired, tt) h

valid : (command : Command) → IsInputWithin command squares_text → Fits file command → IsValidInput command squares_text
valid command within fits = record { within = within; objects = file; read = read; faultless = faultless; fits = fits }

squares_valid : IsValidInput Tilings squares_text × IsValidInput (Certify 1) squares_text
    × IsValidInput (Slice (pos 5)) squares_text
squares_valid = (
  valid Tilings (omega arith) tilings_fit,
  valid (Certify 1) (omega arith) (certify_fits 1 (pair ∷ []) ((pair ∷ []) ∷ [], (squares_paired, tt), refl)
      (omega arith)),
  valid (Slice (pos 5)) (omega arith) (slice_fits (pos 5) no_fault_between),
)
