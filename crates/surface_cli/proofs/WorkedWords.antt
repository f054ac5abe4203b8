-- The meaning of written-out words.
use Rattle.std.specs.Prelude.{◌≡◌, ℕ, refl, [], ◌∷◌, Some, None, codes, negsuc}
use Rattle.clap.proofs.OnLiterals.{clap_on_literals}
use Rattle.surface_cli.specs.Words.{meaning, where_taken}
use Rattle.surface_cli.specs.declared.commands.Command.{Command}
use Rattle.surface_cli.specs.declared.commands.Command.TheVariants.{Tilings, Slice, Demo}
use Rattle.surface_cli.specs.declared.words.Task.{Task}

-- a command that has `--workers`
abbrev task : Command → ℕ → Task
task command workers = record { command = command; workers = Some workers }

no_name : meaning (codes "weave" ∷ []) ≡ None
unfolding meaning
no_name = refl

in_two_words : meaning (codes "tilings" ∷ codes "--workers" ∷ codes "8" ∷ []) ≡ Some (task Tilings 8)
unfolding clap_on_literals meaning where_taken
in_two_words = refl

below_zero : meaning (codes "slice" ∷ codes "--height=-5" ∷ []) ≡ Some (task (Slice (negsuc 4)) 1)
unfolding clap_on_literals meaning where_taken
below_zero = refl

too_few : meaning (codes "demo" ∷ codes "7" ∷ codes "40" ∷ []) ≡ None
unfolding clap_on_literals meaning where_taken
too_few = refl

all_three : meaning (codes "demo" ∷ codes "7" ∷ codes "40" ∷ codes "200" ∷ []) ≡ Some (task (Demo 7 40 200) 1)
unfolding clap_on_literals meaning where_taken
all_three = refl

count_has_no_workers : meaning (codes "count" ∷ codes "--workers=2" ∷ []) ≡ None
unfolding clap_on_literals meaning where_taken
count_has_no_workers = refl
