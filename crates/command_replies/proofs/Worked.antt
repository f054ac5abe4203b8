-- Exit codes and refusals at worked examples, by computation.
use Rattle.std.proofs.Common.{◌≡◌, refl}
use Rattle.std.specs.Prelude.{codes}
use Rattle.command_replies.specs.declared.status.Status.TheVariants.{Done, Refused, BadWords, ReadFault, WriteFault, NoMemory}
use Rattle.command_replies.specs.Statuses.{exit_code}
use Rattle.command_replies.specs.Reply.{refusal_text}

codes_of_the_statuses : (exit_code Done ≡ 0) × (exit_code Refused ≡ 1) × (exit_code BadWords ≡ 2)
    × (exit_code ReadFault ≡ 3) × (exit_code WriteFault ≡ 4) × (exit_code NoMemory ≡ 5)
codes_of_the_statuses = (refl, refl, refl, refl, refl, refl)

refusal_of_a_line : refusal_text (codes "1 FORM line 3") ≡ codes "REFUSED 1 FORM line 3\n"
refusal_of_a_line = refl
