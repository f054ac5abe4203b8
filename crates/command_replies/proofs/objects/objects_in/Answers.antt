use Rattle.std.proofs.Common.{inr}
use Rattle.command_replies.proofs.TailLemmas.{first_of, has_tail}
use Rattle.command_replies.proofs.objects.objects_in.Goals as goal

pub returns-in-Some-clause-fault : goal.returns-in-Some-clause-fault
returns-in-Some-clause-fault c =
    let line = c.in-Some.line in
    inr (has_tail c.args.input.now c.in_ok-front.front line.number c.in_ok-front.ensures.found
    (first_of _ _ line.number _ c.in-Some.ensures.found.kept))
