use Rattle.std.proofs.Common.{rules}
use Rattle.std.proofs.lemmas.Option.{IfSome_then}
use Rattle.section_text.proofs.PlainLines.{signed_before, unsigned_before}
use Rattle.section_text.proofs.plain.short_number.Goals as goal

pub returns-in-Some-clause-before : goal.returns-in-Some-clause-before
returns-in-Some-clause-before c = IfSome_then c.signed_number.result c.signed_number.ensures.before
    (λ r h. signed_before c.args.text.now c.in-Some.digits.now r.0 r.1.now (search (c.in-Some.ensures.cases, rules)) h)

pub returns-in-None-clause-before : goal.returns-in-None-clause-before
returns-in-None-clause-before c = IfSome_then c.signed_number-in-None.result c.signed_number-in-None.ensures.before
    (λ r h. unsigned_before c.args.text.now r.0 r.1.now h)
