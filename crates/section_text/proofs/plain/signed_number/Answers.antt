use Rattle.std.proofs.Common.{◌∙◌}
use Rattle.section_text.proofs.PlainLines.{count_is, rest_is}
use Rattle.section_text.proofs.plain.signed_number.Goals as goal

pub returns-clause-all : goal.returns-clause-all
returns-clause-all c digits rest e are few ends =
    let text = c.args.text.now in
    let found = c.short_digits-value.ensures in
    let n = c.short_digits-value.result.1 in
    c.split_at.ensures.back ∙ rest_is text digits rest n e
    (count_is text digits rest n e are few ends found.few found.there found.digits found.last)
