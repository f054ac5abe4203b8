use Rattle.std.proofs.Common.{arith, ◌+◌, ◌%◌, ◌<◌}
use Rattle.byu_text.proofs.NumberLaws.{positive_last, negative_last, next_made}
use Rattle.byu_text.proofs.numbers.next_fields.Goals as goal

pub overflow_add-positive : goal.overflow_add-positive
overflow_add-positive c = omega (arith, positive_last c.args.id c.args.fields (omega arith) c.requires.fields)

pub overflow_add-negative : goal.overflow_add-negative
overflow_add-negative c = omega (arith, negative_last c.args.id c.args.fields (omega arith) c.requires.fields)

pub returns : goal.returns
returns c =
    let f = c.args.fields in
    let id = c.args.id in
    let p = positive_last id f (omega arith) c.requires.fields in
    let n = negative_last id f (omega arith) c.requires.fields in
    let no_nine : (id + 1) % 10 < 9 = omega (arith, p, c.if-positive-eq57.false) in
    next_made id _ _ f c.requires.id c.requires.fields no_nine (omega (arith, p)) (omega (arith, n))
