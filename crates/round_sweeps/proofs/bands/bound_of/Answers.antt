use Rattle.std.proofs.Common.{◌≡◌, pos, ◌+ℤ◌, ◌-ℤ◌, ◌≤ℤ◌, ◌^◌, neg_ℤ, arith, to_z, of_z, w64}
use Rattle.std.proofs.lemmas.Int.{ints, to_z-of_z}
use Rattle.round_sweeps.proofs.ColumnLaws.{not_below}
use Rattle.round_sweeps.proofs.BandLaws.{past_bound, lower_than, gap_is}
use Rattle.round_sweeps.proofs.bands.bound_of.Goals as goal

pub returns-else-less-end-clause-bound : goal.returns-else-less-end-clause-bound
returns-else-less-end-clause-bound c =
    let el : to_z w64 (of_z w64 c.args.limit) ≡ c.args.limit = to_z-of_z w64 c.args.limit c.ranges.limit in
    let en : to_z w64 (of_z w64 c.args.number) ≡ c.args.number = to_z-of_z w64 c.args.number c.ranges.number in
    let es : to_z w64 (of_z w64 c.args.sum) ≡ c.args.sum = to_z-of_z w64 c.args.sum c.ranges.sum in
    let ee : to_z w64 (of_z w64 c.args.end) ≡ c.args.end = to_z-of_z w64 c.args.end c.ranges.end in
    let value : c.past_of-past.result ≡ (c.args.limit +ℤ pos 1) -ℤ c.args.number =
    rw (el, en) at c.past_of-past.ensures.value in
    let ep : to_z w64 (of_z w64 c.past_of-past.result) ≡ c.past_of-past.result =
    omega (arith, ints, c.past_of-past.ensures.least, c.past_of-past.ensures.most) in
    let one : c.less_of-less.result ≤ℤ c.past_of-past.result = rw ep at c.less_of-less.ensures.one in
    let other : c.less_of-less.result ≤ℤ c.args.sum = rw es at c.less_of-less.ensures.other in
    let low : neg_ℤ (pos (2 ^ 63)) ≤ℤ c.less_of-less.result =
    c.less_of-less.ensures.least (neg_ℤ (pos (2 ^ 63))) (rw ep c.past_of-past.ensures.least)
    (rw es (lower_than c.args.sum c.requires.sum_least)) in
    let er : to_z w64 (of_z w64 c.less_of-less.result) ≡ c.less_of-less.result =
    omega (arith, ints, low, other, c.requires.sum_most) in
    let ge : to_z w64 (of_z w64 c.args.end) ≤ℤ c.less_of-less.result = not_below _ _ _ c.if-less-end.false er in
    let x_is : to_z w64 (of_z w64 (to_z w64 (of_z w64 c.less_of-less.result) -ℤ to_z w64 (of_z w64 c.args.end)))
    ≡ c.less_of-less.result -ℤ c.args.end =
    rw (er, ee) (gap_is c.less_of-less.result c.args.end c.args.sum (rw ee at ge) c.requires.end_least other
    c.requires.sum_most) in
    λ cost h. past_bound c.args.number c.args.limit c.args.end c.args.sum c.less_of-less.result _ cost (rw value at one)
    other x_is h
