use Rattle.std.proofs.Common.{◌≡◌, arith, to_z, of_z, w64}
use Rattle.std.proofs.lemmas.Int.{ints}
use Rattle.round_sweeps.proofs.ChosenLaws.{starts_joined}
use Rattle.round_sweeps.proofs.choosing.begin_table.Goals as goal

pub returns-clause-starts : goal.returns-clause-starts
returns-clause-starts c =
    let e : to_z w64 (of_z w64 c.first_column.result) ≡ c.first_column.result =
    omega (arith, ints, c.first_column.ensures.round_least, c.first_column.ensures.round_most) in
    rw e (starts_joined c.args.rates.now c.first_column.result c.first_column.new.column
    c.split_at_mut-column.result.1.now
    (omega (arith, c.first_column.auto.column, c.split_at_mut-column.ensures.front_len))
    c.first_column.ensures.starts)
