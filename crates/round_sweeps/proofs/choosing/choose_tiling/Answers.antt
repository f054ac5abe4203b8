use Rattle.std.proofs.Common.{◌≡◌, ◌∙◌, length, sym, arith, refl, to_z, of_z, w64}
use Rattle.std.proofs.lemmas.Int.{ints}
use Rattle.std.proofs.Math.Seq.{take-append_seam}
use Rattle.round_sweeps.proofs.choosing.choose_tiling.Given as given
use Rattle.round_sweeps.proofs.choosing.choose_tiling.Goals as goal
use Rattle.round_sweeps.proofs.choosing.choose_tiling.Goals.{After-deref-2, After-deref-3}

-- the rates and the table are read as they were written
rates_are : (g : given.Over) (c : After-deref-2 g) → c.deref-2.result.now ≡ c.fill_rates.new.rates
rates_are g c =
    let len : c.in_ok-bounds.bounds.len ≡ length c.fill_rates.new.rates =
    sym (c.fill_rates.auto.rates ∙ c.deref_mut.ensures.len) in
    rw (c.deref-2.ensures.value, len, take-append_seam) refl

table_is : (g : given.Over) (c : After-deref-3 g) → c.deref-3.result.now ≡ c.fill_table.new.table
table_is g c =
    let len : c.fit_space.new.space.table.len ≡ length c.fill_table.new.table =
    sym (c.fill_table.auto.table ∙ c.deref_mut-2.ensures.len) in
    rw (c.deref-3.ensures.value, len, take-append_seam) refl

pub fill_table-requires-clause-rates : goal.fill_table-requires-clause-rates
fill_table-requires-clause-rates g c =
    rw (rates_are g (goal.at.fill_table-requires-clause-rates g c).After-deref-2) c.fill_rates.ensures.rates

pub fill_table-requires-clause-down : goal.fill_table-requires-clause-down
fill_table-requires-clause-down g c = rw (rates_are g (goal.at.fill_table-requires-clause-down g c).After-deref-2)
    (λ r l. c.fill_rates.ensures.down r (omega (arith, l, c.deref_mut.ensures.len, c.in_ok-bounds.ensures.len)))

pub fill_table-requires-clause-round : goal.fill_table-requires-clause-round
fill_table-requires-clause-round g c = rw (rates_are g (goal.at.fill_table-requires-clause-round g c).After-deref-2)
    (λ r e. c.fill_rates.ensures.round r (omega (arith, e, c.deref_mut.ensures.len, c.in_ok-bounds.ensures.len)))

pub choose_ahead-requires-clause-table : goal.choose_ahead-requires-clause-table
choose_ahead-requires-clause-table g c =
    let t = c.in-Some.ensures.table in
    let er : to_z w64 (of_z w64 c.in-Some.round) ≡ c.in-Some.round = omega (arith, ints, t.round_least, t.round_most) in
    rw (er, table_is g (goal.at.choose_ahead-requires-clause-table g c).After-deref-3) t

pub choose_ahead-requires-clause-potential : goal.choose_ahead-requires-clause-potential
choose_ahead-requires-clause-potential g c =
    let t = c.in-Some.ensures.table in
    let er : to_z w64 (of_z w64 c.in-Some.round) ≡ c.in-Some.round = omega (arith, ints, t.round_least, t.round_most) in
    rw (er, table_is g (goal.at.choose_ahead-requires-clause-potential g c).After-deref-3) c.in-Some.ensures.potential

pub choose_narrow-requires-clause-table : goal.choose_narrow-requires-clause-table
choose_narrow-requires-clause-table g c =
    let t = c.in-Some.ensures.table in
    let er : to_z w64 (of_z w64 c.in-Some.round) ≡ c.in-Some.round =
    omega (arith, ints, t.round_least, t.round_most) in
    let len : c.fit_space.new.space.table.len ≡ length c.fill_table.new.table =
    sym (c.fill_table.auto.table ∙ c.deref_mut-2.ensures.len) in
    rw (er, c.deref-4.ensures.value, len, take-append_seam) t

pub choose_narrow-requires-clause-potential : goal.choose_narrow-requires-clause-potential
choose_narrow-requires-clause-potential g c =
    let t = c.in-Some.ensures.table in
    let er : to_z w64 (of_z w64 c.in-Some.round) ≡ c.in-Some.round =
    omega (arith, ints, t.round_least, t.round_most) in
    let len : c.fit_space.new.space.table.len ≡ length c.fill_table.new.table =
    sym (c.fill_table.auto.table ∙ c.deref_mut-2.ensures.len) in
    rw (er, c.deref-4.ensures.value, len, take-append_seam) c.in-Some.ensures.potential
