use Rattle.std.proofs.Common.{Vec, Bool, length, ap, arith}
use Rattle.std.specs.Global.{Global}
use Rattle.correspondence.proofs.graph.adjacent.Goals as goal

pub index-requires : goal.index-requires
index-requires c =
    let row = c.index-rows-a.result in
    omega (
      arith,
      row.ok.0,
      c.requires.second c.args.a row c.if-a-rows.true,
      ap (λ (v : Vec Bool Global). length v.items) c.index-rows-a.is,
    )

pub index-requires-then-b-rows-2 : goal.index-requires-then-b-rows-2
index-requires-then-b-rows-2 c =
    let row = c.index-rows-b.result in
    omega (
      arith,
      row.ok.0,
      c.requires.first c.args.b row c.if-b-rows-2.true,
      ap (λ (v : Vec Bool Global). length v.items) c.index-rows-b.is,
    )
