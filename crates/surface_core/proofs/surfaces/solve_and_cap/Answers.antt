use Rattle.std.proofs.Common.{◌≡◌, Bor, List, length, map, ap, ◌∙◌, arith}
use Rattle.std.proofs.lemmas.List.{length-map}
use Rattle.strip_graph.specs.Strips.{Strip}
use Rattle.section_pairs.specs.declared.gap_pairs.GapPair.{GapPair}
use Rattle.section_pairs.specs.Pairs.{PairParts, pair_parts}
use Rattle.pair_pool.specs.Solvers.{referents}
use Rattle.pair_pool.proofs.Referents.{count_referents}
use Rattle.surface_core.specs.Surfaces.{strips_in}
use Rattle.surface_core.proofs.surfaces.solve_and_cap.Goals as goal

-- as many strips as pairs
as_many : (pairs : List GapPair) (strips : List (Bor Strip)) → referents strips ≡ strips_in (map pair_parts pairs)
    → length strips ≡ length pairs
as_many pairs strips e = count_referents strips (strips_in (map pair_parts pairs)) e
    ∙ length-map (map pair_parts pairs) (λ (p : PairParts). p.strip) ∙ length-map pairs pair_parts

pub returns-in_err-solved-clause-not_more : goal.returns-in_err-solved-clause-not_more
returns-in_err-solved-clause-not_more g c =
    omega (
      arith,
      as_many c.args.pairs.now c.deref.result.now
          (ap referents c.deref.ensures.value ∙ c.in_ok-strips.ensures),
      c.solve_beside-solved.ensures.not_more,
    )

pub returns-in_err-caps-clause-not_more : goal.returns-in_err-caps-clause-not_more
returns-in_err-caps-clause-not_more g c =
    omega (
      arith,
      as_many c.args.pairs.now c.deref.result.now
          (ap referents c.deref.ensures.value ∙ c.in_ok-strips.ensures),
      c.solve_beside-solved.ensures.not_more,
    )

pub returns-clause-not_more : goal.returns-clause-not_more
returns-clause-not_more g c = omega (
  arith,
  as_many c.args.pairs.now c.deref.result.now (ap referents c.deref.ensures.value ∙ c.in_ok-strips.ensures),
  c.solve_beside-solved.ensures.not_more,
)
