use Rattle.std.proofs.Common.{◌≡◌, Bor, List, length, ap, ◌∙◌, arith, Vec}
use Rattle.std.specs.Global.{Global}
use Rattle.std.proofs.lemmas.List.{length-map}
use Rattle.strip_graph.specs.Strips.{Strip}
use Rattle.section_pairs.specs.declared.gap_pairs.GapPair.{GapPair}
use Rattle.section_pairs.specs.Pairs.{PairParts}
use Rattle.pair_pool.specs.Solvers.{referents}
use Rattle.pair_pool.proofs.Referents.{count_referents}
use Rattle.surface_core.specs.Surfaces.{strips_in}
use Rattle.surface_core.specs.Objects.{numbered, pair_lists}
use Rattle.surface_core.proofs.objects.solve_and_cap_each.Goals as goal

-- as many strips as pairs
as_many : (lists : List (Vec GapPair Global)) (strips : List (Bor Strip))
    → referents strips ≡ strips_in (numbered (pair_lists lists)) → length strips ≡ length (numbered (pair_lists lists))
as_many lists strips e = count_referents strips (strips_in (numbered (pair_lists lists))) e
    ∙ length-map (numbered (pair_lists lists)) (λ (p : PairParts). p.strip)

pub returns-in_err-solved-clause-not_more : goal.returns-in_err-solved-clause-not_more
returns-in_err-solved-clause-not_more g c =
    omega (
      arith,
      as_many c.args.lists.now c.deref.result.now
          (ap referents c.deref.ensures.value ∙ c.in_ok-strips.ensures),
      c.solve_beside-solved.ensures.not_more,
    )

pub returns-in_err-caps-clause-not_more : goal.returns-in_err-caps-clause-not_more
returns-in_err-caps-clause-not_more g c =
    omega (
      arith,
      as_many c.args.lists.now c.deref.result.now
          (ap referents c.deref.ensures.value ∙ c.in_ok-strips.ensures),
      c.solve_beside-solved.ensures.not_more,
    )

pub returns-clause-not_more : goal.returns-clause-not_more
returns-clause-not_more g c = omega (
  arith,
  as_many c.args.lists.now c.deref.result.now (ap referents c.deref.ensures.value ∙ c.in_ok-strips.ensures),
  c.solve_beside-solved.ensures.not_more,
)
