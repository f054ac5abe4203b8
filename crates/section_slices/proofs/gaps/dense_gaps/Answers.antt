use Rattle.std.proofs.Common.{◌++◌, ◌∷◌, [], ◌∙◌, sym, ap₂, map, List, Bool}
use Rattle.section_pairs.specs.Pairs.{pair_parts}
use Rattle.section_slices.specs.Densified.{is_dense}
use Rattle.section_slices.proofs.Lists.{map_more}
use Rattle.section_slices.proofs.gaps.dense_gaps.Goals as goal

pub loop-gap-preserved : goal.loop-gap-preserved
loop-gap-preserved c =
    c.in_ok-push.ensures.items ∙ ap₂ (λ (l : List Bool) (b : Bool). l ++ b ∷ []) c.loop-gap.invariant c.is_dense.ensures
    ∙ sym (map_more (is_dense c.args.sections.now (map pair_parts c.args.pairs.now)) c.loop-gap.gap)
