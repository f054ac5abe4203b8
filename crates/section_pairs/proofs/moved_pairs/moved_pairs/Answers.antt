use Rattle.std.proofs.Common.{◌≡◌, ◌++◌, ◌∷◌, [], List, ap, ◌∙◌, sym, subst, arith}
use Rattle.std.specs.Prelude.{All}
use Rattle.std.proofs.lemmas.List.{length-map, get_or-map}
use Rattle.std.proofs.lemmas.List.Elements.{All-append}
use Rattle.strip_graph.specs.Strips.{IsStrip}
use Rattle.section_pairs.specs.declared.gap_pairs.GapPair.{GapPair}
use Rattle.section_pairs.specs.Pairs.{PairParts, pair_parts}
use Rattle.section_pairs.specs.Unchanged.{CanMovePair, moved_pair}
use Rattle.section_pairs.proofs.Firsts.{all_one}
use Rattle.section_pairs.proofs.Sides.{pairs_more}
use Rattle.section_pairs.proofs.moved_pairs.moved_pairs.Goals as goal

pub moved_pair-requires : goal.moved_pair-requires
moved_pair-requires c =
    let pairs = c.args.pairs.now in
    let i = c.loop-pair.pair-index in
    let p = c.pair-item.result in
    let can : PairParts → Type 0 = λ q. CanMovePair c.args.low c.args.high q in
    subst can (get_or-map pair_parts pairs i p (pair_parts p) c.loop-pair-test.true
    ∙ ap pair_parts (sym c.pair-item.is))
    (c.requires i (pair_parts p) (omega (arith, c.loop-pair-test.true, length-map pairs pair_parts)))

pub loop-pair-preserved : goal.loop-pair-preserved
loop-pair-preserved c =
    let old = c.loop-pair.moved.items in
    let new = c.add_pair.new.pairs.items in
    let pair = c.in_ok-pair.pair in
    let more : new ≡ old ++ pair ∷ [] = c.in_ok-add_pair.ensures in
    let strip : GapPair → Type 0 = λ p. IsStrip p.pair in
    record {
      pairs = pairs_more pair_parts (moved_pair c.args.low c.args.high) pair_parts old new pair c.args.pairs.now
          c.loop-pair.pair-index c.pair-item.result c.loop-pair-test.true c.pair-item.is more
          c.loop-pair.invariant.pairs c.in_ok-pair.ensures.value;
      strips = subst (λ (ps : List GapPair). All strip ps) (sym more)
          (All-append strip old (pair ∷ []) c.loop-pair.invariant.strips
          (all_one strip pair c.in_ok-pair.ensures.strip));
    }
