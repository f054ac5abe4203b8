use Rattle.std.proofs.Common.{◌≡◌, ◌++◌, ◌∷◌, [], List, map, ap, ◌∙◌, sym, subst, Err}
use Rattle.std.specs.Prelude.{All}
use Rattle.std.specs.List.{flat_map}
use Rattle.std.proofs.lemmas.Result.{err_from_is_err_and}
use Rattle.std.proofs.lemmas.List.{take_all}
use Rattle.std.proofs.lemmas.List.Elements.{All-append}
use Rattle.fku_types.specs.declared.fault.Fault.{Fault}
use Rattle.plane_geom.specs.RingViews.{ring_views}
use Rattle.strip_graph.specs.Strips.{IsStrip}
use Rattle.correspondence.specs.declared.gaps.Component.{Component}
use Rattle.correspondence.specs.Gaps.{members_of}
use Rattle.section_pairs.specs.declared.gap_pairs.GapPair.{GapPair}
use Rattle.section_pairs.specs.Pairs.{pair_parts, pair_between, sides_between, IsShort}
use Rattle.section_pairs.specs.SectionFaults.{IsFirstFault, HasLongSide, OrNoMemory}
use Rattle.section_pairs.proofs.Firsts.{all_one}
use Rattle.section_pairs.proofs.Sides.{err_told, long_here, short_more, pairs_more}
use Rattle.section_pairs.proofs.gap_pairs.component_pairs.Goals as goal

pub returns-in_err-pair-clause-fault : goal.returns-in_err-pair-clause-fault
returns-in_err-pair-clause-fault c =
    let sides = sides_between (ring_views c.args.low.now) (ring_views c.args.high.now) c.args.gap in
    let fault = c.in_err-pair.field-0.0 in
    let exit = err_from_is_err_and c.from_residual.result c.from_residual.ensures.1 in
    err_told c.from_residual.result fault
    (OrNoMemory (IsFirstFault IsShort HasLongSide (flat_map sides (map members_of c.args.components.now))))
    (exit.1 ∙ ap (λ (e : Fault). Err e) exit.2)
    (long_here members_of sides IsShort HasLongSide c.args.components.now c.loop-component.component-index
    c.component-item.result fault c.loop-component-test.true c.component-item.is c.loop-component.invariant.short
    c.in_err-pair.ensures.fault)

pub loop-component-preserved : goal.loop-component-preserved
loop-component-preserved c =
    let sides = sides_between (ring_views c.args.low.now) (ring_views c.args.high.now) c.args.gap in
    let pair = pair_between c.args.cost (ring_views c.args.low.now) (ring_views c.args.high.now) c.args.gap in
    let components = c.args.components.now in
    let i = c.loop-component.component-index in
    let component = c.component-item.result in
    let old = c.loop-component.pairs.items in
    let new = c.add_pair.new.pairs.items in
    let more : new ≡ old ++ c.in_ok-pair.pair ∷ [] = c.in_ok-add_pair.ensures in
    let strip : GapPair → Type 0 = λ p. IsStrip p.pair in
    record {
      pairs = pairs_more members_of pair pair_parts old new c.in_ok-pair.pair components i component
          c.loop-component-test.true c.component-item.is more c.loop-component.invariant.pairs
          c.in_ok-pair.ensures.value;
      strips = subst (λ (ps : List GapPair). All strip ps) (sym more)
          (All-append strip old (c.in_ok-pair.pair ∷ []) c.loop-component.invariant.strips
          (all_one strip c.in_ok-pair.pair c.in_ok-pair.ensures.strip));
      short = short_more members_of sides IsShort components i component c.loop-component-test.true c.component-item.is
          c.loop-component.invariant.short c.in_ok-pair.ensures.short;
    }

pub returns-clause-pairs : goal.returns-clause-pairs
returns-clause-pairs c =
    let pair = pair_between c.args.cost (ring_views c.args.low.now) (ring_views c.args.high.now) c.args.gap in
    c.loop-component.invariant.pairs ∙ ap (λ (cs : List Component). map pair (map members_of cs))
    (take_all c.loop-component.component-index c.args.components.now c.loop-component-test.false)

pub returns-clause-strips : goal.returns-clause-strips
returns-clause-strips c = c.loop-component.invariant.strips

pub returns-clause-short : goal.returns-clause-short
returns-clause-short c =
    let sides = sides_between (ring_views c.args.low.now) (ring_views c.args.high.now) c.args.gap in
    subst (λ (cs : List Component). All IsShort (flat_map sides (map members_of cs)))
    (take_all c.loop-component.component-index c.args.components.now c.loop-component-test.false)
    c.loop-component.invariant.short
