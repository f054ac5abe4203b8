use Rattle.std.proofs.Common.{◌≡◌, ◌∙◌, ◌++◌, ap, ap₂, sym, map, filter, flat_map, length, ℕ, List, Vec, Bool, arith}
use Rattle.std.specs.Global.{Global}
use Rattle.std.specs.List.{range_with_len}
use Rattle.std.proofs.lemmas.List.{length-map}
use Rattle.section_core.specs.declared.parts.Link.{Link}
use Rattle.section_core.specs.Parts.{LinkParts}
use Rattle.section_core.specs.Views.{link_parts}
use Rattle.correspondence.specs.Outlines.{held_layer}
use Rattle.section_pairs.specs.declared.gap_pairs.GapPair.{GapPair}
use Rattle.section_pairs.specs.Pairs.{PairParts, pair_parts}
use Rattle.section_slices.specs.Densified.{is_in, pair_at, pair_links}
use Rattle.section_slices.proofs.Lists.{flat_passed, flat_failed}
use Rattle.section_slices.proofs.Outlines.{pair_is, in_gap, not_in_gap}
use Rattle.section_slices.proofs.links.dense_links.Goals.{then-pairs-place+in_ok-add_pair, else-pairs-place}
use Rattle.section_slices.proofs.links.dense_links.Goals as goal

pub loop-place-preserved : goal.loop-place-preserved
loop-place-preserved c =
    let ps = c.args.pairs.now in
    let g = c.args.gap in
    let i = c.loop-place.place in
    let p = c.index-pairs-place.result in
    let l = c.loop-place-test.true in
    let low = held_layer c.args.low.now in
    let high = held_layer c.args.high.now in
    let same_gap = ap (λ (q : GapPair). q.gap) c.index-pairs-place.is in
    let f : ℕ → List LinkParts = λ k. pair_links low high (pair_at (map pair_parts ps) k) k in
    let test : ℕ → Bool = λ k. is_in g (pair_at (map pair_parts ps) k) in
    elim c.if-pairs-place.branch [
      | then-pairs-place+in_ok-add_pair w ↦
          let q = w.index-pairs-place-then-pairs-place.result in
          let read : pair_parts q ≡ pair_at (map pair_parts ps) i =
          sym (pair_is ps i q l w.index-pairs-place-then-pairs-place.is) in
          ap (λ (v : Vec Link Global). map link_parts v.items) w.links-is ∙ w.in_ok-add_pair.ensures
          ∙ ap₂ (λ (ls : List LinkParts) (x : PairParts). ls ++ pair_links low high x i) c.loop-place.invariant read
          ∙ sym (flat_passed f test i (in_gap ps i g p l c.index-pairs-place.is (same_gap ∙ w.if-pairs-place.true)))
      | else-pairs-place w ↦
          ap (λ (v : Vec Link Global). map link_parts v.items) w.links-is ∙ c.loop-place.invariant
          ∙ sym (flat_failed f test i (not_in_gap ps i g p l c.index-pairs-place.is
          (λ h. w.if-pairs-place.false (sym same_gap ∙ h))))
    ]

pub returns : goal.returns
returns c =
    let ps = c.args.pairs.now in
    let f : ℕ → List LinkParts = λ k. pair_links (held_layer c.args.low.now) (held_layer c.args.high.now)
    (pair_at (map pair_parts ps) k) k in
    let all : c.loop-place.place ≡ length (map pair_parts ps) =
    omega (arith, c.loop-place-test.false, c.loop-place.auto.place-end, length-map ps pair_parts) in
    c.loop-place.invariant ∙ ap (λ (n : ℕ).
    flat_map f (filter (λ k. is_in c.args.gap (pair_at (map pair_parts ps) k)) (range_with_len 0 n))) all
