use Rattle.std.proofs.Common.{◌≡◌, ℕ, ◌+◌, ◌<◌, List, [], Vec, map, length, get_or, sym, subst₂, ap, ◌∙◌, arith}
use Rattle.std.specs.Global.{Global}
use Rattle.std.proofs.lemmas.List.{get_or-map, length-map}
use Rattle.landmarks.specs.declared.marks.Mark.{Mark}
use Rattle.section_pairs.specs.Pairs.{pair_parts}
use Rattle.pair_commands.specs.Landmarks.{marks_of}
use Rattle.pair_commands.specs.MarkReading.{IsGoodGroup, lists_in}
use Rattle.pair_commands.proofs.MarkGroups.{group_count}
use Rattle.pair_commands.proofs.PairGroups.{group_at}
use Rattle.pair_commands.proofs.MarkTexts.{text_more}
use Rattle.pair_commands.proofs.marks.landmarks_text.Goals as goal

pub marks_at-requires : goal.marks_at-requires
marks_at-requires c =
    let ps = map pair_parts c.args.pairs.now in
    let gs = c.args.groups.now in
    omega (
      arith,
      c.loop-i-test.true,
      length-map gs (λ (v : Vec Mark Global). v.items),
      group_count ps c.args.marks.now (lists_in gs) c.requires,
      length-map c.args.pairs.now pair_parts,
    )

pub put_pair-requires : goal.put_pair-requires
put_pair-requires c =
    let pairs = c.args.pairs.now in
    let ps = map pair_parts pairs in
    let i = c.loop-i.i in
    let p = pair_parts (get_or pairs i c.index-pairs-i.result) in
    let l : i < length ps = omega (arith, c.loop-i-test.true, length-map pairs pair_parts) in
    let e : p ≡ get_or ps i p = sym (get_or-map pair_parts pairs i c.index-pairs-i.result p c.loop-i-test.true) in
    let g = subst₂ IsGoodGroup (sym e) (sym c.marks_at.ensures) (c.requires.each i p l) in
    record { few = g.few; good = g.good }

pub loop-i-preserved : goal.loop-i-preserved
loop-i-preserved c =
    let pairs = c.args.pairs.now in
    let ps = map pair_parts pairs in
    let xs = c.args.marks.now in
    let i = c.loop-i.i in
    let p = pair_parts (get_or pairs i c.index-pairs-i.result) in
    let l : i < length ps = omega (arith, c.loop-i-test.true, length-map pairs pair_parts) in
    let e : p ≡ get_or ps i p = sym (get_or-map pair_parts pairs i c.index-pairs-i.result p c.loop-i-test.true) in
    let number : 1 + i ≡ i + 1 = omega arith in
    let group = c.marks_at.ensures ∙ ap (λ (gs : List (List Mark)). get_or gs i []) c.requires.are
    ∙ group_at 1 ps xs i l ∙ ap (λ (n : ℕ). marks_of n xs) number in
    record {
      text = text_more ps xs i p c.marks_at.result.now c.loop-i.text.items c.put_pair.new.out.items c.loop-i.count
          c.in_ok-count.field-0 l e group c.loop-i.invariant.text c.in_ok-count.ensures;
      few = omega (arith, c.loop-i.invariant.few, c.in_ok-count.ensures.one);
    }
