use Rattle.std.proofs.Common.{◌≡◌, ◌+◌, ℕ, arith, map, sym, ap, subst, ◌∙◌, ◌++◌, drop}
use Rattle.std.proofs.lemmas.List.{length-map, length-drop, get_or-drop, get_or-map}
use Rattle.section_core.specs.Views.{section_parts}
use Rattle.section_pairs.specs.Pairs.{pair_parts}
use Rattle.pair_commands.specs.Tilings.{pair_text}
use Rattle.pair_commands.proofs.TilingsLemmas.{pair_more}
use Rattle.pair_commands.proofs.listing.put_pairs.Goals as goal

pub loop-i-preserved : goal.loop-i-preserved
loop-i-preserved c =
    let ps = map pair_parts c.args.pairs.now in
    let ss = drop c.args.before c.args.solved.now in
    let i = c.loop-i.i in
    let few = length-map c.args.pairs.now pair_parts in
    let left = length-drop c.args.before c.args.solved.now in
    let sections = map section_parts c.args.sections.now in
    let number : c.args.before + i + 1 ≡ c.args.before + 1 + i = omega arith in
    let written = subst (λ (n : ℕ). c.put_pair.new.out.items ≡ c.loop-i.out.items
    ++ pair_text sections n (pair_parts c.index-pairs-i.result) c.index-solved-place.result) number
    c.in_ok-put_pair.ensures in
    pair_more sections (c.args.before + 1) ps ss i (pair_parts c.index-pairs-i.result) c.index-solved-place.result _ _ _
    (omega (arith, few, c.loop-i-test.true)) (omega (arith, left, c.loop-i-test.true, c.requires))
    (ap pair_parts c.index-pairs-i.is ∙ sym
    (get_or-map pair_parts c.args.pairs.now i c.index-pairs-i.result (pair_parts c.index-pairs-i.result)
    c.loop-i-test.true))
    (c.index-solved-place.is ∙ sym (get_or-drop c.args.before c.args.solved.now i c.index-solved-place.result))
    c.loop-i.invariant written
