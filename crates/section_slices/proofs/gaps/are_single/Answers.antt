use Rattle.std.proofs.Common.{◌≡◌, ◌∙◌, ◌&&◌, Bool, true, false, sym, ap}
use Rattle.std.specs.Prelude.{not, ◌||◌}
use Rattle.std.proofs.lemmas.List.Folds.{list_all-map}
use Rattle.fku_types.proofs.ListLaws.{any_map}
use Rattle.section_pairs.specs.Pairs.{PairParts, pair_parts}
use Rattle.section_slices.specs.Densified.{is_in, is_single}
use Rattle.section_slices.proofs.gaps.are_single.Goals as goal

then : (h s a b : Bool) → h ≡ a → h ≡ true → s ≡ b → s ≡ (a && b)
then h s a b e t f = f ∙ ap (λ (x : Bool). x && b) (sym t ∙ e)

else : (h a b : Bool) → h ≡ a → h ≡ false → h ≡ (a && b)
else h a b e t = t ∙ ap (λ (x : Bool). x && b) (sym t ∙ e)

pub returns-then-has_pair : goal.returns-then-has_pair
returns-then-has_pair c =
    let g = c.args.gap in
    then c.has_pair.result c.all_single.result _ _
    (c.has_pair.ensures ∙ sym (any_map pair_parts (is_in g) c.args.pairs.now)) c.if-has_pair.true
    (c.all_single.ensures ∙ sym (list_all-map (λ (p : PairParts). not (is_in g p) || is_single p) pair_parts
    c.args.pairs.now))

pub returns-else-has_pair : goal.returns-else-has_pair
returns-else-has_pair c = else c.has_pair.result _ _
    (c.has_pair.ensures ∙ sym (any_map pair_parts (is_in c.args.gap) c.args.pairs.now)) c.if-has_pair.false
