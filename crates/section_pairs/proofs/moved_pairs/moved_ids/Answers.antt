use Rattle.std.proofs.Common.{◌≡◌, ◌++◌, ◌∷◌, [], ℕ, List, map, get_or, refl, sym, ap, ap₂, ◌∙◌, arith, take_all}
use Rattle.std.specs.List.{AllByRecursion}
use Rattle.std.proofs.lemmas.List.{get_or_default}
use Rattle.std.proofs.lemmas.List.Elements.{recursion_from_All}
use Rattle.section_pairs.specs.declared.moved_pairs.Shift.{Shift}
use Rattle.section_pairs.specs.Unchanged.{CanMove, moved_id}
use Rattle.section_pairs.proofs.Firsts.{front_more}
use Rattle.section_pairs.proofs.moved_pairs.moved_ids.Goals as goal

-- ids move by nothing
unmoved : (s : Shift) (ids : List ℕ) → s.from ≡ s.to → AllByRecursion (CanMove s) ids → ids ≡ map (moved_id s) ids
unmoved s [] e h = refl
unmoved s (id ∷ ids) e h = ap₂ ◌∷◌ (omega (arith, e, h.0.0)) (unmoved s ids e h.1)

pub returns-then-shift : goal.returns-then-shift
returns-then-shift c =
    let s = c.args.shift in
    let ids = c.args.ids.now in
    c.in_ok-to_vec.ensures.items_if_clones_equal (λ x y e. e)
    ∙ unmoved s ids c.if-shift.true (recursion_from_All (CanMove s) ids c.requires)

pub loop-id-preserved : goal.loop-id-preserved
loop-id-preserved c =
    let ids = c.args.ids.now in
    let i = c.loop-id.id-index in
    let l = c.loop-id-test.true in
    let id : ℕ = get_or ids i 0 in
    c.in_ok-push.ensures.items
    ∙ ap₂ (λ (moved : List ℕ) (m : ℕ). moved ++ m ∷ []) c.loop-id.invariant c.moved_id.ensures
    ∙ sym (front_more (moved_id c.args.shift) ids i id l (get_or_default ids i 0 id l))

pub returns : goal.returns
returns c = c.loop-id.invariant ∙ ap (map (moved_id c.args.shift))
    (take_all c.loop-id.id-index c.args.ids.now c.loop-id-test.false)
