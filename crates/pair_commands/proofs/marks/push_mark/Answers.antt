use Rattle.std.proofs.Common.{◌≡◌, ℕ, zero, suc, ◌∷◌, [], ◌++◌, List, Vec, set, refl, ap, sym, ◌∙◌}
use Rattle.std.specs.Global.{Global}
use Rattle.std.proofs.lemmas.List.{get_or-map}
use Rattle.landmarks.specs.declared.marks.Mark.{Mark}
use Rattle.pair_commands.specs.MarkReading.{lists_in}
use Rattle.pair_commands.proofs.marks.push_mark.Goals as goal

-- a vector written at a place is its list written there
set_in : (vs : List (Vec Mark Global)) (i : ℕ) (v : Vec Mark Global)
    → lists_in (set vs i v) ≡ set (lists_in vs) i v.items
set_in [] i v = refl
set_in (w ∷ vs) zero v = refl
set_in (w ∷ vs) (suc i) v = ap (λ (xs : List (List Mark)). w.items ∷ xs) (set_in vs i v)

pub returns : goal.returns
returns c =
    let vs = c.args.groups.now.items in
    let i = c.args.place in
    let old = ap (λ (v : Vec Mark Global). v.items) c.index_mut.ensures.value
    ∙ sym (get_or-map (λ (v : Vec Mark Global). v.items) vs i c.index_mut.result.now [] c.requires) in
    set_in vs i c.push.new.self ∙ ap (λ (xs : List Mark). set (lists_in vs) i xs)
    (c.in_ok-push.ensures.items ∙ ap (λ (xs : List Mark). xs ++ c.args.mark ∷ []) old)
