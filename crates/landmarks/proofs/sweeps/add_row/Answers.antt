use Rattle.std.proofs.Common.{◌≡◌, ◌+◌, ◌++◌, ◌∷◌, [], ◌∙◌, ℕ, ℤ, pos, List, map, get_or, append_assoc, take, take_all, sym, ap, ap₂}
use mir.Syntax.{w128}
use Rattle.std.proofs.lemmas.Int.{to_z_pos}
use Rattle.std.proofs.lemmas.List.{map-append, take_more}
use Rattle.landmarks.proofs.sweeps.add_row.Goals as goal

pub loop-cost-preserved : goal.loop-cost-preserved
loop-cost-preserved c =
    let costs = c.args.costs.now in
    let old = c.args.phi.now.items in
    let i = c.loop-cost.cost-index in
    let cost : ℕ = get_or costs i 0 in
    let more : map pos (take i costs) ++ pos cost ∷ [] ≡ map pos (take (i + 1) costs) =
    sym (ap (map pos) (take_more costs i 0 c.loop-cost-test.true) ∙ map-append pos (take i costs) (cost ∷ [])) in
    c.in_ok-push.ensures.items
    ∙ ap₂ (λ (phi : List ℤ) (z : ℤ). phi ++ z ∷ []) c.loop-cost.invariant (to_z_pos w128 cost (c.requires i))
    ∙ append_assoc old (map pos (take i costs)) (pos cost ∷ [])
    ∙ ap (λ (phi : List ℤ). old ++ phi) more

pub returns : goal.returns
returns c = c.loop-cost.invariant ∙ ap (λ (costs : List ℕ). c.args.phi.now.items ++ map pos costs)
    (take_all c.loop-cost.cost-index c.args.costs.now c.loop-cost-test.false)
