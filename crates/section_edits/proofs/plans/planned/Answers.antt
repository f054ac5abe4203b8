use Rattle.std.proofs.Common.{◌≡◌, ◌++◌, ◌∷◌, [], Bor, Vec, take, ◌+◌, ap, ◌∙◌, arith}
use Rattle.std.proofs.lemmas.List.{length-map}
use Rattle.std.specs.Global.{Global}
use Rattle.strip_graph.specs.Strips.{Strip}
use Rattle.pair_pool.specs.Solvers.{referents}
use Rattle.pair_pool.proofs.Referents.{referents_more}
use Rattle.section_edits.specs.declared.plans.Origin.{Origin}
use Rattle.section_edits.specs.declared.plans.Origin.TheVariants.{Kept, Fresh}
use Rattle.section_edits.proofs.Planning.{strips_of, strips_more, plan_kept, plan_fresh, planned_as}
use Rattle.section_edits.proofs.plans.planned.Goals.{in-Some+in_ok-push-in-Some, in-None+in_ok-push-in-None+in_ok-push-in-None-2}
use Rattle.section_edits.proofs.plans.planned.Goals as goal

pub loop-pair-preserved : goal.loop-pair-preserved
loop-pair-preserved c =
    let kept = strips_of c.args.kept.now in
    let before = strips_of (take c.loop-pair.pair-index c.args.pairs.now) in
    let after = strips_of (take (c.loop-pair.pair-index + 1) c.args.pairs.now) in
    let p = c.pair-item.result.pair in
    let more : after ≡ before ++ p ∷ [] =
    strips_more c.args.pairs.now c.loop-pair.pair-index c.pair-item.result c.loop-pair-test.true c.pair-item.is in
    let origins = c.loop-pair.origins.items in
    let solving = referents c.loop-pair.solving.items in
    let new_origins = c.match-find_same.origins.items in
    let new_solving = referents c.match-find_same.solving.items in
    let inv = c.loop-pair.invariant in
    elim c.match-find_same.branch [
      | in-Some+in_ok-push-in-Some w ↦
          let k = w.in-Some.place in
          let os : new_origins ≡ origins ++ Kept k ∷ [] = ap (λ (v : Vec Origin Global). v.items) w.origins-is
          ∙ w.in_ok-push-in-Some.ensures.items in
          let ss : new_solving ≡ solving = ap (λ (v : Vec (Bor Strip) Global). referents v.items) w.solving-is in
          planned_as kept (before ++ p ∷ []) after (origins ++ Kept k ∷ []) new_origins solving new_solving more os ss
          (plan_kept kept before solving origins p k inv w.in-Some.ensures.found)
      | in-None+in_ok-push-in-None+in_ok-push-in-None-2 w ↦
          let k = w.len.result in
          let os : new_origins ≡ origins ++ Fresh k ∷ [] = ap (λ (v : Vec Origin Global). v.items) w.origins-is
          ∙ w.in_ok-push-in-None.ensures.items in
          let ss : new_solving ≡ solving ++ p ∷ [] = ap (λ (v : Vec (Bor Strip) Global). referents v.items) w.solving-is
          ∙ referents_more _ _ _ w.in_ok-push-in-None-2.ensures.items in
          planned_as kept (before ++ p ∷ []) after (origins ++ Fresh k ∷ []) new_origins (solving ++ p ∷ []) new_solving
          more os ss
          (plan_fresh kept before solving origins p k inv w.in-None.ensures.none
          (omega (arith, w.len.ensures, length-map c.loop-pair.solving.items (λ (q : Bor Strip). q.now))))
    ]
