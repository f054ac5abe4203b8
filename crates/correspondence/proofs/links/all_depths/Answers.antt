use Rattle.std.proofs.Common.{◌∙◌, ◌∷◌, [], ℕ, Vec, ap}
use Rattle.std.specs.Global.{Global}
use Rattle.std.proofs.lemmas.List.{map-append}
use Rattle.correspondence.specs.Named.{lists_of}
use Rattle.correspondence.proofs.CauseReads.{depths_more}
use Rattle.correspondence.proofs.links.all_depths.Goals as goal

pub loop-section-preserved : goal.loop-section-preserved
loop-section-preserved c =
    depths_more c.args.sections.now c.loop-section.section-index c.section-item.result
    (lists_of c.loop-section.rows.items) (lists_of c.push.new.self.items) c.in_ok-depths.field-0.items
    c.loop-section-test.true c.section-item.is c.in_ok-depths.ensures.depths c.loop-section.invariant
    (ap lists_of c.in_ok-push.ensures.items
    ∙ map-append (λ (v : Vec ℕ Global). v.items) c.loop-section.rows.items (c.in_ok-depths.field-0 ∷ []))
