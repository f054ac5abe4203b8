use Rattle.std.proofs.Common.{◌∙◌, ◌++◌, ◌∷◌, [], ap, List, ℕ, Option, Some, Vec, cond, bytes_eq}
use Rattle.std.specs.Global.{Global}
use Rattle.indexmap.specs.IndexMap.{get}
use Rattle.section_core.specs.Views.{link_parts}
use Rattle.correspondence.specs.Named.{names_above}
use Rattle.correspondence.proofs.LinkTableSteps.{named_more}
use Rattle.correspondence.proofs.link_table.add_link.Goals as goal

pub returns : goal.returns
returns c links h =
    let m = c.args.above.now in
    let left = c.swap_remove.new.self in
    let l = link_parts c.args.link.now in
    let names = c.in_ok-names.names in
    named_more (get bytes_eq m) (get bytes_eq c.insert.new.self) l names links
    (λ q.
    c.in_ok-insert.ensures.updates.0 q
    ∙ ap (λ (n : List ℕ). cond (bytes_eq n q) (Some names) (get bytes_eq left q)) c.copy.ensures
    ∙ ap (cond (bytes_eq l.below q) (Some names)) (c.swap_remove.ensures.updates.0 q))
    (c.in_ok-names.ensures ∙ ap (λ (o : Option (Vec (List ℕ) Global)). names_above o ++ l.above ∷ [])
    c.swap_remove.ensures.value) h
