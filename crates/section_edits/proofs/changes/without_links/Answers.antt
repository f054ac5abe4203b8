use Rattle.std.proofs.Common.{◌≡◌, ◌++◌, ◌∷◌, [], true, false, Vec, map, ap, sym, ◌∙◌, Bool}
use Rattle.std.specs.Global.{Global}
use Rattle.std.specs.Prelude.{not}
use Rattle.section_core.specs.declared.parts.Link.{Link}
use Rattle.section_core.specs.Parts.{LinkParts}
use Rattle.section_core.specs.Views.{link_parts}
use Rattle.section_edits.specs.Changes.{names_it}
use Rattle.section_edits.proofs.Pushes.{kept, passed}
use Rattle.section_edits.proofs.changes.without_links.Goals.{then-not-names_it+in_ok-push, else-not-names_it}
use Rattle.section_edits.proofs.changes.without_links.Goals as goal

pub loop-link-preserved : goal.loop-link-preserved
loop-link-preserved c =
    let p : LinkParts → Bool = λ k. not (names_it c.args.name.now k) in
    let xs = c.args.links.now in
    let x = c.link-item.result in
    let i = c.loop-link.link-index in
    let old = c.loop-link.kept.items in
    let new = c.if-not-names_it.kept.items in
    elim c.if-not-names_it.branch [
      | then-not-names_it+in_ok-push w ↦
          let y = w.copy.result in
          let more : new ≡ old ++ y ∷ [] = ap (λ (v : Vec Link Global). v.items) w.kept-is
          ∙ w.in_ok-push.ensures.items in
          let passes : p (link_parts x) ≡ true = ap not (sym c.names_it.ensures ∙ w.if-not-names_it.true) in
          kept link_parts link_parts p old new y xs i x c.loop-link-test.true c.link-item.is more c.loop-link.invariant
          passes w.copy.ensures
      | else-not-names_it w ↦
          let same : new ≡ old = ap (λ (v : Vec Link Global). v.items) w.kept-is in
          let fails : p (link_parts x) ≡ false = ap not (sym c.names_it.ensures ∙ w.if-not-names_it.false) in
          ap (map link_parts) same ∙ passed link_parts link_parts p old xs i x c.loop-link-test.true c.link-item.is
          c.loop-link.invariant fails
    ]
