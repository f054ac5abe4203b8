use Rattle.std.proofs.Common.{◌≡◌, ◌∙◌, ◌++◌, ◌∷◌, [], ap, ap₂, sym, map, filter, get_or, ℕ, List, Vec, append_assoc}
use Rattle.std.specs.Global.{Global}
use Rattle.std.specs.List.{range_with_len}
use Rattle.std.proofs.lemmas.List.{map-append, get_or-map}
use Rattle.section_core.specs.declared.parts.Contour.{Contour}
use Rattle.section_core.specs.declared.parts.Link.{Link}
use Rattle.section_core.specs.Parts.{LinkParts}
use Rattle.section_core.specs.Views.{link_parts}
use Rattle.correspondence.specs.Graphs.{mark}
use Rattle.section_slices.specs.Densified.{link}
use Rattle.section_slices.proofs.Lists.{map_passed, map_failed}
use Rattle.section_slices.proofs.links.add_row.Goals.{then-row-j+in_ok-push, else-row-j}
use Rattle.section_slices.proofs.links.add_row.Goals as goal

pub loop-j-preserved : goal.loop-j-preserved
loop-j-preserved c =
    let high = c.args.high.now in
    let names = map (λ (k : Contour). k.name) high in
    let row = c.args.row.now in
    let j = c.loop-j.j in
    let f : ℕ → LinkParts = λ k. link c.args.low.now.name (get_or names k []) in
    let old = c.loop-j.links.items in
    let new = c.if-row-j.links.items in
    let first = map link_parts c.args.links.now.items in
    let before = map f (filter (mark row) (range_with_len 0 j)) in
    elim c.if-row-j.branch [
      | then-row-j+in_ok-push w ↦
          let more = ap (λ (v : Vec Link Global). v.items) w.links-is ∙ w.in_ok-push.ensures.items in
          let y = w.link.result in
          let k = w.index-high-j.result in
          let here : link_parts y ≡ f j = w.link.ensures
          ∙ ap (link c.args.low.now.name) (sym
          (get_or-map (λ (x : Contour). x.name) high j k [] c.loop-j-test.true)) in
          ap (map link_parts) more ∙ map-append link_parts old (y ∷ [])
          ∙ ap₂ (λ (ls : List LinkParts) (l : LinkParts). ls ++ l ∷ []) c.loop-j.invariant here
          ∙ append_assoc first before (f j ∷ [])
          ∙ ap (λ (ls : List LinkParts). first ++ ls) (sym (map_passed f (mark row) j w.if-row-j.true))
      | else-row-j w ↦
          let same = ap (λ (v : Vec Link Global). v.items) w.links-is in
          ap (map link_parts) same ∙ c.loop-j.invariant
          ∙ ap (λ (ls : List LinkParts). first ++ ls) (sym (map_failed f (mark row) j w.if-row-j.false))
    ]
