use Rattle.std.proofs.Common.{◌≡◌, ◌∙◌, ◌+◌, ℕ, [], true, List, Bool, map, get_or, bytes_eq, ap, sym, subst}
use Rattle.std.specs.List.{list_any}
use Rattle.section_core.specs.declared.parts.Contour.{Contour}
use Rattle.correspondence.proofs.ContourReads.{name_read}
use Rattle.correspondence.specs.Graphs.{IsRow}
use Rattle.correspondence.specs.Named.{above_of}
use Rattle.correspondence.proofs.RowSteps.{row_push}
use Rattle.correspondence.proofs.correspondence_table.link_row.Goals as goal

pub loop-contour-preserved : goal.loop-contour-preserved
loop-contour-preserved c =
    let high = c.args.high.now in
    let i = c.loop-contour.contour-index in
    let above = above_of c.args.table.now c.args.low.now.name in
    let contour : Contour = c.contour-item.result in
    let P : ℕ → Type 0 = λ j. list_any (bytes_eq (get_or (map (λ (d : Contour). d.name) high) j [])) above ≡ true in
    let there = c.is_among.ensures ∙ ap (λ ns. list_any (bytes_eq contour.name) ns) c.names_above-names.ensures
    ∙ ap (λ (n : List ℕ). list_any (bytes_eq n) above)
    (name_read high i contour c.loop-contour-test.true c.contour-item.is) in
    subst (λ (r : List Bool). IsRow r (i + 1) P) (sym {A = List Bool} c.in_ok-push.ensures.items)
    (row_push c.loop-contour.row.items i c.is_among.result P c.loop-contour.invariant
    (λ h. sym there ∙ h, λ h. there ∙ h))
