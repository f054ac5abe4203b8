use Rattle.std.proofs.Common.{◌≡◌, ℕ, List, ◌++◌, ap, ap₂, append_assoc, ◌∙◌, length, rules}
use Rattle.std.specs.Prelude.{string_bytes}
use Rattle.surface_commands.specs.Report.{sizes_text, four_measures}
use Rattle.surface_commands.proofs.ReportLemmas.{reported}
use Rattle.surface_commands.proofs.reporting.report_text.Goals as goal

pub returns : goal.returns
returns c all sections contours =
    let b = c.args.built.now in
    let vertices : c.len-vertices.result ≡ length b.mesh.vertices.items = search rules in
    let first = sizes_text c.args.sections c.args.contours c.len-vertices.result c.triangle_count-triangles.result in
    let second = four_measures b.folded b.pairs b.cost c.args.volume in
    let sizes : string_bytes c.in_ok-sizes.sizes ≡ first = search rules in
    let measures : string_bytes c.in_ok-measures.measures ≡ second = search rules in
    c.in_ok-extend_from_slice-2.ensures.items
    ∙ ap₂ (λ (x y : List ℕ). x ++ y)
    (c.in_ok-extend_from_slice.ensures.items
    ∙ ap₂ (λ (x y : List ℕ). x ++ y) c.in_ok-text.ensures.items (c.as_bytes.ensures.value ∙ sizes))
    (c.as_bytes-2.ensures.value ∙ measures)
    ∙ append_assoc c.args.head.now first second
    ∙ ap (λ (x : List ℕ). c.args.head.now ++ x)
    (reported all b c.args.sections c.args.contours c.len-vertices.result c.triangle_count-triangles.result
    c.args.volume sections contours vertices c.triangle_count-triangles.ensures c.requires.volume)
