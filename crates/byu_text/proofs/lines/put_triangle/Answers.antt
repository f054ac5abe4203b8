use Rattle.std.proofs.Common.{◌++◌, ℕ, List, [], ◌∷◌, ap, ◌∙◌}
use Rattle.byu_text.specs.declared.numbers.VertexFields.{VertexFields}
use Rattle.byu_text.proofs.TextLaws.{triangle_made}
use Rattle.byu_text.proofs.lines.put_triangle.Goals as goal

pub returns : goal.returns
returns c =
    let a = c.args in
    let q = c.requires in
    let none : VertexFields = record { positive = []; negative = [] } in
    let on : List ℕ → List ℕ → List ℕ = λ more l. l ++ more in
    c.in_ok-push.ensures.items ∙ ap (on (10 ∷ [])) (c.in_ok-extend_from_slice-3.ensures.items
    ∙ ap (on _) (c.in_ok-extend_from_slice-2.ensures.items
    ∙ ap (on _) c.in_ok-extend_from_slice.ensures.items))
    ∙ triangle_made a.text.now.items a.table.now a.a a.b a.c none q.table q.a q.b q.c
