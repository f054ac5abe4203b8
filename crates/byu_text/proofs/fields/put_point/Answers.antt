use Rattle.std.proofs.Common.{◌++◌, ℕ, List, ap, ◌∙◌}
use Rattle.byu_text.specs.Fields.{coordinate_field}
use Rattle.byu_text.proofs.FieldLaws.{passed, point_made}
use Rattle.byu_text.proofs.fields.put_point.Goals as goal

pub returns : goal.returns
returns c =
    let p = c.args.point in
    let x = c.coordinate_field.result in
    let y = c.coordinate_field-2.result in
    let z = c.field_of.result in
    let on : List ℕ → List ℕ → List ℕ = λ more l. l ++ more in
    c.in_ok-extend_from_slice-3.ensures.items
    ∙ ap (on z) (c.in_ok-extend_from_slice-2.ensures.items ∙ ap (on y) c.in_ok-extend_from_slice.ensures.items)
    ∙ point_made p.x p.y p.z c.args.text.now.items x y z
    (c.coordinate_field.ensures ∙ ap coordinate_field (passed p.x c.requires.x))
    (c.coordinate_field-2.ensures ∙ ap coordinate_field (passed p.y c.requires.y))
    (c.field_of.ensures ∙ ap coordinate_field (passed p.z c.requires.z))
