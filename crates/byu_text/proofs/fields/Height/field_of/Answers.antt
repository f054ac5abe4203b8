use Rattle.std.proofs.Common.{◌≡◌, ap, sym, ◌∙◌, to_z, of_z, w32, to_z-of_z}
use Rattle.byu_text.specs.declared.fields.Height.{Height}
use Rattle.byu_text.specs.Fields.{coordinate_field}
use Rattle.byu_text.proofs.FieldLaws.{passed}
use Rattle.byu_text.proofs.fields.Height.field_of.Goals as goal
use Rattle.byu_text.proofs.fields.Height.field_of.Goals.{then-value-self, else-value-self}

pub returns : goal.returns
returns c =
    let height = c.if-value-self.self in
    let back = to_z-of_z c.ranges.value in
    let same : height.value ≡ c.args.value = elim c.if-value-self.branch [
      | then-value-self w ↦ ap (λ (h : Height). h.value) w.self-is ∙ w.new.ensures ∙ back
      | else-value-self w ↦ sym (passed height.value height.in_range)
          ∙ ap (λ (h : Height). to_z w32 (of_z w32 h.value)) w.self-is ∙ sym (ap (to_z w32) w.if-value-self.false)
          ∙ back
    ] in
    height.made ∙ ap coordinate_field same
