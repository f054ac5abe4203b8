use Rattle.std.proofs.Common.{◌≡◌, ℕ, ℤ, List, length, take, drop, sym, ap, ◌∙◌, subst}
use Rattle.fku_types.specs.declared.points.Point.{Point}
use Rattle.fku_types.specs.Points.{IsInRange, IsCoordinate}
use Rattle.byu_text.specs.Fields.{coordinate_field, point_fields}
use Rattle.byu_text.proofs.FieldLaws.{passed}
use Rattle.byu_text.proofs.LineFields.{point_told, point_written}
use Rattle.byu_text.proofs.points.point_of.Goals as goal

pub returns-in_err-x : goal.returns-in_err-x
returns-in_err-x c = rw c.from_residual.ensures
    (λ p h e. c.in_err-x.ensures p.x h.x (point_told p c.args.fields.now h e).0)

pub returns-in_err-y : goal.returns-in_err-y
returns-in_err-y c = rw c.from_residual-in_err-y.ensures
    (λ p h e. c.in_err-y.ensures p.y h.y (point_told p c.args.fields.now h e).1)

pub returns-in_err-z : goal.returns-in_err-z
returns-in_err-z c = rw c.from_residual-in_err-z.ensures
    (λ p h e. c.in_err-z.ensures p.z h.z (point_told p c.args.fields.now h e).2)

-- three fields write a point, as it is passed
written : (x y z : ℤ) (fields : List ℕ) → length fields ≡ 36 → IsCoordinate x × (take 12 fields ≡ coordinate_field x)
    → IsCoordinate y × (take 12 (drop 12 fields) ≡ coordinate_field y) → IsCoordinate z
    × (take 12 (drop 24 fields) ≡ coordinate_field z) → (p : Point) → p.x ≡ x → p.y ≡ y → p.z ≡ z → IsInRange p
    × (fields ≡ point_fields p)
written x y z fields l a b c p i j k = (
  record { x = subst IsCoordinate (sym i) a.0; y = subst IsCoordinate (sym j) b.0; z = subst IsCoordinate (sym k) c.0 },
  point_written p.x p.y p.z fields l (a.1 ∙ ap coordinate_field (sym i)) (b.1 ∙ ap coordinate_field (sym j))
      (c.1 ∙ ap coordinate_field (sym k)),
)

pub returns : goal.returns
returns c =
    let x = c.in_ok-x.ensures in
    let y = c.in_ok-y.ensures in
    let z = c.in_ok-z.ensures in
    written c.in_ok-x.x c.in_ok-y.y c.in_ok-z.z c.args.fields.now c.requires x y z _ (passed c.in_ok-x.x x.0)
    (passed c.in_ok-y.y y.0) (passed c.in_ok-z.z z.0)
