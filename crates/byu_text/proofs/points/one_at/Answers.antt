use Rattle.std.proofs.Common.{arith, ◌≡◌, ◌+◌, ◌++◌, ℕ, List, [], ◌∷◌, length, drop, refl, sym, ap, ◌∙◌, subst, All}
use Rattle.std.specs.List.{flat_map}
use Rattle.std.proofs.lemmas.List.{append-nil}
use Rattle.std.proofs.lemmas.List.Elements.{All-nil, All-cons}
use Rattle.fku_types.specs.declared.points.Point.{Point}
use Rattle.fku_types.specs.Points.{IsInRange}
use Rattle.byu_text.specs.Fields.{point_fields, coordinates_line}
use Rattle.byu_text.specs.Stages.{AreNext}
use Rattle.byu_text.proofs.FieldBytes.{point_line_width}
use Rattle.byu_text.proofs.LineFields.{body_width, same_there, one_of}
use Rattle.byu_text.proofs.points.one_at.Goals as goal

width : (ps : List Point) → AreNext 1 ps → length (coordinates_line ps) ≡ 36 + 1
width ps a = omega (arith, point_line_width ps a.range, a.long)

pub returns-in_err-line : goal.returns-in_err-line
returns-in_err-line c = rw c.from_residual.ensures
    (λ ps more a e. c.in_err-line.ensures (flat_map point_fields ps) more
    (body_width (flat_map point_fields ps) 36 (width ps a)) e)

pub returns-in_err-point_of : goal.returns-in_err-point_of
returns-in_err-point_of c = rw c.from_residual-in_err-point_of.ensures (λ ps more a e.
    (let r = one_of ps a.long in
    let range : All IsInRange (r.first ∷ []) = subst (All IsInRange) r.is a.range in
    let same = same_there c.args.text.now c.in_ok-line.line.now (flat_map point_fields ps) more c.args.at
    (c.args.at + 37) 36 c.in_ok-line.ensures.0 c.in_ok-line.ensures.1 (width ps a) e in
    c.in_err-point_of.ensures r.first (range 0 r.first (omega arith))
    (same ∙ ap (flat_map point_fields) r.is ∙ append-nil (point_fields r.first))))

pub returns : goal.returns
returns c =
    let p : Point = c.in_ok-point_of.field-0 in
    let told = c.in_ok-point_of.ensures in (
      record { range = All-cons IsInRange p [] told.0 (All-nil IsInRange); long = refl },
      c.in_ok-line.ensures.1 ∙ ap (λ (l : List ℕ). (l ++ 10 ∷ []) ++ drop (c.args.at + 37) c.args.text.now)
          (told.1 ∙ sym (append-nil (point_fields p))),
    )
