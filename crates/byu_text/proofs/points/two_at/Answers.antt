use Rattle.std.proofs.Common.{arith, ◌≡◌, ◌+◌, ◌++◌, ℕ, List, [], ◌∷◌, length, take, drop, refl, sym, ap, ◌∙◌, subst, All}
use Rattle.std.specs.List.{flat_map}
use Rattle.std.proofs.lemmas.List.{length-take-le}
use Rattle.std.proofs.lemmas.List.Elements.{All-nil, All-cons}
use Rattle.fku_types.specs.declared.points.Point.{Point}
use Rattle.fku_types.specs.Points.{IsInRange}
use Rattle.byu_text.specs.Fields.{point_fields, coordinates_line}
use Rattle.byu_text.specs.Stages.{AreNext}
use Rattle.byu_text.proofs.FieldBytes.{point_line_width}
use Rattle.byu_text.proofs.LineFields.{body_width, same_there, two_of, two_told, two_written}
use Rattle.byu_text.proofs.points.two_at.Goals as goal

width : (ps : List Point) → AreNext 2 ps → length (coordinates_line ps) ≡ 72 + 1
width ps a = omega (arith, point_line_width ps a.range, a.long)

-- the two points of the line at that place
record There (ps : List Point) (line : List ℕ) : Type 0 where
  first : Point
  second : Point
  a_range : IsInRange first
  b_range : IsInRange second
  a : take 36 line ≡ point_fields first
  b : take 36 (drop 36 line) ≡ point_fields second

there : (ps : List Point) (text line more : List ℕ) (at : ℕ) → AreNext 2 ps → length line ≡ 72
    → drop at text ≡ (line ++ 10 ∷ []) ++ drop (at + 73) text → drop at text ≡ coordinates_line ps ++ more
    → There ps line
there ps text line more at a l e f =
    let r = two_of ps a.long in
    let range : All IsInRange (r.first ∷ r.second ∷ []) = subst (All IsInRange) r.is a.range in
    let p = range 0 r.first (omega arith) in
    let q = range 1 r.second (omega arith) in
    let t = two_told r.first r.second line p q
    (same_there text line (flat_map point_fields ps) more at (at + 73) 72 l e (width ps a) f
    ∙ ap (flat_map point_fields) r.is) in
    record { first = r.first; second = r.second; a_range = p; b_range = q; a = t.0; b = t.1 }

pub returns-in_err-line : goal.returns-in_err-line
returns-in_err-line c = rw c.from_residual.ensures
    (λ ps more a e. c.in_err-line.ensures (flat_map point_fields ps) more
    (body_width (flat_map point_fields ps) 72 (width ps a)) e)

pub returns-in_err-first : goal.returns-in_err-first
returns-in_err-first c = rw c.from_residual-in_err-first.ensures (λ ps more a e.
    (let r = there ps c.args.text.now c.in_ok-line.line.now more c.args.at a c.in_ok-line.ensures.0
    c.in_ok-line.ensures.1 e in
    c.in_err-first.ensures r.first r.a_range r.a))

pub returns-in_err-second : goal.returns-in_err-second
returns-in_err-second c = rw c.from_residual-in_err-second.ensures (λ ps more a e.
    (let r = there ps c.args.text.now c.in_ok-line.line.now more c.args.at a c.in_ok-line.ensures.0
    c.in_ok-line.ensures.1 e in
    c.in_err-second.ensures r.second r.b_range r.b))

pub slice_bounds-point_of-end : goal.slice_bounds-point_of-end
slice_bounds-point_of-end c = sym (length-take-le 36 c.in_ok-line.line.now (omega (arith, c.in_ok-line.ensures.0)))

pub point_of-requires : goal.point_of-requires
point_of-requires c = length-take-le 36 c.in_ok-line.line.now (omega (arith, c.in_ok-line.ensures.0))

pub returns : goal.returns
returns c =
    let p : Point = c.in_ok-first.first in
    let q : Point = c.in_ok-second.second in
    let first = c.in_ok-first.ensures in
    let second = c.in_ok-second.ensures in (
      record {
        range = All-cons IsInRange p (q ∷ []) first.0 (All-cons IsInRange q [] second.0 (All-nil IsInRange));
        long = refl;
      },
      c.in_ok-line.ensures.1 ∙ ap (λ (l : List ℕ). (l ++ 10 ∷ []) ++ drop (c.args.at + 73) c.args.text.now)
          (two_written p q c.in_ok-line.line.now c.in_ok-line.ensures.0 first.1 second.1),
    )
