use Rattle.std.proofs.Common.{arith, ◌≤◌, ◌≡◌, ◌<◌, ◌+◌, ◌-◌, ◌++◌, ◌⊎◌, inl, inr, ℕ, ℤ, pos, List, [], ◌∷◌, true, false, length, take, drop, sym, ap, ◌∙◌, subst}
use Rattle.std.specs.List.{flat_map}
use Rattle.std.proofs.lemmas.List.{drop_all}
use Rattle.byu_text.specs.Fields.{number_field}
use Rattle.byu_text.specs.Pieces.{size_line}
use Rattle.byu_text.specs.Stages.{IsSize}
use Rattle.byu_text.proofs.LineForms.{size_width, size_small}
use Rattle.byu_text.proofs.LineFields.{FieldsAt, body_width, same_there, fields_told, fields_written, number_told}
use Rattle.byu_text.proofs.sizes.size_at.Goals as goal

abbrev numbers : ℕ → ℕ → List ℤ
numbers first n = pos first ∷ pos (first + n - 1) ∷ []

there : (first n : ℕ) (text line more : List ℕ) (at : ℕ) → first + n ≤ 10000000 → length line ≡ 16
    → drop at text ≡ (line ++ 10 ∷ []) ++ drop (at + 17) text → drop at text ≡ size_line first n ++ more
    → FieldsAt line 0 (numbers first n)
there first n text line more at fits l e f =
    fields_told (numbers first n) line 0 (size_small first n fits)
    (same_there text line (flat_map number_field (numbers first n)) more at (at + 17) 16 l e (size_width first n fits)
    f)

pub returns-in_err-line : goal.returns-in_err-line
returns-in_err-line c = rw c.from_residual.ensures (λ n more i e.
    (let body : List ℕ = flat_map number_field (numbers c.args.first n) in
    c.in_err-line.ensures body more (body_width body 16 (size_width c.args.first n (omega (arith, i.room)))) e))

pub returns-in_err-start : goal.returns-in_err-start
returns-in_err-start c = rw c.from_residual-in_err-start.ensures (λ n more i e.
    (let f = there c.args.first n c.args.text.now c.in_ok-line.line.now more c.args.at (omega (arith, i.room))
    c.in_ok-line.ensures.0 c.in_ok-line.ensures.1 e in
    c.in_err-start.ensures c.args.first (omega arith) f.0))

pub returns-in_err-last : goal.returns-in_err-last
returns-in_err-last c = rw c.from_residual-in_err-last.ensures (λ n more i e.
    (let f = there c.args.first n c.args.text.now c.in_ok-line.line.now more c.args.at (omega (arith, i.room))
    c.in_ok-line.ensures.0 c.in_ok-line.ensures.1 e in
    c.in_err-last.ensures (c.args.first + n - 1) (omega (arith, i.room)) f.1.0))

pub returns-then-start-first : goal.returns-then-start-first
returns-then-start-first c n more i e =
    let line = c.in_ok-line.line.now in
    let f = there c.args.first n c.args.text.now line more c.args.at (omega (arith, i.room)) c.in_ok-line.ensures.0
    c.in_ok-line.ensures.1 e in
    let start = number_told c.in_ok-start.field-0 c.args.first (take 8 line) c.in_ok-start.ensures.0 (omega arith)
    c.in_ok-start.ensures.1 f.0 in
    let last = number_told c.in_ok-last.field-0 (c.args.first + n - 1) (take 8 (drop 8 line)) c.in_ok-last.ensures.0
    (omega (arith, i.room)) c.in_ok-last.ensures.1 f.1.0 in
    neither c.in_ok-start.field-0 c.in_ok-last.field-0 c.args.first start (omega (arith, last, i.some))
    c.then-start-first.either
  where
    neither : (start last first : ℕ) → start ≡ first → first ≤ last → (start ≡ first → ⊥)
        ⊎ ((start ≡ first) × (last < first)) → ⊥
    neither start last first e l (inl f) = f e
    neither start last first e l (inr g) = absurd (omega (arith, l, g.1))

pub returns-then-is_size : goal.returns-then-is_size
returns-then-is_size c =
    let line = c.in_ok-line.line.now in
    let first : ℕ = c.args.first in
    let last : ℕ = c.in_ok-last.field-0 in
    let size : ℕ = last - first + 1 in
    let field : ℕ → List ℕ = λ m. number_field (pos m) in
    let same : last ≡ first + size - 1 = omega (arith, c.if-last-first.false) in
    let written : line ≡ flat_map number_field (numbers first size) =
    fields_written (numbers first size) line 0 (
      c.in_ok-start.ensures.1 ∙ ap field c.if-start-first.false,
      (c.in_ok-last.ensures.1 ∙ ap field same, drop_all 16 line (omega (arith, c.in_ok-line.ensures.0))),
    ) in (
      c.is_size.ensures.0 c.if-is_size.true,
      c.in_ok-line.ensures.1
          ∙ ap (λ (l : List ℕ). (l ++ 10 ∷ []) ++ drop (c.args.at + 17) c.args.text.now) written,
    )

pub returns-else-is_size : goal.returns-else-is_size
returns-else-is_size c n more i e =
    let line = c.in_ok-line.line.now in
    let f = there c.args.first n c.args.text.now line more c.args.at (omega (arith, i.room)) c.in_ok-line.ensures.0
    c.in_ok-line.ensures.1 e in
    let last = number_told c.in_ok-last.field-0 (c.args.first + n - 1) (take 8 (drop 8 line)) c.in_ok-last.ensures.0
    (omega (arith, i.room)) c.in_ok-last.ensures.1 f.1.0 in
    let size : c.in_ok-last.field-0 - c.args.first + 1 ≡ n = omega (arith, last, i.some) in
    absurd (
    let t : c.is_size.result ≡ true = c.is_size.ensures.1 (subst (IsSize c.args.left c.args.later) (sym size) i) in
    let g : c.is_size.result ≡ false = c.if-is_size.false in cc)
