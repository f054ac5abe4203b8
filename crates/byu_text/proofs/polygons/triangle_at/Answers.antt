use Rattle.std.proofs.Common.{arith, ◌≡◌, ◌<◌, ◌+◌, ◌-◌, ◌++◌, ℕ, pos, true, false, List, [], ◌∷◌, length, take, drop, refl, ap, ◌∙◌}
use Rattle.std.specs.List.{flat_map}
use Rattle.std.proofs.lemmas.List.{drop_all}
use Rattle.std.proofs.lemmas.List.Elements.{All-nil, All-cons}
use Rattle.byu_text.specs.Fields.{number_field}
use Rattle.byu_text.specs.Byu.{vertex_numbers, polygon_line}
use Rattle.byu_text.specs.Pieces.{Counts, AreMeshCounts, IsKnownTriangle}
use Rattle.byu_text.specs.Stages.{counts_of}
use Rattle.byu_text.proofs.LineForms.{triangle_width}
use Rattle.byu_text.proofs.LineFields.{body_width, same_there, fields_written, number_told, id_told, triangle_told, TellsTriangle}
use Rattle.byu_text.proofs.polygons.triangle_at.Goals as goal
use Rattle.byu_text.proofs.polygons.triangle_at.Goals.{then-not-is_vertex-via-then-not-is_vertex, then-not-is_vertex-via-else-not-is_vertex+then-not-is_vertex-2, then-not-is_vertex-via-else-not-is_vertex+else-not-is_vertex-2+then-not-is_vertex-3}

there : (h : Counts) (t text line more : List ℕ) (at : ℕ) → AreMeshCounts h → IsKnownTriangle h t → length line ≡ 24
    → drop at text ≡ (line ++ 10 ∷ []) ++ drop (at + 25) text → drop at text ≡ polygon_line t ++ more
    → TellsTriangle h t line
there h t text line more at i k l e f =
    triangle_told h t line i k (same_there text line (flat_map number_field (vertex_numbers t)) more at (at + 25) 24 l e
    (triangle_width h t i k) f)

pub returns-in_err-line : goal.returns-in_err-line
returns-in_err-line c = rw c.from_residual.ensures (λ t more k e.
    c.in_err-line.ensures (flat_map number_field (vertex_numbers t)) more
    (body_width (flat_map number_field (vertex_numbers t)) 24
    (triangle_width (counts_of c.args.head) t c.requires.head k)) e)

pub returns-in_err-a : goal.returns-in_err-a
returns-in_err-a c = rw c.from_residual-in_err-a.ensures (λ t more k e.
    (let r = there (counts_of c.args.head) t c.args.text.now c.in_ok-line.line.now more c.args.at c.requires.head k
    c.in_ok-line.ensures.0 c.in_ok-line.ensures.1 e in
    c.in_err-a.ensures (r.first + 1) (omega (arith, r.few, r.a_known)) r.a))

pub returns-in_err-b : goal.returns-in_err-b
returns-in_err-b c = rw c.from_residual-in_err-b.ensures (λ t more k e.
    (let r = there (counts_of c.args.head) t c.args.text.now c.in_ok-line.line.now more c.args.at c.requires.head k
    c.in_ok-line.ensures.0 c.in_ok-line.ensures.1 e in
    c.in_err-b.ensures (r.second + 1) (omega (arith, r.few, r.b_known)) r.b))

pub returns-in_err-c : goal.returns-in_err-c
returns-in_err-c c = rw c.from_residual-in_err-c.ensures (λ t more k e.
    (let r = there (counts_of c.args.head) t c.args.text.now c.in_ok-line.line.now more c.args.at c.requires.head k
    c.in_ok-line.ensures.0 c.in_ok-line.ensures.1 e in
    c.in_err-c.ensures r.third (omega (arith, r.few, r.c_known)) r.c))

pub returns-then-not-is_vertex : goal.returns-then-not-is_vertex
returns-then-not-is_vertex c t more k e =
    let line = c.in_ok-line.line.now in
    let r = there (counts_of c.args.head) t c.args.text.now line more c.args.at c.requires.head k c.in_ok-line.ensures.0
    c.in_ok-line.ensures.1 e in
    let x = number_told c.in_ok-a.a (r.first + 1) (take 8 line) c.in_ok-a.ensures.0 (omega (arith, r.few, r.a_known))
    c.in_ok-a.ensures.1 r.a in
    let y = number_told c.in_ok-b.b (r.second + 1) (take 8 (drop 8 line)) c.in_ok-b.ensures.0
    (omega (arith, r.few, r.b_known)) c.in_ok-b.ensures.1 r.b in
    let z = id_told c.in_ok-c.c r.third (take 8 (drop 16 line)) c.in_ok-c.ensures.0 (omega (arith, r.few, r.c_known))
    c.in_ok-c.ensures.1 r.c in
    elim c.then-not-is_vertex.branch [
      | then-not-is_vertex-via-then-not-is_vertex w ↦ absurd
          (let y : c.is_vertex.result ≡ true = c.is_vertex.ensures.1 (omega (arith, x), omega (arith, x, r.a_known)) in
          let n : c.is_vertex.result ≡ false = w.if-not-is_vertex.true in cc)
      | then-not-is_vertex-via-else-not-is_vertex+then-not-is_vertex-2 w ↦ absurd
          (let y : w.is_vertex-else-not-is_vertex.result ≡ true =
          w.is_vertex-else-not-is_vertex.ensures.1 (omega (arith, y), omega (arith, y, r.b_known)) in
          let n : w.is_vertex-else-not-is_vertex.result ≡ false = w.if-not-is_vertex-2.true in cc)
      | then-not-is_vertex-via-else-not-is_vertex+else-not-is_vertex-2+then-not-is_vertex-3 w ↦ absurd
          (let y : w.is_vertex-else-not-is_vertex-2.result ≡ true =
          w.is_vertex-else-not-is_vertex-2.ensures.1 (omega (arith, z), omega (arith, z, r.c_known)) in
          let n : w.is_vertex-else-not-is_vertex-2.result ≡ false = w.if-not-is_vertex-3.true in cc)
    ]

pub returns : goal.returns
returns c =
    let line = c.in_ok-line.line.now in
    let n : ℕ = c.args.head.vertices in
    let a : ℕ = c.in_ok-a.a in
    let b : ℕ = c.in_ok-b.b in
    let d : ℕ = c.in_ok-c.c in
    let x = c.is_vertex.ensures.0 c.if-not-is_vertex.false in
    let y = c.is_vertex-else-not-is_vertex.ensures.0 c.if-not-is_vertex-2.false in
    let z = c.is_vertex-else-not-is_vertex-2.ensures.0 c.if-not-is_vertex-3.false in
    let field : ℕ → List ℕ = λ m. number_field (pos m) in
    let first : a ≡ a - 1 + 1 = omega (arith, x.0) in
    let second : b ≡ b - 1 + 1 = omega (arith, y.0) in
    let Known : ℕ → Type 0 = λ id. id < n in
    let written : line ≡ flat_map number_field (vertex_numbers ((a - 1) ∷ (b - 1) ∷ d ∷ [])) =
    fields_written (vertex_numbers ((a - 1) ∷ (b - 1) ∷ d ∷ [])) line 0 (
      c.in_ok-a.ensures.1 ∙ ap field first,
      (
        c.in_ok-b.ensures.1 ∙ ap field second,
        (c.in_ok-c.ensures.1, drop_all 24 line (omega (arith, c.in_ok-line.ensures.0))),
      ),
    ) in (
      (
        refl,
        All-cons Known (a - 1) ((b - 1) ∷ d ∷ []) (omega (arith, x.0, x.1))
            (All-cons Known (b - 1) (d ∷ []) (omega (arith, y.0, y.1))
            (All-cons Known d [] (omega (arith, z.1)) (All-nil Known))),
      ),
      c.in_ok-line.ensures.1 ∙ ap (λ (l : List ℕ). (l ++ 10 ∷ []) ++ drop (c.args.at + 25) c.args.text.now) written,
    )
