use Rattle.std.proofs.Common.{arith, ◌≡◌, ◌<◌, ◌*◌, ◌^◌, ◌++◌, ℕ, pos, List, [], ◌∷◌, true, false, length, take, drop, sym, ap, ap₂, ◌∙◌, subst}
use Rattle.std.specs.List.{flat_map}
use Rattle.std.proofs.lemmas.List.{drop_all}
use Rattle.byu_text.specs.Fields.{number_field}
use Rattle.byu_text.specs.Pieces.{Counts, AreMeshCounts, mesh_head_line}
use Rattle.byu_text.proofs.LineForms.{head_width, head_numbers, head_small}
use Rattle.byu_text.proofs.LineFields.{FieldsAt, body_width, same_there, fields_told, fields_written, number_told}
use Rattle.byu_text.proofs.head.read_head.Goals as goal

there : (x : Counts) (text line more : List ℕ) → AreMeshCounts x → length line ≡ 32
    → text ≡ (line ++ 10 ∷ []) ++ drop 33 text → text ≡ mesh_head_line x ++ more → FieldsAt line 0 (head_numbers x)
there x text line more i l e f = fields_told (head_numbers x) line 0 (head_small x i)
    (same_there text line (flat_map number_field (head_numbers x)) more 0 33 32 l e (head_width x i) f)

-- the numbers in the fields
record AreOf (x : Counts) (a b d m : ℕ) : Type 0 where
  parts : a ≡ x.parts
  vertices : b ≡ x.vertices
  polygons : d ≡ x.polygons
  entries : m ≡ 3 * x.polygons

are : (x : Counts) (line : List ℕ) (a b d m : ℕ) → AreMeshCounts x → FieldsAt line 0 (head_numbers x) → (a < 10 ^ 8)
    × (take 8 line ≡ number_field (pos a)) → (b < 10 ^ 8) × (take 8 (drop 8 line) ≡ number_field (pos b)) → (d < 10 ^ 8)
    × (take 8 (drop 16 line) ≡ number_field (pos d)) → (m < 10 ^ 8) × (take 8 (drop 24 line) ≡ number_field (pos m))
    → AreOf x a b d m
are x line a b d m i f p q r s =
    let few = i.few_parts in
    let vertices = i.few_vertices in
    let polygons = i.few_polygons in
    record {
      parts = number_told a x.parts (take 8 line) p.0 (omega arith) p.1 f.0;
      vertices = number_told b x.vertices (take 8 (drop 8 line)) q.0 (omega arith) q.1 f.1.0;
      polygons = number_told d x.polygons (take 8 (drop 16 line)) r.0 (omega arith) r.1 f.1.1.0;
      entries = number_told m (3 * x.polygons) (take 8 (drop 24 line)) s.0 (omega arith) s.1 f.1.1.1.0;
    }

same_counts : (a b d : ℕ) (x : Counts) → a ≡ x.parts → b ≡ x.vertices → d ≡ x.polygons
    → record { parts = a; vertices = b; polygons = d } ≡ x
same_counts a b d x p q r =
    ap₂ (λ (u v : ℕ). record { parts = u; vertices = v; polygons = d }) p q
    ∙ ap (λ (w : ℕ). record { parts = x.parts; vertices = x.vertices; polygons = w }) r

pub returns-in_err-line : goal.returns-in_err-line
returns-in_err-line c = rw c.from_residual.ensures (λ x more i e.
    (let body : List ℕ = flat_map number_field (head_numbers x) in
    c.in_err-line.ensures body more (body_width body 32 (head_width x i)) e))

pub returns-in_err-parts : goal.returns-in_err-parts
returns-in_err-parts c = rw c.from_residual-in_err-parts.ensures (λ x more i e.
    (let f = there x c.args.text.now c.in_ok-line.line.now more i c.in_ok-line.ensures.0 c.in_ok-line.ensures.1 e in
    c.in_err-parts.ensures x.parts (omega (arith, i.few_parts)) f.0))

pub returns-in_err-vertices : goal.returns-in_err-vertices
returns-in_err-vertices c = rw c.from_residual-in_err-vertices.ensures (λ x more i e.
    (let f = there x c.args.text.now c.in_ok-line.line.now more i c.in_ok-line.ensures.0 c.in_ok-line.ensures.1 e in
    c.in_err-vertices.ensures x.vertices (omega (arith, i.few_vertices)) f.1.0))

pub returns-in_err-polygons : goal.returns-in_err-polygons
returns-in_err-polygons c = rw c.from_residual-in_err-polygons.ensures (λ x more i e.
    (let f = there x c.args.text.now c.in_ok-line.line.now more i c.in_ok-line.ensures.0 c.in_ok-line.ensures.1 e in
    c.in_err-polygons.ensures x.polygons (omega (arith, i.few_polygons)) f.1.1.0))

pub returns-in_err-entries : goal.returns-in_err-entries
returns-in_err-entries c = rw c.from_residual-in_err-entries.ensures (λ x more i e.
    (let f = there x c.args.text.now c.in_ok-line.line.now more i c.in_ok-line.ensures.0 c.in_ok-line.ensures.1 e in
    c.in_err-entries.ensures (3 * x.polygons) (omega (arith, i.few_polygons)) f.1.1.1.0))

pub returns-then-not-is_head : goal.returns-then-not-is_head
returns-then-not-is_head c x more i e =
    let line = c.in_ok-line.line.now in
    let f = there x c.args.text.now line more i c.in_ok-line.ensures.0 c.in_ok-line.ensures.1 e in
    let r = are x line c.in_ok-parts.field-0 c.in_ok-vertices.field-0 c.in_ok-polygons.field-0 c.in_ok-entries.field-0 i
    f c.in_ok-parts.ensures c.in_ok-vertices.ensures c.in_ok-polygons.ensures c.in_ok-entries.ensures in
    let same = same_counts c.in_ok-parts.field-0 c.in_ok-vertices.field-0 c.in_ok-polygons.field-0 x r.parts r.vertices
    r.polygons in
    absurd (
    let t : c.is_head.result ≡ true = c.is_head.ensures.1 (subst AreMeshCounts (sym same) i) in
    let g : c.is_head.result ≡ false = c.if-not-is_head.true in cc)

pub returns-then-entries-polygons : goal.returns-then-entries-polygons
returns-then-entries-polygons c x more i e =
    let line = c.in_ok-line.line.now in
    let f = there x c.args.text.now line more i c.in_ok-line.ensures.0 c.in_ok-line.ensures.1 e in
    let r = are x line c.in_ok-parts.field-0 c.in_ok-vertices.field-0 c.in_ok-polygons.field-0 c.in_ok-entries.field-0 i
    f c.in_ok-parts.ensures c.in_ok-vertices.ensures c.in_ok-polygons.ensures c.in_ok-entries.ensures in
    absurd (c.if-entries-polygons.true (omega (arith, r.polygons, r.entries)))

pub returns : goal.returns
returns c =
    let line = c.in_ok-line.line.now in
    let h : Counts = record {
      parts = c.in_ok-parts.field-0;
      vertices = c.in_ok-vertices.field-0;
      polygons =
          c.in_ok-polygons.field-0;
    } in
    let entries : take 8 (drop 24 line) ≡ number_field (pos (3 * h.polygons)) = c.in_ok-entries.ensures.1
    ∙ ap (λ (m : ℕ). number_field (pos m)) c.if-entries-polygons.false in
    let written : line ≡ flat_map number_field (head_numbers h) =
    fields_written (head_numbers h) line 0 (
      c.in_ok-parts.ensures.1,
      (
        c.in_ok-vertices.ensures.1,
        (c.in_ok-polygons.ensures.1, (entries, drop_all 32 line (omega (arith, c.in_ok-line.ensures.0)))),
      ),
    ) in
    record {
      counts = c.is_head.ensures.0 c.if-not-is_head.false;
      line = c.in_ok-line.ensures.1
          ∙ ap (λ (l : List ℕ). (l ++ 10 ∷ []) ++ drop 33 c.args.text.now) written;
    }
