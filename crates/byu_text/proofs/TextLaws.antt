-- Lines joined to a text.
use Rattle.std.proofs.Common.{◌≡◌, ℕ, ◌+◌, ◌-◌, ◌<◌, List, [], ◌∷◌, ◌++◌, length, take, drop, get_or, sym, ap, ap₂, ◌∙◌, arith, append_assoc, min, subst, All}
use Rattle.std.specs.List.{flat_map}
use Rattle.std.proofs.lemmas.List.{take_more, flat_map_more, append-nil, drop_more}
use Rattle.std.proofs.lemmas.List.FromFn.{length-map-range_with_len, get_or-map-range_with_len}
use Rattle.std.proofs.lemmas.List.Elements.{All-from_recursion, recursion_from_All}
use Rattle.fku_types.specs.declared.points.Point.{Point}
use Rattle.fku_types.proofs.ListLaws.{all_rest}
use Rattle.byu_text.specs.Fields.{number_line, coordinates_line}
use Rattle.byu_text.specs.declared.numbers.VertexFields.{VertexFields}
use Rattle.byu_text.specs.Numbers.{vertex_fields, vertex_table}
use Rattle.byu_text.specs.Byu.{part_ranges, vertex_lines, polygon_line}
use Rattle.std.specs.Prelude.{pos}

-- one more piece
pub pieces_more : {X : Type 0} (f : X → List ℕ) (old text more : List ℕ) (xs : List X) (i : ℕ) (d : X) → i < length xs
    → text ≡ old ++ flat_map f (take i xs) → more ≡ text ++ f (get_or xs i d)
    → more ≡ old ++ flat_map f (take (i + 1) xs)
pieces_more {X = X} f old text more xs i d l e m =
    m ∙ ap (λ (t : List ℕ). t ++ f (get_or xs i d)) e ∙ flat_map_more f old (take i xs) (get_or xs i d)
    ∙ ap (λ (ys : List X). old ++ flat_map f ys) (sym (take_more xs i d l))

-- the lines of the parts, with one more part
pub part_more : (parts : List (List (List ℕ))) (i next n : ℕ) (text more whole : List ℕ) → i < length parts
    → n ≡ length (get_or parts i []) →
    more ≡ text ++ number_line (pos next ∷ pos (next + n - 1) ∷ []) → text ++ part_ranges next (drop i parts) ≡ whole
    → more ++ part_ranges (next + n) (drop (i + 1) parts) ≡ whole
part_more parts i next n text more whole l e m inv =
    let line : ℕ → List ℕ = λ k. number_line (pos next ∷ pos (next + k - 1) ∷ []) in
    let rest : List (List (List ℕ)) = drop (i + 1) parts in
    ap (λ (t : List ℕ). t ++ part_ranges (next + n) rest) m
    ∙ append_assoc text (line n) (part_ranges (next + n) rest)
    ∙ ap (λ (k : ℕ). text ++ (line k ++ part_ranges (next + k) rest)) e
    ∙ ap (λ (l : List (List (List ℕ))). text ++ part_ranges next l) (sym (drop_more parts i [] l)) ∙ inv

-- the lines of the vertices, with one more line
pub vertices_more : (points rest left : List Point) (text more whole : List ℕ) → left ≡ points ++ rest
    → length points ≡ min 2 (length left) → 0 < length left → more ≡ text ++ coordinates_line points
    → text ++ vertex_lines left ≡ whole → more ++ vertex_lines rest ≡ whole
vertices_more [] rest left text more whole e n l m inv = absurd (omega (arith, n))
vertices_more (p ∷ []) [] left text more whole e n l m inv = append-nil more ∙ m
    ∙ ap (λ (ps : List Point). text ++ vertex_lines ps) (sym e) ∙ inv
vertices_more (p ∷ []) (r ∷ rest) left text more whole e n l m inv = absurd (omega (arith, n, ap length e))
vertices_more (p ∷ q ∷ []) rest left text more whole e n l m inv =
    ap (λ (t : List ℕ). t ++ vertex_lines rest) m
    ∙ append_assoc text (coordinates_line (p ∷ q ∷ [])) (vertex_lines rest)
    ∙ ap (λ (ps : List Point). text ++ vertex_lines ps) (sym e) ∙ inv
vertices_more (p ∷ q ∷ r ∷ points) rest left text more whole e n l m inv = absurd (omega (arith, n))

pub all_after : {X : Type 0} (P : X → Type 0) (xs ys left : List X) → left ≡ xs ++ ys → All P left → All P ys
all_after P xs ys left e h = All-from_recursion P ys
    (all_rest P xs ys (recursion_from_All P (xs ++ ys) (subst (All P) e h)))

-- a table of vertices' fields has as many as it is made for
pub table_long : (table : List VertexFields) (count : ℕ) → table ≡ vertex_table count → length table ≡ count
table_long table count is = ap length is ∙ length-map-range_with_len vertex_fields 0 count

pub table_whole : (table : List VertexFields) (count : ℕ) → table ≡ vertex_table count
    → table ≡ vertex_table (length table)
table_whole table count is = is ∙ ap vertex_table (sym (table_long table count is))

-- the line of a triangle, joined from the fields of its vertices
fields_in_line : (old a b c : List ℕ)
    → (((old ++ a) ++ b) ++ c) ++ 10 ∷ [] ≡ old ++ ((a ++ (b ++ (c ++ []))) ++ 10 ∷ [])
fields_in_line old a b c = simp (append_assoc, append-nil)

fields_at : (table : List VertexFields) (id : ℕ) (d : VertexFields) → table ≡ vertex_table (length table)
    → id < length table → get_or table id d ≡ vertex_fields id
fields_at table id d is l = ap (λ (t : List VertexFields). get_or t id d) is
    ∙ get_or-map-range_with_len vertex_fields 0 (length table) id id d l (omega arith)

pub triangle_made : (old : List ℕ) (table : List VertexFields) (a b c : ℕ) (d : VertexFields)
    → table ≡ vertex_table (length table) → a < length table → b < length table → c < length table →
    (((old ++ (get_or table a d).positive) ++ (get_or table b d).positive) ++ (get_or table c d).negative) ++ 10 ∷ []
    ≡ old ++ polygon_line (a ∷ b ∷ c ∷ [])
triangle_made old table a b c d is la lb lc =
    ap₂ (λ (f g : VertexFields). (((old ++ f.positive) ++ g.positive) ++ (get_or table c d).negative) ++ 10 ∷ [])
    (fields_at table a d is la) (fields_at table b d is lb)
    ∙ ap (λ (f : VertexFields). (((old ++ (vertex_fields a).positive) ++ (vertex_fields b).positive) ++ f.negative)
    ++ 10 ∷ []) (fields_at table c d is lc)
    ∙ fields_in_line old (vertex_fields a).positive (vertex_fields b).positive (vertex_fields c).negative

-- the pieces of a whole text
pub text_made : (a b c d empty one two three last : List ℕ) → empty ≡ [] → one ≡ empty ++ a → two ≡ one ++ b
    → three ≡ two ++ c → last ≡ three ++ d → last ≡ a ++ (b ++ (c ++ d))
text_made a b c d empty one two three last e f g h i =
    i ∙ ap (λ (t : List ℕ). t ++ d) (h
    ∙ ap (λ (t : List ℕ). t ++ c) (g ∙ ap (λ (t : List ℕ). t ++ b) (f ∙ ap (λ (t : List ℕ). t ++ a) e)))
    ∙ append_assoc (a ++ b) c d ∙ append_assoc a b (c ++ d)
