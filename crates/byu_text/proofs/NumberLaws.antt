-- The fields of a vertex's number, and those of the next one.
use Rattle.std.proofs.Common.{◌≡◌, ℕ, suc, ◌+◌, ◌-◌, ◌%◌, ◌/◌, ◌<◌, ◌≤◌, ◌^◌, ◌⊎◌, inl, inr, pos, negsuc, List, [], ◌∷◌, ◌++◌, length, get_or, replicate, set, sym, ap, ap₂, ◌∙◌, arith, append_assoc}
use Rattle.std.specs.Prelude.{decimal}
use Rattle.std.proofs.lemmas.List.{length-append, length-replicate, get_or_at, set_at}
use Rattle.std.proofs.lemmas.Bool.{cases_lt}
use Rattle.std.proofs.lemmas.Fmt.{decimal_digit, decimal_step, length-decimal-le}
use Rattle.fku_types.specs.declared.limits.TheConstants.{MAX_MESH_VERTICES}
use Rattle.byu_text.specs.declared.numbers.VertexFields.{VertexFields}
use Rattle.byu_text.specs.Fields.{number_field}
use Rattle.byu_text.specs.Numbers.{vertex_fields}

-- a text right-aligned in 8 columns
abbrev right : List ℕ → List ℕ
right text = replicate (8 - length text) 32 ++ text

right_is : (front : List ℕ) (x : ℕ) → length front ≤ 7
    → right (front ++ x ∷ []) ≡ (replicate (7 - length front) 32 ++ front) ++ x ∷ []
right_is front x l =
    let e : 8 - length (front ++ x ∷ []) ≡ 7 - length front = omega (arith, length-append front (x ∷ [])) in
    ap (λ (k : ℕ). replicate k 32 ++ (front ++ x ∷ [])) e
    ∙ sym (append_assoc (replicate (7 - length front) 32) front (x ∷ []))

before_last : (front : List ℕ) → length front ≤ 7 → length (replicate (7 - length front) 32 ++ front) ≡ 7
before_last front l = omega (
  arith,
  length-append (replicate (7 - length front) 32) front,
  length-replicate {A = ℕ} (7 - length front) 32,
)

last_read : (text front : List ℕ) (x : ℕ) → length front ≤ 7 → text ≡ front ++ x ∷ [] → get_or (right text) 7 0 ≡ x
last_read text front x l e =
    ap (λ (t : List ℕ). get_or (right t) 7 0) e ∙ ap (λ (t : List ℕ). get_or t 7 0) (right_is front x l)
    ∙ get_or_at (replicate (7 - length front) 32 ++ front) x [] 0 7 (before_last front l)

last_set : (text more front : List ℕ) (x y : ℕ) → length front ≤ 7 → text ≡ front ++ x ∷ [] → more ≡ front ++ y ∷ []
    → set (right text) 7 y ≡ right more
last_set text more front x y l e m =
    ap (λ (t : List ℕ). set (right t) 7 y) e ∙ ap (λ (t : List ℕ). set t 7 y) (right_is front x l)
    ∙ set_at (replicate (7 - length front) 32 ++ front) x [] y 7 (before_last front l) ∙ sym (right_is front y l)
    ∙ sym (ap right m)

-- a number's text up to its last digit, which the next number's text shares if that digit is not 9
record Last (n : ℕ) : Type 0 where
  front : List ℕ
  short : length front ≤ 6
  now : decimal n ≡ front ++ (48 + n % 10) ∷ []
  next : n % 10 < 9 → decimal (n + 1) ≡ front ++ (49 + n % 10) ∷ []

last : (n : ℕ) → n < 10 ^ 7 → Last n
last n small = split (cases_lt n 10)
  where
    split : (n < 10) ⊎ (10 ≤ n) → Last n
    split (inl l) = record {
      front = [];
      short = omega arith;
      now = decimal_digit n l ∙ ap (λ (k : ℕ). (48 + k) ∷ []) (let e : n ≡ n % 10 = omega arith in e);
      next = λ h. (decimal_digit (n + 1) (omega arith)
          ∙ ap (λ (k : ℕ). k ∷ []) (let e : 48 + (n + 1) ≡ 49 + n % 10 = omega arith in e));
    }
    split (inr l) = record {
      front = decimal (n / 10);
      short = length-decimal-le 6 (n / 10) (omega arith) (omega arith) (omega arith);
      now = decimal_step n l (omega arith);
      next = λ h. (decimal_step (n + 1) (omega arith) (omega arith)
          ∙ ap₂ (λ (q d : ℕ). decimal q ++ d ∷ []) (let e : (n + 1) / 10 ≡ n / 10 = omega arith in e)
          (let e : 48 + (n + 1) % 10 ≡ 49 + n % 10 = omega arith in e));
    }

-- the text of a negative number
minus : (n : ℕ) (text : List ℕ) → decimal (n + 1) ≡ text → 45 ∷ decimal (suc n) ≡ 45 ∷ text
minus n text e = ap (λ (t : List ℕ). 45 ∷ t) (ap (λ (m : ℕ). decimal m) (let f : suc n ≡ n + 1 = omega arith in f) ∙ e)

pub positive_last : (id : ℕ) (fields : VertexFields) → id ≤ MAX_MESH_VERTICES → fields ≡ vertex_fields id
    → get_or fields.positive 7 0 ≡ 48 + (id + 1) % 10
positive_last id fields l is =
    let t = last (id + 1) (omega arith) in
    ap (λ (f : VertexFields). get_or f.positive 7 0) is
    ∙ last_read (decimal (id + 1)) t.front _ (omega (arith, t.short)) t.now

pub negative_last : (id : ℕ) (fields : VertexFields) → id ≤ MAX_MESH_VERTICES → fields ≡ vertex_fields id
    → get_or fields.negative 7 0 ≡ 48 + (id + 1) % 10
negative_last id fields l is =
    let t = last (id + 1) (omega arith) in
    ap (λ (f : VertexFields). get_or f.negative 7 0) is
    ∙ last_read (45 ∷ decimal (suc id)) (45 ∷ t.front) _ (omega (arith, t.short)) (minus id _ t.now)

pub next_made : (id p n : ℕ) (fields : VertexFields) → id < MAX_MESH_VERTICES → fields ≡ vertex_fields id
    → (id + 1) % 10 < 9 → p ≡ 49 + (id + 1) % 10 → n ≡ 49 + (id + 1) % 10 →
    let r : VertexFields = record { positive = set fields.positive 7 p; negative = set fields.negative 7 n } in
    r ≡ vertex_fields (id + 1)
next_made id p n fields l is h pe ne =
    let t = last (id + 1) (omega arith) in
    let y : ℕ = 49 + (id + 1) % 10 in
    let positive : set fields.positive 7 p ≡ number_field (pos (id + 1 + 1)) =
    ap₂ (λ (f : VertexFields) (x : ℕ). set f.positive 7 x) is pe
    ∙ last_set (decimal (id + 1)) (decimal (id + 1 + 1)) t.front _ y (omega (arith, t.short)) t.now (t.next h) in
    let negative : set fields.negative 7 n ≡ number_field (negsuc (id + 1)) =
    ap₂ (λ (f : VertexFields) (x : ℕ). set f.negative 7 x) is ne
    ∙ last_set (45 ∷ decimal (suc id)) (45 ∷ decimal (suc (id + 1))) (45 ∷ t.front) _ y (omega (arith, t.short))
    (minus id _ t.now) (minus (id + 1) _ (t.next h)) in
    ap₂ (λ (a b : List ℕ). let r : VertexFields = record { positive = a; negative = b } in r) positive negative
