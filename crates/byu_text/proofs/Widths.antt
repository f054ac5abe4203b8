-- The lengths of lines, and what several lines determine together.
use Rattle.std.proofs.Common.{◌≡◌, ℕ, zero, suc, ◌+◌, ◌*◌, ◌/◌, ◌<◌, ◌≤◌, List, [], ◌∷◌, ◌++◌, length, take, map, refl, sym, ap, ap₂, ◌∙◌, arith, append_assoc, All}
use Rattle.std.specs.Prelude.{sum}
use Rattle.std.specs.List.{concat}
use Rattle.std.proofs.lemmas.List.{length-append, take_at, append-nil}
use Rattle.std.proofs.lemmas.List.Sums.{sum_by-cons}
use Rattle.std.proofs.lemmas.List.Elements.{All-head, All-tail, All-take, All-drop}
use Rattle.std.proofs.lemmas.List.Folds.{concat-append}
use Rattle.fku_types.specs.declared.points.Point.{Point}
use Rattle.fku_types.specs.Points.{IsInRange}
use Rattle.byu_text.specs.Fields.{coordinates_line}
use Rattle.byu_text.specs.Byu.{polygon_line}
use Rattle.byu_text.specs.Pieces.{Counts, size_line, AreMeshCounts, size_lines, point_lines, IsKnownTriangle}
use Rattle.byu_text.proofs.Cancel.{split_same}
use Rattle.byu_text.proofs.FieldBytes.{point_line_width, point_line_one}
use Rattle.byu_text.proofs.LineForms.{size_width, size_one, triangle_width, triangle_one}

-- ---- widths

pub sizes_width : (next : ℕ) (sizes : List ℕ) → next + sum sizes ≤ 10000000
    → length (concat (size_lines next sizes)) ≡ 17 * length sizes
sizes_width next [] l = refl
sizes_width next (n ∷ ns) l =
    let s = sum_by-cons (λ (x : ℕ). x) n ns in
    omega (
      arith,
      length-append (size_line next n) (concat (size_lines (next + n) ns)),
      size_width next n (omega (arith, s)),
      sizes_width (next + n) ns (omega (arith, s)),
    )

pub points_width : (ps : List Point) → All IsInRange ps
    → length (concat (point_lines ps)) ≡ 36 * length ps + (length ps + 1) / 2
points_width [] a = refl
points_width (p ∷ []) a = omega (arith, length-append (coordinates_line (p ∷ [])) [], point_line_width (p ∷ []) a)
points_width (p ∷ q ∷ ps) a =
    omega (
      arith,
      length-append (coordinates_line (p ∷ q ∷ [])) (concat (point_lines ps)),
      point_line_width (p ∷ q ∷ []) (All-take IsInRange 2 (p ∷ q ∷ ps) a),
      points_width ps (All-drop IsInRange 2 (p ∷ q ∷ ps) a),
    )

pub triangles_width : (h : Counts) → AreMeshCounts h → (ts : List (List ℕ)) → All (IsKnownTriangle h) ts
    → length (concat (map polygon_line ts)) ≡ 25 * length ts
triangles_width h i [] a = refl
triangles_width h i (t ∷ ts) a =
    omega (
      arith,
      length-append (polygon_line t) (concat (map polygon_line ts)),
      triangle_width h t i (All-head (IsKnownTriangle h) t ts a),
      triangles_width h i ts (All-tail (IsKnownTriangle h) t ts a),
    )

-- ---- one text for each

pub sizes_same : (next : ℕ) (xs ys : List ℕ) (rest more : List ℕ) → length xs ≡ length ys → All (λ n. 1 ≤ n) xs
    → All (λ n. 1 ≤ n) ys → next + sum xs ≤ 10000000 → next + sum ys ≤ 10000000 →
    concat (size_lines next xs) ++ rest ≡ concat (size_lines next ys) ++ more → (xs ≡ ys) × (rest ≡ more)
sizes_same next [] [] rest more l a b f g e = (refl, e)
sizes_same next [] (n ∷ ns) rest more l a b f g e = absurd (omega (arith, l))
sizes_same next (m ∷ ms) [] rest more l a b f g e = absurd (omega (arith, l))
sizes_same next (m ∷ ms) (n ∷ ns) rest more l a b f g e =
    let P : ℕ → Type 0 = λ n. 1 ≤ n in
    let s = sum_by-cons (λ (x : ℕ). x) m ms in
    let t = sum_by-cons (λ (x : ℕ). x) n ns in
    let fm : next + m ≤ 10000000 = omega (arith, s) in
    let fn : next + n ≤ 10000000 = omega (arith, t) in
    let first = split_same (size_line next m) (size_line next n) (concat (size_lines (next + m) ms) ++ rest)
    (concat (size_lines (next + n) ns) ++ more) (size_width next m fm ∙ sym (size_width next n fn))
    (sym (append_assoc (size_line next m) (concat (size_lines (next + m) ms)) rest) ∙ e
    ∙ append_assoc (size_line next n) (concat (size_lines (next + n) ns)) more) in
    let one : m ≡ n = size_one next m n fm fn (All-head P m ms a) (All-head P n ns b) first.0 in
    let others = sizes_same (next + m) ms ns rest more (omega (arith, l)) (All-tail P m ms a) (All-tail P n ns b)
    (omega (arith, s)) (omega (arith, t, one))
    (first.1 ∙ ap (λ (k : ℕ). concat (size_lines (next + k) ns) ++ more) (sym one)) in
    (ap₂ (λ (x : ℕ) (xs : List ℕ). x ∷ xs) one others.0, others.1)

pub points_same : (ps qs : List Point) → length ps ≡ length qs → All IsInRange ps → All IsInRange qs
    → concat (point_lines ps) ≡ concat (point_lines qs) → ps ≡ qs
points_same [] [] l a b e = refl
points_same [] (q ∷ qs) l a b e = absurd (omega (arith, l))
points_same (p ∷ ps) [] l a b e = absurd (omega (arith, l))
points_same (p ∷ []) (q ∷ []) l a b e =
    point_line_one (p ∷ []) (q ∷ []) a b refl
    (sym (append-nil (coordinates_line (p ∷ []))) ∙ e ∙ append-nil (coordinates_line (q ∷ [])))
points_same (p ∷ []) (q ∷ q' ∷ qs) l a b e = absurd (omega (arith, l))
points_same (p ∷ p' ∷ ps) (q ∷ []) l a b e = absurd (omega (arith, l))
points_same (p ∷ p' ∷ ps) (q ∷ q' ∷ qs) l a b e =
    let two = All-take IsInRange 2 (p ∷ p' ∷ ps) a in
    let two' = All-take IsInRange 2 (q ∷ q' ∷ qs) b in
    let first = split_same (coordinates_line (p ∷ p' ∷ [])) (coordinates_line (q ∷ q' ∷ [])) (concat (point_lines ps))
    (concat (point_lines qs)) (point_line_width (p ∷ p' ∷ []) two ∙ sym (point_line_width (q ∷ q' ∷ []) two')) e in
    ap₂ (λ (x y : List Point). x ++ y) (point_line_one (p ∷ p' ∷ []) (q ∷ q' ∷ []) two two' refl first.0)
    (points_same ps qs (omega (arith, l)) (All-drop IsInRange 2 (p ∷ p' ∷ ps) a)
    (All-drop IsInRange 2 (q ∷ q' ∷ qs) b) first.1)

pub triangles_same : (h : Counts) → AreMeshCounts h → (ss ts : List (List ℕ)) → length ss ≡ length ts
    → All (IsKnownTriangle h) ss → All (IsKnownTriangle h) ts
    → concat (map polygon_line ss) ≡ concat (map polygon_line ts) → ss ≡ ts
triangles_same h i [] [] l a b e = refl
triangles_same h i [] (t ∷ ts) l a b e = absurd (omega (arith, l))
triangles_same h i (s ∷ ss) [] l a b e = absurd (omega (arith, l))
triangles_same h i (s ∷ ss) (t ∷ ts) l a b e =
    let P : List ℕ → Type 0 = IsKnownTriangle h in
    let x = All-head P s ss a in
    let y = All-head P t ts b in
    let first = split_same (polygon_line s) (polygon_line t) (concat (map polygon_line ss))
    (concat (map polygon_line ts)) (triangle_width h s i x ∙ sym (triangle_width h t i y)) e in
    ap₂ (λ (u : List ℕ) (us : List (List ℕ)). u ∷ us) (triangle_one h s t i x y first.0)
    (triangles_same h i ss ts (omega (arith, l)) (All-tail P s ss a) (All-tail P t ts b) first.1)

-- ---- a list split at a place, and the line there

-- the first n items of a list, the next one, and the others
pub record Parted {X : Type 0} (xs : List X) (n : ℕ) : Type 0 where
  pub front : List X
  pub item : X
  pub back : List X
  pub is : xs ≡ front ++ (item ∷ back)
  pub long : length front ≡ n

pub parted : {X : Type 0} (xs : List X) (n : ℕ) → n < length xs → Parted xs n
parted [] n l = absurd (omega arith)
parted (x ∷ xs) zero l = record { front = []; item = x; back = xs; is = refl; long = refl }
parted {X = X} (x ∷ xs) (suc n) l =
    let r = parted xs n (omega arith) in
    record {
      front = x ∷ r.front;
      item = r.item;
      back = r.back;
      is = ap (λ (ys : List X). x ∷ ys) r.is;
      long =
          ap suc r.long;
    }

-- the first n lines and the next one
pub next_line : (lines done : List (List ℕ)) (line : List ℕ) (after : List (List ℕ)) (n : ℕ)
    → lines ≡ done ++ (line ∷ after) → length done ≡ n → concat (take (suc n) lines) ≡ concat done ++ line
next_line lines done line after n e l =
    ap (λ (x : List (List ℕ)). concat (take (suc n) x)) (e ∙ sym (append_assoc done (line ∷ []) after))
    ∙ ap concat (take_at (done ++ (line ∷ [])) after (suc n) (omega (arith, length-append done (line ∷ []))))
    ∙ concat-append done (line ∷ [])
    ∙ ap (λ (x : List ℕ). concat done ++ x) (append-nil line)
