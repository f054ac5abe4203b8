-- The first lines of a text are those of a valid mesh's text exactly if they are those of a front.
use Rattle.std.proofs.Common.{◌≡◌, ◌⊎◌, inl, inr, ℕ, zero, suc, ◌+◌, ◌-◌, ◌*◌, ◌/◌, ◌<◌, ◌≤◌, List, [], ◌∷◌, ◌++◌, length, take, drop, map, refl, sym, ap, ap₂, ◌∙◌, arith, append_assoc, subst, All}
use Rattle.std.specs.Prelude.{sum}
use Rattle.std.specs.List.{concat}
use Rattle.std.proofs.lemmas.List.{append-nil, length-append, length-take, length-drop, length-map, take-append-drop, take-append-le, take_all, take-map}
use Rattle.std.proofs.lemmas.List.Sums.{sum_by-append}
use Rattle.std.proofs.lemmas.List.Elements.{All-take, All-drop, All-nil}
use Rattle.std.proofs.lemmas.Bool.{cases_lt}
use Rattle.std.proofs.lemmas.List.Folds.{concat-append}
use Rattle.std.proofs.Math.Seq.{take-append-add}
use Rattle.fku_types.specs.declared.points.Point.{Point}
use Rattle.fku_types.specs.Points.{IsInRange}
use Rattle.triangle_meshes.specs.Meshes.{Surface}
use Rattle.byu_text.specs.Fields.{coordinates_line}
use Rattle.byu_text.specs.Byu.{polygon_line}
use Rattle.byu_text.specs.Lines.{text_lines_of}
use Rattle.byu_text.specs.Reading.{BeginsAs}
use Rattle.byu_text.specs.Pieces.{Counts, mesh_head_line, size_line, size_lines, point_lines, AreSizes, ArePoints, AreTriangles, IsKnownTriangle}
use Rattle.byu_text.specs.Fronts.{Front, IsMeshFront, front_lines, HasMeshFront}
use Rattle.byu_text.proofs.TextLines.{concat-lines}
use Rattle.byu_text.proofs.Written.{polygons_of, head_of, sizes_of, concat-lines_with, HasPieces, pieces_of, length-size_lines, length-point_lines, length-le-sum}
use Rattle.byu_text.proofs.Fronts.{mesh_text_lines, begins_from_starts}
use Rattle.byu_text.proofs.Completed.{Starts, starts_none, starts_sizes, starts_points, starts_triangles}

-- ---- a front can be completed

begins : (text : List ℕ) (m n : ℕ) → m ≡ n → Starts text m → (s : Surface) × BeginsAs text n s
begins text m n e t = (t.0, subst (λ (k : ℕ). BeginsAs text k t.0) e (begins_from_starts text m t.0 t.1))

-- the bytes of a text that has a front
front_bytes : (text : List ℕ) (n : ℕ) (f : Front) → take n (text_lines_of text) ≡ front_lines f →
    text ≡ mesh_head_line f.head ++ (concat (size_lines 1 f.sizes)
    ++ (concat (point_lines f.points) ++ (concat (map polygon_line f.triangles)
    ++ concat (drop n (text_lines_of text)))))
front_bytes text n f e =
    let rest : List ℕ = concat (drop n (text_lines_of text)) in
    sym (concat-lines text) ∙ ap concat (sym (take-append-drop n (text_lines_of text)))
    ∙ concat-append (take n (text_lines_of text)) (drop n (text_lines_of text))
    ∙ ap (λ (ls : List (List ℕ)). concat ls ++ rest) e
    ∙ ap (λ (bs : List ℕ). bs ++ rest) (concat-lines_with f.head f.sizes f.points f.triangles)
    ∙ regroup (mesh_head_line f.head) (concat (size_lines 1 f.sizes)) (concat (point_lines f.points))
    (concat (map polygon_line f.triangles)) rest
  where
    regroup : (a b c d r : List ℕ) → (a ++ (b ++ (c ++ d))) ++ r ≡ a ++ (b ++ (c ++ (d ++ r)))
    regroup a b c d r = simp append_assoc

front_count : (f : Front) → length (front_lines f) ≡ 1
    + (length f.sizes + ((length f.points + 1) / 2 + length f.triangles))
front_count f = omega (
  arith,
  length-append (size_lines 1 f.sizes)
      (point_lines f.points ++ map polygon_line f.triangles),
  length-append (point_lines f.points) (map polygon_line f.triangles),
  length-size_lines 1 f.sizes,
  length-point_lines f.points,
  length-map f.triangles polygon_line,
)

completes : (text : List ℕ) (n : ℕ) (f : Front) → n ≡ length (front_lines f) → IsMeshFront f
    → take n (text_lines_of text) ≡ front_lines f → (s : Surface) × BeginsAs text n s
completes text n f c i e = by_sizes (cases_lt (length f.sizes) f.head.parts)
  where
    rest : List ℕ
    rest = concat (drop n (text_lines_of text))

    bytes : text ≡ mesh_head_line f.head
        ++ (concat (size_lines 1 f.sizes) ++ (concat (point_lines f.points)
        ++ (concat (map polygon_line f.triangles) ++ concat (drop n (text_lines_of text)))))
    bytes = front_bytes text n f e

    some_vertex : 1 ≤ f.head.vertices
    some_vertex = i.counts.some_vertex

    by_points : length f.sizes ≡ f.head.parts → (length f.points < f.head.vertices)
        ⊎ (f.head.vertices ≤ length f.points) → (s : Surface) × BeginsAs text n s
    by_points all (inl l) =
        let none : f.triangles ≡ [] = i.no_triangles l in
        let even : length f.points ≡ 2 * (length f.points / 2) = omega (arith, i.pairs l) in
        begins text (suc (f.head.parts + length f.points / 2)) n
        (omega (arith, c, front_count f, all, even, ap length none))
        (starts_points text f.head f.sizes f.points (concat (drop n (text_lines_of text))) (length f.points / 2)
        i.counts i.sizes all i.points even
        (bytes ∙ ap (λ (ts : List (List ℕ)). mesh_head_line f.head
        ++ (concat (size_lines 1 f.sizes) ++ (concat (point_lines f.points)
        ++ (concat (map polygon_line ts) ++ concat (drop n (text_lines_of text)))))) none))
    by_points all (inr l) =
        let every : length f.points ≡ f.head.vertices = omega (arith, i.points.fit) in
        begins text (suc (f.head.parts + ((f.head.vertices + 1) / 2 + length f.triangles))) n
        (omega (arith, c, front_count f, all, every))
        (starts_triangles text f.head f.sizes f.points f.triangles (concat (drop n (text_lines_of text))) i.counts
        i.sizes all i.points every i.triangles bytes)

    by_sizes : (length f.sizes < f.head.parts) ⊎ (f.head.parts ≤ length f.sizes) → (s : Surface) × BeginsAs text n s
    by_sizes (inl l) =
        let bare : f.points ≡ [] = i.no_points l in
        let few : length f.points < f.head.vertices = omega (arith, ap length bare, some_vertex) in
        let none : f.triangles ≡ [] = i.no_triangles few in
        begins text (suc (length f.sizes)) n (omega (arith, c, front_count f, ap length bare, ap length none))
        (starts_sizes text f.head f.sizes (concat (drop n (text_lines_of text))) i.counts i.sizes
        (bytes ∙ ap₂ (λ (ps : List Point) (ts : List (List ℕ)). mesh_head_line f.head
        ++ (concat (size_lines 1 f.sizes) ++ (concat (point_lines ps)
        ++ (concat (map polygon_line ts) ++ concat (drop n (text_lines_of text)))))) bare none))
    by_sizes (inr l) = by_points (omega (arith, i.sizes.fit)) (cases_lt (length f.points) f.head.vertices)

-- ---- a mesh's first lines are those of a front

take_sizes : (next k : ℕ) (ns : List ℕ) → take k (size_lines next ns) ≡ size_lines next (take k ns)
take_sizes next zero ns = refl
take_sizes next (suc k) [] = refl
take_sizes next (suc k) (n ∷ ns) = ap (λ (l : List (List ℕ)). size_line next n ∷ l) (take_sizes (next + n) k ns)

take_none : (k : ℕ) → ◌≡◌ {A = List (List ℕ)} (take k []) []
take_none zero = refl
take_none (suc k) = refl

take_points : (k : ℕ) (ps : List Point) → take k (point_lines ps) ≡ point_lines (take (2 * k) ps)
take_points zero ps = refl
take_points (suc k) [] = ap (λ (m : ℕ). point_lines (take m []))
    (let e : suc (suc (2 * k)) ≡ 2 * suc k = omega arith in e)
take_points (suc k) (p ∷ []) =
    ap (λ (l : List (List ℕ)). coordinates_line (p ∷ []) ∷ l) (take_none k)
    ∙ ap (λ (m : ℕ). point_lines (take m (p ∷ []))) (let e : suc (suc (2 * k)) ≡ 2 * suc k = omega arith in e)
take_points (suc k) (p ∷ q ∷ ps) =
    ap (λ (l : List (List ℕ)). coordinates_line (p ∷ q ∷ []) ∷ l) (take_points k ps)
    ∙ ap (λ (m : ℕ). point_lines (take m (p ∷ q ∷ ps))) (let e : suc (suc (2 * k)) ≡ 2 * suc k = omega arith in e)

-- the first k items of two joined lists, where the first list has at most k
take_past : {X : Type 0} (k : ℕ) (xs ys : List X) → length xs ≤ k → take k (xs ++ ys) ≡ xs ++ take (k - length xs) ys
take_past k xs ys l = ap (λ (m : ℕ). take m (xs ++ ys)) (let e : k ≡ length xs + (k - length xs) = omega arith in e)
    ∙ take-append-add xs ys (k - length xs)

first_sizes : (h : Counts) (ns : List ℕ) (k : ℕ) → All (λ n. 1 ≤ n) ns → length ns ≡ h.parts → sum ns ≡ h.polygons
    → AreSizes h (take k ns)
first_sizes h ns k some parts total =
    let front = length-take k ns in
    let back = length-drop k ns in
    let sums : sum ns ≡ sum (take k ns) + sum (drop k ns) = ap sum (sym (take-append-drop k ns))
    ∙ sum_by-append (λ (x : ℕ). x) (take k ns) (drop k ns) in
    let more = length-le-sum (drop k ns) (All-drop (λ n. 1 ≤ n) k ns some) in
    record {
      some = All-take (λ n. 1 ≤ n) k ns some;
      fit = omega (arith, front, parts);
      room = omega (arith, front, back, parts, total, sums, more);
      all = λ e. ap sum (take_all k ns (omega (arith, front, parts, e))) ∙ total;
    }

first_points : (h : Counts) (ps : List Point) (k : ℕ) → All IsInRange ps → length ps ≡ h.vertices
    → ArePoints h (take k ps)
first_points h ps k range e = record { range = All-take IsInRange k ps range; fit = omega (arith, length-take k ps, e) }

first_triangles : (h : Counts) (ts : List (List ℕ)) (k : ℕ) → All (IsKnownTriangle h) ts → length ts ≡ h.polygons
    → AreTriangles h (take k ts)
first_triangles h ts k known e = record
    { known = All-take (IsKnownTriangle h) k ts known; fit = omega (arith, length-take k ts, e) }

-- the first m lines after the first one
record Tells (h : Counts) (sizes : List ℕ) (points : List Point) (triangles : List (List ℕ)) (m : ℕ) : Type 0 where
  front : Front
  is : IsMeshFront front
  lines : mesh_head_line h ∷ take m (size_lines 1 sizes ++ (point_lines points ++ map polygon_line triangles))
      ≡ front_lines front

tells : (h : Counts) (sizes : List ℕ) (points : List Point) (triangles : List (List ℕ)) (m : ℕ)
    → HasPieces h sizes points triangles → Tells h sizes points triangles m
tells h sizes points triangles m p = by_parts (cases_lt m (h.parts + 1))
  where
    S : List (List ℕ)
    S = size_lines 1 sizes

    in_parts : m ≤ h.parts → Tells h sizes points triangles m
    in_parts l =
        let V : List (List ℕ) = point_lines points ++ map polygon_line triangles in
        let few : m ≤ length (size_lines 1 sizes) = omega (arith, length-size_lines 1 sizes, p.parts) in
        let some = p.head.some_vertex in
        record {
          front = record { head = h; sizes = take m sizes; points = []; triangles = [] };
          is = record {
            counts = p.head;
            sizes = first_sizes h sizes m p.some p.parts p.sum;
            points = record { range = All-nil IsInRange; fit = omega arith };
            triangles = record { known = All-nil (IsKnownTriangle h); fit = omega arith };
            no_points = λ _. refl;
            pairs = λ _. refl;
            no_triangles = λ _. refl;
          };
          lines = ap (λ (l : List (List ℕ)). mesh_head_line h ∷ l)
              (take-append-le m (size_lines 1 sizes) V few ∙ take_sizes 1 m sizes
              ∙ sym (append-nil (size_lines 1 (take m sizes))));
        }

    in_points : h.parts ≤ m → m - h.parts ≤ (h.vertices + 1) / 2 → Tells h sizes points triangles m
    in_points l k =
        let j : ℕ = m - h.parts in
        let T : List (List ℕ) = map polygon_line triangles in
        let width = length-size_lines 1 sizes in
        let high = length-point_lines points in
        let few : j ≤ length (point_lines points) = omega (arith, high, p.vertices) in
        let long = length-take (2 * j) points in
        record {
          front = record { head = h; sizes = sizes; points = take (2 * j) points; triangles = [] };
          is = record {
            counts = p.head;
            sizes = subst (AreSizes h) (take_all (length sizes) sizes (omega arith))
                (first_sizes h sizes (length sizes) p.some p.parts p.sum);
            points = first_points h points (2 * j) p.range p.vertices;
            triangles = record { known = All-nil (IsKnownTriangle h); fit = omega arith };
            no_points = λ few. absurd (omega (arith, few, p.parts));
            pairs = λ less. omega (arith, less, long, p.vertices);
            no_triangles = λ _. refl;
          };
          lines = ap (λ (l : List (List ℕ)). mesh_head_line h ∷ l)
              (take_past m (size_lines 1 sizes) (point_lines points ++ T) (omega (arith, width, p.parts))
              ∙ ap (λ (i : ℕ). size_lines 1 sizes ++ take i (point_lines points ++ T))
              (let e : m - length (size_lines 1 sizes) ≡ j = omega (arith, width, p.parts) in e)
              ∙ ap (λ (l : List (List ℕ)). size_lines 1 sizes ++ l)
              (take-append-le j (point_lines points) T few ∙ take_points j points
              ∙ sym (append-nil (point_lines (take (2 * j) points)))));
        }

    in_polygons : h.parts + (h.vertices + 1) / 2 ≤ m → Tells h sizes points triangles m
    in_polygons l =
        let j : ℕ = m - h.parts in
        let i : ℕ = j - (h.vertices + 1) / 2 in
        let T : List (List ℕ) = map polygon_line triangles in
        let width = length-size_lines 1 sizes in
        let high = length-point_lines points in
        record {
          front = record { head = h; sizes = sizes; points = points; triangles = take i triangles };
          is = record {
            counts = p.head;
            sizes = subst (AreSizes h) (take_all (length sizes) sizes (omega arith))
                (first_sizes h sizes (length sizes) p.some p.parts p.sum);
            points = record { range = p.range; fit = omega (arith, p.vertices) };
            triangles = first_triangles h triangles i p.known p.polygons;
            no_points = λ few. absurd (omega (arith, few, p.parts));
            pairs = λ few. absurd (omega (arith, few, p.vertices));
            no_triangles = λ few. absurd (omega (arith, few, p.vertices));
          };
          lines = ap (λ (l : List (List ℕ)). mesh_head_line h ∷ l)
              (take_past m (size_lines 1 sizes) (point_lines points ++ T) (omega (arith, width, p.parts))
              ∙ ap (λ (k : ℕ). size_lines 1 sizes ++ take k (point_lines points ++ T))
              (let e : m - length (size_lines 1 sizes) ≡ j = omega (arith, width, p.parts) in e)
              ∙ ap (λ (l : List (List ℕ)). size_lines 1 sizes ++ l)
              (take_past j (point_lines points) T (omega (arith, high, p.vertices))
              ∙ ap (λ (k : ℕ). point_lines points ++ take k T)
              (let e : j - length (point_lines points) ≡ i = omega (arith, high, p.vertices) in e)
              ∙ ap (λ (l : List (List ℕ)). point_lines points ++ l) (take-map polygon_line i triangles)));
        }

    by_lines : h.parts ≤ m → (m - h.parts < (h.vertices + 1) / 2) ⊎ ((h.vertices + 1) / 2 ≤ m - h.parts)
        → Tells h sizes points triangles m
    by_lines k (inl l) = in_points k (omega arith)
    by_lines k (inr l) = in_polygons (omega arith)

    by_parts : (m < h.parts + 1) ⊎ (h.parts + 1 ≤ m) → Tells h sizes points triangles m
    by_parts (inl l) = in_parts (omega arith)
    by_parts (inr l) = by_lines (omega arith) (cases_lt (m - h.parts) ((h.vertices + 1) / 2))

pub front_from : (text : List ℕ) (n : ℕ) (s : Surface) → BeginsAs text n s → HasMeshFront text n
front_from text zero s b = inl refl
front_from text (suc m) s b =
    let t = tells (head_of s) (sizes_of s) s.vertices (polygons_of s) m (pieces_of s b.mesh) in
    inr (t.front, t.is, b.same ∙ ap (take (suc m)) (mesh_text_lines s b.mesh) ∙ t.lines)

pub mesh_from : (text : List ℕ) (n : ℕ) → n ≤ length (text_lines_of text) → HasMeshFront text n → (s : Surface)
    × BeginsAs text n s
mesh_from text n l (inl e) = begins text 0 n (sym e) (starts_none text)
mesh_from text n l (inr f) = completes text n f.0 (omega (arith, ap length f.2, length-take n (text_lines_of text))) f.1
    f.2
