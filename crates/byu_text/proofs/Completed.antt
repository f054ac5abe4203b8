-- What was read so far can always be completed to a valid mesh.
use Rattle.std.proofs.Common.{◌≡◌, ℕ, zero, suc, ◌+◌, ◌-◌, ◌*◌, ◌/◌, ◌<◌, ◌≤◌, List, [], ◌∷◌, ◌++◌, length, map, replicate, refl, sym, ap, ap₂, ◌∙◌, arith, append_assoc, subst, All}
use Rattle.std.specs.Prelude.{sum}
use Rattle.std.specs.List.{concat}
use Rattle.std.proofs.lemmas.List.{append-nil, length-append, length-replicate, length-map, map-append}
use Rattle.std.proofs.lemmas.List.Sums.{sum_by-cons, sum_by-append}
use Rattle.std.proofs.lemmas.List.Elements.{All-nil, All-cons, All-append, All-replicate}
use Rattle.std.proofs.lemmas.List.Folds.{concat-append}
use Rattle.fku_types.specs.declared.points.Point.{Point}
use Rattle.fku_types.specs.Points.{IsInRange}
use Rattle.plane_geom.specs.Rings.{origin}
use Rattle.triangle_meshes.specs.Meshes.{Surface}
use Rattle.byu_text.specs.Fields.{coordinates_line}
use Rattle.byu_text.specs.Byu.{polygon_line}
use Rattle.byu_text.specs.Pieces.{Counts, size_line, mesh_head_line, AreMeshCounts, size_lines, point_lines, AreSizes, ArePoints, AreTriangles, IsKnownTriangle}
use Rattle.byu_text.proofs.Written.{lines_with, surface_lines, HasPieces, concat-lines_with, length-size_lines, length-point_lines}
use Rattle.byu_text.proofs.Fronts.{StartsAs, starts_at}
use Rattle.byu_text.proofs.Made.{made, made_is, lines_made}

-- ---- sizes, vertices and polygons to come

-- m sizes that add up to r
fill : ℕ → ℕ → List ℕ
fill zero r = []
fill (suc zero) r = r ∷ []
fill (suc (suc m)) r = 1 ∷ fill (suc m) (r - 1)

length-fill : (m r : ℕ) → length (fill m r) ≡ m
unfolding fill
length-fill zero r = refl
length-fill (suc zero) r = refl
length-fill (suc (suc m)) r = ap suc (length-fill (suc m) (r - 1))

some-fill : (m r : ℕ) → m ≤ r → All (λ n. 1 ≤ n) (fill m r)
unfolding fill
some-fill zero r l = All-nil (λ n. 1 ≤ n)
some-fill (suc zero) r l = All-cons (λ n. 1 ≤ n) r [] (omega arith) (All-nil (λ n. 1 ≤ n))
some-fill (suc (suc m)) r l = All-cons (λ n. 1 ≤ n) 1 (fill (suc m) (r - 1)) (omega arith)
    (some-fill (suc m) (r - 1) (omega arith))

sum-fill : (m r : ℕ) → m ≤ r → (m ≡ 0 → r ≡ 0) → sum (fill m r) ≡ r
unfolding fill
sum-fill zero r l z = sym (z refl)
sum-fill (suc zero) r l z = omega (arith, sum_by-cons (λ (x : ℕ). x) r [])
sum-fill (suc (suc m)) r l z = omega (
  arith,
  sum_by-cons (λ (x : ℕ). x) 1 (fill (suc m) (r - 1)),
  sum-fill (suc m) (r - 1) (omega arith) (λ e. absurd (omega (arith, e))),
)

more_sizes : Counts → List ℕ → List ℕ
more_sizes h sizes = fill (h.parts - length sizes) (h.polygons - sum sizes)

more_points : Counts → List Point → List Point
more_points h points = replicate (h.vertices - length points) origin

more_triangles : Counts → List (List ℕ) → List (List ℕ)
more_triangles h triangles = replicate (h.polygons - length triangles) (0 ∷ 0 ∷ 0 ∷ [])

origin_in_range : IsInRange origin
origin_in_range = record { x = omega arith; y = omega arith; z = omega arith }

corner_known : (h : Counts) → AreMeshCounts h → IsKnownTriangle h (0 ∷ 0 ∷ 0 ∷ [])
corner_known h i =
    let some = i.some_vertex in
    let P : ℕ → Type 0 = λ id. id < h.vertices in (
      refl,
      All-cons P 0 (0 ∷ 0 ∷ []) (omega arith)
          (All-cons P 0 (0 ∷ []) (omega arith) (All-cons P 0 [] (omega arith) (All-nil P))),
    )

completed : (h : Counts) (sizes : List ℕ) (points : List Point) (triangles : List (List ℕ)) → AreMeshCounts h
    → AreSizes h sizes → ArePoints h points → AreTriangles h triangles →
    HasPieces h (sizes ++ more_sizes h sizes) (points ++ more_points h points) (triangles ++ more_triangles h triangles)
unfolding more_sizes more_points more_triangles
completed h sizes points triangles i a b c =
    let m : ℕ = h.parts - length sizes in
    let r : ℕ = h.polygons - sum sizes in
    let fits : m ≤ r = omega (arith, a.room, a.fit) in
    let none : m ≡ 0 → r ≡ 0 = λ e. (let all : sum sizes ≡ h.polygons = a.all (omega (arith, a.fit, e)) in omega arith)
    in
    let within : sum sizes ≤ h.polygons = omega (arith, a.room, a.fit) in
    record {
      head = i;
      some = All-append (λ n. 1 ≤ n) sizes (fill m r) a.some (some-fill m r fits);
      parts = omega (arith, length-append sizes (fill m r), length-fill m r, a.fit);
      sum = omega (arith, sum_by-append (λ (x : ℕ). x) sizes (fill m r), sum-fill m r fits none);
      range = All-append IsInRange points (replicate (h.vertices - length points) origin) b.range
          (All-replicate IsInRange (h.vertices - length points) origin origin_in_range);
      vertices = omega (
        arith,
        length-append points (replicate (h.vertices - length points) origin),
        length-replicate (h.vertices - length points) origin,
        b.fit,
      );
      known = All-append (IsKnownTriangle h) triangles (replicate (h.polygons - length triangles) (0 ∷ 0 ∷ 0 ∷ []))
          c.known (All-replicate (IsKnownTriangle h) (h.polygons - length triangles) (0 ∷ 0 ∷ 0 ∷ [])
          (corner_known h i));
      polygons = omega (
        arith,
        length-append triangles (replicate (h.polygons - length triangles) (0 ∷ 0 ∷ 0 ∷ [])),
        length-replicate {A = List ℕ} (h.polygons - length triangles) (0 ∷ 0 ∷ 0 ∷ []),
        c.fit,
      );
    }

-- ---- what was read begins the completed mesh's text

pub size_lines-append : (next : ℕ) (xs ys : List ℕ)
    → size_lines next (xs ++ ys) ≡ size_lines next xs ++ size_lines (next + sum xs) ys
size_lines-append next [] ys = let e : next ≡ next + sum [] = omega arith in ap (λ (k : ℕ). size_lines k ys) e
size_lines-append next (n ∷ ns) ys =
    let s = sum_by-cons (λ (x : ℕ). x) n ns in
    ap (λ (l : List (List ℕ)). size_line next n ∷ l)
    (size_lines-append (next + n) ns ys
    ∙ ap (λ (k : ℕ). size_lines (next + n) ns ++ size_lines k ys) (omega (arith, s)))

pub point_lines-append : (i : ℕ) (xs ys : List Point) → length xs ≡ 2 * i
    → point_lines (xs ++ ys) ≡ point_lines xs ++ point_lines ys
point_lines-append i [] ys e = refl
point_lines-append i (p ∷ []) ys e = absurd (omega (arith, e))
point_lines-append zero (p ∷ q ∷ xs) ys e = absurd (omega (arith, e))
point_lines-append (suc i) (p ∷ q ∷ xs) ys e =
    ap (λ (l : List (List ℕ)). coordinates_line (p ∷ q ∷ []) ∷ l) (point_lines-append i xs ys (omega (arith, e)))

-- if all sizes are known, none is to come
whole_sizes : (h : Counts) (sizes : List ℕ) → length sizes ≡ h.parts → sizes ++ more_sizes h sizes ≡ sizes
unfolding more_sizes fill
whole_sizes h sizes e = ap (λ (m : ℕ). sizes ++ fill m (h.polygons - sum sizes))
    (let z : h.parts - length sizes ≡ 0 = omega arith in z) ∙ append-nil sizes

whole_points : (h : Counts) (points : List Point) → length points ≡ h.vertices → points ++ more_points h points ≡ points
unfolding more_points
whole_points h points e = ap (λ (m : ℕ). points ++ replicate m origin)
    (let z : h.vertices - length points ≡ 0 = omega arith in z) ∙ append-nil points

-- a mesh whose text begins with the first n lines of this one
abbrev pub Starts : List ℕ → ℕ → Type 0
Starts text n = (s : Surface) × StartsAs text n s

no_points : (h : Counts) → ArePoints h []
no_points h = record { range = All-nil IsInRange; fit = omega arith }

no_triangles : (h : Counts) → AreTriangles h []
no_triangles h = record { known = All-nil (IsKnownTriangle h); fit = omega arith }

pub no_sizes : (h : Counts) → AreMeshCounts h → AreSizes h []
no_sizes h i = let enough = i.enough in let some = i.some_part in
    record { some = All-nil (λ n. 1 ≤ n); fit = omega arith; room = omega arith; all = λ e. absurd (omega (arith, e)) }

-- no line
pub starts_none : (text : List ℕ) → Starts text 0
starts_none text =
    let h : Counts = record { parts = 1; vertices = 1; polygons = 1 } in
    let i : AreMeshCounts h = record {
      some_part = omega arith;
      few_parts = omega arith;
      some_vertex = omega arith;
      few_vertices = omega arith;
      enough = omega arith;
      few_polygons = omega arith;
    } in
    let p = completed h [] [] [] i (no_sizes h i) (no_points h) (no_triangles h) in
    let s : Surface = made ([] ++ more_sizes h []) ([] ++ more_points h []) ([] ++ more_triangles h []) in (
      s,
      starts_at text [] (surface_lines s) text s
          (made_is h ([] ++ more_sizes h []) ([] ++ more_points h []) ([] ++ more_triangles h []) p) refl refl,
    )

-- the counts and the first sizes
pub starts_sizes : (text : List ℕ) (h : Counts) (sizes : List ℕ) (rest : List ℕ) → AreMeshCounts h → AreSizes h sizes
    → text ≡ mesh_head_line h ++ (concat (size_lines 1 sizes) ++ rest) → Starts text (suc (length sizes))
starts_sizes text h sizes rest i a e =
    let b = no_points h in
    let c = no_triangles h in
    let ns : List ℕ = more_sizes h sizes in
    let ps : List Point = [] ++ more_points h [] in
    let ts : List (List ℕ) = [] ++ more_triangles h [] in
    let p = completed h sizes [] [] i a b c in
    let done : List (List ℕ) = mesh_head_line h ∷ size_lines 1 sizes in
    let behind : List (List ℕ) = point_lines ps ++ map polygon_line ts in
    let lines : surface_lines (made (sizes ++ ns) ps ts) ≡ done ++ (size_lines (1 + sum sizes) ns ++ behind) =
    lines_made h (sizes ++ ns) ps ts p
    ∙ ap (λ (l : List (List ℕ)). mesh_head_line h ∷ (l ++ behind)) (size_lines-append 1 sizes ns)
    ∙ ap (λ (l : List (List ℕ)). mesh_head_line h ∷ l)
    (append_assoc (size_lines 1 sizes) (size_lines (1 + sum sizes) ns) behind) in
    let t = starts_at text done (size_lines (1 + sum sizes) ns ++ behind) rest (made (sizes ++ ns) ps ts)
    (made_is h (sizes ++ ns) ps ts p) lines
    (e ∙ sym (append_assoc (mesh_head_line h) (concat (size_lines 1 sizes)) rest)) in (
      made (sizes ++ ns) ps ts,
      subst (λ (n : ℕ). StartsAs text n (made (sizes ++ ns) ps ts))
          (ap suc (length-size_lines 1 sizes)) t,
    )

-- all sizes and the first vertices
pub starts_points : (text : List ℕ) (h : Counts) (sizes : List ℕ) (points : List Point) (rest : List ℕ) (j : ℕ)
    → AreMeshCounts h → AreSizes h sizes → length sizes ≡ h.parts → ArePoints h points → length points ≡ 2 * j →
    text ≡ mesh_head_line h ++ (concat (size_lines 1 sizes) ++ (concat (point_lines points) ++ rest))
    → Starts text (suc (h.parts + j))
starts_points text h sizes points rest j i a all b even e =
    let c = no_triangles h in
    let ns : List ℕ = sizes ++ more_sizes h sizes in
    let ps : List Point = more_points h points in
    let ts : List (List ℕ) = [] ++ more_triangles h [] in
    let p = completed h sizes points [] i a b c in
    let whole : ns ≡ sizes = whole_sizes h sizes all in
    let done : List (List ℕ) = mesh_head_line h ∷ (size_lines 1 sizes ++ point_lines points) in
    let behind : List (List ℕ) = point_lines ps ++ map polygon_line ts in
    let lines : surface_lines (made ns (points ++ ps) ts) ≡ done ++ behind =
    lines_made h ns (points ++ ps) ts p
    ∙ ap₂ (λ (l : List ℕ) (m : List (List ℕ)). mesh_head_line h ∷ (size_lines 1 l ++ (m ++ map polygon_line ts)))
    whole (point_lines-append j points ps even)
    ∙ ap (λ (l : List (List ℕ)). mesh_head_line h ∷ (size_lines 1 sizes ++ l))
    (append_assoc (point_lines points) (point_lines ps) (map polygon_line ts))
    ∙ ap (λ (l : List (List ℕ)). mesh_head_line h ∷ l)
    (sym (append_assoc (size_lines 1 sizes) (point_lines points) behind)) in
    let bytes : text ≡ concat done ++ rest =
    e ∙ ap (λ (l : List ℕ). mesh_head_line h ++ l)
    (sym (append_assoc (concat (size_lines 1 sizes)) (concat (point_lines points)) rest)
    ∙ ap (λ (l : List ℕ). l ++ rest) (sym (concat-append (size_lines 1 sizes) (point_lines points))))
    ∙ sym (append_assoc (mesh_head_line h) (concat (size_lines 1 sizes ++ point_lines points)) rest) in
    let t = starts_at text done behind rest (made ns (points ++ ps) ts) (made_is h ns (points ++ ps) ts p) lines bytes
    in (
      made ns (points ++ ps) ts,
      subst (λ (n : ℕ). StartsAs text n (made ns (points ++ ps) ts))
          (omega (
            arith,
            length-append (size_lines 1 sizes) (point_lines points),
            length-size_lines 1 sizes,
            length-point_lines points,
            all,
            even,
          )) t,
    )

-- all sizes and vertices and the first polygons
pub starts_triangles : (text : List ℕ) (h : Counts) (sizes : List ℕ) (points : List Point) (triangles : List (List ℕ))
    (rest : List ℕ) → AreMeshCounts h → AreSizes h sizes → length sizes ≡ h.parts → ArePoints h points
    → length points ≡ h.vertices → AreTriangles h triangles →
    text ≡ mesh_head_line h ++ (concat (size_lines 1 sizes)
    ++ (concat (point_lines points) ++ (concat (map polygon_line triangles) ++ rest)))
    → Starts text (suc (h.parts + ((h.vertices + 1) / 2 + length triangles)))
starts_triangles text h sizes points triangles rest i a all b every c e =
    let ns : List ℕ = sizes ++ more_sizes h sizes in
    let ps : List Point = points ++ more_points h points in
    let ts : List (List ℕ) = more_triangles h triangles in
    let p = completed h sizes points triangles i a b c in
    let done : List (List ℕ) = lines_with h sizes points triangles in
    let lines : surface_lines (made ns ps (triangles ++ ts)) ≡ done ++ map polygon_line ts =
    lines_made h ns ps (triangles ++ ts) p
    ∙ ap₂ (λ (l : List ℕ) (m : List Point). lines_with h l m (triangles ++ ts)) (whole_sizes h sizes all)
    (whole_points h points every)
    ∙ ap (λ (l : List (List ℕ)). mesh_head_line h ∷ (size_lines 1 sizes ++ (point_lines points ++ l)))
    (map-append polygon_line triangles ts)
    ∙ ap (λ (l : List (List ℕ)). mesh_head_line h ∷ (size_lines 1 sizes ++ l))
    (sym (append_assoc (point_lines points) (map polygon_line triangles) (map polygon_line ts)))
    ∙ ap (λ (l : List (List ℕ)). mesh_head_line h ∷ l)
    (sym (append_assoc (size_lines 1 sizes) (point_lines points ++ map polygon_line triangles) (map polygon_line ts)))
    in
    let A = mesh_head_line h in
    let B = concat (size_lines 1 sizes) in
    let C = concat (point_lines points) in
    let D = concat (map polygon_line triangles) in
    let bytes : text ≡ concat done ++ rest =
    e ∙ regroup A B C D rest ∙ ap (λ (l : List ℕ). l ++ rest) (sym (concat-lines_with h sizes points triangles)) in
    let t = starts_at text done (map polygon_line ts) rest (made ns ps (triangles ++ ts))
    (made_is h ns ps (triangles ++ ts) p) lines bytes in (
      made ns ps (triangles ++ ts),
      subst (λ (n : ℕ). StartsAs text n (made ns ps (triangles ++ ts)))
          (omega (
            arith,
            length-append (size_lines 1 sizes) (point_lines points ++ map polygon_line triangles),
            length-append (point_lines points) (map polygon_line triangles),
            length-size_lines 1 sizes,
            length-point_lines points,
            length-map triangles polygon_line,
            all,
            every,
          )) t,
    )
  where
    regroup : (a b c d r : List ℕ) → a ++ (b ++ (c ++ (d ++ r))) ≡ (a ++ (b ++ (c ++ d))) ++ r
    regroup a b c d r = simp append_assoc
