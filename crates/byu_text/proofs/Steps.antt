-- One more line, and the fault where none can follow, as the loops have them.
use Rattle.std.proofs.Common.{◌≡◌, ℕ, ◌+◌, ◌-◌, ◌*◌, ◌/◌, ◌<◌, ◌≤◌, List, [], ◌∷◌, ◌++◌, length, drop, min, map, refl, sym, ap, ◌∙◌, arith, append_assoc, subst}
use Rattle.std.specs.Prelude.{sum}
use Rattle.std.specs.List.{concat}
use Rattle.std.proofs.lemmas.List.{length-append, append-nil, map-append, nil_from_length}
use Rattle.std.proofs.lemmas.List.Sums.{sum_by_push}
use Rattle.std.proofs.lemmas.List.Elements.{All-append, All-push}
use Rattle.std.proofs.lemmas.List.Folds.{concat-append}
use Rattle.fku_types.specs.declared.points.Point.{Point}
use Rattle.fku_types.specs.Points.{IsInRange}
use Rattle.byu_text.specs.Fields.{coordinates_line}
use Rattle.byu_text.specs.Byu.{polygon_line}
use Rattle.byu_text.specs.Reading.{HasMeshFault, ReadsAsMesh}
use Rattle.byu_text.specs.Pieces.{Counts, mesh_head_line, size_line, size_lines, point_lines, AreSizes, ArePoints, AreTriangles, IsKnownTriangle}
use Rattle.byu_text.specs.Stages.{IsSize, AreNext, NoneOf, HasHead, HasSizes, HasPoints, HasTriangles, point_lines_at, polygons_at, text_end_at}
use Rattle.byu_text.proofs.Made.{made}
use Rattle.byu_text.proofs.Completed.{size_lines-append, point_lines-append}
use Rattle.byu_text.proofs.CountsStuck.{size_fault}
use Rattle.byu_text.proofs.PointsStuck.{points_fault}
use Rattle.byu_text.proofs.PolygonsStuck.{triangle_fault, end_fault}
use Rattle.byu_text.proofs.Written.{HasPieces}
use Rattle.byu_text.proofs.Whole.{reads_made}

-- one more piece in front of the rest
more_lines : (begin text more line rest : List ℕ) (ls : List (List ℕ)) → begin ≡ text ++ more → more ≡ line ++ rest
    → concat ls ≡ text ++ line → begin ≡ concat ls ++ rest
more_lines begin text more line rest ls e f g = e ∙ ap (λ (l : List ℕ). text ++ l) f ∙ sym (append_assoc text line rest)
    ∙ ap (λ (l : List ℕ). l ++ rest) (sym g)

-- ---- sizes

pub sizes_more : (h : Counts) (sizes : List ℕ) (n first part : ℕ) → AreSizes h sizes → length sizes ≡ part
    → first ≡ 1 + sum sizes → part < h.parts → IsSize (h.polygons + 1 - first) (h.parts - part - 1) n
    → AreSizes h (sizes ++ n ∷ [])
sizes_more h sizes n first part a count f l i =
    let s = sum_by_push (λ (x : ℕ). x) sizes n in
    let long = length-append sizes (n ∷ []) in
    record {
      some = All-push (λ n. 1 ≤ n) sizes n a.some i.some;
      fit = omega (arith, long);
      room = omega (arith, s, long, a.room, a.fit, i.room);
      all = λ e. (let last : n ≡ h.polygons + 1 - first = i.all (omega (arith, e, long)) in
          omega (arith, s, a.room, a.fit));
    }

pub size_lines_more : (text : List ℕ) (sizes : List ℕ) (n first at to : ℕ) → first ≡ 1 + sum sizes
    → drop 33 text ≡ concat (size_lines 1 sizes) ++ drop at text → drop at text ≡ size_line first n ++ drop to text →
    drop 33 text ≡ concat (size_lines 1 (sizes ++ n ∷ [])) ++ drop to text
size_lines_more text sizes n first at to f e g =
    more_lines (drop 33 text) (concat (size_lines 1 sizes)) (drop at text) (size_line first n) (drop to text)
    (size_lines 1 (sizes ++ n ∷ [])) e g
    (ap concat (size_lines-append 1 sizes (n ∷ []))
    ∙ concat-append (size_lines 1 sizes) (size_lines (1 + sum sizes) (n ∷ []))
    ∙ ap (λ (l : List ℕ). concat (size_lines 1 sizes) ++ l)
    (append-nil (size_line (1 + sum sizes) n) ∙ ap (λ (k : ℕ). size_line k n) (sym f)))

pub size_fault_at : (text : List ℕ) (h : Counts) (sizes : List ℕ) (first part at : ℕ) → HasHead text h
    → AreSizes h sizes → length sizes ≡ part → first ≡ 1 + sum sizes → part < h.parts
    → drop 33 text ≡ concat (size_lines 1 sizes) ++ drop at text →
    NoneOf (IsSize (h.polygons + 1 - first) (h.parts - part - 1)) (size_line first) (drop at text)
    → HasMeshFault text (part + 2)
size_fault_at text h sizes first part at i a count f l e excluded =
    let rest : List ℕ = drop at text in
    let other : NoneOf (IsSize (h.polygons - sum sizes) (h.parts - length sizes - 1)) (size_line (1 + sum sizes)) rest =
    λ n more s g. excluded n more (record {
      some = s.some;
      room = omega (arith, s.room, f, count);
      all =
          λ z. omega (arith, s.all (omega (arith, z, count)), f);
    }) (g ∙ ap (λ (k : ℕ). size_line k n ++ more) (sym f)) in
    subst (λ (k : ℕ). HasMeshFault text (k + 2)) count
    (size_fault text h sizes rest i.counts a (omega (arith, count))
    (i.line ∙ ap (λ (l : List ℕ). mesh_head_line h ++ l) e) other)

-- ---- vertices

two_lines : (ps : List Point) → AreNext 2 ps → point_lines ps ≡ coordinates_line ps ∷ []
two_lines [] a = absurd (omega (arith, a.long))
two_lines (p ∷ []) a = absurd (omega (arith, a.long))
two_lines (p ∷ q ∷ []) a = refl
two_lines (p ∷ q ∷ r ∷ ps) a = absurd (omega (arith, a.long))

one_lines : (ps : List Point) → AreNext 1 ps → point_lines ps ≡ coordinates_line ps ∷ []
one_lines [] a = absurd (omega (arith, a.long))
one_lines (p ∷ []) a = refl
one_lines (p ∷ q ∷ ps) a = absurd (omega (arith, a.long))

pub points_more : (h : Counts) (points next : List Point) (count : ℕ) → ArePoints h points → AreNext count next
    → length points + count ≤ h.vertices → ArePoints h (points ++ next)
points_more h points next count a n l =
    record {
      range = All-append IsInRange points next a.range n.range;
      fit =
          omega (arith, length-append points next, n.long);
    }

point_lines_more : (text : List ℕ) (points next : List Point) (j at from to : ℕ) → length points ≡ 2 * j
    → point_lines next ≡ coordinates_line next ∷ [] → drop from text ≡ concat (point_lines points) ++ drop at text
    → drop at text ≡ coordinates_line next ++ drop to text →
    drop from text ≡ concat (point_lines (points ++ next)) ++ drop to text
point_lines_more text points next j at from to even one e g =
    more_lines (drop from text) (concat (point_lines points)) (drop at text) (coordinates_line next) (drop to text)
    (point_lines (points ++ next)) e g
    (ap concat (point_lines-append j points next even ∙ ap (λ (l : List (List ℕ)). point_lines points ++ l) one)
    ∙ concat-append (point_lines points) (coordinates_line next ∷ [])
    ∙ ap (λ (l : List ℕ). concat (point_lines points) ++ l) (append-nil (coordinates_line next)))

pub two_more : (text : List ℕ) (points next : List Point) (j at from to : ℕ) → length points ≡ 2 * j → AreNext 2 next
    → drop from text ≡ concat (point_lines points) ++ drop at text
    → drop at text ≡ coordinates_line next ++ drop to text →
    drop from text ≡ concat (point_lines (points ++ next)) ++ drop to text
two_more text points next j at from to even a e g =
    point_lines_more text points next j at from to even (two_lines next a) e g

pub one_more : (text : List ℕ) (points next : List Point) (j at from to : ℕ) → length points ≡ 2 * j → AreNext 1 next
    → drop from text ≡ concat (point_lines points) ++ drop at text
    → drop at text ≡ coordinates_line next ++ drop to text →
    drop from text ≡ concat (point_lines (points ++ next)) ++ drop to text
one_more text points next j at from to even a e g =
    point_lines_more text points next j at from to even (one_lines next a) e g

pub points_fault_at : (text : List ℕ) (h : Counts) (sizes : List ℕ) (points : List Point) (j at count : ℕ)
    → HasHead text h → HasSizes text h sizes → ArePoints h points → length points ≡ 2 * j → 2 * j < h.vertices
    → count ≡ min 2 (h.vertices - 2 * j) → drop (point_lines_at h) text ≡ concat (point_lines points) ++ drop at text →
    NoneOf (AreNext count) coordinates_line (drop at text) → HasMeshFault text (h.parts + j + 2)
points_fault_at text h sizes points j at count i s a even l c e excluded =
    let rest : List ℕ = drop at text in
    let bytes : text ≡ mesh_head_line h ++ (concat (size_lines 1 sizes) ++ (concat (point_lines points) ++ rest)) =
    i.line ∙ ap (λ (l : List ℕ). mesh_head_line h ++ l)
    (s.lines ∙ ap (λ (l : List ℕ). concat (size_lines 1 sizes) ++ l) e) in
    subst (HasMeshFault text) (let k : 2 + h.parts + j ≡ h.parts + j + 2 = omega arith in k)
    (points_fault text h sizes points rest j i.counts s.are s.all a even l bytes
    (subst (λ (k : ℕ). NoneOf (AreNext k) coordinates_line rest) c excluded))

-- ---- polygons

pub triangles_more : (h : Counts) (triangles : List (List ℕ)) (t : List ℕ) → AreTriangles h triangles
    → IsKnownTriangle h t → length triangles < h.polygons → AreTriangles h (triangles ++ t ∷ [])
triangles_more h triangles t a k l =
    record {
      known = All-push (IsKnownTriangle h) triangles t a.known k;
      fit =
          omega (arith, length-append triangles (t ∷ []));
    }

pub polygon_lines_more : (text : List ℕ) (triangles : List (List ℕ)) (t : List ℕ) (at from to : ℕ)
    → drop from text ≡ concat (map polygon_line triangles) ++ drop at text
    → drop at text ≡ polygon_line t ++ drop to text →
    drop from text ≡ concat (map polygon_line (triangles ++ t ∷ [])) ++ drop to text
polygon_lines_more text triangles t at from to e g =
    more_lines (drop from text) (concat (map polygon_line triangles)) (drop at text) (polygon_line t) (drop to text)
    (map polygon_line (triangles ++ t ∷ [])) e g
    (ap concat (map-append polygon_line triangles (t ∷ []))
    ∙ concat-append (map polygon_line triangles) (polygon_line t ∷ [])
    ∙ ap (λ (l : List ℕ). concat (map polygon_line triangles) ++ l) (append-nil (polygon_line t)))

pub triangle_fault_at : (text : List ℕ) (h : Counts) (sizes : List ℕ) (points : List Point) (triangles : List (List ℕ))
    (n at : ℕ) → HasHead text h → HasSizes text h sizes → HasPoints text h points → AreTriangles h triangles
    → length triangles ≡ n → n < h.polygons →
    drop (polygons_at h) text ≡ concat (map polygon_line triangles) ++ drop at text
    → NoneOf (IsKnownTriangle h) polygon_line (drop at text)
    → HasMeshFault text (h.parts + (h.vertices + 1) / 2 + n + 2)
triangle_fault_at text h sizes points triangles n at i s p a count l e excluded =
    let rest : List ℕ = drop at text in
    let bytes : text ≡ mesh_head_line h
    ++ (concat (size_lines 1 sizes) ++ (concat (point_lines points)
    ++ (concat (map polygon_line triangles) ++ rest))) =
    i.line ∙ ap (λ (l : List ℕ). mesh_head_line h ++ l)
    (s.lines ∙ ap (λ (l : List ℕ). concat (size_lines 1 sizes) ++ l)
    (p.lines ∙ ap (λ (l : List ℕ). concat (point_lines points) ++ l) e)) in
    subst (HasMeshFault text) (let k : 2 + h.parts + (h.vertices + 1) / 2 + length triangles ≡ h.parts
    + (h.vertices + 1) / 2 + n + 2 = omega (arith, count) in k)
    (triangle_fault text h sizes points triangles rest i.counts s.are s.all p.are p.all a (omega (arith, count)) bytes
    excluded)

-- ---- whole texts

pub pieces_from : (text : List ℕ) (h : Counts) (sizes : List ℕ) (points : List Point) (triangles : List (List ℕ))
    → HasHead text h → HasSizes text h sizes → HasPoints text h points → HasTriangles text h triangles
    → HasPieces h sizes points triangles
pieces_from text h sizes points triangles i s p t = record {
  head = i.counts;
  some = s.are.some;
  parts = s.all;
  sum = s.are.all s.all;
  range = p.are.range;
  vertices = p.all;
  known = t.are.known;
  polygons = t.all;
}

bytes_from : (text : List ℕ) (h : Counts) (sizes : List ℕ) (points : List Point) (triangles : List (List ℕ))
    → HasHead text h → HasSizes text h sizes → HasPoints text h points → HasTriangles text h triangles →
    text ≡ mesh_head_line h ++ (concat (size_lines 1 sizes)
    ++ (concat (point_lines points) ++ (concat (map polygon_line triangles) ++ drop (text_end_at h) text)))
bytes_from text h sizes points triangles i s p t =
    i.line ∙ ap (λ (l : List ℕ). mesh_head_line h ++ l)
    (s.lines ∙ ap (λ (l : List ℕ). concat (size_lines 1 sizes) ++ l)
    (p.lines ∙ ap (λ (l : List ℕ). concat (point_lines points) ++ l) t.lines))

pub end_fault_at : (text : List ℕ) (h : Counts) (sizes : List ℕ) (points : List Point) (triangles : List (List ℕ))
    → HasHead text h → HasSizes text h sizes → HasPoints text h points → HasTriangles text h triangles
    → 0 < length (drop (text_end_at h) text) → HasMeshFault text (h.parts + (h.vertices + 1) / 2 + h.polygons + 2)
end_fault_at text h sizes points triangles i s p t l =
    subst (HasMeshFault text) (let k : 2 + h.parts + (h.vertices + 1) / 2 + h.polygons ≡ h.parts + (h.vertices + 1) / 2
    + h.polygons + 2 = omega arith in k)
    (end_fault text h sizes points triangles (drop (text_end_at h) text)
    (pieces_from text h sizes points triangles i s p t) s.are p.are t.are l
    (bytes_from text h sizes points triangles i s p t))

pub reads_from : (text : List ℕ) (h : Counts) (sizes : List ℕ) (points : List Point) (triangles : List (List ℕ))
    → HasHead text h → HasSizes text h sizes → HasPoints text h points → HasTriangles text h triangles
    → length (drop (text_end_at h) text) ≡ 0 → ReadsAsMesh text (made sizes points triangles)
reads_from text h sizes points triangles i s p t l =
    reads_made text h sizes points triangles (pieces_from text h sizes points triangles i s p t)
    (bytes_from text h sizes points triangles i s p t
    ∙ ap (λ (r : List ℕ). mesh_head_line h ++ (concat (size_lines 1 sizes) ++ (concat (point_lines points) ++ r)))
    (ap (λ (r : List ℕ). concat (map polygon_line triangles) ++ r) (nil_from_length (drop (text_end_at h) text) l)
    ∙ append-nil (concat (map polygon_line triangles))))
