-- The rings of sections, section by section.
use Rattle.std.proofs.Common.{◌≡◌, ℕ, zero, suc, ◌+◌, ◌<◌, ◌≤◌, List, [], ◌∷◌, ◌++◌, length, map, get_or, take, sum_by, refl, sym, ap, ap₂, ◌∙◌, subst, take_all, add-one, arith, All, Vec, true, false, if◌then◌else◌, pos}
use Rattle.std.specs.Global.{Global}
use Rattle.std.specs.List.{range_with_len}
use Rattle.std.proofs.lemmas.List.{length-map, get_or-map}
use Rattle.std.proofs.lemmas.List.Sums.{sum_by-cons, sum_by-append, sum_by_more, sum_by_more_le, sum_by-take-le}
use Rattle.std.proofs.lemmas.List.FromFn.{length-map-range_with_len, sum_by-map-range_with_len_more}
use Rattle.std.proofs.lemmas.Simd.{map-map}
use Rattle.fku_types.specs.declared.limits.TheConstants.{MAX_VERTICES}
use Rattle.fku_types.specs.declared.points.Point.{Point}
use Rattle.section_core.specs.declared.parts.Contour.{Contour}
use Rattle.section_core.specs.declared.parts.Section.{Section}
use Rattle.section_core.specs.Parts.{SectionParts, Parts}
use Rattle.section_core.specs.Flat.{ContourData, section_data}
use Rattle.section_core.specs.ValidSections.{IsValidSection, AreValidSections, contours_in, vertices, section_of, contour_at_height}
use Rattle.correspondence.specs.Contours.{AreOutlines, points_of, point_lists}
use Rattle.correspondence.specs.Nesting.{depth, first_id, is_turned, turned, ring_from, ring_at, oriented}
use Rattle.correspondence.proofs.Nested.{length-turned}
use Rattle.plane_geom.specs.Rings.{RingView}
use Rattle.plane_geom.specs.RingViews.{ring_view, ring_views, IsContour}
use Rattle.plane_geom.specs.declared.ring.Ring.{Ring}
use Rattle.correspondence.specs.Outlines.{layer, layer_at}
use Rattle.section_pairs.specs.SectionFaults.{outlines_in}
use Rattle.section_pairs.specs.Rings.{vertices_in, first_vertex, rings_at, AreSectionRings, AreRingsOf}
use Rattle.section_pairs.proofs.SectionData.{outlines_are}
use Rattle.section_pairs.proofs.Picks.{size, sizes_are}

-- ---- how many vertices
abbrev pub section_vertices : Section → ℕ
section_vertices s = sum_by vertices s.contours.items

abbrev outlines_of : SectionParts → List (List Point)
outlines_of s = (layer s).outlines

vertices_of_lists : (cs : List Contour)
    → sum_by (λ (ps : List Point). length ps) (map points_of cs) ≡ sum_by vertices cs
vertices_of_lists [] = refl
vertices_of_lists (c ∷ cs) = omega (
  arith,
  vertices_of_lists cs,
  sum_by-cons vertices c cs,
  sum_by-cons (λ (ps : List Point). length ps) (points_of c) (map points_of cs),
)

-- the parts have the contours that are held
outlines_same : (ss : List Section) (xs : List SectionParts) → map section_data ss ≡ map section_of xs
    → map outlines_of xs ≡ map point_lists ss
outlines_same ss xs e =
    sym (outlines_map xs) ∙ ap (map outlines_in) (sym e) ∙ held_map ss
  where
    outlines_map : (ys : List SectionParts) → map outlines_in (map section_of ys) ≡ map outlines_of ys
    outlines_map [] = refl
    outlines_map (y ∷ ys) = ap₂ (λ (a : List (List Point)) (b : List (List (List Point))). a ∷ b)
        (map-map (λ (c : ContourData). c.1) (contour_at_height y.z) y.contours) (outlines_map ys)

    held_map : (ys : List Section) → map outlines_in (map section_data ys) ≡ map point_lists ys
    held_map [] = refl
    held_map (y ∷ ys) = ap₂ (λ (a : List (List Point)) (b : List (List (List Point))). a ∷ b) (outlines_are y)
        (held_map ys)

front_sum : (xs : List SectionParts) (k : ℕ)
    → sum_by vertices_in (take k xs) ≡ sum_by (sum_by (λ (ps : List Point). length ps)) (take k (map outlines_of xs))
front_sum xs zero = refl
front_sum [] (suc k) = refl
front_sum (x ∷ xs) (suc k) =
    omega (
      arith,
      front_sum xs k,
      sum_by-cons vertices_in x (take k xs),
      sum_by-cons (sum_by (λ (ps : List Point). length ps)) (outlines_of x) (take k (map outlines_of xs)),
    )

held_sum : (ss : List Section) (k : ℕ)
    → sum_by (sum_by (λ (ps : List Point). length ps)) (take k (map point_lists ss))
    ≡ sum_by section_vertices (take k ss)
held_sum ss zero = refl
held_sum [] (suc k) = refl
held_sum (s ∷ ss) (suc k) =
    omega (
      arith,
      held_sum ss k,
      vertices_of_lists s.contours.items,
      sum_by-cons section_vertices s (take k ss),
      sum_by-cons (sum_by (λ (ps : List Point). length ps)) (point_lists s) (take k (map point_lists ss)),
    )

pub first_is : (ss : List Section) (S : Parts) (k : ℕ) → map section_data ss ≡ map section_of S.sections
    → sum_by section_vertices (take k ss) ≡ first_vertex S k
first_is ss S k e =
    sym (front_sum S.sections k ∙ ap (λ (os : List (List (List Point))).
    sum_by (sum_by (λ (ps : List Point). length ps)) (take k os)) (outlines_same ss S.sections e) ∙ held_sum ss k)

all_sum : (ss : List Section) → sum_by section_vertices ss ≡ sum_by vertices (contours_in ss)
all_sum [] = refl
all_sum (s ∷ ss) = omega (
  arith,
  all_sum ss,
  sum_by-cons section_vertices s ss,
  sum_by-append vertices s.contours.items (contours_in ss),
)

-- the vertices so far and those of the next section
pub few_ids : (ss : List Section) (i : ℕ) (s : Section) → AreValidSections ss → i < length ss → s ≡ get_or ss i s
    → sum_by section_vertices (take i ss) + section_vertices s ≤ MAX_VERTICES
few_ids ss i s h l e =
    omega (arith, sum_by_more_le section_vertices ss i s l, ap section_vertices e, all_sum ss, h.few_vertices)

-- no section begins after the last vertex, and there are at most as many vertices as a file may have
pub few_firsts : (ss : List Section) (S : Parts) (k : ℕ) → map section_data ss ≡ map section_of S.sections
    → AreValidSections ss → first_vertex S k ≤ MAX_VERTICES
few_firsts ss S k e h = omega (
  arith,
  first_is ss S k e,
  sum_by-take-le section_vertices ss k,
  all_sum ss,
  h.few_vertices,
)

pub few_in_all : (ss : List Section) (S : Parts) → map section_data ss ≡ map section_of S.sections → AreValidSections ss
    → sum_by vertices_in S.sections ≤ MAX_VERTICES
few_in_all ss S e h =
    omega (
      arith,
      few_firsts ss S (length S.sections) e h,
      ap (sum_by vertices_in) (take_all (length S.sections) S.sections (omega arith)),
    )

pub ids_more : (ss : List Section) (i : ℕ) (s : Section) → i < length ss → s ≡ get_or ss i s
    → sum_by section_vertices (take (i + 1) ss) ≡ sum_by section_vertices (take i ss) + section_vertices s
ids_more ss i s l e = omega (arith, sum_by_more section_vertices ss i s l, ap section_vertices e)

-- ---- limits
pub kept_outlines : (ss : List Section) (i : ℕ) (s : Section) → AreValidSections ss → i < length ss → s ≡ get_or ss i s
    → AreOutlines s.contours.items
kept_outlines ss i s h l e =
    let k : IsValidSection s = subst IsValidSection (sym e) (h.each i s l) in
    record {
      each = λ n d m. let c = k.contours n d m in record { enough = c.enough; few = c.few; in_range = c.in_range };
      few = k.few_vertices;
    }

ring_size : (d first : ℕ) (points : List Point) → size (ring_from d first points) ≡ length points
unfolding ring_from
ring_size d first points =
    let P : RingView → Type 0 = λ l. size l ≡ length points in
    elim (is_turned d points) as (λ b.
    P (if b then record { points = turned points; ids = turned (range_with_len first (length points)) } else record
    { points = points; ids = range_with_len first (length points) })) [
      | true ↦ length-turned points
      | false ↦ refl
    ]

front_size : (first : ℕ) (os : List (List Point)) (n : ℕ) → n ≤ length os
    → sum_by size (map (ring_at first os) (range_with_len 0 n)) ≡ sum_by (λ (ps : List Point). length ps) (take n os)
front_size first os zero l = refl
front_size first os (suc n) l =
    subst (λ (k : ℕ). sum_by size (map (ring_at first os) (range_with_len 0 k))
    ≡ sum_by (λ (ps : List Point). length ps) (take k os)) (add-one n)
    (omega (
      arith,
      front_size first os n (omega (arith, l)),
      sum_by-map-range_with_len_more size (ring_at first os) 0 n n (omega arith),
      sum_by_more (λ (ps : List Point). length ps) os n [] (omega (arith, l)),
      ring_size (depth os n) (first_id first os n) (get_or os n []),
    ))

oriented_size : (first : ℕ) (os : List (List Point))
    → sum_by size (oriented first os) ≡ sum_by (λ (ps : List Point). length ps) os
unfolding oriented
oriented_size first os =
    front_size first os (length os) (omega arith)
    ∙ ap (sum_by (λ (ps : List Point). length ps)) (take_all (length os) os (omega arith))

pub oriented_count : (first : ℕ) (os : List (List Point)) → length (oriented first os) ≡ length os
unfolding oriented
oriented_count first os = length-map-range_with_len (ring_at first os) 0 (length os)

-- the rings of a section keep its limits
pub limits_kept : (first : ℕ) (s : Section) (rings : List Ring) → AreOutlines s.contours.items
    → ring_views rings ≡ oriented first (point_lists s) → All IsContour rings → AreSectionRings rings
limits_kept first s rings h e k = record {
  each = k;
  few = omega (
    arith,
    h.few,
    sizes_are rings,
    ap (sum_by size) e,
    oriented_size first (point_lists s),
    vertices_of_lists s.contours.items,
  );
}

-- ---- one more section
pub rings_are : (ss : List Section) (S : Parts) (i first : ℕ) (s : Section) (rings : List Ring)
    → map section_data ss ≡ map section_of S.sections → i < length ss → s ≡ get_or ss i s
    → first ≡ sum_by section_vertices (take i ss)
    → ring_views rings ≡ oriented first (point_lists s) → ring_views rings ≡ rings_at S i
rings_are ss S i first s rings e l r f h =
    let lists = outlines_same ss S.sections e in
    let count : length ss ≡ length S.sections = sym (length-map ss point_lists) ∙ ap length (sym lists)
    ∙ length-map S.sections outlines_of in
    let blank : SectionParts = record { z = pos 0; contours = [] } in
    let there : i < length S.sections = omega (arith, l, count) in
    let outlines : point_lists s ≡ (layer_at S i).outlines =
    ap point_lists r ∙ sym (get_or-map point_lists ss i s [] l)
    ∙ ap (λ (os : List (List (List Point))). get_or os i []) (sym lists)
    ∙ get_or-map outlines_of S.sections i blank [] there in
    h ∙ ap (λ (n : ℕ). oriented n (point_lists s)) (f ∙ first_is ss S i e) ∙ ap (oriented (first_vertex S i)) outlines

pub count_is : (ss : List Section) (xs : List SectionParts) → map section_data ss ≡ map section_of xs
    → length ss ≡ length xs
count_is ss xs e = sym (length-map ss section_data) ∙ ap length e ∙ length-map xs section_of

pub some_section : (ss : List Section) → AreValidSections ss → 0 < length ss
some_section [] h = absurd (omega (arith, h.some_contour))
some_section (s ∷ ss) h = omega arith

-- what holds at each place of a list holds with one more item
pub each_more : {X : Type 0} (P : ℕ → X → Type 0) (xs : List X) (x : X)
    → ((k : ℕ) (d : X) → k < length xs → P k (get_or xs k d)) → P (length xs) x → (k : ℕ) (d : X)
    → k < length (xs ++ x ∷ []) → P k (get_or (xs ++ x ∷ []) k d)
each_more P [] x h p zero d l = p
each_more P [] x h p (suc k) d l = absurd (omega (arith, l))
each_more P (y ∷ ys) x h p zero d l = h zero d (omega arith)
each_more P (y ∷ ys) x h p (suc k) d l =
    each_more (λ n. P (suc n)) ys x (λ n e m. h (suc n) e (omega (arith, m))) p k d (omega (arith, l))

-- the rings of a section as a slice, and how many they are
pub views_at : (S : Parts) (rings : List (Vec Ring Global)) (g : ℕ) (v : Vec Ring Global) (here : List Ring)
    → AreRingsOf S rings → g < length rings → v ≡ get_or rings g v → here ≡ v.items → ring_views here ≡ rings_at S g
views_at S rings g v here h l e p = ap ring_views p ∙ ap (λ (w : Vec Ring Global). ring_views w.items) e ∙ h.views g v l

pub count_at : (S : Parts) (g : ℕ) (here : List Ring) → ring_views here ≡ rings_at S g
    → length here ≡ length (layer_at S g).outlines
count_at S g here e = sym (length-map here ring_view) ∙ ap length e
    ∙ oriented_count (first_vertex S g) (layer_at S g).outlines
