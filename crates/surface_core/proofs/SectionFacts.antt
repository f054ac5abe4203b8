-- The rings of sections that keep the limits.
use Rattle.std.proofs.Common.{◌≡◌, ℕ, ◌+◌, ◌*◌, ◌<◌, ◌≤◌, inl, inr, true, false, if◌then◌else◌, List, [], ◌∷◌, ◌++◌, length, map, get_or, flat_map, sum_by, refl, sym, ap, ap₂, ◌∙◌, arith, subst, All, Vec, pos}
use Rattle.std.specs.Global.{Global}
use Rattle.std.specs.List.{range_with_len, AllByRecursion}
use Rattle.std.proofs.lemmas.Bool.{cases_lt}
use Rattle.std.proofs.lemmas.Simd.{map-map}
use Rattle.std.proofs.lemmas.List.{length-map, get_or-map, get_or_past, length-append}
use Rattle.std.proofs.lemmas.List.FromFn.{fill_by_all, length-range_with_len}
use Rattle.std.proofs.lemmas.List.Elements.{recursion_from_All, All-append, All-map, All-nil}
use Rattle.std.proofs.lemmas.List.Sums.{sum_by-cons, sum_by-append}
use Rattle.std.proofs.lemmas.List.Concat.{length-flat_map}
use Rattle.fku_types.specs.declared.limits.TheConstants.{MAX_CONTOURS, MAX_SECTIONS, MAX_VERTICES}
use Rattle.fku_types.specs.declared.points.Point.{Point}
use Rattle.fku_types.specs.Points.{IsInRange}
use Rattle.fku_types.proofs.ListLaws.{range_below}
use Rattle.plane_geom.specs.Rings.{RingView}
use Rattle.plane_geom.specs.declared.ring.Ring.{Ring}
use Rattle.section_core.specs.Parts.{Parts, SectionParts}
use Rattle.section_core.specs.declared.parts.Contour.{Contour}
use Rattle.section_core.specs.declared.parts.Section.{Section}
use Rattle.section_core.specs.Flat.{SectionData, section_data}
use Rattle.section_core.specs.ValidSections.{contours_in, vertices, section_of, AreValidSections}
use Rattle.correspondence.specs.Contours.{contour_at, points_of, point_lists}
use Rattle.correspondence.specs.Nesting.{is_turned, turned, ring_from, ring_at, oriented, depth, first_id}
use Rattle.correspondence.proofs.Nested.{length-turned}
use Rattle.correspondence.specs.Outlines.{layer, layer_at, section_at, spot_point}
use Rattle.ring_polygons.proofs.BridgeLaws.{IsRingView}
use Rattle.ring_polygons.proofs.Joining.{views}
use Rattle.section_pairs.specs.Rings.{rings_at, vertices_in, first_vertex, AreRingsOf}
use Rattle.section_pairs.specs.SectionFaults.{outlines_in}
use Rattle.surface_core.specs.Surfaces.{points_in}
use Rattle.section_pairs.proofs.SectionData.{outlines_are, item_at}
use Rattle.section_pairs.proofs.SectionRings.{oriented_count, count_is, kept_outlines}
use Rattle.surface_core.proofs.PlaceSums.{adds, weight}
use Rattle.surface_core.proofs.RingFacts.{size}
use Rattle.surface_core.proofs.JoinedPlaces.{count}
use Rattle.surface_core.proofs.StripSums.{AreRingViews}

-- ---- rings
-- a ring has as many points as its contour, and as many ids
record HasLength (n : ℕ) (ring : RingView) : Type 0 where
  points : length ring.points ≡ n
  ids : length ring.ids ≡ n

ring_length : (d first : ℕ) (points : List Point) → HasLength (length points) (ring_from d first points)
unfolding ring_from
ring_length d first points =
    let n : ℕ = length points in
    elim (is_turned d points) as (λ b.
    HasLength n (if b then record { points = turned points; ids = turned (range_with_len first n) } else record
    { points = points; ids = range_with_len first n })) [
      | true ↦ record {
        points = length-turned points;
        ids = length-turned (range_with_len first n)
            ∙ length-range_with_len first n;
      }
      | false ↦ record { points = refl; ids = length-range_with_len first n }
    ]

sized : (first : ℕ) (contours : List (List Point)) (ks : List ℕ)
    → weight size (map (ring_at first contours) ks) ≡ adds (λ k. length (contour_at contours k) + 2) ks
sized first contours [] = refl
sized first contours (k ∷ ks) = omega (
  arith,
  sized first contours ks,
  (ring_length (depth contours k) (first_id first contours k)
      (contour_at contours k)).ids,
)

outline_sizes : (contours : List (List Point)) (ks : List ℕ)
    → adds (λ k. length (contour_at contours k) + 2) ks ≡ sum_by length (map (contour_at contours) ks) + 2 * length ks
outline_sizes contours [] = refl
outline_sizes contours (k ∷ ks) = omega
    (arith, outline_sizes contours ks, sum_by-cons length (contour_at contours k) (map (contour_at contours) ks))

contours_all : (contours : List (List Point))
    → map (contour_at contours) (range_with_len 0 (length contours)) ≡ contours
contours_all contours = sym (fill_by_all (contour_at contours) contours (length contours) [] refl (λ k h. refl))

oriented_size : (first : ℕ) (contours : List (List Point))
    → weight size (oriented first contours) ≡ sum_by length contours + 2 * length contours
unfolding oriented
oriented_size first contours =
    let n : ℕ = length contours in
    omega (
      arith,
      sized first contours (range_with_len 0 n),
      outline_sizes contours (range_with_len 0 n),
      ap (sum_by length) (contours_all contours),
      length-range_with_len 0 n,
    )

pub rings_count : (S : Parts) (s : ℕ) → length (rings_at S s) ≡ count S s
rings_count S s = oriented_count (first_vertex S s) (layer_at S s).outlines

pub rings_size : (S : Parts) (s : ℕ) → weight size (rings_at S s) ≡ vertices_in (section_at S s) + 2 * count S s
rings_size S s = oriented_size (first_vertex S s) (layer_at S s).outlines

no_contours : (S : Parts) (s : ℕ) → length S.sections ≤ s → count S s ≡ 0
no_contours S s h = ap (λ (x : SectionParts). length (layer x).outlines)
    (get_or_past S.sections s (record { z = pos 0; contours = [] }) h)

views_there : (S : Parts) (rings : List (Vec Ring Global)) → AreRingsOf S rings → (s : ℕ) → s < length rings
    → AllByRecursion IsRingView (rings_at S s)
views_there S [] h s l = absurd (omega arith)
views_there S (v ∷ rings) h s l =
    let items : List Ring = (get_or (v ∷ rings) s v).items in
    subst (AllByRecursion IsRingView) (h.views s v l) (views items (h.limits s v l).each)

none_left : (rings : List RingView) → length rings ≡ 0 → AllByRecursion IsRingView rings
none_left [] h = tt
none_left (r ∷ rings) h = absurd (omega (arith, h))

pub are_views : (S : Parts) (rings : List (Vec Ring Global)) → AreRingsOf S rings → AreRingViews S
are_views S rings h = record {
  views = λ s. elim (cases_lt s (length rings)) [
    | inl l ↦ views_there S rings h s l
    | inr ge ↦ none_left (rings_at S s) (rings_count S s ∙ no_contours S s (omega (arith, ge, h.count)))
  ];
  counts = rings_count S;
}

-- ---- the rings of held sections
-- a contour of at least three points has a ring; so have the contours of a section
one_view : (d first : ℕ) (points : List Point) → 3 ≤ length points → IsRingView (ring_from d first points)
one_view d first points h =
    let n = ring_length d first points in
    record { same = n.points ∙ sym n.ids; enough = omega (arith, n.ids) }

each_view : (first : ℕ) (contours : List (List Point)) (ks : List ℕ) → All (λ points. 3 ≤ length points) contours
    → AllByRecursion (λ k. k < length contours) ks → AllByRecursion IsRingView (map (ring_at first contours) ks)
each_view first contours [] h l = tt
each_view first contours (k ∷ ks) h l = (
  one_view (depth contours k) (first_id first contours k) (contour_at contours k) (h k [] l.0),
  each_view first contours ks h l.1,
)

pub oriented_views : (first : ℕ) (contours : List (List Point)) → All (λ points. 3 ≤ length points) contours
    → AllByRecursion IsRingView (oriented first contours)
unfolding oriented
oriented_views first contours h = each_view first contours (range_with_len 0 (length contours)) h
    (range_below (length contours) 0 (length contours) (omega arith))

-- the contours of a held section are those of the text
pub outline_at : (ss : List Section) (S : Parts) (i : ℕ) (s : Section) → map section_data ss ≡ map section_of S.sections
    → i < length ss → s ≡ get_or ss i s → point_lists s ≡ (layer_at S i).outlines
outline_at ss S i s e l r =
    let there : i < length S.sections = omega (arith, l, count_is ss S.sections e) in
    let same : section_data s ≡ section_of (section_at S i) =
    ap section_data r ∙ sym (get_or-map section_data ss i s (section_data s) l)
    ∙ ap (λ (ds : List SectionData). get_or ds i (section_data s)) e
    ∙ get_or-map section_of S.sections i (record { z = pos 0; contours = [] }) (section_data s) there in
    sym (outlines_are s) ∙ ap outlines_in same ∙ map-map _ _ (section_at S i).contours

held_there : (ss : List Section) (S : Parts) (i : ℕ) → AreValidSections ss
    → map section_data ss ≡ map section_of S.sections → i < length ss → AllByRecursion IsRingView (rings_at S i)
held_there ss S i k e l =
    let s = item_at ss i l in
    let kept = kept_outlines ss i s.0 k l s.1 in
    let enough = All-map (λ (points : List Point). 3 ≤ length points) points_of s.0.contours.items
    (λ j d m. (kept.each j d m).enough) in
    subst (λ (contours : List (List Point)). AllByRecursion IsRingView (oriented (first_vertex S i) contours))
    (outline_at ss S i s.0 e l s.1) (oriented_views (first_vertex S i) (point_lists s.0) enough)

-- the rings of sections that keep the limits, whether the code makes them or not
pub held_views : (ss : List Section) (S : Parts) → AreValidSections ss → map section_data ss ≡ map section_of S.sections
    → AreRingViews S
held_views ss S k e = record {
  views = λ s. elim (cases_lt s (length ss)) [
    | inl l ↦ held_there ss S s k e l
    | inr ge ↦ none_left (rings_at S s)
        (rings_count S s ∙ no_contours S s (omega (arith, ge, count_is ss S.sections e)))
  ];
  counts = rings_count S;
}

-- ---- sums over sections
sum_mapped : {X : Type 0} (g : X → ℕ) (h : ℕ → X) (ks : List ℕ) → sum_by (λ k. g (h k)) ks ≡ sum_by g (map h ks)
sum_mapped g h [] = refl
sum_mapped g h (k ∷ ks) = omega (
  arith,
  sum_mapped g h ks,
  sum_by-cons (λ (k : ℕ). g (h k)) k ks,
  sum_by-cons g (h k) (map h ks),
)

sections_all : (S : Parts) → map (section_at S) (range_with_len 0 (length S.sections)) ≡ S.sections
sections_all S = sym (fill_by_all (section_at S) S.sections (length S.sections) (record { z = pos 0; contours = [] })
    refl (λ k h. refl))

pub sum_sections : (S : Parts) (g : SectionParts → ℕ)
    → sum_by (λ k. g (section_at S k)) (range_with_len 0 (length S.sections)) ≡ sum_by g S.sections
sum_sections S g = sum_mapped g (section_at S) (range_with_len 0 (length S.sections)) ∙ ap (sum_by g) (sections_all S)

-- how many contours a section has
abbrev pub contour_count : SectionParts → ℕ
contour_count s = length (layer s).outlines

sizes_sum : (S : Parts) (ks : List ℕ)
    → sum_by (λ j. weight size (rings_at S j)) ks ≡ sum_by (λ k. vertices_in (section_at S k)) ks
    + 2 * sum_by (λ k. contour_count (section_at S k)) ks
sizes_sum S [] = refl
sizes_sum S (k ∷ ks) =
    omega (
      arith,
      sizes_sum S ks,
      rings_size S k,
      sum_by-cons (λ (j : ℕ). weight size (rings_at S j)) k ks,
      sum_by-cons (λ (j : ℕ). vertices_in (section_at S j)) k ks,
      sum_by-cons (λ (j : ℕ). contour_count (section_at S j)) k ks,
    )

counts_sum : (S : Parts) (ks : List ℕ)
    → sum_by (λ j. length (rings_at S j)) ks ≡ sum_by (λ k. contour_count (section_at S k)) ks
counts_sum S [] = refl
counts_sum S (k ∷ ks) = omega (
  arith,
  counts_sum S ks,
  rings_count S k,
  sum_by-cons (λ (j : ℕ). length (rings_at S j)) k ks,
  sum_by-cons (λ (j : ℕ). contour_count (section_at S j)) k ks,
)

-- ---- the sections of the code
by_data : (g : List (List Point) → ℕ) (secs : List SectionParts)
    → sum_by (λ s. g (layer s).outlines) secs ≡ sum_by (λ d. g (outlines_in d)) (map section_of secs)
by_data g [] = refl
by_data g (s ∷ secs) =
    let e : outlines_in (section_of s) ≡ (layer s).outlines = map-map _ _ s.contours in
    omega (
      arith,
      by_data g secs,
      ap g e,
      sum_by-cons (λ (x : SectionParts). g (layer x).outlines) s secs,
      sum_by-cons (λ (d : SectionData). g (outlines_in d)) (section_of s) (map section_of secs),
    )

by_held : (g : List (List Point) → ℕ) (ss : List Section)
    → sum_by (λ d. g (outlines_in d)) (map section_data ss) ≡ sum_by (λ s. g (point_lists s)) ss
by_held g [] = refl
by_held g (s ∷ ss) =
    omega (
      arith,
      by_held g ss,
      ap g (outlines_are s),
      sum_by-cons (λ (d : SectionData). g (outlines_in d)) (section_data s) (map section_data ss),
      sum_by-cons (λ (x : Section). g (point_lists x)) s ss,
    )

contour_vertices : (cs : List Contour) → sum_by length (map points_of cs) ≡ sum_by vertices cs
contour_vertices [] = refl
contour_vertices (c ∷ cs) = omega (
  arith,
  contour_vertices cs,
  sum_by-cons length (points_of c) (map points_of cs),
  sum_by-cons vertices c cs,
)

held_vertices : (ss : List Section) → sum_by (λ s. sum_by length (point_lists s)) ss ≡ sum_by vertices (contours_in ss)
held_vertices [] = refl
held_vertices (s ∷ ss) =
    omega (
      arith,
      held_vertices ss,
      contour_vertices s.contours.items,
      sum_by-cons (λ (x : Section). sum_by length (point_lists x)) s ss,
      sum_by-append vertices s.contours.items (contours_in ss),
    )

held_contours : (ss : List Section) → sum_by (λ s. length (point_lists s)) ss ≡ length (contours_in ss)
held_contours [] = refl
held_contours (s ∷ ss) =
    omega (
      arith,
      held_contours ss,
      length-map s.contours.items points_of,
      sum_by-cons (λ (x : Section). length (point_lists x)) s ss,
      length-append s.contours.items (contours_in ss),
    )

-- how many vertices and contours there are
pub record AreFew (S : Parts) : Type 0 where
  pub vertices : sum_by vertices_in S.sections ≤ MAX_VERTICES
  pub contours : sum_by contour_count S.sections ≤ MAX_CONTOURS
  pub some : 0 < sum_by contour_count S.sections
  pub sections : length S.sections ≤ MAX_SECTIONS

pub are_few : (S : Parts) (ss : List Section) → AreValidSections ss → map section_data ss ≡ map section_of S.sections
    → AreFew S
are_few S ss k e =
    let v : sum_by vertices_in S.sections ≡ sum_by vertices (contours_in ss) =
    by_data (sum_by length) S.sections ∙ ap (sum_by (λ (d : SectionData). sum_by length (outlines_in d))) (sym e)
    ∙ by_held (sum_by length) ss ∙ held_vertices ss in
    let c : sum_by contour_count S.sections ≡ length (contours_in ss) = by_data length S.sections
    ∙ ap (sum_by (λ (d : SectionData). length (outlines_in d))) (sym e) ∙ by_held length ss ∙ held_contours ss in
    record {
      vertices = omega (arith, v, k.few_vertices);
      contours = omega (arith, c, k.few_contours);
      some = omega (arith, c, k.some_contour);
      sections = omega (
        arith,
        k.few_sections,
        ap length e,
        length-map ss section_data,
        length-map S.sections section_of,
      );
    }

-- the sizes of all rings
pub whole_size : (S : Parts) → sum_by (λ j. weight size (rings_at S j)) (range_with_len 0 (length S.sections))
    ≡ sum_by vertices_in S.sections + 2 * sum_by contour_count S.sections
whole_size S = omega (
  arith,
  sizes_sum S (range_with_len 0 (length S.sections)),
  sum_sections S vertices_in,
  sum_sections S contour_count,
)

-- the contours of sections, counted without their points
pub same_counts : (sections : List SectionParts)
    → sum_by contour_count sections ≡ sum_by (λ s. length s.contours) sections
same_counts [] = refl
same_counts (s ∷ sections) =
    omega (
      arith,
      same_counts sections,
      length-map s.contours (λ c. map (spot_point s.z) c.points),
      sum_by-cons contour_count s sections,
      sum_by-cons (λ (x : SectionParts). length x.contours) s sections,
    )

pub all_counts : (S : Parts) → sum_by (λ j. length (rings_at S j)) (range_with_len 0 (length S.sections))
    ≡ sum_by contour_count S.sections
all_counts S = counts_sum S (range_with_len 0 (length S.sections)) ∙ sum_sections S contour_count

-- ---- vertices
points_held : (s : Section) → flat_map (λ (o : List Point). o) (point_lists s) ≡ flat_map points_of s.contours.items
points_held s = flat_held s.contours.items
  where
    flat_held : (cs : List Contour) → flat_map (λ (o : List Point). o) (map points_of cs) ≡ flat_map points_of cs
    flat_held [] = refl
    flat_held (c ∷ cs) = ap (λ (l : List Point). points_of c ++ l) (flat_held cs)

points_by_data : (secs : List SectionParts)
    → flat_map points_in secs ≡ flat_map (λ d. flat_map (λ (o : List Point). o) (outlines_in d)) (map section_of secs)
points_by_data [] = refl
points_by_data (s ∷ secs) =
    let e : outlines_in (section_of s) ≡ (layer s).outlines = map-map _ _ s.contours in
    ap₂ (λ (x y : List Point). x ++ y) (ap (flat_map (λ (o : List Point). o)) (sym e)) (points_by_data secs)

points_by_held : (ss : List Section)
    → flat_map (λ d. flat_map (λ (o : List Point). o) (outlines_in d)) (map section_data ss)
    ≡ flat_map (λ s. flat_map points_of s.contours.items) ss
points_by_held [] = refl
points_by_held (s ∷ ss) = ap₂ (λ (x y : List Point). x ++ y)
    (ap (flat_map (λ (o : List Point). o)) (outlines_are s) ∙ points_held s) (points_by_held ss)

-- the points of the code's sections are those of the text
pub all_points : (S : Parts) (ss : List Section) → map section_data ss ≡ map section_of S.sections
    → flat_map (λ s. flat_map points_of s.contours.items) ss ≡ flat_map points_in S.sections
all_points S ss e =
    sym (points_by_held ss) ∙ ap (flat_map (λ (d : SectionData). flat_map (λ (o : List Point). o) (outlines_in d))) e
    ∙ sym (points_by_data S.sections)

pub points_count : (S : Parts) → length (flat_map points_in S.sections) ≡ sum_by vertices_in S.sections
points_count S = length-flat_map points_in S.sections ∙ each S.sections
  where
    each : (secs : List SectionParts) → sum_by (λ s. length (points_in s)) secs ≡ sum_by vertices_in secs
    each [] = refl
    each (s ∷ secs) = omega (
      arith,
      each secs,
      length-flat_map (λ (o : List Point). o) (layer s).outlines,
      sum_by-cons (λ (x : SectionParts). length (points_in x)) s secs,
      sum_by-cons vertices_in s secs,
    )

contours_in_range : (cs : List Contour) → AllByRecursion (λ c. All IsInRange (points_of c)) cs
    → All IsInRange (flat_map points_of cs)
contours_in_range [] h = All-nil IsInRange
contours_in_range (c ∷ cs) h = All-append IsInRange (points_of c) (flat_map points_of cs) h.0 (contours_in_range cs h.1)

sections_in_range : (ss : List Section) → AllByRecursion (λ s. All IsInRange (flat_map points_of s.contours.items)) ss
    → All IsInRange (flat_map (λ s. flat_map points_of s.contours.items) ss)
sections_in_range [] h = All-nil IsInRange
sections_in_range (s ∷ ss) h = All-append IsInRange (flat_map points_of s.contours.items)
    (flat_map (λ (x : Section). flat_map points_of x.contours.items) ss) h.0 (sections_in_range ss h.1)

pub points_in_range : (ss : List Section) → AreValidSections ss
    → All IsInRange (flat_map (λ s. flat_map points_of s.contours.items) ss)
points_in_range ss k =
    sections_in_range ss (recursion_from_All (λ (s : Section). All IsInRange (flat_map points_of s.contours.items)) ss
    (λ i d l.
    let cs : List Contour = (get_or ss i d).contours.items in
    contours_in_range cs (recursion_from_All (λ (c : Contour). All IsInRange (points_of c)) cs
    (λ j e m. ((k.each i d l).contours j e m).in_range))))
