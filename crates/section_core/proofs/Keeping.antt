-- Accepted parts, with each point at the height of its section, are kept as the readers say.
use Rattle.std.proofs.Common.{◌≡◌, ℕ, ◌≤◌, List, [], ◌∷◌, ◌++◌, map, length, ℤ, pos, ◌≤ℤ◌, refl, ap, sym, ◌∙◌, subst, arith}
use Rattle.std.specs.List.{flat_map, sum_by, AllByRecursion}
use Rattle.std.proofs.lemmas.List.{length-map, map-append}
use Rattle.std.proofs.lemmas.List.Elements.{All-from_recursion}
use Rattle.std.proofs.lemmas.List.Sums.{sum_by-append}
use Rattle.std.proofs.lemmas.Int.{ints}
use Rattle.std.proofs.lemmas.Grind.{flat_map-append}
use Rattle.fku_types.specs.declared.limits.TheConstants.{MAX_CONTOUR_VERTICES, MAX_SECTION_VERTICES, MAX_VERTICES}
use Rattle.fku_types.specs.Points.{IsCoordinate, IsInRange}
use Rattle.fku_types.specs.declared.points.Point.{Point}
use Rattle.section_core.specs.declared.parts.Contour.{Contour}
use Rattle.section_core.specs.declared.parts.Section.{Section}
use Rattle.section_core.specs.Parts.{Parts, Spot, ContourParts, SectionParts, IsCountedContour, asked, contours_of}
use Rattle.section_core.specs.Laws.{IsSpot, AreDistinct, AreRising, heights, counts, points, section_vertices, IsPointCount}
use Rattle.section_core.specs.Views.{spot_of, contour_parts, section_parts}
use Rattle.section_core.specs.Flat.{IsAtHeight, AreFlat, ContourData, SectionData, contour_data, section_data}
use Rattle.section_core.specs.Accepted.{IsAccepted}
use Rattle.section_core.specs.ValidSections.{contours_in, vertices, IsValidContour, IsValidSection, AreValidSections, at_height, contour_at_height, section_of}
use Rattle.fku_types.proofs.ListLaws.{all_rest, all_front}

-- contours
points_in_range : (z : ℤ) (ps : List Point) → IsCoordinate z → AllByRecursion IsSpot (map spot_of ps)
    → AllByRecursion (λ (p : Point). p.z ≡ z) ps → AllByRecursion IsInRange ps
points_in_range z [] h s l = tt
points_in_range z (p ∷ ps) h s l =
    (record { x = s.0.0; y = s.0.1; z = subst IsCoordinate (sym l.0) h }, points_in_range z ps h s.1 l.1)

low : (n : ℕ) → pos 3 ≤ℤ pos n → 3 ≤ n
low n h = omega (arith, ints)

high : (n : ℕ) → pos n ≤ℤ pos MAX_CONTOUR_VERTICES → n ≤ MAX_CONTOUR_VERTICES
high n h = omega (arith, ints)

contours_kept : (z : ℤ) (cs : List Contour) → IsCoordinate z → AllByRecursion IsCountedContour (map contour_parts cs)
    → AllByRecursion IsPointCount (map (λ (c : ContourParts). c.count) (map contour_parts cs))
    → AllByRecursion IsSpot (flat_map (λ (c : ContourParts). c.points) (map contour_parts cs))
    → AllByRecursion (IsAtHeight z) cs → AllByRecursion (IsValidContour z) cs
contours_kept z [] h n k s l = tt
contours_kept z (c ∷ cs) h n k s l =
    let rest = flat_map (λ (d : ContourParts). d.points) (map contour_parts cs) in (
      record {
        name = n.0.0;
        enough = low (length c.points.items) k.0.0;
        few = high (length c.points.items) k.0.1;
        in_range = All-from_recursion IsInRange c.points.items
            (points_in_range z c.points.items h (all_front IsSpot (map spot_of c.points.items) rest s) l.0);
        level = All-from_recursion (λ (p : Point). p.z ≡ z) c.points.items l.0;
      },
      contours_kept z cs h n.1 k.1 (all_rest IsSpot (map spot_of c.points.items) rest s) l.1,
    )

vertices-same : (cs : List Contour)
    → sum_by (λ (c : ContourParts). asked c.count) (map contour_parts cs) ≡ sum_by vertices cs
vertices-same [] = refl
vertices-same (c ∷ cs) =
    omega (
      arith,
      sum_by-append (λ (d : ContourParts). asked d.count) (contour_parts c ∷ []) (map contour_parts cs),
      sum_by-append vertices (c ∷ []) cs,
      vertices-same cs,
    )

-- sections
sections_kept : (ss : List Section) → AllByRecursion IsCoordinate (heights (map section_parts ss))
    → AllByRecursion IsCountedContour (contours_of (map section_parts ss))
    → AllByRecursion IsPointCount (counts (map section_parts ss))
    → AllByRecursion IsSpot (points (map section_parts ss))
    → AllByRecursion (λ n. n ≤ MAX_SECTION_VERTICES) (map section_vertices (map section_parts ss)) → AreFlat ss
    → AllByRecursion IsValidSection ss
sections_kept [] h n k s v l = tt
sections_kept (s ∷ ss) h n k p v l =
    let here = map contour_parts s.contours.items in
    let more = contours_of (map section_parts ss) in
    let Of : ℤ → Type 0 = IsPointCount in
    let count : ContourParts → ℤ = λ c. c.count in
    let spots : ContourParts → List Spot = λ c. c.points in
    let ks = subst (AllByRecursion Of) (map-append count here more) k in
    let qs = subst (AllByRecursion IsSpot) (flat_map-append spots here more) p in (
      record {
        height = h.0;
        contours = All-from_recursion (IsValidContour s.z) s.contours.items
            (contours_kept s.z s.contours.items h.0 (all_front IsCountedContour here more n)
            (all_front Of (map count here) (map count more) ks)
            (all_front IsSpot (flat_map spots here) (flat_map spots more) qs) l.0);
        few_vertices = subst (λ (n : ℕ). n ≤ MAX_SECTION_VERTICES) (vertices-same s.contours.items) v.0;
      },
      sections_kept ss h.1 (all_rest IsCountedContour here more n) (all_rest Of (map count here) (map count more) ks)
          (all_rest IsSpot (flat_map spots here) (flat_map spots more) qs) v.1 l.1,
    )

-- what the laws ask of all contours
heights-same : (ss : List Section) → heights (map section_parts ss) ≡ map (λ (s : Section). s.z) ss
heights-same [] = refl
heights-same (s ∷ ss) = ap (λ (zs : List ℤ). s.z ∷ zs) (heights-same ss)

contours-same : (ss : List Section) → contours_of (map section_parts ss) ≡ map contour_parts (contours_in ss)
contours-same [] = refl
contours-same (s ∷ ss) =
    ap (λ (cs : List ContourParts). map contour_parts s.contours.items ++ cs) (contours-same ss)
    ∙ sym (map-append contour_parts s.contours.items (contours_in ss))

pub names-same : (cs : List Contour)
    → map (λ (c : ContourParts). c.name) (map contour_parts cs) ≡ map (λ (c : Contour). c.name) cs
names-same [] = refl
names-same (c ∷ cs) = ap (λ (ns : List (List ℕ)). c.name ∷ ns) (names-same cs)

asked-same : (cs : List Contour) → sum_by asked (map (λ (c : ContourParts). c.count) (map contour_parts cs))
    ≡ sum_by vertices cs
asked-same [] = refl
asked-same (c ∷ cs) =
    omega (
      arith,
      sum_by-append asked (pos (length c.points.items) ∷ [])
          (map (λ (d : ContourParts). d.count) (map contour_parts cs)),
      sum_by-append vertices (c ∷ []) cs,
      asked-same cs,
    )

pub are_kept : (S : Parts) (ss : List Section) → map section_parts ss ≡ S.sections → IsAccepted S → AreFlat ss
    → AreValidSections ss
are_kept S ss e a flat =
    let all = contours_in ss in
    let same : contours_of S.sections ≡ map contour_parts all = ap contours_of (sym e) ∙ contours-same ss in
    let l = a.lawful in
    record {
      each = All-from_recursion IsValidSection ss
          (sections_kept ss
          (subst (λ (xs : List SectionParts). AllByRecursion IsCoordinate (heights xs)) (sym e) l.in_range)
          (subst (λ (xs : List SectionParts). AllByRecursion IsCountedContour (contours_of xs)) (sym e)
          a.are_parts.contours)
          (subst (λ (xs : List SectionParts). AllByRecursion IsPointCount (counts xs)) (sym e) l.counted)
          (subst (λ (xs : List SectionParts). AllByRecursion IsSpot (points xs)) (sym e) l.spots)
          (subst (λ (xs : List SectionParts).
          AllByRecursion (λ (n : ℕ). n ≤ MAX_SECTION_VERTICES) (map section_vertices xs)) (sym e) l.small)
          flat);
      rising = subst AreRising (ap heights (sym e) ∙ heights-same ss) l.rising;
      names = subst AreDistinct (ap (map (λ (c : ContourParts). c.name)) same ∙ names-same all) l.apart;
      some_contour = omega (arith, a.contour, ap length same, length-map all contour_parts);
      few_sections = omega (
        arith,
        l.few_sections,
        ap (λ (xs : List SectionParts). length (heights xs)) e,
        ap length (heights-same ss),
        length-map ss (λ (s : Section). s.z),
      );
      few_contours = omega (
        arith,
        l.few_contours,
        ap (λ (cs : List ContourParts). length (map (λ (c : ContourParts). c.name) cs)) same,
        ap length (names-same all),
        length-map all (λ (c : Contour). c.name),
      );
      few_vertices = subst (λ (n : ℕ). n ≤ MAX_VERTICES)
          (ap (λ (cs : List ContourParts). sum_by asked (map (λ (c : ContourParts). c.count) cs)) same ∙ asked-same all)
          l.few_vertices;
    }

-- the data of flat sections are those of their parts
pub level-data : (z : ℤ) (ps : List Point) → AllByRecursion (λ (p : Point). p.z ≡ z) ps
    → ps ≡ map (at_height z) (map spot_of ps)
level-data z [] h = refl
level-data z (p ∷ ps) h =
    ap (λ (qs : List Point). p ∷ qs) (level-data z ps h.1)
    ∙ ap (λ (v : ℤ). let q : Point = record { x = p.x; y = p.y; z = v } in q ∷ map (at_height z) (map spot_of ps)) h.0

contours-data : (z : ℤ) (cs : List Contour) → AllByRecursion (IsAtHeight z) cs
    → map contour_data cs ≡ map (contour_at_height z) (map contour_parts cs)
contours-data z [] h = refl
contours-data z (c ∷ cs) h =
    ap (λ (ps : List Point). let d : ContourData = (c.name, ps) in d ∷ map contour_data cs)
    (level-data z c.points.items h.0)
    ∙ ap (λ (ds : List ContourData). contour_at_height z (contour_parts c) ∷ ds) (contours-data z cs h.1)

pub sections-data : (ss : List Section) → AreFlat ss → map section_data ss ≡ map section_of (map section_parts ss)
sections-data [] h = refl
sections-data (s ∷ ss) h =
    ap (λ (ds : List ContourData). let d : SectionData = (s.z, ds) in d ∷ map section_data ss)
    (contours-data s.z s.contours.items h.0)
    ∙ ap (λ (ds : List SectionData). section_of (section_parts s) ∷ ds) (sections-data ss h.1)
