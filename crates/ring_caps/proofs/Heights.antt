-- The vertices of a section's rings lie at its height.
use Rattle.std.proofs.Common.{◌≡◌, ℕ, ◌+◌, ◌<◌, List, [], ◌∷◌, length, map, take, get_or, flat_map, sum_by, refl, sym, ap, ◌∙◌, arith, All, ℤ, pos}
use Rattle.std.proofs.lemmas.List.{length-append}
use Rattle.std.proofs.lemmas.List.Elements.{All-append, All-nil, All-cons}
use Rattle.std.proofs.lemmas.List.Sums.{sum_by-cons}
use Rattle.std.proofs.lemmas.List.Concat.{get_or-flat_map, length-flat_map}
use Rattle.fku_types.specs.declared.points.Point.{Point}
use Rattle.plane_geom.specs.Rings.{origin}
use Rattle.section_core.specs.Parts.{Spot, ContourParts, SectionParts, Parts}
use Rattle.correspondence.specs.Outlines.{spot_point, layer, layer_at, section_at}
use Rattle.section_pairs.specs.Rings.{rings_at, vertices_in, first_vertex}
use Rattle.surface_core.specs.Surfaces.{points_in}
use Rattle.section_pairs.proofs.RingIds.{EachId, oriented_each}
use Rattle.ring_caps.proofs.Flat.{AtHeight}

-- ---- the points of a section
spots_high : (z : ℤ) (spots : List Spot) → All (λ (p : Point). p.z ≡ z) (map (spot_point z) spots)
spots_high z [] = All-nil (λ (p : Point). p.z ≡ z)
spots_high z (s ∷ spots) = All-cons (λ (p : Point). p.z ≡ z) (spot_point z s) (map (spot_point z) spots) refl
    (spots_high z spots)

contours_high : (z : ℤ) (contours : List ContourParts)
    → All (λ (p : Point). p.z ≡ z) (flat_map (λ (o : List Point). o)
    (map (λ (c : ContourParts). map (spot_point z) c.points) contours))
contours_high z [] = All-nil (λ (p : Point). p.z ≡ z)
contours_high z (c ∷ contours) =
    All-append (λ (p : Point). p.z ≡ z) (map (spot_point z) c.points)
    (flat_map (λ (o : List Point). o) (map (λ (d : ContourParts). map (spot_point z) d.points) contours))
    (spots_high z c.points) (contours_high z contours)

points_length : (secs : List SectionParts) → length (flat_map points_in secs) ≡ sum_by vertices_in secs
points_length [] = refl
points_length (s ∷ secs) =
    omega (
      arith,
      points_length secs,
      length-append (points_in s) (flat_map points_in secs),
      length-flat_map (λ (o : List Point). o) (layer s).outlines,
      sum_by-cons vertices_in s secs,
    )

vertex_high : (S : Parts) (s i : ℕ) → s < length S.sections → i < vertices_in (section_at S s)
    → AtHeight (flat_map points_in S.sections) (section_at S s).z (first_vertex S s + i)
vertex_high S s i l m =
    let here : SectionParts = section_at S s in
    let nothing : SectionParts = record { z = pos 0; contours = [] } in
    let n : i < length (points_in here) =
    omega (arith, m, length-flat_map (λ (o : List Point). o) (layer here).outlines) in
    let read = get_or-flat_map points_in S.sections s i nothing origin l n in
    let first : length (flat_map points_in (take s S.sections)) ≡ first_vertex S s =
    points_length (take s S.sections) in
    ap (λ (p : Point). p.z) (ap (λ (k : ℕ). get_or (flat_map points_in S.sections) (k + i) origin) (sym first) ∙ read)
    ∙ contours_high here.z here.contours i origin n

pub rings_high : (S : Parts) (s : ℕ) → s < length S.sections
    → EachId (AtHeight (flat_map points_in S.sections) (section_at S s).z) (rings_at S s)
rings_high S s l = oriented_each (AtHeight (flat_map points_in S.sections) (section_at S s).z) (first_vertex S s)
    (layer_at S s).outlines (λ i m. vertex_high S s i l m)
