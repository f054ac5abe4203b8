-- What holds of each id of the rings of contours holds of each id of their composites.
use Rattle.std.proofs.Common.{◌≡◌, ℕ, zero, suc, ◌+◌, ◌-◌, ◌<◌, inl, inr, true, false, if◌then◌else◌, List, [], ◌∷◌, length, map, take, sum_by, sym, ap, arith, subst, All, pos}
use Rattle.std.specs.List.{range_with_len, AllByRecursion}
use Rattle.std.proofs.lemmas.Bool.{cases_lt}
use Rattle.std.proofs.lemmas.List.{length-reverse, get_or-reverse, get_or_past}
use Rattle.std.proofs.lemmas.List.FromFn.{get_or-range_with_len, length-range_with_len}
use Rattle.std.proofs.lemmas.List.Elements.{All-nil}
use Rattle.std.proofs.lemmas.List.Sums.{sum_by_more_le}
use Rattle.fku_types.specs.declared.points.Point.{Point}
use Rattle.fku_types.proofs.ListLaws.{range_below}
use Rattle.plane_geom.specs.Rings.{RingView}
use Rattle.section_core.specs.Parts.{Parts, SectionParts}
use Rattle.correspondence.specs.Contours.{contour_at}
use Rattle.correspondence.specs.Nesting.{is_turned, turned, ring_from, ring_at, oriented, depth, first_id}
use Rattle.correspondence.specs.Outlines.{layer_at}
use Rattle.ring_polygons.specs.Composites.{view_at, composite}
use Rattle.ring_polygons.proofs.Joining.{others_each}
use Rattle.section_pairs.specs.Rings.{pick, rings_at, vertices_in, first_vertex}

-- what holds of every id of each ring
abbrev pub EachId : (ℕ → Type 0) → List RingView → Type 0
EachId P rings = AllByRecursion (λ (r : RingView). All P r.ids) rings

range_each : (P : ℕ → Type 0) (a n : ℕ) → ((i : ℕ) → i < n → P (a + i)) → All P (range_with_len a n)
range_each P a n h k d l =
    let below : k < n = omega (arith, length-range_with_len a n) in
    subst P (sym (get_or-range_with_len a n k d below)) (h k below)

turned_each : (P : ℕ → Type 0) (ids : List ℕ) → All P ids → All P (turned ids)
turned_each P [] h k d l = absurd (omega arith)
turned_each P (x ∷ xs) h zero d l = h 0 d (omega arith)
turned_each P (x ∷ xs) h (suc k) d l =
    let within : k < length xs = omega (arith, length-reverse xs) in
    subst P (sym (get_or-reverse xs k d within)) (h (suc (length xs - 1 - k)) d (omega arith))

ring_each : (P : ℕ → Type 0) (d first : ℕ) (points : List Point) → ((i : ℕ) → i < length points → P (first + i))
    → All P (ring_from d first points).ids
unfolding ring_from
ring_each P d first points h =
    let Q : RingView → Type 0 = λ l. All P l.ids in
    let ids = range_each P first (length points) h in
    elim (is_turned d points) as (λ b.
    Q (if b then record { points = turned points; ids = turned (range_with_len first (length points)) } else record
    { points = points; ids = range_with_len first (length points) })) [
      | true ↦ turned_each P (range_with_len first (length points)) ids
      | false ↦ ids
    ]

mapped_each : (P : ℕ → Type 0) (first : ℕ) (contours : List (List Point))
    → ((i : ℕ) → i < sum_by length contours → P (first + i)) → (ks : List ℕ)
    → AllByRecursion (λ k. k < length contours) ks → EachId P (map (ring_at first contours) ks)
mapped_each P first contours h [] l = tt
mapped_each P first contours h (k ∷ ks) l = (
  ring_each P (depth contours k) (first_id first contours k) (contour_at contours k)
      (λ i m. let e : first + (sum_by length (take k contours) + i) ≡ first + sum_by length (take k contours) + i =
      omega arith in
      subst P e (h (sum_by length (take k contours) + i) (omega (arith, m, sum_by_more_le length contours k [] l.0)))),
  mapped_each P first contours h ks l.1,
)

pub oriented_each : (P : ℕ → Type 0) (first : ℕ) (contours : List (List Point))
    → ((i : ℕ) → i < sum_by length contours → P (first + i)) → EachId P (oriented first contours)
unfolding oriented
oriented_each P first contours h =
    mapped_each P first contours h (range_with_len 0 (length contours))
    (range_below (length contours) 0 (length contours) (omega arith))

get_each : (P : ℕ → Type 0) (rings : List RingView) (k : ℕ) → EachId P rings → All P (view_at rings k).ids
get_each P [] k h = All-nil P
get_each P (r ∷ rings) zero h = h.0
get_each P (r ∷ rings) (suc k) h = get_each P rings k h.1

pub pick_each : (P : ℕ → Type 0) (rings : List RingView) (places : List ℕ) → EachId P rings
    → EachId P (pick rings places)
pick_each P rings [] h = tt
pick_each P rings (k ∷ ks) h = (get_each P rings k h, pick_each P rings ks h)

pub composite_each : (P : ℕ → Type 0) (rings : List RingView) → EachId P rings → All P (composite rings).ids
composite_each P [] h = All-nil P
composite_each P (r ∷ rings) h = others_each P (length rings) r rings h.0 h.1

-- every id is below n
abbrev pub Known : ℕ → List ℕ → Type 0
Known n ids = All (λ v. v < n) ids

-- ---- rings
pub rings_known : (S : Parts) (s : ℕ) → EachId (λ v. v < sum_by vertices_in S.sections) (rings_at S s)
rings_known S s =
    let n : ℕ = sum_by vertices_in S.sections in
    let nothing : SectionParts = record { z = pos 0; contours = [] } in
    oriented_each (λ v. v < n) (first_vertex S s) (layer_at S s).outlines (elim (cases_lt s (length S.sections)) [
      | inl l ↦ (λ i m. omega (arith, m, sum_by_more_le vertices_in S.sections s nothing l))
      | inr ge ↦ (λ i m. absurd (omega (arith, m, ap vertices_in (get_or_past S.sections s nothing ge))))
    ])
