-- What rows state of the contours of two sections.
use Rattle.std.proofs.Common.{◌≡◌, ◌↔◌, ℕ, ◌<◌, Bool, true, List, [], length, map, get_or, sym, ap, ◌∙◌, subst, arith, bytes_eq}
use Rattle.std.specs.List.{list_any, slice_index}
use Rattle.std.proofs.lemmas.List.{length-map}
use Rattle.std.proofs.lemmas.List.FromFn.{get_or-map-range_with_len}
use Rattle.fku_types.specs.declared.points.Point.{Point}
use Rattle.section_core.specs.declared.parts.Contour.{Contour}
use Rattle.section_core.specs.declared.parts.Section.{Section}
use Rattle.section_core.specs.Parts.{LinkParts}
use Rattle.correspondence.specs.Contours.{points_of, point_lists, contour_at}
use Rattle.correspondence.specs.Nesting.{depth, depths}
use Rattle.correspondence.proofs.ContourReads.{contour_read, name_read}
use Rattle.correspondence.specs.Outlines.{held_layer, name_in}
use Rattle.correspondence.specs.Overlaps.{Overlap}
use Rattle.correspondence.specs.Correspondences.{Alike, same_parity, links_names}
use Rattle.correspondence.specs.Named.{AreNamedAbove}
use Rattle.correspondence.specs.Graphs.{IsRow}
use Rattle.correspondence.proofs.RowSteps.{row_at}

pub depth_read : (cs : List (List Point)) (i d : ℕ) (ds : List ℕ) → ds ≡ depths cs → i < length cs
    → get_or ds i d ≡ depth cs i
depth_read cs i d ds e l = ap (λ (l : List ℕ). get_or l i d) e
    ∙ get_or-map-range_with_len (depth cs) 0 (length cs) i i d l (omega arith)

same_facts : (a b d e : ℕ) (p q r : List Point) → a ≡ b → d ≡ e → p ≡ q
    → ((same_parity a d ≡ true) × Overlap p r) ↔ ((same_parity b e ≡ true) × Overlap q r)
same_facts a b d e p q r f g h =
    let P : ℕ → Type 0 = λ x. ((same_parity a d ≡ true) × Overlap p r) ↔ ((same_parity x d ≡ true) × Overlap p r) in
    let Q : ℕ → Type 0 = λ x. ((same_parity a d ≡ true) × Overlap p r) ↔ ((same_parity b x ≡ true) × Overlap p r) in
    let R : List Point → Type 0 = λ x. ((same_parity a d ≡ true) × Overlap p r)
    ↔ ((same_parity b e ≡ true) × Overlap x r) in
    subst R h (subst Q g (subst P f (λ x. x, λ x. x)))

pub alike_row : (low high : Section) (i d : ℕ) (low_depths high_depths : List ℕ) (c : Contour) (cs : List Contour)
    (row : List Bool) → i < length low.contours.items → c ≡ get_or low.contours.items i c
    → low_depths ≡ depths (point_lists low) → d ≡ get_or low_depths i d → high_depths ≡ depths (point_lists high)
    → cs ≡ high.contours.items
    → IsRow row (length cs) (λ j. (same_parity d (slice_index high_depths j) ≡ true)
    × Overlap (points_of c) (contour_at (map points_of cs) j))
    → IsRow row (length high.contours.items) (Alike (point_lists low) (point_lists high) i)
alike_row low high i d low_depths high_depths c cs row l read dl de dh same r =
    let here : IsRow row (length high.contours.items)
    (λ j. (same_parity d (slice_index high_depths j) ≡ true)
    × Overlap (points_of c) (contour_at (point_lists high) j)) =
    subst (λ (x : List Contour). IsRow row (length x)
    (λ j. (same_parity d (slice_index high_depths j) ≡ true)
    × Overlap (points_of c) (contour_at (map points_of x) j))) same r in
    let own : d ≡ depth (point_lists low) i = de
    ∙ depth_read (point_lists low) i d low_depths dl (omega (arith, length-map low.contours.items points_of)) in
    row_at row (length high.contours.items) _ (Alike (point_lists low) (point_lists high) i) here
    (λ j n. same_facts d (depth (point_lists low) i) (slice_index high_depths j) (depth (point_lists high) j)
    (points_of c) (contour_at (point_lists low) i) (contour_at (point_lists high) j) own
    (depth_read (point_lists high) j 0 high_depths dh (omega (arith, length-map high.contours.items points_of)))
    (contour_read low.contours.items i c l read))

same_test : (a b : Bool) → a ≡ b → (a ≡ true) ↔ (b ≡ true)
same_test a b e = (λ h. sym e ∙ h, λ h. e ∙ h)

pub linked_row : (low high : Section) (i : ℕ) (c : Contour) (lows cs : List Contour) (above : List ℕ → List (List ℕ))
    (links : List LinkParts) (row : List Bool) → i < length lows → c ≡ get_or lows i c → lows ≡ low.contours.items
    → cs ≡ high.contours.items → AreNamedAbove above links
    → IsRow row (length cs) (λ j. list_any (bytes_eq (get_or (map (λ (x : Contour). x.name) cs) j [])) (above c.name)
    ≡ true)
    → IsRow row (length high.contours.items)
    (λ j. list_any (links_names (name_in (held_layer low) i) (name_in (held_layer high) j)) links ≡ true)
linked_row low high i c lows cs above links row l read same_low same h r =
    let here = subst (λ (x : List Contour).
    IsRow row (length x) (λ j. list_any (bytes_eq (get_or (map (λ (y : Contour). y.name) x) j [])) (above c.name)
    ≡ true)) same r in
    let name : c.name ≡ name_in (held_layer low) i = name_read lows i c l read
    ∙ ap (λ (x : List Contour). get_or (map (λ (y : Contour). y.name) x) i []) same_low in
    row_at row (length high.contours.items) _
    (λ j. list_any (links_names (name_in (held_layer low) i) (name_in (held_layer high) j)) links ≡ true) here
    (λ j n. same_test _ _ (h c.name (name_in (held_layer high) j)
    ∙ ap (λ (x : List ℕ). list_any (links_names x (name_in (held_layer high) j)) links) name))
