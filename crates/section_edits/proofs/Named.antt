-- The contour of a name, when an edit changes it.
use Rattle.std.proofs.Common.{◌≡◌, [], ◌∷◌, refl, ℕ, ℤ, pos, ◌<◌, ◌≤◌, Bool, true, false, List, length, map, Option, None, Some, sym, ap, ◌∙◌, subst, arith}
use Rattle.std.specs.Prelude.{not, ◌≤ℤ◌}
use Rattle.std.specs.Ordering.{int_eq}
use Rattle.std.specs.List.{AllByRecursion, list_any}
use Rattle.std.specs.Option.{is_some}
use Rattle.std.proofs.lemmas.Bool.{cond-false}
use Rattle.std.proofs.lemmas.Bool.Decides.{nat_tests}
use Rattle.std.proofs.lemmas.Int.{ints}
use Rattle.std.proofs.lemmas.List.{length-map}
use Rattle.std.proofs.Math.ListN.{length-set}
use Rattle.std.proofs.lemmas.List.Edits.{length-insert, length-remove}
use Rattle.fku_types.specs.declared.points.Spot.{Spot as Place}
use Rattle.fku_types.proofs.ListLaws.{any_map}
use Rattle.section_core.specs.declared.parts.Contour.{Contour}
use Rattle.section_core.specs.declared.parts.Section.{Section}
use Rattle.section_core.specs.Parts.{ContourParts, SectionParts, Parts, contours_of}
use Rattle.section_core.specs.Laws.{IsSpot}
use Rattle.section_core.specs.Views.{spot_of, contour_parts, section_parts}
use Rattle.section_edits.specs.declared.edit.Edit.TheVariants.{RemoveContour}
use Rattle.section_edits.specs.declared.edit.EditFault.TheVariants.{EditForm, NoContour, NoVertex, TooFew}
use Rattle.section_edits.specs.declared.editing.VertexChange.{VertexChange}
use Rattle.section_edits.specs.declared.editing.VertexChange.TheVariants.{Moved, Inserted, Removed}
use Rattle.section_edits.specs.Contours.{has_name, contour_of, has_contour_named, has_section_at, spots_in, spots_of}
use Rattle.section_edits.specs.Changes.{changed, with_spots}
use Rattle.section_core.specs.Views.{spot_at}
use Rattle.section_edits.specs.Vertices.{vertex_edit, spots_after, is_out, lacks_vertex, leaves_few}
use Rattle.section_edits.specs.Refusals.{Test, first_of, own_tests, vertex_count_of}
use Rattle.section_edits.specs.Ready.{IsWholeContour, IsReadyParts}
use Rattle.section_edits.proofs.ChangedPoints.{found, near, every_set, every_insert, every_remove}

pub there : (ss : List SectionParts) (name : List ℕ) (k : ContourParts) → contour_of ss name ≡ Some k
    → has_contour_named ss name ≡ true
there ss name k e = ap (λ (o : Option ContourParts). is_some o) e

pub its_spots : (ss : List SectionParts) (name : List ℕ) (k : ContourParts) → contour_of ss name ≡ Some k
    → spots_of ss name ≡ k.points
its_spots ss name k e = ap spots_in e

pub whole_named : (S : Parts) (name : List ℕ) (k : ContourParts) → contour_of S.sections name ≡ Some k → IsReadyParts S
    → IsWholeContour k
whole_named S name k e r = found IsWholeContour (has_name name) (contours_of S.sections) k e r.contours

-- the tests of an edit of a vertex
abbrev pub vertex_tests : Parts → List ℕ → ℕ → VertexChange → List Test
vertex_tests S name i c =
    (is_out c, EditForm)
    ∷ (not (has_contour_named S.sections name), NoContour name)
    ∷ (lacks_vertex c (vertex_count_of S name) i, NoVertex name i)
    ∷ (leaves_few c (vertex_count_of S name), TooFew name)
    ∷ []

pub tests_are : (S : Parts) (name : List ℕ) (i : ℕ) (c : VertexChange)
    → first_of (own_tests S (vertex_edit name i c)) ≡ first_of (vertex_tests S name i c)
tests_are S name i (Moved to) = refl
tests_are S name i (Inserted new) = refl
tests_are S name i Removed = refl

-- the edit itself has no refusal
pub own_vertex : (S : Parts) (name : List ℕ) (i : ℕ) (c : VertexChange) (k : Contour) (n : ℕ)
    → contour_of S.sections name ≡ Some (contour_parts k) → n ≡ length k.points.items → is_out c ≡ false
    → lacks_vertex c n i ≡ false → leaves_few c n ≡ false
    → first_of (own_tests S (vertex_edit name i c)) ≡ None
own_vertex S name i c k n e m far lacks few =
    let count : vertex_count_of S name ≡ n =
    omega (arith, m, ap length (its_spots S.sections name (contour_parts k) e), length-map k.points.items spot_of)
    in
    tests_are S name i c ∙ cond-false _ _ _ far ∙ cond-false _ _ _ (ap not (there S.sections name (contour_parts k) e))
    ∙ cond-false _ _ _ (ap (λ (n : ℕ). lacks_vertex c n i) count ∙ lacks)
    ∙ cond-false _ _ _ (ap (leaves_few c) count ∙ few)

pub changed_is : (S : Parts) (name : List ℕ) (i : ℕ) (c : VertexChange)
    → changed S (vertex_edit name i c) ≡ with_spots name (spots_after c i (spots_of S.sections name)) S
changed_is S name i (Moved to) = refl
changed_is S name i (Inserted new) = refl
changed_is S name i Removed = refl

pub own_drop : (S : Parts) (name : List ℕ) (k : ContourParts) → contour_of S.sections name ≡ Some k
    → first_of (own_tests S (RemoveContour name)) ≡ None
own_drop S name k e = cond-false _ _ _ (ap not (there S.sections name k e))

-- points of a contour of the code
pub enough_points : (c : Contour) → IsWholeContour (contour_parts c) → 3 ≤ length c.points.items
enough_points c w = let h : pos 3 ≤ℤ pos (length c.points.items) = w.1 in omega (arith, ints)

-- the places that it has after the edit
pub enough_after : (c : Contour) (ps : List Place) (i n : ℕ) (change : VertexChange) → IsWholeContour (contour_parts c)
    → n ≡ length c.points.items → lacks_vertex change n i ≡ false → leaves_few change n ≡ false
    → map spot_at ps ≡ spots_after change i (map spot_of c.points.items) → 3 ≤ length ps
enough_after c ps i n (Moved to) w m lacks few e =
    omega (
      arith,
      enough_points c w,
      ap length e,
      length-map ps spot_at,
      length-set (map spot_of c.points.items) i (spot_at to),
      length-map c.points.items spot_of,
    )
enough_after c ps i n (Inserted new) w m lacks few e =
    let l : i ≤ n = grind (arith, nat_tests) in
    let k : i ≤ length (map spot_of c.points.items) = omega (arith, l, m, length-map c.points.items spot_of) in
    omega (
      arith,
      enough_points c w,
      ap length e,
      length-map ps spot_at,
      length-insert (map spot_of c.points.items) i (spot_at new) k,
      length-map c.points.items spot_of,
    )
enough_after c ps i n Removed w m lacks few e =
    let l : i < n = grind (arith, nat_tests) in
    let many : 3 < n = grind (arith, nat_tests) in
    let k : i < length (map spot_of c.points.items) = omega (arith, l, m, length-map c.points.items spot_of) in
    omega (
      arith,
      many,
      m,
      ap length e,
      length-map ps spot_at,
      length-remove (map spot_of c.points.items) i k,
      length-map c.points.items spot_of,
    )

pub in_range_after : (c : Contour) (ps : List Place) (i : ℕ) (change : VertexChange) → IsWholeContour (contour_parts c)
    → is_out change ≡ false → map spot_at ps ≡ spots_after change i (map spot_of c.points.items)
    → AllByRecursion IsSpot (map spot_at ps)
in_range_after c ps i change w far e = subst (AllByRecursion IsSpot) (sym e) (by change far)
  where
    by : (d : VertexChange) → is_out d ≡ false → AllByRecursion IsSpot (spots_after d i (map spot_of c.points.items))
    by (Moved to) far = every_set IsSpot (map spot_of c.points.items) i (spot_at to) w.2 (near to far)
    by (Inserted new) far = every_insert IsSpot (map spot_of c.points.items) i (spot_at new) w.2 (near new far)
    by Removed far = every_remove IsSpot (map spot_of c.points.items) i w.2

-- a new contour
pub section_test : (held : List Section) (ss : List SectionParts) (z : ℤ) (b : Bool) → map section_parts held ≡ ss
    → b ≡ list_any (λ (s : Section). int_eq z s.z) held → has_section_at ss z ≡ b
section_test held ss z b e h =
    ap (λ (ts : List SectionParts). has_section_at ts z) (sym e)
    ∙ any_map section_parts (λ (s : SectionParts). int_eq z s.z) held ∙ sym h

pub not_there : (ss : List SectionParts) (name : List ℕ) → contour_of ss name ≡ None → has_contour_named ss name ≡ false
not_there ss name e = ap (λ (o : Option ContourParts). is_some o) e
