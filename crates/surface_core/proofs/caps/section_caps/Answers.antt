use Rattle.std.proofs.Common.{◌≡◌, ◌≤◌, ◌++◌, ℕ, List, [], length, map, sym, ap, ap₂, ◌∙◌, arith}
use Rattle.std.specs.List.{list_all}
use Rattle.std.proofs.lemmas.List.{length-map}
use Rattle.fku_types.specs.declared.limits.TheConstants.{MAX_CONTOURS}
use Rattle.plane_geom.specs.Rings.{RingView}
use Rattle.plane_geom.specs.declared.ring.Ring.{Ring}
use Rattle.plane_geom.specs.RingViews.{ring_view, ring_views}
use Rattle.correspondence.specs.Contours.{points_of, point_lists, AreOutlines}
use Rattle.correspondence.specs.Nesting.{oriented}
use Rattle.correspondence.proofs.Nested.{few_contours}
use Rattle.ring_polygons.specs.declared.faces.Face.TheVariants.{Below, Above}
use Rattle.section_core.specs.declared.parts.Section.{Section}
use Rattle.section_pairs.specs.Pairs.{pair_parts}
use Rattle.section_pairs.proofs.SectionRings.{oriented_count}
use Rattle.surface_core.specs.Surfaces.{joined_on, open_on, caps_on, folded_in}
use Rattle.surface_core.specs.Marks.{unmarked}
use Rattle.surface_core.proofs.MarkSteps.{unmarked_is, none_open}
use Rattle.surface_core.proofs.CapSteps.{no_caps}
use Rattle.surface_core.proofs.caps.section_caps.Goals as goal

-- a section has a ring for each contour
held_count : (first : ℕ) (s : Section) → length (oriented first (point_lists s)) ≡ length s.contours.items
held_count first s = oriented_count first (point_lists s) ∙ length-map s.contours.items points_of

made_count : (first : ℕ) (s : Section) (rings : List Ring) → ring_views rings ≡ oriented first (point_lists s)
    → length rings ≡ length s.contours.items
made_count first s rings e = sym (length-map rings ring_view) ∙ ap length e ∙ held_count first s

few_made : (first : ℕ) (s : Section) (rings : List Ring) → AreOutlines s.contours.items
    → ring_views rings ≡ oriented first (point_lists s) → length rings ≤ MAX_CONTOURS
few_made first s rings h e = omega (arith, made_count first s rings e, few_contours s.contours.items h)

-- ---- no caps
none_below : (c : goal.After-drop-below-then-are_all_set-2)
    → open_on Below (oriented c.args.first_id (point_lists c.args.section.now)) (map pair_parts c.args.pairs.now)
    c.args.place ≡ []
none_below c =
    none_open (oriented c.args.first_id (point_lists c.args.section.now)) c.in_ok-below.below.items c.len-count.result
    (joined_on Below (map pair_parts c.args.pairs.now) c.args.place)
    (omega (arith, c.len-count.ensures, held_count c.args.first_id c.args.section.now)) c.in_ok-below.ensures
    (sym (c.are_all_set.ensures ∙ ap (list_all (λ set. set)) c.deref.ensures.value) ∙ c.if-are_all_set.true)

none_above : (c : goal.After-drop-below-then-are_all_set-2)
    → open_on Above (oriented c.args.first_id (point_lists c.args.section.now)) (map pair_parts c.args.pairs.now)
    c.args.place ≡ []
none_above c =
    none_open (oriented c.args.first_id (point_lists c.args.section.now)) c.in_ok-above.above.items c.len-count.result
    (joined_on Above (map pair_parts c.args.pairs.now) c.args.place)
    (omega (arith, c.len-count.ensures, held_count c.args.first_id c.args.section.now)) c.in_ok-above.ensures
    (sym (c.are_all_set-then-are_all_set.ensures ∙ ap (list_all (λ set. set)) c.deref-then-are_all_set.ensures.value)
    ∙ c.if-are_all_set-2.true)

pub returns-then-are_all_set-2-clause-triangles : goal.returns-then-are_all_set-2-clause-triangles
returns-then-are_all_set-2-clause-triangles c = c.new.ensures.items ∙ no_caps _ _ (none_below c) (none_above c)

pub returns-then-are_all_set-2-clause-folded : goal.returns-then-are_all_set-2-clause-folded
returns-then-are_all_set-2-clause-folded c = omega (arith, ap folded_in (none_below c), ap folded_in (none_above c))

-- ---- caps
pub add_caps-requires-clause-few : goal.add_caps-requires-clause-few
add_caps-requires-clause-few c =
    omega (
      arith,
      ap length c.deref-2.ensures.value,
      few_made c.args.first_id c.args.section.now c.in_ok-rings.rings.items c.requires.outlines
          c.in_ok-rings.ensures.rings,
    )

pub add_caps-requires-clause-marks : goal.add_caps-requires-clause-marks
add_caps-requires-clause-marks c =
    omega (
      arith,
      ap length c.deref-2.ensures.value,
      ap length c.deref-3.ensures.value,
      made_count c.args.first_id c.args.section.now c.in_ok-rings.rings.items c.in_ok-rings.ensures.rings,
      c.in_ok-below.ensures.count,
      c.len-count.ensures,
    )

pub add_caps-requires-2-clause-few : goal.add_caps-requires-2-clause-few
add_caps-requires-2-clause-few c =
    omega (
      arith,
      ap length c.deref-4.ensures.value,
      few_made c.args.first_id c.args.section.now c.in_ok-rings.rings.items c.requires.outlines
          c.in_ok-rings.ensures.rings,
    )

pub add_caps-requires-2-clause-marks : goal.add_caps-requires-2-clause-marks
add_caps-requires-2-clause-marks c =
    omega (
      arith,
      ap length c.deref-4.ensures.value,
      ap length c.deref-5.ensures.value,
      made_count c.args.first_id c.args.section.now c.in_ok-rings.rings.items c.in_ok-rings.ensures.rings,
      c.in_ok-above.ensures.count,
      c.len-count.ensures,
    )

pub add_caps-requires-2-clause-folded : goal.add_caps-requires-2-clause-folded
add_caps-requires-2-clause-folded c =
    omega (
      arith,
      c.in_ok-add_caps.ensures.small,
      ap length c.deref-2.ensures.value,
      few_made c.args.first_id c.args.section.now c.in_ok-rings.rings.items c.requires.outlines
          c.in_ok-rings.ensures.rings,
    )

open_below : (c : goal.After-drop-below-2)
    → unmarked (ring_views c.deref-2.result.now) c.deref-3.result.now
    ≡ open_on Below (oriented c.args.first_id (point_lists c.args.section.now)) (map pair_parts c.args.pairs.now)
    c.args.place
open_below c =
    ap₂ unmarked (ap ring_views c.deref-2.ensures.value ∙ c.in_ok-rings.ensures.rings) c.deref-3.ensures.value
    ∙ unmarked_is (oriented c.args.first_id (point_lists c.args.section.now)) c.in_ok-below.below.items
    c.len-count.result (joined_on Below (map pair_parts c.args.pairs.now) c.args.place)
    (omega (arith, c.len-count.ensures, held_count c.args.first_id c.args.section.now)) c.in_ok-below.ensures

open_above : (c : goal.After-drop-below-2)
    → unmarked (ring_views c.deref-4.result.now) c.deref-5.result.now
    ≡ open_on Above (oriented c.args.first_id (point_lists c.args.section.now)) (map pair_parts c.args.pairs.now)
    c.args.place
open_above c =
    ap₂ unmarked (ap ring_views c.deref-4.ensures.value ∙ c.in_ok-rings.ensures.rings) c.deref-5.ensures.value
    ∙ unmarked_is (oriented c.args.first_id (point_lists c.args.section.now)) c.in_ok-above.above.items
    c.len-count.result (joined_on Above (map pair_parts c.args.pairs.now) c.args.place)
    (omega (arith, c.len-count.ensures, held_count c.args.first_id c.args.section.now)) c.in_ok-above.ensures

pub returns-clause-triangles : goal.returns-clause-triangles
returns-clause-triangles c =
    let old = c.new.result.items in
    c.in_ok-add_caps-2.ensures.triangles
    ∙ ap₂ (λ (l : List (List ℕ)) (r : List RingView). l ++ caps_on Above r)
    (c.in_ok-add_caps.ensures.triangles ∙ ap (λ (r : List RingView). old ++ caps_on Below r) (open_below c))
    (open_above c)
    ∙ ap (λ (l : List (List ℕ)). (l ++ caps_on Below
    (open_on Below (oriented c.args.first_id (point_lists c.args.section.now)) (map pair_parts c.args.pairs.now)
    c.args.place)) ++ caps_on Above (open_on Above (oriented c.args.first_id (point_lists c.args.section.now))
    (map pair_parts c.args.pairs.now) c.args.place)) c.new.ensures.items

pub returns-clause-folded : goal.returns-clause-folded
returns-clause-folded c = omega (
  arith,
  c.in_ok-add_caps.ensures.folded,
  c.in_ok-add_caps-2.ensures.folded,
  ap folded_in (open_below c),
  ap folded_in (open_above c),
)
