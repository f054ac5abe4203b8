use Rattle.std.proofs.Common.{◌≡◌, Bool, List, Vec, ℕ, map, ap, ◌∙◌, sym, subst, arith, Err, length, All}
use Rattle.std.specs.Global.{Global}
use Rattle.std.specs.Vec.{with_items}
use Rattle.std.proofs.lemmas.Grind.{common_steps}
use Rattle.std.proofs.lemmas.Result.{err_from_is_err_and}
use Rattle.std.proofs.lemmas.List.{length-map}
use Rattle.fku_types.specs.declared.fault.Fault.{Fault}
use Rattle.plane_geom.specs.RingViews.{ring_views}
use Rattle.correspondence.specs.Contours.{point_lists}
use Rattle.ring_polygons.specs.Caps.{faced}
use Rattle.section_pairs.specs.Pairs.{pair_parts, IsShort}
use Rattle.section_pairs.specs.SectionFaults.{IsFirstFault, OrNoMemory}
use Rattle.surface_core.specs.Marks.{AreSetAt}
use Rattle.surface_core.specs.Surfaces.{joined_on}
use Rattle.section_pairs.proofs.Sides.{err_told}
use Rattle.ring_caps.specs.RingSurfaces.{groups_on, ring_tops, groups_folded, side_sizes, face_sizes, HasLongGroup}
use Rattle.ring_caps.specs.Held.{capped_by, parent_by, IsGroup, lists}
use Rattle.ring_caps.proofs.Families.{held_count, held_there}
use Rattle.ring_caps.proofs.MarkedGroups.{Held, few_contours, side_is, held_groups, groups_count}
use Rattle.ring_caps.proofs.caps.face_caps.Goals as goal

pub groups-requires-clause-same : goal.groups-requires-clause-same
groups-requires-clause-same c = omega (
  arith,
  ap length c.deref.ensures.value,
  c.in_ok-joined.ensures.count,
  c.requires.count,
  held_count (point_lists c.args._section.now) c.args.families.now c.requires.families,
)

pub groups-requires-clause-few : goal.groups-requires-clause-few
groups-requires-clause-few c = few_contours (point_lists c.args._section.now) c.args.rings.now c.args.families.now
    c.requires.rings c.requires.count c.requires.families

pub groups-requires-clause-there : goal.groups-requires-clause-there
groups-requires-clause-there c = held_there (point_lists c.args._section.now) c.args.families.now c.requires.families

-- what the code holds for the face
held : (c : goal.After-deref-2) → Held (point_lists c.args._section.now) c.args.rings.now c.args.families.now
    c.deref.result.now (joined_on c.args.face (map pair_parts c.args.pairs.now) c.args.place)
held c =
    let places = joined_on c.args.face (map pair_parts c.args.pairs.now) c.args.place in
    let marks = subst (λ (m : List Bool). AreSetAt m (length c.args.rings.now) places) (sym c.deref.ensures.value)
    c.in_ok-joined.ensures in
    record { limits = c.requires.rings; count = c.requires.count; families = c.requires.families; marks = marks }

pub side_caps-requires-clause-groups : goal.side_caps-requires-clause-groups
side_caps-requires-clause-groups c =
    let places = joined_on c.args.face (map pair_parts c.args.pairs.now) c.args.place in
    subst (λ (gs : List (List ℕ)). All (IsGroup (ring_views c.args.rings.now)) gs)
    (sym (ap lists c.deref-2.ensures.value ∙ c.in_ok-held.ensures))
    (held_groups (point_lists c.args._section.now) c.args.rings.now c.args.families.now c.deref.result.now places
    (held c))

pub side_caps-requires-clause-few : goal.side_caps-requires-clause-few
side_caps-requires-clause-few c =
    omega (
      arith,
      length-map c.deref-2.result.now (λ (v : Vec ℕ Global). v.items),
      ap length (ap lists c.deref-2.ensures.value ∙ c.in_ok-held.ensures),
      groups_count (capped_by c.deref.result.now) (parent_by c.args.families.now) (length c.args.families.now),
      few_contours (point_lists c.args._section.now) c.args.rings.now c.args.families.now c.requires.rings
          c.requires.count c.requires.families,
    )

pub returns-in_err-list-clause-fault : goal.returns-in_err-list-clause-fault
returns-in_err-list-clause-fault c =
    let s = c.args.place in
    let outlines = point_lists c.args._section.now in
    let views = ring_views c.args.rings.now in
    let places = joined_on c.args.face (map pair_parts c.args.pairs.now) s in
    let fault = c.in_err-list.field-0.0 in
    let exit = err_from_is_err_and c.from_residual-in_err-list.result c.from_residual-in_err-list.ensures.1 in
    let marks = subst (λ (m : List Bool). AreSetAt m (length c.args.rings.now) places) (sym c.deref.ensures.value)
    c.in_ok-joined.ensures in
    let sides = ap lists c.deref-2.ensures.value ∙ c.in_ok-held.ensures
    ∙ side_is outlines c.args.rings.now c.args.families.now c.deref.result.now places
    (record { limits = c.requires.rings; count = c.requires.count; families = c.requires.families; marks = marks }) in
    err_told c.from_residual-in_err-list.result fault
    (OrNoMemory (IsFirstFault IsShort HasLongGroup
    (face_sizes c.args.face s outlines views (map pair_parts c.args.pairs.now))))
    (exit.1 ∙ ap (λ (e : Fault). Err e) exit.2)
    (subst (λ (gs : List (List ℕ)). OrNoMemory (IsFirstFault IsShort HasLongGroup (side_sizes s views gs)) fault) sides
    c.in_err-list.ensures.fault)

-- the groups are those of the face
sides : (c : goal.After-drop-joined-2)
    → lists c.deref-2.result.now ≡ groups_on c.args.face (point_lists c.args._section.now)
    (map pair_parts c.args.pairs.now) c.args.place
sides c =
    let places = joined_on c.args.face (map pair_parts c.args.pairs.now) c.args.place in
    let marks = subst (λ (m : List Bool). AreSetAt m (length c.args.rings.now) places) (sym c.deref.ensures.value)
    c.in_ok-joined.ensures in
    ap lists c.deref-2.ensures.value ∙ c.in_ok-held.ensures
    ∙ side_is (point_lists c.args._section.now) c.args.rings.now c.args.families.now c.deref.result.now places
    (record { limits = c.requires.rings; count = c.requires.count; families = c.requires.families; marks = marks })

pub returns-clause-caps : goal.returns-clause-caps
returns-clause-caps c =
    let views = ring_views c.args.rings.now in
    let list = c.in_ok-list.list in
    let turned : (with_items list.triangles c.turn_to.new.triangles).items ≡ faced c.args.face list.triangles.items =
    grind (arith, common_steps) in
    record {
      triangles = turned ∙ ap (faced c.args.face) (c.in_ok-list.ensures.triangles ∙ ap (ring_tops views) (sides c));
      folded = c.in_ok-list.ensures.folded ∙ ap (groups_folded views) (sides c);
    }

pub returns-clause-short : goal.returns-clause-short
returns-clause-short c = subst (λ (gs : List (List ℕ)).
    All IsShort (side_sizes c.args.place (ring_views c.args.rings.now) gs)) (sides c) c.in_ok-list.ensures.short
