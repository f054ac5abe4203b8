-- The groups that the code makes from marks and parents.
use Rattle.std.proofs.Common.{◌≡◌, ℕ, ◌≤◌, Bool, true, false, cond, suc, Option, List, [], ◌∷◌, length, filter, ap, ◌∙◌, arith, subst, All}
use Rattle.std.specs.List.{range_with_len}
use Rattle.std.proofs.lemmas.List.{length-map}
use Rattle.std.proofs.lemmas.List.FromFn.{length-range_with_len}
use Rattle.std.proofs.lemmas.List.Elements.{All-from_recursion}
use Rattle.fku_types.specs.declared.limits.TheConstants.{MAX_CONTOURS}
use Rattle.fku_types.specs.declared.points.Point.{Point}
use Rattle.plane_geom.specs.Rings.{RingView}
use Rattle.plane_geom.specs.declared.ring.Ring.{Ring}
use Rattle.plane_geom.specs.RingViews.{ring_view, ring_views}
use Rattle.ring_polygons.proofs.Joining.{few_rings}
use Rattle.section_pairs.specs.Rings.{AreSectionRings}
use Rattle.surface_core.specs.Marks.{AreSetAt}
use Rattle.section_pairs.proofs.Picks.{sizes_are}
use Rattle.ring_caps.specs.Groups.{parent, parents, begins, group, groups, is_capped, side_groups}
use Rattle.ring_caps.specs.Held.{capped_by, parent_by, IsGroup}
use Rattle.ring_caps.proofs.GroupSums.{AreFamilies}
use Rattle.ring_caps.proofs.Families.{families, same_families, held_count, held_parent}
use Rattle.ring_caps.proofs.GroupLists.{groups_same, capped_same, are_groups}

-- what the code holds for a face of a section
pub record Held (outlines : List (List Point)) (rings : List Ring) (held : List (Option ℕ)) (joined : List Bool)
    (places : List ℕ) : Type 0 where
  pub limits : AreSectionRings rings
  pub count : length rings ≡ length outlines
  pub families : held ≡ parents outlines
  pub marks : AreSetAt joined (length rings) places

pub few_contours : (outlines : List (List Point)) (rings : List Ring) (held : List (Option ℕ)) → AreSectionRings rings
    → length rings ≡ length outlines → held ≡ parents outlines → length held ≤ MAX_CONTOURS
few_contours outlines rings held limits count families =
    omega (arith, held_count outlines held families, count, few_rings rings limits.each, limits.few)

-- the groups are those of the definition
pub side_is : (outlines : List (List Point)) (rings : List Ring) (held : List (Option ℕ)) (joined : List Bool)
    (places : List ℕ) → Held outlines rings held joined places
    → groups (capped_by joined) (parent_by held) (length held) ≡ side_groups outlines places
side_is outlines rings held joined places h =
    let n : ℕ = length outlines in
    ap (groups (capped_by joined) (parent_by held)) (held_count outlines held h.families)
    ∙ groups_same (capped_by joined) (is_capped places) (parent_by held) (parent outlines) n
    (λ k l. capped_same joined (length rings) places h.marks k (omega (arith, l, h.count)))
    (held_parent outlines held h.families) (families outlines)

-- they may be joined
pub held_groups : (outlines : List (List Point)) (rings : List Ring) (held : List (Option ℕ)) (joined : List Bool)
    (places : List ℕ) → Held outlines rings held joined places
    → All (IsGroup (ring_views rings)) (groups (capped_by joined) (parent_by held) (length held))
held_groups outlines rings held joined places h =
    let views : List RingView = ring_views rings in
    let count : length views ≡ length held =
    omega (arith, length-map rings ring_view, h.count, held_count outlines held h.families) in
    let size : length outlines ≡ length views = omega (arith, length-map rings ring_view, h.count) in
    let own : AreFamilies (parent_by held) (length outlines) =
    same_families (parent_by held) (parent outlines) (length outlines) (held_parent outlines held h.families)
    (families outlines) in
    let all = are_groups views (capped_by joined) (parent_by held) (subst (AreFamilies (parent_by held)) size own)
    (omega (arith, h.limits.few, sizes_are rings)) in
    subst (λ (n : ℕ). All (IsGroup views) (groups (capped_by joined) (parent_by held) n)) count
    (All-from_recursion (IsGroup views) (groups (capped_by joined) (parent_by held) (length views)) all)

filter_one : (b : Bool) (k : ℕ) (ks : List ℕ) → length (cond b (k ∷ ks) ks) ≤ suc (length ks)
filter_one true k ks = omega arith
filter_one false k ks = omega arith

pub filter_few : (test : ℕ → Bool) (ks : List ℕ) → length (filter test ks) ≤ length ks
filter_few test [] = omega arith
filter_few test (k ∷ ks) = omega (arith, filter_few test ks, filter_one (test k) k (filter test ks))

pub groups_count : (capped : ℕ → Bool) (parents : ℕ → Option ℕ) (n : ℕ) → length (groups capped parents n) ≤ n
groups_count capped parents n =
    omega (
      arith,
      length-map (filter (begins capped parents) (range_with_len 0 n)) (group capped parents n),
      filter_few (begins capped parents) (range_with_len 0 n),
      length-range_with_len 0 n,
    )
