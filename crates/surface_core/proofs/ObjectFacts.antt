-- Facts on the objects of a text without a fault: how many vertices, contours and pairs they have together.
use Rattle.std.proofs.Common.{◌≡◌, ℕ, ◌≤◌, ◌<◌, true, List, [], ◌∷◌, length, map, sum_by, refl, sym, ap, ap₂, ◌∙◌, subst, arith, ℤ}
use Rattle.std.specs.Prelude.{nat_lt}
use Rattle.std.specs.List.{AllByRecursion, AllZip, list_all}
use Rattle.std.proofs.lemmas.Bool.{and_parts}
use Rattle.std.proofs.lemmas.Bool.Decides.{nat_tests}
use Rattle.std.proofs.lemmas.List.{length-append, length-map, map-append}
use Rattle.std.proofs.lemmas.List.Concat.{length-flat_map}
use Rattle.std.proofs.lemmas.List.Sums.{sum_by-cons, sum_by-append}
use Rattle.fku_types.specs.declared.limits.TheConstants.{MAX_CONTOURS, MAX_OBJECTS, MAX_PAIRS, MAX_VERTICES}
use Rattle.fku_types.specs.declared.rules.PairRule.{PairRule}
use Rattle.section_core.specs.declared.objects.Object.{Object}
use Rattle.section_core.specs.declared.parts.Version.{Version}
use Rattle.section_core.specs.declared.parts.Version.TheVariants.{One, Two}
use Rattle.section_core.specs.Parts.{CostParts, Parts, ContourParts, SectionParts, ObjectParts, FileParts, IsCountedContour, AreObjects, contours_of, all_sections, asked}
use Rattle.section_core.specs.Laws.{counts, told_names}
use Rattle.section_core.specs.Reading.{has_contour}
use Rattle.section_core.specs.Accepted.{IsAcceptedFile}
use Rattle.section_core.specs.Objects.{object_parts, AreUnder}
use Rattle.fku_types.proofs.ListLaws.{all_rest, all_front}
use Rattle.correspondence.specs.Outlines.{spot_point}
use Rattle.section_pairs.specs.Rings.{vertices_in}
use Rattle.section_pairs.specs.Pairs.{PairParts}
use Rattle.section_pairs.specs.SectionFaults.{ArePairs}
use Rattle.surface_core.specs.Objects.{alone, objects_in, sections_in, AreAllPairs, numbered, object_vertices, object_contours}
use Rattle.surface_core.proofs.SectionFacts.{same_counts}
use Rattle.surface_core.proofs.Totals.{pairs_within}

-- ---- the objects of the code are those of the text
same_parts : (F : FileParts) (o : Object) → o.sections.cost ≡ F.cost → o.sections.rule ≡ F.rule
    → o.sections ≡ alone F (object_parts o)
same_parts F o c r = ap₂ under c r
  where
    under : CostParts → PairRule → Parts
    under cost rule = record { cost = cost; rule = rule; sections = o.sections.sections; links = o.sections.links }

held_parts : (F : FileParts) (items : List Object) → AreUnder F.cost F.rule items
    → sections_in items ≡ map (alone F) (map object_parts items)
held_parts F [] h = refl
held_parts F (o ∷ items) h = ap₂ (λ (S : Parts) (more : List Parts). S ∷ more) (same_parts F o h.0.0 h.0.1)
    (held_parts F items h.1)

pub objects_are : (F : FileParts) (items : List Object) → map object_parts items ≡ F.objects
    → AreUnder F.cost F.rule items → sections_in items ≡ objects_in F
objects_are F items e h = held_parts F items h ∙ ap (map (alone F)) e

pub held_pairs : (F : FileParts) (items : List Object) (pss : List (List PairParts))
    → map object_parts items ≡ F.objects → AreUnder F.cost F.rule items → AreAllPairs F pss
    → AllZip ArePairs (sections_in items) pss
held_pairs F items pss e h pairs =
    subst (λ (objects : List Parts). AllZip ArePairs objects pss) (sym (objects_are F items e h)) pairs

-- ---- vertices and contours
sum_over : (g : SectionParts → ℕ) (F : FileParts) (os : List ObjectParts)
    → sum_by (λ (S : Parts). sum_by g S.sections) (map (alone F) os) ≡ sum_by g (all_sections os)
sum_over g F [] = refl
sum_over g F (o ∷ os) =
    omega (
      arith,
      sum_over g F os,
      sum_by-cons (λ (S : Parts). sum_by g S.sections) (alone F o) (map (alone F) os),
      sum_by-append g o.sections (all_sections os),
    )

points_asked : (z : ℤ) (cs : List ContourParts) → AllByRecursion IsCountedContour cs
    → sum_by length (map (λ c. map (spot_point z) c.points) cs) ≡ sum_by asked (map (λ c. c.count) cs)
points_asked z [] h = refl
points_asked z (c ∷ cs) h =
    omega (
      arith,
      points_asked z cs h.1,
      h.0.1,
      length-map c.points (spot_point z),
      sum_by-cons length (map (spot_point z) c.points) (map (λ (c : ContourParts). map (spot_point z) c.points) cs),
      sum_by-cons asked c.count (map (λ (c : ContourParts). c.count) cs),
    )

sections_asked : (ss : List SectionParts) → AllByRecursion IsCountedContour (contours_of ss)
    → sum_by vertices_in ss ≡ sum_by asked (counts ss)
sections_asked [] h = refl
sections_asked (s ∷ ss) h =
    let count : ContourParts → ℤ = λ c. c.count in
    omega (
      arith,
      sections_asked ss (all_rest IsCountedContour s.contours (contours_of ss) h),
      points_asked s.z s.contours (all_front IsCountedContour s.contours (contours_of ss) h),
      ap (sum_by asked) (map-append count s.contours (contours_of ss)),
      sum_by-append asked (map count s.contours) (counts ss),
      sum_by-cons vertices_in s ss,
    )

-- one object of version 1, or as many as have names
objects_few : (v : Version) (os : List ObjectParts) → AreObjects v os → length (told_names v os) ≤ MAX_OBJECTS
    → length os ≤ MAX_OBJECTS
objects_few One os h k = omega (arith, ap length h.1)
objects_few Two os h k = omega (arith, k, length-map os (λ (o : ObjectParts). o.name))

-- the objects together keep the limits
pub record AreFewObjects (all : List Parts) : Type 0 where
  pub some : 1 ≤ length all
  pub objects : length all ≤ MAX_OBJECTS
  pub vertices : sum_by object_vertices all ≤ MAX_VERTICES
  pub contours : sum_by object_contours all ≤ MAX_CONTOURS

pub few_objects : (F : FileParts) → IsAcceptedFile F → AreFewObjects (objects_in F)
few_objects F a =
    let os = F.objects in
    let all = all_sections os in
    let limits = a.lawful.1.1.1.1.1 in
    let filled = and_parts (nat_lt 0 (length os)) (list_all has_contour os) a.filled in
    let t : nat_lt 0 (length os) ≡ true = filled.0 in
    let some : 0 < length os = grind (arith, nat_tests) in
    let contours : sum_by object_contours (objects_in F) ≤ MAX_CONTOURS = omega (
      arith,
      sum_over (λ s. length s.contours) F os,
      length-flat_map (λ (s : SectionParts). s.contours) all,
      length-map (contours_of all) (λ (c : ContourParts). c.name),
      limits.1.0,
    ) in
    record {
      some = omega (arith, some, length-map os (alone F));
      objects = omega (
        arith,
        length-map os (alone F),
        objects_few F.version os a.is_file.objects a.lawful.1.1.1.1.1.1.1.1.1.0,
      );
      vertices = omega (arith, sum_over vertices_in F os, sections_asked all a.is_file.contours, limits.0);
      contours = contours;
    }

-- ---- pairs
pairs_numbered : (objects : List Parts) (pss : List (List PairParts)) → AllZip ArePairs objects pss
    → length (numbered pss) ≤ sum_by object_contours objects
pairs_numbered [] [] h = omega arith
pairs_numbered [] (ps ∷ pss) h = absurd h
pairs_numbered (S ∷ objects) [] h = absurd h
pairs_numbered (S ∷ objects) (ps ∷ pss) h =
    omega (
      arith,
      pairs_numbered objects pss h.1,
      pairs_within S ps h.0,
      same_counts S.sections,
      length-append ps (numbered pss),
      sum_by-cons object_contours S objects,
    )

pub few_pairs_in : (F : FileParts) (pss : List (List PairParts)) → IsAcceptedFile F → AllZip ArePairs (objects_in F) pss
    → length (numbered pss) ≤ MAX_PAIRS
few_pairs_in F pss a h = omega (arith, pairs_numbered (objects_in F) pss h, (few_objects F a).contours)
