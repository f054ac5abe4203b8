-- What an edit may change, and the limits: accepted parts are ready for an edit, and ready parts within the limits are
-- accepted.
use Rattle.std.proofs.Common.{◌≡◌, ℕ, ℤ, pos, ◌<◌, ◌≤◌, Bool, true, false, cond, List, [], ◌∷◌, ◌++◌, length, map, Option, None, Some, refl, sym, ap, ◌∙◌, subst, arith, length-append}
use Rattle.std.specs.Prelude.{not, int_le, nat_lt, ◌==◌}
use Rattle.std.specs.List.{AllByRecursion, flat_map, list_all, sum_by}
use Rattle.std.proofs.lemmas.Int.{ints}
use Rattle.std.proofs.lemmas.Bool.{and_from, false≢true, le-leb, leb-true, ltb-true, ltb-false, eqb-true}
use Rattle.std.proofs.lemmas.Bool.Decides.{nat_tests}
use Rattle.std.proofs.lemmas.List.{length-map, map-append}
use Rattle.std.proofs.lemmas.List.Elements.{recursion_from_All}
use Rattle.std.proofs.lemmas.List.Sums.{sum_by-append, AllPass-from_list_all}
use Rattle.fku_types.specs.declared.limits.TheConstants.{MAX_CONTOURS, MAX_CONTOUR_VERTICES, MAX_SECTION_VERTICES, MAX_VERTICES}
use Rattle.fku_types.specs.Names.{is_name}
use Rattle.fku_types.proofs.ListLaws.{all_join, all_front, all_rest, all_weaker, all_map, all_flat}
use Rattle.fku_types.proofs.TruthLaws.{int_le_is}
use Rattle.fku_types.specs.declared.fault.Fault.TheVariants.{NoContours}
use Rattle.fku_types.specs.declared.fault.LimitName.TheVariants.{ContourVertices, SectionVertices, Vertices, Contours}
use Rattle.section_core.specs.Parts.{Spot, ContourParts, SectionParts, Parts, IsCountedContour, as_file, asked, contours_of}
use Rattle.section_core.specs.Laws.{IsSpot, in_range, name_once, rising, within, facts, KeepsAll, BreaksFirst, IsLawful, names, counts, section_vertices, IsPointCount}
use Rattle.section_core.specs.Accepted.{IsAccepted}
use Rattle.section_core.proofs.ItemTests.{le_test}
use Rattle.section_core.proofs.OneObject.{facts-one}
use Rattle.section_edits.specs.declared.edit.EditFault.TheVariants.{Limit, Found}
use Rattle.section_edits.specs.Changes.{contour_with}
use Rattle.section_edits.specs.Refusals.{first_of, IsLateRefusal}
use Rattle.section_edits.specs.LateTests.{has_short_contours, is_small, vertex_count, contour_count, late_tests}
use Rattle.section_edits.specs.Ready.{IsWholeContour, IsReadyParts}

abbrev pub name_of : ContourParts → List ℕ
name_of c = c.name

abbrev count_of : ContourParts → ℤ
count_of c = c.count

abbrev spots : ContourParts → List Spot
spots c = c.points

-- contours of accepted parts are whole
whole_all : (cs : List ContourParts) → AllByRecursion IsCountedContour cs
    → AllByRecursion IsPointCount (map count_of cs) → AllByRecursion IsSpot (flat_map spots cs)
    → AllByRecursion IsWholeContour cs
whole_all [] n k s = tt
whole_all (c ∷ cs) n k s = (
  (n.0, k.0.0, all_front IsSpot c.points (flat_map spots cs) s),
  whole_all cs n.1 k.1 (all_rest IsSpot c.points (flat_map spots cs) s),
)

pub ready : (S : Parts) → IsAccepted S → IsReadyParts S
ready S a = record {
  contours = whole_all (contours_of S.sections) a.are_parts.contours a.lawful.counted a.lawful.spots;
  names = a.lawful.apart;
  in_range = a.lawful.in_range;
  rising = a.lawful.rising;
  few_sections = a.lawful.few_sections;
  links = a.are_parts.links;
  few_links = a.lawful.few_links;
  weights = a.lawful.weighted;
}

-- a test that refuses nothing, and the tests after it
pub passes : {X : Type 0} (b : Bool) (x : X) (o : Option X) → cond b (Some x) o ≡ None → (b ≡ false) × (o ≡ None)
passes true x o e = absurd (cc)
passes false x o e = (refl, e)

-- the limits
counted_all : (cs : List ContourParts) → AllByRecursion IsWholeContour cs
    → AllByRecursion (λ (c : ContourParts). int_le c.count (pos MAX_CONTOUR_VERTICES) ≡ true) cs
    → AllByRecursion IsPointCount (map count_of cs)
counted_all [] w k = tt
counted_all (c ∷ cs) w k = ((w.0.1, int_le_is c.count (pos MAX_CONTOUR_VERTICES) k.0), counted_all cs w.1 k.1)

each_passes : {X : Type 0} (p : X → Bool) (xs : List X) → list_all p xs ≡ true
    → AllByRecursion (λ (x : X). p x ≡ true) xs
each_passes {X = X} p xs e = recursion_from_All (λ (x : X). p x ≡ true) xs (AllPass-from_list_all p xs e)

short_all : (ss : List SectionParts) → list_all has_short_contours ss ≡ true
    → AllByRecursion (λ (c : ContourParts). int_le c.count (pos MAX_CONTOUR_VERTICES) ≡ true) (contours_of ss)
short_all ss e =
    let Short : ContourParts → Type 0 = λ c. int_le c.count (pos MAX_CONTOUR_VERTICES) ≡ true in
    all_flat Short (λ (s : SectionParts). s.contours) ss
    (all_weaker (λ (s : SectionParts). has_short_contours s ≡ true)
    (λ (s : SectionParts). AllByRecursion Short s.contours) ss
    (λ (s : SectionParts) (h : has_short_contours s ≡ true).
    each_passes (λ (c : ContourParts). int_le c.count (pos MAX_CONTOUR_VERTICES)) s.contours h)
    (each_passes has_short_contours ss e))

small_all : (ss : List SectionParts) → list_all is_small ss ≡ true
    → AllByRecursion (λ (n : ℕ). n ≤ MAX_SECTION_VERTICES) (map section_vertices ss)
small_all ss e =
    all_map (λ (n : ℕ). n ≤ MAX_SECTION_VERTICES) section_vertices ss
    (all_weaker (λ (s : SectionParts). is_small s ≡ true)
    (λ (s : SectionParts). section_vertices s ≤ MAX_SECTION_VERTICES) ss
    (λ (s : SectionParts) (h : is_small s ≡ true). leb-true (section_vertices s) MAX_SECTION_VERTICES h)
    (each_passes is_small ss e))

asked_sum : (cs : List ContourParts) → sum_by asked (map count_of cs) ≡ sum_by (λ (c : ContourParts). asked c.count) cs
asked_sum [] = refl
asked_sum (c ∷ cs) =
    omega (
      arith,
      sum_by-append asked (c.count ∷ []) (map count_of cs),
      sum_by-append (λ (d : ContourParts). asked d.count) (c ∷ []) cs,
      asked_sum cs,
    )

vertices_sum : (ss : List SectionParts) → sum_by asked (counts ss) ≡ vertex_count ss
vertices_sum [] = refl
vertices_sum (s ∷ ss) =
    omega (
      arith,
      ap (sum_by asked) (map-append count_of s.contours (contours_of ss)),
      sum_by-append asked (map count_of s.contours) (counts ss),
      asked_sum s.contours,
      vertices_sum ss,
      sum_by-append section_vertices (s ∷ []) ss,
    )

contours_sum : (ss : List SectionParts) → length (contours_of ss) ≡ contour_count ss
contours_sum [] = refl
contours_sum (s ∷ ss) =
    omega (
      arith,
      length-append s.contours (contours_of ss),
      contours_sum ss,
      sum_by-append (λ (t : SectionParts). length t.contours) (s ∷ []) ss,
    )

names_sum : (ss : List SectionParts) → length (names ss) ≡ contour_count ss
names_sum ss = length-map (contours_of ss) name_of ∙ contours_sum ss

spots_all : (cs : List ContourParts) → AllByRecursion IsWholeContour cs → AllByRecursion IsSpot (flat_map spots cs)
spots_all [] w = tt
spots_all (c ∷ cs) w = all_join IsSpot c.points (flat_map spots cs) w.0.2 (spots_all cs w.1)

are_contours : (cs : List ContourParts) → AllByRecursion IsWholeContour cs → AllByRecursion IsCountedContour cs
are_contours [] w = tt
are_contours (c ∷ cs) w = (w.0.0, are_contours cs w.1)

-- ready parts that are within the limits, as facts of texts
kept_first : (S : Parts) → IsReadyParts S → KeepsAll (in_range ∷ name_once ∷ rising ∷ []) (facts (as_file S))
kept_first S r =
    subst (KeepsAll (in_range ∷ name_once ∷ rising ∷ [])) (sym (facts-one S)) (
      ((r.in_range, tt), spots_all (contours_of S.sections) r.contours, r.weights),
      ((r.names, tt), ((r.rising, tt), tt)),
    )

record Within (ss : List SectionParts) : Type 0 where
  counted : AllByRecursion IsPointCount (counts ss)
  small : AllByRecursion (λ n. n ≤ MAX_SECTION_VERTICES) (map section_vertices ss)
  few_vertices : sum_by asked (counts ss) ≤ MAX_VERTICES
  few_contours : length (names ss) ≤ MAX_CONTOURS

lawful : (S : Parts) → IsReadyParts S → Within S.sections → IsLawful S
lawful S r w = record {
  in_range = r.in_range;
  spots = spots_all (contours_of S.sections) r.contours;
  weighted = r.weights;
  apart = r.names;
  rising = r.rising;
  counted = w.counted;
  small = w.small;
  few_vertices = w.few_vertices;
  few_contours = w.few_contours;
  few_sections = r.few_sections;
  few_links = r.few_links;
}

within_by : (S : Parts) → IsReadyParts S → list_all has_short_contours S.sections ≡ true
    → list_all is_small S.sections ≡ true → nat_lt MAX_VERTICES (vertex_count S.sections) ≡ false
    → nat_lt MAX_CONTOURS (contour_count S.sections) ≡ false → Within S.sections
within_by S r p q t u = record {
  counted = counted_all (contours_of S.sections) r.contours (short_all S.sections p);
  small = small_all S.sections q;
  few_vertices = omega (arith, ltb-false MAX_VERTICES (vertex_count S.sections) t, vertices_sum S.sections);
  few_contours = omega (arith, ltb-false MAX_CONTOURS (contour_count S.sections) u, names_sum S.sections);
}

-- the tests, from the limits
short_contours : (cs : List ContourParts) → AllByRecursion IsPointCount (map count_of cs)
    → list_all (λ (c : ContourParts). int_le c.count (pos MAX_CONTOUR_VERTICES)) cs ≡ true
short_contours [] h = refl
short_contours (c ∷ cs) h = and_from _ _ (le_test c.count (pos MAX_CONTOUR_VERTICES) h.0.1) (short_contours cs h.1)

are_short : (ss : List SectionParts) → AllByRecursion IsPointCount (counts ss) → list_all has_short_contours ss ≡ true
are_short [] h = refl
are_short (s ∷ ss) h =
    let split : AllByRecursion IsPointCount (map count_of s.contours ++ counts ss) =
    subst (AllByRecursion IsPointCount) (map-append count_of s.contours (contours_of ss)) h in
    and_from _ _ (short_contours s.contours (all_front IsPointCount (map count_of s.contours) (counts ss) split))
    (are_short ss (all_rest IsPointCount (map count_of s.contours) (counts ss) split))

are_small : (ss : List SectionParts) → AllByRecursion (λ (n : ℕ). n ≤ MAX_SECTION_VERTICES) (map section_vertices ss)
    → list_all is_small ss ≡ true
are_small [] h = refl
are_small (s ∷ ss) h = and_from _ _ (le-leb (section_vertices s) MAX_SECTION_VERTICES h.0) (are_small ss h.1)

no_contours : (cs : List ContourParts) → length cs ≡ 0 → cs ≡ []
no_contours [] e = refl
no_contours (c ∷ cs) e = absurd (omega (arith, e))

late_by : (S : Parts) → IsReadyParts S → (a b c d e : Bool) → list_all has_short_contours S.sections ≡ a
    → list_all is_small S.sections ≡ b → nat_lt MAX_VERTICES (vertex_count S.sections) ≡ c
    → nat_lt MAX_CONTOURS (contour_count S.sections) ≡ d → (contour_count S.sections == 0) ≡ e
    → IsLateRefusal S (first_of ((not a, Limit ContourVertices) ∷ (not b, Limit SectionVertices) ∷ (c, Limit Vertices)
    ∷ (d, Limit Contours) ∷ (e, Found NoContours) ∷ []))
late_by S r false b c d e p q t u v =
    let k = kept_first S r in
    subst (BreaksFirst (within ContourVertices)) (sym (facts-one S)) (
      3,
      refl,
      subst (KeepsAll (in_range ∷ name_once ∷ rising ∷ [])) (facts-one S) k,
      λ h. false≢true (sym p ∙ are_short S.sections h),
    )
late_by S r true false c d e p q t u v =
    let k = kept_first S r in
    let one = subst (KeepsAll (in_range ∷ name_once ∷ rising ∷ [])) (facts-one S) k in
    let counted = counted_all (contours_of S.sections) r.contours (short_all S.sections p) in
    subst (BreaksFirst (within SectionVertices)) (sym (facts-one S))
    (4, refl, (one.0, (one.1.0, (one.1.1.0, (counted, tt)))), λ h. false≢true (sym q ∙ are_small S.sections h))
late_by S r true true true d e p q t u v =
    let k = kept_first S r in
    let one = subst (KeepsAll (in_range ∷ name_once ∷ rising ∷ [])) (facts-one S) k in
    let counted = counted_all (contours_of S.sections) r.contours (short_all S.sections p) in
    subst (BreaksFirst (within Vertices)) (sym (facts-one S)) (
      5,
      refl,
      (one.0, (one.1.0, (one.1.1.0, (counted, (small_all S.sections q, tt))))),
      λ h. omega (arith, h, vertices_sum S.sections, ltb-true MAX_VERTICES (vertex_count S.sections) t),
    )
late_by S r true true false true e p q t u v =
    let k = kept_first S r in
    let one = subst (KeepsAll (in_range ∷ name_once ∷ rising ∷ [])) (facts-one S) k in
    let counted = counted_all (contours_of S.sections) r.contours (short_all S.sections p) in
    let few : sum_by asked (counts S.sections) ≤ MAX_VERTICES =
    omega (arith, ltb-false MAX_VERTICES (vertex_count S.sections) t, vertices_sum S.sections) in
    subst (BreaksFirst (within Contours)) (sym (facts-one S)) (
      6,
      refl,
      (one.0, (one.1.0, (one.1.1.0, (counted, (small_all S.sections q, (few, tt)))))),
      λ h. omega (arith, h, names_sum S.sections, ltb-true MAX_CONTOURS (contour_count S.sections) u),
    )
late_by S r true true false false true p q t u v = (
  lawful S r (within_by S r p q t u),
  no_contours (contours_of S.sections) (contours_sum S.sections ∙ eqb-true _ _ v),
)
late_by S r true true false false false p q t u v = (
  lawful S r (within_by S r p q t u),
  let some : (contour_count S.sections == 0) ≡ false = v in let more : 0 < contour_count S.sections =
      grind (arith, nat_tests) in omega (arith, more, contours_sum S.sections),
)

-- what the tests find is the refusal of ready parts
pub late_is : (S : Parts) → IsReadyParts S → IsLateRefusal S (first_of (late_tests S.sections))
late_is S r = late_by S r _ _ _ _ _ refl refl refl refl refl

pub accepted : (S : Parts) → IsReadyParts S → IsLateRefusal S None → IsAccepted S
accepted S r h = record {
  are_parts =
      record { contours = are_contours (contours_of S.sections) r.contours; links = r.links };
  lawful = h.0;
  contour =
      h.1;
}

-- a contour of enough points in range is whole
pub whole_with : (name : List ℕ) (ps : List Spot) → is_name name ≡ true → 3 ≤ length ps → AllByRecursion IsSpot ps
    → IsWholeContour (contour_with name ps)
whole_with name ps n e s = ((n, refl), (omega (arith, ints)), s)
