-- Parts stay ready if the section of a height gets one more contour with a new name.
use Rattle.std.proofs.Common.{◌≡◌, inl, inr, ℕ, ℤ, ◌≤◌, ◌<ℤ◌, Bool, true, false, cond, List, [], ◌∷◌, ◌++◌, length, map, None, refl, sym, ap, ap₂, ◌∙◌, subst, arith}
use Rattle.std.specs.Ordering.{int_eq}
use Rattle.std.specs.List.{AllByRecursion, find}
use Rattle.std.proofs.lemmas.Int.{ints}
use Rattle.std.proofs.lemmas.Bool.{cond_both}
use Rattle.std.proofs.lemmas.List.{map-append, append_assoc}
use Rattle.fku_types.specs.Names.{is_name}
use Rattle.fku_types.specs.Points.{IsCoordinate}
use Rattle.fku_types.proofs.ListLaws.{all_join, all_push, all_front, all_rest}
use Rattle.fku_types.proofs.TruthLaws.{int_eq_is}
use Rattle.section_core.specs.Parts.{Spot, ContourParts, SectionParts, Parts, contours_of}
use Rattle.section_core.specs.Laws.{IsSpot, AreRising, heights, names}
use Rattle.section_core.proofs.Rising.{above_first, rest_rises}
use Rattle.section_edits.specs.Contours.{has_name}
use Rattle.section_edits.specs.Changes.{contour_with, added_in, with_new_contour}
use Rattle.section_edits.specs.Ready.{IsWholeContour, IsReadyParts}
use Rattle.section_edits.proofs.Lawful.{name_of, whole_with}
use Rattle.section_edits.proofs.DistinctNames.{AddsName, adds_front, distinct_added, not_found}

-- the section of a height with one more contour
abbrev with_one : SectionParts → ContourParts → SectionParts
with_one s c = record { z = s.z; contours = s.contours ++ c ∷ [] }

added_heights : (z : ℤ) (c : ContourParts) (ss : List SectionParts) → heights (map (added_in z c) ss) ≡ heights ss
added_heights z c [] = refl
added_heights z c (s ∷ ss) =
    ap₂ (λ (y : ℤ) (zs : List ℤ). y ∷ zs)
    (cond_both (int_eq z s.z) (with_one s c) s (λ (t : SectionParts). t.z ≡ s.z) (λ is. refl) (λ no. refl))
    (added_heights z c ss)

added_whole : (z : ℤ) (c : ContourParts) (ss : List SectionParts) → IsWholeContour c
    → AllByRecursion IsWholeContour (contours_of ss)
    → AllByRecursion IsWholeContour (contours_of (map (added_in z c) ss))
added_whole z c [] k w = tt
added_whole z c (s ∷ ss) k w =
    let here = all_front IsWholeContour s.contours (contours_of ss) w in
    all_join IsWholeContour (added_in z c s).contours (contours_of (map (added_in z c) ss))
    (cond_both (int_eq z s.z) (with_one s c) s (λ (t : SectionParts). AllByRecursion IsWholeContour t.contours)
    (λ is. all_push IsWholeContour s.contours c here k) (λ no. here))
    (added_whole z c ss k (all_rest IsWholeContour s.contours (contours_of ss) w))

-- the sections above one
above_head : (s : SectionParts) (ss : List SectionParts) → AreRising (heights (s ∷ ss))
    → AllByRecursion (λ (t : SectionParts). s.z <ℤ t.z) ss
above_head s [] r = tt
above_head s (t ∷ more) r = above_first s.z t more r.1 r.0

apart_below : (a b : ℤ) → a <ℤ b → int_eq a b ≡ false
apart_below a b l = grind (arith, ints)

above_stays : (z : ℤ) (c : ContourParts) (ss : List SectionParts) → AllByRecursion (λ (t : SectionParts). z <ℤ t.z) ss
    → map (added_in z c) ss ≡ ss
above_stays z c [] h = refl
above_stays z c (s ∷ ss) h =
    ap₂ (λ (t : SectionParts) (ts : List SectionParts). t ∷ ts)
    (ap (λ (b : Bool). cond b (with_one s c) s) (apart_below z s.z h.0)) (above_stays z c ss h.1)

added_head : (z : ℤ) (c : ContourParts) (s : SectionParts) (ss : List SectionParts) (b : Bool) → int_eq z s.z ≡ b
    → AreRising (heights (s ∷ ss)) → AddsName (names ss) (names (map (added_in z c) ss)) c.name
    → AddsName (names (s ∷ ss)) (map name_of
    ((cond b (with_one s c) s).contours ++ contours_of (map (added_in z c) ss))) c.name
added_head z c s ss true e r more =
    let same : map (added_in z c) ss ≡ ss =
    above_stays z c ss (subst (λ (y : ℤ). AllByRecursion (λ (t : SectionParts). y <ℤ t.z) ss)
    (sym (int_eq_is z s.z e)) (above_head s ss r)) in
    record {
      before = map name_of s.contours;
      after = names ss;
      split = map-append name_of s.contours (contours_of ss);
      new_names = inl (
          ap (λ (ts : List SectionParts). map name_of ((s.contours ++ c ∷ []) ++ contours_of ts)) same
          ∙ ap (map name_of) (append_assoc s.contours (c ∷ []) (contours_of ss))
          ∙ map-append name_of s.contours (c ∷ contours_of ss));
    }
added_head z c s ss false e r more =
    subst (λ (ns : List (List ℕ)). AddsName (names (s ∷ ss)) ns c.name)
    (sym (map-append name_of s.contours (contours_of (map (added_in z c) ss))))
    (subst (λ (ns : List (List ℕ)). AddsName ns (map name_of s.contours ++ names (map (added_in z c) ss)) c.name)
    (sym (map-append name_of s.contours (contours_of ss)))
    (adds_front (map name_of s.contours) (names ss) (names (map (added_in z c) ss)) c.name more))

added_names : (z : ℤ) (c : ContourParts) (ss : List SectionParts) → AreRising (heights ss)
    → AddsName (names ss) (names (map (added_in z c) ss)) c.name
added_names z c [] r = record { before = []; after = []; split = refl; new_names = inr refl }
added_names z c (s ∷ ss) r = added_head z c s ss (int_eq z s.z) refl r (added_names z c ss (rest_rises s ss r))

pub ready_added : (S : Parts) (z : ℤ) (name : List ℕ) (ps : List Spot) → IsReadyParts S → is_name name ≡ true
    → find (has_name name) (contours_of S.sections) ≡ None → 3 ≤ length ps → AllByRecursion IsSpot ps
    → IsReadyParts (with_new_contour z (contour_with name ps) S)
ready_added S z name ps r n free e s =
    let ss = S.sections in
    let c = contour_with name ps in
    let tall = added_heights z c ss in
    record {
      contours = added_whole z c ss (whole_with name ps n e s) r.contours;
      names = distinct_added (names ss) (names (map (added_in z c) ss)) name (added_names z c ss r.rising)
          (not_found name (contours_of ss) free) r.names;
      in_range = subst (AllByRecursion IsCoordinate) (sym tall) r.in_range;
      rising = subst AreRising (sym tall) r.rising;
      few_sections = omega (arith, ap length tall, r.few_sections);
      links = r.links;
      few_links = r.few_links;
      weights = r.weights;
    }
