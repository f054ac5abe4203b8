-- Parts stay ready if the contour of a name gets other points.
use Rattle.std.proofs.Common.{◌≡◌, ℕ, ℤ, ◌≤◌, List, [], ◌∷◌, ◌++◌, length, map, refl, sym, ap, ap₂, ◌∙◌, subst, arith}
use Rattle.std.specs.List.{AllByRecursion}
use Rattle.std.proofs.lemmas.Bool.{cond_both}
use Rattle.std.proofs.lemmas.List.{map-append}
use Rattle.fku_types.specs.Points.{IsCoordinate}
use Rattle.section_core.specs.Parts.{Spot, ContourParts, SectionParts, Parts, contours_of}
use Rattle.section_core.specs.Laws.{IsSpot, AreDistinct, AreRising, heights}
use Rattle.section_edits.specs.Contours.{has_name}
use Rattle.section_edits.specs.Changes.{contour_with, reshaped, reshaped_in, with_spots}
use Rattle.section_edits.specs.Ready.{IsWholeContour, IsReadyParts}
use Rattle.section_edits.proofs.Lawful.{name_of, whole_with}

reshaped_whole : (name : List ℕ) (ps : List Spot) (cs : List ContourParts) → 3 ≤ length ps → AllByRecursion IsSpot ps
    → AllByRecursion IsWholeContour cs → AllByRecursion IsWholeContour (map (reshaped name ps) cs)
reshaped_whole name ps [] e s w = tt
reshaped_whole name ps (c ∷ cs) e s w = (
  cond_both (has_name name c) (contour_with c.name ps) c IsWholeContour (λ is. whole_with c.name ps w.0.0.0 e s)
      (λ no. w.0),
  reshaped_whole name ps cs e s w.1,
)

reshaped_contours : (name : List ℕ) (ps : List Spot) (ss : List SectionParts)
    → contours_of (map (reshaped_in name ps) ss) ≡ map (reshaped name ps) (contours_of ss)
reshaped_contours name ps [] = refl
reshaped_contours name ps (s ∷ ss) =
    ap (λ (cs : List ContourParts). map (reshaped name ps) s.contours ++ cs) (reshaped_contours name ps ss)
    ∙ sym (map-append (reshaped name ps) s.contours (contours_of ss))

reshaped_names : (name : List ℕ) (ps : List Spot) (cs : List ContourParts)
    → map name_of (map (reshaped name ps) cs) ≡ map name_of cs
reshaped_names name ps [] = refl
reshaped_names name ps (c ∷ cs) =
    ap₂ (λ (n : List ℕ) (ns : List (List ℕ)). n ∷ ns)
    (cond_both (has_name name c) (contour_with c.name ps) c (λ (d : ContourParts). d.name ≡ c.name) (λ is. refl)
    (λ no. refl)) (reshaped_names name ps cs)

reshaped_heights : (name : List ℕ) (ps : List Spot) (ss : List SectionParts)
    → heights (map (reshaped_in name ps) ss) ≡ heights ss
reshaped_heights name ps [] = refl
reshaped_heights name ps (s ∷ ss) = ap (λ (zs : List ℤ). s.z ∷ zs) (reshaped_heights name ps ss)

pub ready_reshaped : (S : Parts) (name : List ℕ) (ps : List Spot) → IsReadyParts S → 3 ≤ length ps
    → AllByRecursion IsSpot ps → IsReadyParts (with_spots name ps S)
ready_reshaped S name ps r e s =
    let ss = S.sections in
    let tall = reshaped_heights name ps ss in
    record {
      contours = subst (AllByRecursion IsWholeContour) (sym (reshaped_contours name ps ss))
          (reshaped_whole name ps (contours_of ss) e s r.contours);
      names = subst AreDistinct (sym (ap (map name_of) (reshaped_contours name ps ss)
          ∙ reshaped_names name ps (contours_of ss))) r.names;
      in_range = subst (AllByRecursion IsCoordinate) (sym tall) r.in_range;
      rising = subst AreRising (sym tall) r.rising;
      few_sections = omega (arith, ap length tall, r.few_sections);
      links = r.links;
      few_links = r.few_links;
      weights = r.weights;
    }
