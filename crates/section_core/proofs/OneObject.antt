-- The laws of a text of one object, and those of each object of a text.
use Rattle.std.proofs.Common.{◌≡◌, ℕ, ◌+◌, ◌≤◌, ◌&&◌, Bool, true, List, [], ◌∷◌, ◌++◌, map, length, ℤ, refl, ap, sym, ◌∙◌, subst, append-nil, arith}
use Rattle.std.specs.Prelude.{nat_lt}
use Rattle.std.specs.List.{flat_map, sum_by, AllByRecursion, list_all}
use Rattle.std.proofs.lemmas.List.{length-append, map-append}
use Rattle.std.proofs.lemmas.List.Sums.{sum_by-append}
use Rattle.std.proofs.lemmas.Grind.{flat_map-append}
use Rattle.std.proofs.lemmas.Bool.{and_parts}
use Rattle.std.proofs.lemmas.Bool.Decides.{nat_tests}
use Rattle.fku_types.specs.declared.limits.TheConstants.{MAX_CONTOURS, MAX_LINKS, MAX_SECTIONS, MAX_SECTION_VERTICES, MAX_VERTICES}
use Rattle.fku_types.specs.Points.{IsCoordinate}
use Rattle.fku_types.specs.declared.rules.PairRule.{PairRule}
use Rattle.section_core.specs.Parts.{CostParts, Parts, ContourParts, SectionParts, ObjectParts, FileParts, IsParts, IsFile, IsCountedContour, IsLinked, as_file, all_sections, contours_of, asked}
use Rattle.section_core.specs.Laws.{Facts, facts, law_order, KeepsAll, IsLawful, IsLawfulFile, IsSpot, IsMix, IsPointCount, weights, AreDistinct, AreRising, heights, names, counts, points, section_vertices}
use Rattle.section_core.specs.Reading.{HasContour, has_contour, is_filled}
use Rattle.section_core.specs.Accepted.{IsAccepted, IsAcceptedFile}
use Rattle.section_core.proofs.Whole.{contours-split}
use Rattle.fku_types.proofs.ListLaws.{all_rest, all_front}
use Rattle.section_core.proofs.FactsBefore.{distinct-left}
use Rattle.section_core.proofs.JoinedFacts.{same_facts}

-- the facts of one object
abbrev one_facts : Parts → Facts
one_facts S = record {
  objects = [];
  heights = heights S.sections ∷ [];
  names = names S.sections;
  counts =
      counts S.sections;
  points = points S.sections;
  weights = weights S.cost;
  sums = map section_vertices S.sections;
  links = length S.links;
}

pub facts-one : (S : Parts) → facts (as_file S) ≡ one_facts S
facts-one S =
    let e = append-nil S.sections in
    same_facts (facts (as_file S)) (one_facts S) refl refl (ap names e) (ap counts e) (ap points e) refl
    (ap (map section_vertices) e) (omega arith)

pub lawful-to : (S : Parts) → IsLawful S → IsLawfulFile (as_file S)
lawful-to S l =
    subst (KeepsAll law_order) (sym (facts-one S)) (
      ((l.in_range, tt), l.spots, l.weighted),
      (
        (l.apart, tt),
        (
          (l.rising, tt),
          (
            l.counted,
            (
              l.small,
              (
                l.few_vertices,
                (
                  l.few_contours,
                  (omega (arith, l.few_sections), (l.few_links, (omega arith, tt))),
                ),
              ),
            ),
          ),
        ),
      ),
    )

lawful-one : (S : Parts) → KeepsAll law_order (one_facts S) → IsLawful S
lawful-one S l = record {
  in_range = l.0.0.0;
  spots = l.0.1;
  weighted = l.0.2;
  apart = l.1.0.0;
  rising = l.1.1.0.0;
  counted = l.1.1.1.0;
  small = l.1.1.1.1.0;
  few_vertices = l.1.1.1.1.1.0;
  few_contours = l.1.1.1.1.1.1.0;
  few_sections = omega (arith, l.1.1.1.1.1.1.1.0);
  few_links = l.1.1.1.1.1.1.1.1.0;
}

pub lawful-from : (S : Parts) → IsLawfulFile (as_file S) → IsLawful S
lawful-from S k = lawful-one S (subst (KeepsAll law_order) (facts-one S) k)

pub file-to : (S : Parts) → IsParts S → IsFile (as_file S)
file-to S p = record {
  objects = (_, refl, refl);
  contours = subst (λ (ss : List SectionParts). AllByRecursion IsCountedContour (contours_of ss))
      (sym (append-nil S.sections)) p.contours;
  links = (p.links, tt);
}

pub file-from : (S : Parts) → IsFile (as_file S) → IsParts S
file-from S f = record {
  contours = subst (λ (ss : List SectionParts). AllByRecursion IsCountedContour (contours_of ss))
      (append-nil S.sections) f.contours;
  links = f.links.0;
}

pub filled-to : (S : Parts) → HasContour S → is_filled (as_file S) ≡ true
filled-to S h = let t : nat_lt 0 (length (contours_of S.sections)) ≡ true = grind (arith, nat_tests) in
    ap (λ (b : Bool). b && true) t

pub accepted-to : (S : Parts) → IsAccepted S → IsAcceptedFile (as_file S)
accepted-to S a = record {
  is_file = file-to S a.are_parts;
  lawful = lawful-to S a.lawful;
  filled =
      filled-to S a.contour;
}

-- an object as parts under the rules of its text
abbrev pub parts_in : CostParts → PairRule → ObjectParts → Parts
parts_in cost rule o = record { cost = cost; rule = rule; sections = o.sections; links = o.links }

-- what the laws say of several objects
record AreGood (cost : CostParts) (rule : PairRule) (os : List ObjectParts) : Type 0 where
  in_range : AllByRecursion (AllByRecursion IsCoordinate) (map (λ (o : ObjectParts). heights o.sections) os)
  spots : AllByRecursion IsSpot (points (all_sections os))
  mixed : AllByRecursion IsMix (weights cost)
  apart : AreDistinct (names (all_sections os))
  rise : AllByRecursion AreRising (map (λ (o : ObjectParts). heights o.sections) os)
  counted : AllByRecursion IsPointCount (counts (all_sections os))
  small : AllByRecursion (λ n. n ≤ MAX_SECTION_VERTICES) (map section_vertices (all_sections os))
  vertices : sum_by asked (counts (all_sections os)) ≤ MAX_VERTICES
  few_contours : length (names (all_sections os)) ≤ MAX_CONTOURS
  few_sections : sum_by length (map (λ (o : ObjectParts). heights o.sections) os) ≤ MAX_SECTIONS
  few_links : sum_by (λ (o : ObjectParts). length o.links) os ≤ MAX_LINKS
  contours : AllByRecursion IsCountedContour (contours_of (all_sections os))
  links : AllByRecursion (λ (o : ObjectParts). IsLinked rule o.links) os

distinct-right : (xs ys : List (List ℕ)) → AreDistinct (xs ++ ys) → AreDistinct ys
distinct-right [] ys h = h
distinct-right (x ∷ xs) ys h = distinct-right xs ys h.1

-- sections one after another
contours-split-is : (ss ts : List SectionParts) → contours_of (ss ++ ts) ≡ contours_of ss ++ contours_of ts
contours-split-is ss ts = flat_map-append (λ (s : SectionParts). s.contours) ss ts

names-split : (ss ts : List SectionParts) → names (ss ++ ts) ≡ names ss ++ names ts
names-split ss ts = ap (map (λ (c : ContourParts). c.name)) (contours-split-is ss ts)
    ∙ map-append (λ (c : ContourParts). c.name) (contours_of ss) (contours_of ts)

counts-split : (ss ts : List SectionParts) → counts (ss ++ ts) ≡ counts ss ++ counts ts
counts-split ss ts = ap (map (λ (c : ContourParts). c.count)) (contours-split-is ss ts)
    ∙ map-append (λ (c : ContourParts). c.count) (contours_of ss) (contours_of ts)

points-split : (ss ts : List SectionParts) → points (ss ++ ts) ≡ points ss ++ points ts
points-split ss ts = ap (flat_map (λ (c : ContourParts). c.points)) (contours-split-is ss ts)
    ∙ flat_map-append (λ (c : ContourParts). c.points) (contours_of ss) (contours_of ts)

record Parted (cost : CostParts) (rule : PairRule) (o : ObjectParts) (os : List ObjectParts) : Type 0 where
  here : IsLawful (parts_in cost rule o)
  is : IsParts (parts_in cost rule o)
  rest : AreGood cost rule os

parted : (cost : CostParts) (rule : PairRule) (o : ObjectParts) (os : List ObjectParts) → AreGood cost rule (o ∷ os)
    → Parted cost rule o os
parted cost rule o os g =
    let ss = o.sections in
    let ts = all_sections os in
    let spots = subst (AllByRecursion IsSpot) (points-split ss ts) g.spots in
    let apart = subst AreDistinct (names-split ss ts) g.apart in
    let counted = subst (AllByRecursion IsPointCount) (counts-split ss ts) g.counted in
    let small = subst (AllByRecursion (λ (n : ℕ). n ≤ MAX_SECTION_VERTICES)) (map-append section_vertices ss ts) g.small
    in
    let total : sum_by asked (counts (ss ++ ts)) ≡ sum_by asked (counts ss) + sum_by asked (counts ts) =
    ap (sum_by asked) (counts-split ss ts) ∙ sum_by-append asked (counts ss) (counts ts) in
    let many : length (names (ss ++ ts)) ≡ length (names ss) + length (names ts) = ap length (names-split ss ts)
    ∙ length-append (names ss) (names ts) in
    let hs = map (λ (p : ObjectParts). heights p.sections) os in
    let tall : sum_by length (heights ss ∷ hs) ≡ length (heights ss) + sum_by length hs =
    omega (arith, sum_by-append {X = List ℤ} length (heights ss ∷ []) hs) in
    let linked : sum_by (λ (p : ObjectParts). length p.links) (o ∷ os) ≡ length o.links
    + sum_by (λ (p : ObjectParts). length p.links) os =
    omega (arith, sum_by-append (λ (p : ObjectParts). length p.links) (o ∷ []) os) in
    let split = contours-split ss ts g.contours in
    record {
      here = record {
        in_range = g.in_range.0;
        spots = all_front IsSpot (points ss) (points ts) spots;
        weighted = g.mixed;
        apart = distinct-left (names ss) (names ts) apart;
        rising = g.rise.0;
        counted = all_front IsPointCount (counts ss) (counts ts) counted;
        small = all_front (λ (n : ℕ). n ≤ MAX_SECTION_VERTICES) (map section_vertices ss) (map section_vertices ts)
            small;
        few_vertices = omega (arith, g.vertices, total);
        few_contours = omega (arith, g.few_contours, many);
        few_sections = omega (arith, g.few_sections, tall);
        few_links = omega (arith, g.few_links, linked);
      };
      is = record { contours = split.0; links = g.links.0 };
      rest = record {
        in_range = g.in_range.1;
        spots = all_rest IsSpot (points ss) (points ts) spots;
        mixed = g.mixed;
        apart = distinct-right (names ss) (names ts) apart;
        rise = g.rise.1;
        counted = all_rest IsPointCount (counts ss) (counts ts) counted;
        small = all_rest (λ (n : ℕ). n ≤ MAX_SECTION_VERTICES) (map section_vertices ss) (map section_vertices ts)
            small;
        vertices = omega (arith, g.vertices, total);
        few_contours = omega (arith, g.few_contours, many);
        few_sections = omega (arith, g.few_sections, tall);
        few_links = omega (arith, g.few_links, linked);
        contours = split.1;
        links = g.links.1;
      };
    }

each_accepted : (cost : CostParts) (rule : PairRule) (os : List ObjectParts) → AreGood cost rule os
    → list_all has_contour os ≡ true → AllByRecursion (λ (o : ObjectParts). IsAccepted (parts_in cost rule o)) os
each_accepted cost rule [] g e = tt
each_accepted cost rule (o ∷ os) g e =
    let p = parted cost rule o os g in
    let has = and_parts (has_contour o) (list_all has_contour os) e in
    let t : nat_lt 0 (length (contours_of o.sections)) ≡ true = has.0 in (
      record { are_parts = p.is; lawful = p.here; contour = grind (arith, nat_tests) },
      each_accepted cost rule os p.rest has.1,
    )

-- each object of an accepted text is accepted
pub objects_accepted : (F : FileParts) → IsFile F → IsLawfulFile F → is_filled F ≡ true
    → AllByRecursion (λ (o : ObjectParts). IsAccepted (parts_in F.cost F.rule o)) F.objects
objects_accepted F f l e =
    each_accepted F.cost F.rule F.objects
    (record {
      in_range = l.0.0;
      spots = l.0.1;
      mixed = l.0.2;
      apart = l.1.0.0;
      rise = l.1.1.0;
      counted = l.1.1.1.0;
      small = l.1.1.1.1.0;
      vertices = l.1.1.1.1.1.0;
      few_contours = l.1.1.1.1.1.1.0;
      few_sections = l.1.1.1.1.1.1.1.0;
      few_links = l.1.1.1.1.1.1.1.1.0;
      contours = f.contours;
      links = f.links;
    })
    (and_parts (nat_lt 0 (length F.objects)) (list_all has_contour F.objects) e).1
