-- How many pairs there are, and in which gaps.
use Rattle.std.proofs.Common.{◌≡◌, ℕ, zero, suc, ◌+◌, ◌-◌, ◌<◌, ◌≤◌, List, [], ◌∷◌, length, map, get_or, take, sum_by, refl, sym, ap, ◌∙◌, subst, arith, All, pos}
use Rattle.std.specs.Prelude.{slice_index}
use Rattle.std.specs.List.{AllByRecursion}
use Rattle.std.proofs.lemmas.List.{length-map, length-append, get_or-map}
use Rattle.std.proofs.lemmas.List.Elements.{All-append}
use Rattle.std.proofs.lemmas.List.Concat.{length-flat_map}
use Rattle.std.proofs.lemmas.List.Sums.{sum_by-cons, sum_by_more, sum_by-take-le}
use Rattle.fku_types.specs.declared.limits.TheConstants.{MAX_PAIRS}
use Rattle.section_core.specs.declared.parts.Section.{Section}
use Rattle.section_core.specs.Parts.{Parts, SectionParts}
use Rattle.section_core.specs.Flat.{SectionData, section_data, contour_data}
use Rattle.section_core.specs.ValidSections.{section_of, contour_at_height, contours_in}
use Rattle.correspondence.specs.Outlines.{section_at, spot_point}
use Rattle.correspondence.specs.Components.{Members, IsComponent, AreInOrder}
use Rattle.correspondence.proofs.Held.{at_place}
use Rattle.section_pairs.specs.declared.gap_pairs.GapPair.{GapPair}
use Rattle.section_pairs.specs.Pairs.{PairParts, pair_parts, pair_of, pairs_from, AreGaps}

-- ---- components of a gap
firsts_rise : (links : ℕ → ℕ → Type 0) (n m b : ℕ) (cs : List Members) → AllByRecursion (IsComponent links n m) cs
    → AreInOrder cs → AllByRecursion (λ (c : Members). b < slice_index c.below 0) cs → length cs ≤ n - (b + 1)
firsts_rise links n m b [] h o r = omega arith
firsts_rise links n m b (c ∷ cs) h o r =
    let f = slice_index c.below 0 in
    let there : f < n = at_place (λ (k : ℕ). k < n) c.below 0 0 h.0.below_there h.0.some_below in
    omega (arith, firsts_rise links n m f cs h.1 o.1 o.0, there, r.0)

-- there are at most as many as contours below
pub components_few : (links : ℕ → ℕ → Type 0) (n m : ℕ) (cs : List Members) → AllByRecursion (IsComponent links n m) cs
    → AreInOrder cs → length cs ≤ n
components_few links n m [] h o = omega arith
components_few links n m (c ∷ cs) h o =
    let f = slice_index c.below 0 in
    let there : f < n = at_place (λ (k : ℕ). k < n) c.below 0 0 h.0.below_there h.0.some_below in
    omega (arith, firsts_rise links n m f cs h.1 o.1 o.0, there)

-- ---- components of all gaps
abbrev contour_count : SectionParts → ℕ
contour_count s = length s.contours

gaps_few : (xs : List SectionParts) (b : ℕ) (gs : List (List Members)) → b + length gs ≤ length xs
    → ((g : ℕ) → g < length gs → length (get_or gs g []) ≤ contour_count
    (get_or xs (b + g) (record { z = pos 0; contours = [] })))
    → sum_by contour_count (take b xs) + sum_by length gs ≤ sum_by contour_count (take (b + length gs) xs)
gaps_few xs b [] l h = omega (arith, ap (λ (n : ℕ). sum_by contour_count (take n xs)) (the_same b))
  where
    the_same : (b : ℕ) → b + 0 ≡ b
    the_same b = omega arith
gaps_few xs b (c ∷ gs) l h =
    let blank : SectionParts = record { z = pos 0; contours = [] } in
    let shift : (b + 1) + length gs ≡ b + length (c ∷ gs) = omega arith in
    let moved : (g : ℕ) → g < length gs → length (get_or gs g []) ≤ contour_count (get_or xs ((b + 1) + g) blank) =
    λ g m.
    let at : b + suc g ≡ (b + 1) + g = omega arith in
    subst (λ (k : ℕ). length (get_or gs g []) ≤ contour_count (get_or xs k blank)) at (h (suc g) (omega (arith, m))) in
    let at_b : b + 0 ≡ b = omega arith in
    let here : length c ≤ contour_count (get_or xs b blank) =
    subst (λ (k : ℕ). length c ≤ contour_count (get_or xs k blank)) at_b (h 0 (omega arith)) in
    omega (
      arith,
      here,
      sum_by-cons (λ (x : List Members). length x) c gs,
      sum_by_more contour_count xs b blank (omega (arith, l)),
      gaps_few xs (b + 1) gs (omega (arith, l)) moved,
      ap (λ (n : ℕ). sum_by contour_count (take n xs)) shift,
    )

contours_are : (ss : List Section) (xs : List SectionParts) → map section_data ss ≡ map section_of xs
    → sum_by contour_count xs ≡ length (contours_in ss)
contours_are ss xs e =
    sym (parts_count xs) ∙ ap (sum_by (λ (d : SectionData). length d.1)) (sym e) ∙ held_count ss
    ∙ sym (length-flat_map (λ (s : Section). s.contours.items) ss)
  where
    parts_count : (ys : List SectionParts)
        → sum_by (λ (d : SectionData). length d.1) (map section_of ys) ≡ sum_by contour_count ys
    parts_count [] = refl
    parts_count (y ∷ ys) =
        omega (
          arith,
          parts_count ys,
          length-map y.contours (contour_at_height y.z),
          sum_by-cons (λ (d : SectionData). length d.1) (section_of y) (map section_of ys),
          sum_by-cons contour_count y ys,
        )

    held_count : (ys : List Section) → sum_by (λ (d : SectionData). length d.1) (map section_data ys)
        ≡ sum_by (λ (s : Section). length s.contours.items) ys
    held_count [] = refl
    held_count (y ∷ ys) =
        omega (
          arith,
          held_count ys,
          length-map y.contours.items contour_data,
          sum_by-cons (λ (d : SectionData). length d.1) (section_data y) (map section_data ys),
          sum_by-cons (λ (s : Section). length s.contours.items) y ys,
        )

-- all gaps have at most as many components as there are contours
pub all_few : (ss : List Section) (S : Parts) (gs : List (List Members))
    → map section_data ss ≡ map section_of S.sections → AreGaps S gs → sum_by length gs ≤ length (contours_in ss)
all_few ss S gs e h =
    let each : (g : ℕ) → g < length gs
    → length (get_or gs g []) ≤ contour_count (get_or S.sections (0 + g) (record { z = pos 0; contours = [] })) =
    λ g l.
    let a = h.components g l in
    let s = section_at S g in
    let at : g ≡ 0 + g = omega arith in
    subst (λ (k : ℕ). length (get_or gs g []) ≤ contour_count (section_at S k)) at
    (omega (
      arith,
      components_few _ _ _ (get_or gs g []) a.components a.in_order,
      length-map s.contours (λ c. map (spot_point s.z) c.points),
    )) in
    omega (
      arith,
      gaps_few S.sections 0 gs (omega (arith, h.count)) each,
      sum_by-take-le contour_count S.sections (0 + length gs),
      contours_are ss S.sections e,
    )

-- ---- pairs
pairs_count : (S : Parts) (b : ℕ) (gs : List (List Members)) → length (pairs_from S b gs) ≡ sum_by length gs
pairs_count S b [] = refl
pairs_count S b (c ∷ gs) =
    omega (
      arith,
      pairs_count S (b + 1) gs,
      length-append (map (pair_of S b) c) (pairs_from S (b + 1) gs),
      length-map c (pair_of S b),
      sum_by-cons (λ (x : List Members). length x) c gs,
    )

pub pairs_few : (S : Parts) (gs : List (List Members)) (ps : List GapPair) → map pair_parts ps ≡ pairs_from S 0 gs
    → sum_by length gs ≤ MAX_PAIRS → length ps ≤ MAX_PAIRS
pairs_few S gs ps e l = omega (arith, l, pairs_count S 0 gs, ap length e, length-map ps pair_parts)

in_gap : (S : Parts) (g n : ℕ) (cs : List Members) → g < n → All (λ (p : PairParts). p.gap < n) (map (pair_of S g) cs)
in_gap S g n [] l k d m = absurd (omega (arith, m))
in_gap S g n (c ∷ cs) l zero d m = l
in_gap S g n (c ∷ cs) l (suc k) d m = in_gap S g n cs l k d (omega (arith, m))

in_gaps : (S : Parts) (b n : ℕ) (gs : List (List Members)) → b + length gs ≤ n
    → All (λ (p : PairParts). p.gap < n) (pairs_from S b gs)
in_gaps S b n [] l k d m = absurd (omega (arith, m))
in_gaps S b n (c ∷ gs) l k d m = All-append (λ (p : PairParts). p.gap < n) (map (pair_of S b) c)
    (pairs_from S (b + 1) gs) (in_gap S b n c (omega (arith, l))) (in_gaps S (b + 1) n gs (omega (arith, l))) k d m

-- each pair lies in a gap
pub pairs_in_gaps : (S : Parts) (gs : List (List Members)) (ps : List GapPair) → AreGaps S gs
    → map pair_parts ps ≡ pairs_from S 0 gs → All (λ (p : GapPair). p.gap + 1 < length S.sections) ps
pairs_in_gaps S gs ps h e k d l =
    let all = subst (λ (qs : List PairParts). All (λ (p : PairParts). p.gap < length gs) qs) (sym e)
    (in_gaps S 0 (length gs) gs (omega arith)) in
    let here : (get_or ps k d).gap < length gs =
    subst (λ (q : PairParts). q.gap < length gs) (get_or-map pair_parts ps k d (pair_parts d) l)
    (all k (pair_parts d) (omega (arith, l, length-map ps pair_parts))) in
    omega (arith, here, h.count)
