-- A stack is accepted.
use Rattle.std.proofs.Common.{◌≡◌, ℕ, zero, suc, ◌+◌, ◌*◌, ◌<◌, ◌≤◌, ◌≤ℤ◌, List, [], ◌∷◌, length, map, flat_map, pos, refl, sym, ap, ap₂, subst, ◌∙◌, arith, mul-le-mul}
use Rattle.std.specs.List.{range_with_len, AllByRecursion, sum_by}
use Rattle.std.proofs.lemmas.Int.{ints}
use Rattle.std.proofs.lemmas.List.FromFn.{length-map-range_with_len}
use Rattle.fku_types.specs.declared.limits.TheConstants.{MAX_CONTOUR_VERTICES, MAX_SECTION_VERTICES, MAX_VERTICES}
use Rattle.fku_types.specs.Points.{IsCoordinate}
use Rattle.fku_types.specs.declared.rules.PairRule.TheVariants.{Overlap}
use Rattle.fku_types.proofs.ListLaws.{all_map, all_flat}
use Rattle.section_core.specs.Parts.{span, ContourParts, SectionParts, LinkParts, IsCountedContour, asked, contours_of}
use Rattle.section_core.specs.Laws.{IsSpot, AreDistinct, AreRising, IsLawful, heights, names, counts, points, section_vertices}
use Rattle.section_core.specs.Accepted.{IsAccepted}
use Rattle.demo_stack.specs.Demo.{state_after, demo_vertex, name, contour, section, demo}
use Rattle.demo_stack.proofs.Lists.{all_range, map_map, sum_same}
use Rattle.demo_stack.proofs.Names.{name_is, name_one}
use Rattle.demo_stack.proofs.Spots.{spot_in_range}

contours_are : (seed k : ℕ) (xs : List ℕ) → contours_of (map (section seed k) xs) ≡ map (contour seed k) xs
contours_are seed k [] = refl
contours_are seed k (x ∷ xs) = ap (λ (cs : List ContourParts). contour seed k x ∷ cs) (contours_are seed k xs)

-- ---- each contour
contour_is : (seed k s : ℕ) → s < 64 → IsCountedContour (contour seed k s)
contour_is seed k s h = (name_is s h, length-map-range_with_len (demo_vertex seed k s) 0 k)

spots_are : (seed k s : ℕ) → AllByRecursion IsSpot (contour seed k s).points
spots_are seed k s = all_range IsSpot (demo_vertex seed k s) 0 k
    (λ t l m. spot_in_range (state_after seed (s * k + t + 1)) k t (omega arith))

-- ---- names and heights
names_distinct : (a n : ℕ) → a + n ≤ 64 → AreDistinct (map name (range_with_len a n))
names_distinct a zero h = tt
names_distinct a (suc n) h = (
  all_range (λ (other : List ℕ). name a ≡ other → ⊥) name (a + 1) n
      (λ k l m e. let same = name_one a k (omega arith) (omega arith) e in absurd (omega arith)),
  names_distinct (a + 1) n (omega arith),
)

heights_rise : (a n : ℕ) → AreRising (map (λ (s : ℕ). pos (1000 * s)) (range_with_len a n))
heights_rise a zero = tt
heights_rise a (suc zero) = tt
heights_rise a (suc (suc n)) = (omega (arith, ints), heights_rise (a + 1) (suc n))

height_small : (s : ℕ) → s < 64 → IsCoordinate (pos (1000 * s))
height_small s h = omega (arith, ints)

-- ---- the stack
stack : ℕ → ℕ → ℕ → List SectionParts
stack seed n k = map (section seed k) (range_with_len 0 n)

heights_are : (seed n k : ℕ) → heights (stack seed n k) ≡ map (λ (s : ℕ). pos (1000 * s)) (range_with_len 0 n)
unfolding stack
heights_are seed n k = map_map (λ (s : SectionParts). s.z) (section seed k) (range_with_len 0 n)

names_are : (seed n k : ℕ) → names (stack seed n k) ≡ map name (range_with_len 0 n)
unfolding stack
names_are seed n k = ap (map (λ (c : ContourParts). c.name)) (contours_are seed k (range_with_len 0 n))
    ∙ map_map (λ (c : ContourParts). c.name) (contour seed k) (range_with_len 0 n)

counts_are : (seed n k : ℕ) → counts (stack seed n k) ≡ map (λ (s : ℕ). pos k) (range_with_len 0 n)
unfolding stack
counts_are seed n k = ap (map (λ (c : ContourParts). c.count)) (contours_are seed k (range_with_len 0 n))
    ∙ map_map (λ (c : ContourParts). c.count) (contour seed k) (range_with_len 0 n)

points_are : (seed n k : ℕ) → points (stack seed n k)
    ≡ flat_map (λ (c : ContourParts). c.points) (map (contour seed k) (range_with_len 0 n))
unfolding stack
points_are seed n k = ap (flat_map (λ (c : ContourParts). c.points)) (contours_are seed k (range_with_len 0 n))

all_contours : (seed n k : ℕ) → n ≤ 64 → AllByRecursion IsCountedContour (contours_of (stack seed n k))
unfolding stack
all_contours seed n k h = subst (AllByRecursion IsCountedContour) (sym (contours_are seed k (range_with_len 0 n)))
    (all_range IsCountedContour (contour seed k) 0 n (λ s l m. contour_is seed k s (omega arith)))

all_heights : (seed n k : ℕ) → n ≤ 64 → AllByRecursion IsCoordinate (heights (stack seed n k))
all_heights seed n k h = subst (AllByRecursion IsCoordinate) (sym (heights_are seed n k))
    (all_range IsCoordinate (λ (s : ℕ). pos (1000 * s)) 0 n (λ s l m. height_small s (omega arith)))

all_points : (seed n k : ℕ) → AllByRecursion IsSpot (points (stack seed n k))
all_points seed n k = subst (AllByRecursion IsSpot) (sym (points_are seed n k))
    (all_flat IsSpot (λ (c : ContourParts). c.points) (map (contour seed k) (range_with_len 0 n))
    (all_range (λ (c : ContourParts). AllByRecursion IsSpot c.points) (contour seed k) 0 n
    (λ s l m. spots_are seed k s)))

all_counts : (seed n k : ℕ) → 3 ≤ k → k ≤ 1000
    → AllByRecursion (λ z. (pos 3 ≤ℤ z) × (z ≤ℤ pos MAX_CONTOUR_VERTICES)) (counts (stack seed n k))
all_counts seed n k h l = subst (AllByRecursion (λ z. (pos 3 ≤ℤ z) × (z ≤ℤ pos MAX_CONTOUR_VERTICES)))
    (sym (counts_are seed n k)) (all_range (λ z. (pos 3 ≤ℤ z) × (z ≤ℤ pos MAX_CONTOUR_VERTICES)) (λ (s : ℕ). pos k) 0 n
    (λ s a b. (omega (arith, ints), omega (arith, ints))))

all_sums : (seed n k : ℕ) → k ≤ 1000
    → AllByRecursion (λ m. m ≤ MAX_SECTION_VERTICES) (map section_vertices (stack seed n k))
unfolding stack
all_sums seed n k h = all_map (λ (m : ℕ). m ≤ MAX_SECTION_VERTICES) section_vertices
    (map (section seed k) (range_with_len 0 n))
    (all_range (λ (s : SectionParts). section_vertices s ≤ MAX_SECTION_VERTICES) (section seed k) 0 n
    (λ s l m. omega arith))

total : (seed n k : ℕ) → n ≤ 64 → k ≤ 1000 → sum_by asked (counts (stack seed n k)) ≤ MAX_VERTICES
total seed n k h l = omega (
  arith,
  ap (sum_by asked) (counts_are seed n k),
  sum_same asked (λ (s : ℕ). pos k) k 0 n (λ s. refl),
  mul-le-mul h l,
)

how_many_names : (seed n k : ℕ) → length (names (stack seed n k)) ≡ n
how_many_names seed n k = ap length (names_are seed n k) ∙ length-map-range_with_len name 0 n

how_many_heights : (seed n k : ℕ) → length (heights (stack seed n k)) ≡ n
how_many_heights seed n k = ap length (heights_are seed n k) ∙ length-map-range_with_len (λ (s : ℕ). pos (1000 * s)) 0 n

how_many_contours : (seed n k : ℕ) → length (contours_of (stack seed n k)) ≡ n
unfolding stack
how_many_contours seed n k = ap length (contours_are seed k (range_with_len 0 n))
    ∙ length-map-range_with_len (contour seed k) 0 n

lawful : (seed n k : ℕ) → n ≤ 64 → 3 ≤ k → k ≤ 1000 → IsLawful (demo seed n k)
unfolding demo stack
lawful seed n k h l m = record {
  in_range = all_heights seed n k h;
  spots = all_points seed n k;
  weighted = tt;
  apart = subst AreDistinct (sym (names_are seed n k)) (names_distinct 0 n (omega arith));
  rising = subst AreRising (sym (heights_are seed n k)) (heights_rise 0 n);
  counted = all_counts seed n k l m;
  small = all_sums seed n k m;
  few_vertices = total seed n k h m;
  few_contours = omega (arith, how_many_names seed n k);
  few_sections = omega (arith, how_many_heights seed n k);
  few_links = omega arith;
}

pub demo_accepted : (seed n k : ℕ) → 1 ≤ n → n ≤ 64 → 3 ≤ k → k ≤ 1000 → IsAccepted (demo seed n k)
unfolding demo stack
demo_accepted seed n k g h l m = record {
  are_parts = record { contours = all_contours seed n k h; links = refl };
  lawful = lawful seed n k h l m;
  contour = omega (arith, how_many_contours seed n k);
}

-- the joined sections are the stack
pub made_is : (seed n k : ℕ) (sections : List SectionParts) (links : List LinkParts)
    → sections ≡ map (section seed k) (range_with_len 0 n) → links ≡ []
    → record { cost = span; rule = Overlap; sections = sections; links = links } ≡ demo seed n k
unfolding demo
made_is seed n k sections links e f =
    ap₂ (λ (s : List SectionParts) (l : List LinkParts).
    record { cost = span; rule = Overlap; sections = s; links = l }) e f
