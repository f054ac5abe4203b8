-- A law that holds of facts after one more item held before it.
use Rattle.std.proofs.Common.{◌≡◌, ℕ, ◌+◌, ◌≤◌, List, [], ◌∷◌, ◌++◌, length, ℤ, refl, ap, sym, subst, append-nil, arith}
use Rattle.std.specs.List.{AllByRecursion, sum_by}
use Rattle.std.proofs.lemmas.List.{length-append}
use Rattle.std.proofs.lemmas.List.Sums.{sum_by-append}
use Rattle.fku_types.specs.declared.limits.TheConstants.{MAX_SECTION_VERTICES}
use Rattle.fku_types.specs.Points.{IsCoordinate}
use Rattle.fku_types.specs.declared.fault.LimitName.TheVariants as limit
use Rattle.section_core.specs.declared.parts.Version.TheVariants.{One}
use Rattle.section_core.specs.Parts.{Spot, asked}
use Rattle.section_core.specs.Laws.{Facts, Law, in_range, name_once, rising, within, law_order, Keeps, KeepsAll, IsSpot, IsMix, weights, AreDistinct, AreRising, IsPointCount}
use Rattle.section_core.specs.Machine.{Item, version, cost_is, object, section, contour, point}
use Rattle.section_core.specs.Steps.{after, add_last, push_last}
use Rattle.section_core.specs.Made.{facts_after}
use Rattle.fku_types.proofs.ListLaws.{all_front}

abbrev AreFew : List ℕ → Type 0
AreFew sums = AllByRecursion (λ n. n ≤ MAX_SECTION_VERTICES) sums

-- the later facts go on where the earlier ones end
record Grows (old new : Facts) : Type 0 where
  objects : (more : List (List ℕ)) × (new.objects ≡ old.objects ++ more)
  in_range : AllByRecursion (AllByRecursion IsCoordinate) new.heights
      → AllByRecursion (AllByRecursion IsCoordinate) old.heights
  rise : AllByRecursion AreRising new.heights → AllByRecursion AreRising old.heights
  sections : sum_by length old.heights ≤ sum_by length new.heights
  names : (more : List (List ℕ)) × (new.names ≡ old.names ++ more)
  counts : (more : List ℤ) × (new.counts ≡ old.counts ++ more)
  points : (more : List Spot) × (new.points ≡ old.points ++ more)
  weights : (more : List (ℤ × ℤ)) × (new.weights ≡ old.weights ++ more)
  few : AreFew new.sums → AreFew old.sums
  links : old.links ≤ new.links

pub distinct-left : (xs ys : List (List ℕ)) → AreDistinct (xs ++ ys) → AreDistinct xs
distinct-left [] ys h = tt
distinct-left (x ∷ xs) ys h = (all_front (λ other. x ≡ other → ⊥) xs ys h.0, distinct-left xs ys h.1)

rising-left : (xs ys : List ℤ) → AreRising (xs ++ ys) → AreRising xs
rising-left [] ys h = tt
rising-left (x ∷ []) ys h = tt
rising-left (x ∷ y ∷ xs) ys h = (h.0, rising-left (y ∷ xs) ys h.1)

keeps-grown : (law : Law) (old new : Facts) → Grows old new → Keeps law new → Keeps law old
keeps-grown in_range old new g k = (
  g.in_range k.0,
  all_front IsSpot old.points g.points.0 (subst (AllByRecursion IsSpot) g.points.1 k.1),
  all_front IsMix old.weights g.weights.0 (subst (AllByRecursion IsMix) g.weights.1 k.2),
)
keeps-grown name_once old new g k = (
  distinct-left old.names g.names.0 (subst AreDistinct g.names.1 k.0),
  distinct-left old.objects g.objects.0 (subst AreDistinct g.objects.1 k.1),
)
keeps-grown rising old new g k = g.rise k
keeps-grown (within limit.ContourVertices) old new g k =
    let P : ℤ → Type 0 = IsPointCount in
    all_front P old.counts g.counts.0 (subst (AllByRecursion P) g.counts.1 k)
keeps-grown (within limit.SectionVertices) old new g k = g.few k
keeps-grown (within limit.Vertices) old new g k =
    omega (arith, k, ap (sum_by asked) g.counts.1, sum_by-append asked old.counts g.counts.0)
keeps-grown (within limit.Contours) old new g k =
    omega (arith, k, ap length g.names.1, length-append old.names g.names.0)
keeps-grown (within limit.Sections) old new g k = omega (arith, k, g.sections)
keeps-grown (within limit.Links) old new g k = omega (arith, k, g.links)
keeps-grown (within limit.Objects) old new g k =
    omega (arith, k, ap length g.objects.1, length-append old.objects g.objects.0)
keeps-grown (within limit.Bytes) old new g k = tt
keeps-grown (within limit.Edits) old new g k = tt

few-before : (sums : List ℕ) (n : ℕ) → AreFew (add_last sums n) → AreFew sums
few-before [] n h = tt
few-before (m ∷ []) n h = (omega (arith, h.0), tt)
few-before (m ∷ k ∷ sums) n h = (h.0, few-before (k ∷ sums) n h.1)

in_range-before : (hs : List (List ℤ)) (z : ℤ) → AllByRecursion (AllByRecursion IsCoordinate) (push_last hs z)
    → AllByRecursion (AllByRecursion IsCoordinate) hs
in_range-before [] z h = tt
in_range-before (x ∷ []) z h = (all_front IsCoordinate x (z ∷ []) h.0, tt)
in_range-before (x ∷ y ∷ hs) z h = (h.0, in_range-before (y ∷ hs) z h.1)

rise-before : (hs : List (List ℤ)) (z : ℤ) → AllByRecursion AreRising (push_last hs z) → AllByRecursion AreRising hs
rise-before [] z h = tt
rise-before (x ∷ []) z h = (rising-left x (z ∷ []) h.0, tt)
rise-before (x ∷ y ∷ hs) z h = (h.0, rise-before (y ∷ hs) z h.1)

pub push_last-length : (hs : List (List ℤ)) (z : ℤ) → sum_by length (push_last hs z) ≡ sum_by length hs + 1
push_last-length [] z = refl
push_last-length (x ∷ []) z = omega (arith, length-append x (z ∷ []))
push_last-length (x ∷ y ∷ hs) z = omega (
  arith,
  push_last-length (y ∷ hs) z,
  sum_by-append {X = List ℤ} length (x ∷ []) (push_last (y ∷ hs) z),
  sum_by-append {X = List ℤ} length (x ∷ []) (y ∷ hs),
)

-- the same facts, except for one object that begins
grows-object : (f : Facts) (objects more : List (List ℕ)) → objects ≡ f.objects ++ more
    → Grows f (record f { objects = objects; heights = f.heights ++ [] ∷ [] })
grows-object f objects more e = record {
  objects = (more, e);
  in_range = all_front (AllByRecursion IsCoordinate) f.heights ([] ∷ []);
  rise = all_front AreRising f.heights ([] ∷ []);
  sections = omega (arith, sum_by-append {X = List ℤ} length f.heights ([] ∷ []));
  names = ([], sym (append-nil f.names));
  counts = ([], sym (append-nil f.counts));
  points = ([], sym (append-nil f.points));
  weights = ([], sym (append-nil f.weights));
  few = λ h. h;
  links = omega arith;
}

grows-after : (f : Facts) (item : Item) → Grows f (after f item)
grows-after f (version One) = grows-object f f.objects [] (sym (append-nil f.objects))
grows-after f (object name) = grows-object f (f.objects ++ name ∷ []) (name ∷ []) refl
grows-after f (cost_is cost) = record {
  objects = ([], sym (append-nil f.objects));
  in_range = λ h. h;
  rise = λ h. h;
  sections = omega arith;
  names = ([], sym (append-nil f.names));
  counts = ([], sym (append-nil f.counts));
  points = ([], sym (append-nil f.points));
  weights = (weights cost, refl);
  few = λ h. h;
  links = omega arith;
}
grows-after f (section z) = record {
  objects = ([], sym (append-nil f.objects));
  in_range = in_range-before f.heights z;
  rise = rise-before f.heights z;
  sections = omega (arith, push_last-length f.heights z);
  names = ([], sym (append-nil f.names));
  counts = ([], sym (append-nil f.counts));
  points = ([], sym (append-nil f.points));
  weights = ([], sym (append-nil f.weights));
  few = all_front (λ n. n ≤ MAX_SECTION_VERTICES) f.sums (0 ∷ []);
  links = omega arith;
}
grows-after f (contour name count) = record {
  objects = ([], sym (append-nil f.objects));
  in_range = λ h. h;
  rise = λ h. h;
  sections = omega arith;
  names = (name ∷ [], refl);
  counts = (count ∷ [], refl);
  points = ([], sym (append-nil f.points));
  weights = ([], sym (append-nil f.weights));
  few = few-before f.sums (asked count);
  links = omega arith;
}
grows-after f (point p) = record {
  objects = ([], sym (append-nil f.objects));
  in_range = λ h. h;
  rise = λ h. h;
  sections = omega arith;
  names = ([], sym (append-nil f.names));
  counts = ([], sym (append-nil f.counts));
  points = (p ∷ [], refl);
  weights = ([], sym (append-nil f.weights));
  few = λ h. h;
  links = omega arith;
}
grows-after f item = record {
  objects = ([], sym (append-nil f.objects));
  in_range = λ h. h;
  rise = λ h. h;
  sections = omega arith;
  names = ([], sym (append-nil f.names));
  counts = ([], sym (append-nil f.counts));
  points = ([], sym (append-nil f.points));
  weights = ([], sym (append-nil f.weights));
  few = λ h. h;
  links = omega arith;
}

pub keeps-before : (law : Law) (f : Facts) (item : Item) → Keeps law (after f item) → Keeps law f
keeps-before law f item k = keeps-grown law f (after f item) (grows-after f item) k

all-before : (laws : List Law) (f : Facts) (item : Item) → KeepsAll laws (after f item) → KeepsAll laws f
all-before [] f item k = tt
all-before (law ∷ laws) f item k = (keeps-before law f item k.0, all-before laws f item k.1)

-- the same for many items
pub lawful-before : (f : Facts) (items : List Item) → KeepsAll law_order (facts_after f items) → KeepsAll law_order f
lawful-before f [] k = k
lawful-before f (item ∷ items) k = all-before law_order f item (lawful-before (after f item) items k)
