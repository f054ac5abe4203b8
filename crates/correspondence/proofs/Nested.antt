-- The depth of a contour, counted over the others.
use Rattle.std.proofs.Common.{◌≡◌, ◌+◌, ◌≤◌, ◌<◌, ◌*◌, ◌∙◌, ℕ, Bool, cond, List, [], ◌∷◌, map, take, length, get_or, count_by, sum_by, take_all, ap, sym, arith, suc, zero, refl, ap₂, true, false, if◌then◌else◌, ◌⊎◌, inl, inr, IsTrue, ◌↔◌, subst, subst₂}
use Rattle.std.specs.List.{range_with_len}
use Rattle.std.proofs.lemmas.List.{length-map, length-reverse}
use Rattle.std.proofs.lemmas.List.Sums.{sum_by-append}
use Rattle.std.proofs.lemmas.List.FromFn.{length-range_with_len, get_or-range_with_len, get_or-map-range_with_len}
use Rattle.fku_types.specs.declared.limits.TheConstants.{MAX_SECTION_VERTICES}
use Rattle.fku_types.specs.declared.points.Point.{Point}
use Rattle.section_core.specs.declared.parts.Contour.{Contour}
use Rattle.plane_geom.specs.Rings.{RingView}
use Rattle.plane_geom.specs.Nesting.{CountedAmong}
use Rattle.plane_geom.specs.Nesting.CountedAmong.{counted, passed}
use Rattle.plane_geom.proofs.CrossedTests.{count_more}
use Rattle.correspondence.specs.Contours.{points_of, AreOutlines}
use Rattle.correspondence.specs.Nesting.{lies_in, LiesIn, depth, AreDepths, IsDepthAmong, is_turned, turned, ring_from}

each_adds : (cs : List Contour) → ((k : ℕ) (d : Contour) → k < length cs → 3 ≤ length (points_of (get_or cs k d)))
    → 3 * length cs ≤ sum_by (λ c. length (points_of c)) cs
each_adds [] h = omega arith
each_adds (c ∷ cs) h =
    let rest = each_adds cs (λ k d l. h (suc k) d (omega arith)) in
    let first : 3 ≤ length (points_of c) = h 0 c (omega arith) in
    omega (arith, rest, first, sum_by-append (λ (x : Contour). length (points_of x)) (c ∷ []) cs)

pub few_contours : (cs : List Contour) → AreOutlines cs → length cs ≤ MAX_SECTION_VERTICES
few_contours cs h = omega (arith, each_adds cs (λ k d l. (h.each k d l).enough), h.few)

pub depth_more : (contours : List (List Point)) (n place other count m : ℕ) (r b : Bool) → other < n
    → r ≡ lies_in contours place other → count ≡ count_by (lies_in contours place) (take other (range_with_len 0 n))
    → r ≡ b → m ≡ count + cond b 1 0
    → m ≡ count_by (lies_in contours place) (take (other + 1) (range_with_len 0 n))
depth_more contours n place other count m r b h e f g k =
    let one = count_more (lies_in contours place) (range_with_len 0 n) other 0
    (omega (arith, length-range_with_len 0 n)) in
    let at : get_or (range_with_len 0 n) other 0 ≡ other = omega (arith, get_or-range_with_len 0 n other 0 h) in
    let same : lies_in contours place (get_or (range_with_len 0 n) other 0) ≡ b = ap (lies_in contours place) at ∙ sym e
    ∙ g in
    omega (arith, one, ap {B = ℕ} (λ (x : Bool). cond x 1 0) same)

below_or_last : (k n : ℕ) → k < n + 1 → (k < n) ⊎ (k ≡ n)
below_or_last zero zero h = inr refl
below_or_last zero (suc n) h = inl (omega arith)
below_or_last (suc k) zero h = absurd (omega arith)
below_or_last (suc k) (suc n) h = elim (below_or_last k n (omega arith))
    [ inl b ↦ inl (omega arith) | inr e ↦ inr (ap suc e) ]

pub depth_whole : (contours : List (List Point)) (place count n : ℕ) → n ≡ length contours
    → IsDepthAmong contours place n count → count ≡ depth contours place
unfolding depth
depth_whole contours place count n e d = d.counted
    ∙ ap (count_by (lies_in contours place))
    (take_all n (range_with_len 0 (length contours)) (omega (arith, e, length-range_with_len 0 (length contours))))

-- one more place, in which the contour lies or not
pub lies_more : (P : ℕ → Type 0) (i n i' n' : ℕ) (r : Bool) → CountedAmong P i n → i' ≡ suc i → n' ≡ suc n
    → IsTrue r ↔ P i → r ≡ true → CountedAmong P i' n'
lies_more P i n i' n' r h e f d t = subst₂ (CountedAmong P) (sym e) (sym f) (counted i n h (d.0 t))

pub lies_none : (P : ℕ → Type 0) (i n i' n' : ℕ) (r : Bool) → CountedAmong P i n → i' ≡ suc i → n' ≡ n → IsTrue r ↔ P i
    → r ≡ false → CountedAmong P i' n'
lies_none P i n i' n' r h e f d t = subst₂ (CountedAmong P) (sym e) (sym f) (passed i n h (λ w. cc (d.1 w, t)))

-- the same of the depth so far
pub among_more : (contours : List (List Point)) (place other count m : ℕ) (r : Bool) → other < length contours
    → r ≡ lies_in contours place other → IsTrue r ↔ LiesIn contours place other → r ≡ true → m ≡ count + 1
    → IsDepthAmong contours place other count → IsDepthAmong contours place (other + 1) m
among_more contours place other count m r w e t y k d = record {
  counted = depth_more contours (length contours) place other count m r true w e d.counted y k;
  among = lies_more (LiesIn contours place) other count (other + 1) m r d.among (omega arith) (omega (arith, k)) t y;
  few = omega (arith, k, d.few);
}

pub among_passed : (contours : List (List Point)) (place other count m : ℕ) (r : Bool) → other < length contours
    → r ≡ lies_in contours place other → IsTrue r ↔ LiesIn contours place other → r ≡ false → m ≡ count
    → IsDepthAmong contours place other count → IsDepthAmong contours place (other + 1) m
among_passed contours place other count m r w e t y k d = record {
  counted = depth_more contours (length contours) place other count m r false w e d.counted y (omega (arith, k));
  among = lies_none (LiesIn contours place) other count (other + 1) m r d.among (omega arith) k t y;
  few = omega (arith, k, d.few);
}

-- successive contours in none of which the contour lies
pub none_among : (contours : List (List Point)) (place begin count n : ℕ) → begin + n ≤ length contours
    → IsDepthAmong contours place begin count
    → ((k : ℕ) → begin ≤ k → k < begin + n → (false ≡ lies_in contours place k) × (LiesIn contours place k → ⊥))
    → IsDepthAmong contours place (begin + n) count
none_among contours place begin count zero w d h =
    subst (λ (e : ℕ). IsDepthAmong contours place e count) (omega arith) d
none_among contours place begin count (suc n) w d h =
    let before = none_among contours place begin count n (omega arith) d (λ k f l. h k f (omega arith)) in
    let here = h (begin + n) (omega arith) (omega arith) in
    subst (λ (e : ℕ). IsDepthAmong contours place e count) (omega arith)
    (among_passed contours place (begin + n) count count false (omega arith) here.0
    ((λ t. cc), (λ l. absurd (here.1 l))) refl refl before)

-- the depth of one more contour
pub depths_more : (cs : List Contour) (place d : ℕ) → d ≡ depth (map points_of cs) place
    → CountedAmong (LiesIn (map points_of cs) place) (length cs) d
    → ((k : ℕ) → k < place → CountedAmong (LiesIn (map points_of cs) k) (length cs) (depth (map points_of cs) k))
    → (k : ℕ) → k < place + 1 → CountedAmong (LiesIn (map points_of cs) k) (length cs) (depth (map points_of cs) k)
depths_more cs place d e h before k l =
    elim (below_or_last k place l) [
      | inl b ↦ before k b
      | inr s ↦ subst (λ (j : ℕ). CountedAmong (LiesIn (map points_of cs) j) (length cs) (depth (map points_of cs) j))
          (sym s)
          (subst (CountedAmong (LiesIn (map points_of cs) place) (length cs)) e h)
    ]

pub all_depths : (cs : List Contour) (ns : List ℕ) (n : ℕ) → n ≡ length cs
    → ns ≡ map (depth (map points_of cs)) (range_with_len 0 n)
    → ((k : ℕ) → k < n → CountedAmong (LiesIn (map points_of cs) k) (length cs) (depth (map points_of cs) k))
    → AreDepths (map points_of cs) ns
all_depths cs ns n e f each =
    let contours = map points_of cs in
    let same : length contours ≡ length cs = length-map cs points_of in
    record {
      one_each = ap length f ∙ omega (
        arith,
        e,
        same,
        length-map (range_with_len 0 n) (depth contours),
        length-range_with_len 0 n,
      );
      counted = λ k l.
          let within : k < n = omega (arith, e, same, l) in
          let at : get_or ns k 0 ≡ depth contours k = ap (λ (l : List ℕ). get_or l k 0) f
          ∙ get_or-map-range_with_len (depth contours) 0 n k k 0 within (omega arith) in
          subst₂ (CountedAmong (LiesIn contours k)) (sym same) (sym at) (each k within);
    }

pub length-turned : {X : Type 0} (xs : List X) → length (turned xs) ≡ length xs
length-turned [] = refl
length-turned (x ∷ xs) = ap suc (length-reverse xs)

pub turned_ring : (d first : ℕ) (points turned_points : List Point) (ids turned_ids : List ℕ)
    → is_turned d points ≡ true → turned_points ≡ turned points → turned_ids ≡ turned ids
    → ids ≡ range_with_len first (length points)
    → ◌≡◌ {A = RingView} (record { points = turned_points; ids = turned_ids }) (ring_from d first points)
unfolding ring_from
turned_ring d first points ps ids is t e f g =
    ap₂ (λ (p : List Point) (i : List ℕ). record { points = p; ids = i }) e (f ∙ ap turned g)
    ∙ sym (ap (λ (b : Bool). if b then record
    { points = turned points; ids = turned (range_with_len first (length points)) } else record
    { points = points; ids = range_with_len first (length points) }) t)

pub straight_ring : (d first : ℕ) (points copied : List Point) (ids : List ℕ) → is_turned d points ≡ false
    → copied ≡ points → ids ≡ range_with_len first (length points)
    → ◌≡◌ {A = RingView} (record { points = copied; ids = ids }) (ring_from d first points)
unfolding ring_from
straight_ring d first points ps ids t e f =
    ap₂ (λ (p : List Point) (i : List ℕ). record { points = p; ids = i }) e f
    ∙ sym (ap (λ (b : Bool). if b then record
    { points = turned points; ids = turned (range_with_len first (length points)) } else record
    { points = points; ids = range_with_len first (length points) }) t)
