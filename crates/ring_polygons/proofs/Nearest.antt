-- The steps of a search for the first least number, and for the least bridge to a ring.
use Rattle.std.proofs.Common.{◌≡◌, ℕ, ◌+◌, ◌<◌, ◌≤◌, nat_lt, inl, inr, List, All, length, get_or, sym, ap, ◌∙◌, arith, add-one, subst, refl}
use Rattle.std.proofs.lemmas.Bool.{cases_lt, lt-ltb, le-ltb, cond-true, cond-false}
use Rattle.std.proofs.lemmas.List.{get_or-map}
use Rattle.fku_types.specs.declared.points.Point.{Point}
use Rattle.plane_geom.specs.declared.ring.Ring.{Ring}
use Rattle.plane_geom.specs.Rings.{origin}
use Rattle.plane_geom.specs.Lengths.{distance_square}
use Rattle.plane_geom.specs.RingViews.{ring_view, ring_views}
use Rattle.ring_polygons.specs.declared.bridges.Near.{Near}
use Rattle.ring_polygons.specs.declared.extents.Extent.{Extent}
use Rattle.ring_polygons.specs.Composites.{first_least, view_at, no_view}
use Rattle.ring_polygons.specs.Extents.{IsEnclosed}
use Rattle.ring_polygons.specs.Nearest.{place_of, IsNearest, near_at}
use Rattle.ring_polygons.proofs.BridgeLaws.{FirstLeast, first_least_is}

pub least_taken : (f : ℕ → ℕ) (n i : ℕ) → i ≡ first_least f n → f n < f i → n ≡ first_least f (n + 1)
least_taken f n i e lt = sym (ap (first_least f) (add-one n)
    ∙ cond-true {A = ℕ} (nat_lt (f n) (f (first_least f n))) n (first_least f n)
    (lt-ltb (f n) (f (first_least f n)) (omega (arith, lt, ap f e))))

pub least_kept : (f : ℕ → ℕ) (n i : ℕ) → i ≡ first_least f n → f i ≤ f n → i ≡ first_least f (n + 1)
least_kept f n i e le = e ∙ sym (ap (first_least f) (add-one n)
    ∙ cond-false {A = ℕ} (nat_lt (f n) (f (first_least f n))) n (first_least f n)
    (le-ltb (f n) (f (first_least f n)) (omega (arith, le, ap f e))))

-- a ring of a list, as contracts see it
pub view_read : (rings : List Ring) (k : ℕ) (r : Ring) → k < length rings → r ≡ get_or rings k r
    → view_at (ring_views rings) k ≡ ring_view r
view_read rings k r l e = get_or-map ring_view rings k r no_view l ∙ ap ring_view (sym e)

-- the vertex that is nearest to a point, and its squared distance from a place of a ring
abbrev pub nearest_to : List Point → Point → ℕ
nearest_to other p = first_least (λ v. distance_square p (place_of other v)) (length other)

abbrev pub square_from : List Point → List Point → ℕ → ℕ
square_from ring other p = distance_square (place_of ring p) (place_of other (nearest_to other (place_of ring p)))

-- no point of a list is nearer to a place than all points that an extent of the list encloses
pub none_nearer : (ring other : List Point) (e : Extent) (p bound : ℕ) → 0 < length other → All (IsEnclosed e) other
    → ((q : Point) → IsEnclosed e q → bound ≤ distance_square (place_of ring p) q) → bound ≤ square_from ring other p
none_nearer ring other e p bound some within at =
    let there = (first_least_is (λ (v : ℕ). distance_square (place_of ring p) (place_of other v)) (length other)
    some).below in
    let v : ℕ = nearest_to other (place_of ring p) in
    at (place_of other v) (within v origin there)

abbrev near : ℕ → ℕ → ℕ → Near
near s p v = record { square = s; place = p; vertex = v }

near_same : (s s' p p' v v' : ℕ) → s ≡ s' → p ≡ p' → v ≡ v' → near s p v ≡ near s' p' v'
near_same s s' p p' v v' e f g = ap (λ (x : ℕ). near x p v) e ∙ ap (λ (x : ℕ). near s' x v) f ∙ ap (near s' p') g

-- the first least place, with the first least vertex from there, is the least bridge
pub nearest_is : (ring other : List Point) (s p v : ℕ) → 0 < length ring → 0 < length other
    → p ≡ first_least (square_from ring other) (length ring) → v ≡ nearest_to other (place_of ring p)
    → s ≡ square_from ring other p →
    IsNearest ring other (record { square = s; place = p; vertex = v })
nearest_is ring other s p v some_ring some_other ep ev es =
    let f : ℕ → ℕ = square_from ring other in
    let i : ℕ = first_least f (length ring) in
    let by_place : FirstLeast f (length ring) i = first_least_is f (length ring) some_ring in
    let by_vertex : (q : ℕ) → FirstLeast (λ (w : ℕ). distance_square (place_of ring q) (place_of other w))
    (length other) (nearest_to other (place_of ring q)) =
    λ q. first_least_is (λ (w : ℕ). distance_square (place_of ring q) (place_of other w)) (length other) some_other
    in
    subst (IsNearest ring other) (sym (near_same s (f i) p i v (nearest_to other (place_of ring i)) (es ∙ ap f ep) ep
    (ev ∙ ap (λ (q : ℕ). nearest_to other (place_of ring q)) ep)))
    (record {
      place = by_place.below;
      vertex = (by_vertex i).below;
      square = refl;
      least = λ q w lq lw. omega (arith, by_place.least q lq, (by_vertex q).least w lw);
      first_place = λ q w lq lw e. elim (cases_lt q i) [
        | inl lt ↦ absurd (omega (arith, e, by_place.first q lt, (by_vertex q).least w lw))
        | inr ge ↦ ge
      ];
      first_vertex = λ w lw e. elim (cases_lt w (nearest_to other (place_of ring i))) [
        | inl lt ↦ absurd (omega (arith, e, (by_vertex i).first w lt))
        | inr ge ↦ ge
      ];
    })

-- ---- the first least of some bridges

pub record LeastSoFar (nears : List Near) (n c : ℕ) : Type 0 where
  pub before : c ≤ n
  pub there : c < length nears
  pub least : (k : ℕ) → k < n → (near_at nears c).square ≤ (near_at nears k).square
  pub place : (k : ℕ) → k < n → (near_at nears k).square ≡ (near_at nears c).square
      → (near_at nears c).place ≤ (near_at nears k).place
  pub first : (k : ℕ) → k < n → (near_at nears k).square ≡ (near_at nears c).square
      → (near_at nears k).place ≡ (near_at nears c).place → c ≤ k
