-- What is known of the corners of a ring, when one is tested and when one is cut off.
use Rattle.std.proofs.Common.{◌≡◌, ◌≢◌, ℕ, ◌-◌, ◌<◌, ◌==◌, ◌&&◌, ◌||◌, not, Bool, true, inl, inr, List, length, set, map, remove, ℤ, pos, ◌*ℤ◌, int_lt, sym, ap, subst, ◌∙◌, arith, eq-eqb}
use Rattle.std.proofs.lemmas.Bool.{cases_eq, cond-true, cond-false, ne_eqb}
use Rattle.std.proofs.lemmas.List.{get_or-set_same, get_or-set_other, get_or-map, length-map, length-set}
use Rattle.std.proofs.lemmas.List.Edits.{length-remove}
use Rattle.fku_types.specs.declared.points.Point.{Point}
use Rattle.plane_geom.specs.Rings.{origin}
use Rattle.plane_geom.specs.Planes.{side, side_of}
use Rattle.ring_polygons.specs.declared.twins.Twins.{Twins}
use Rattle.ring_polygons.specs.declared.states.EarState.{EarState}
use Rattle.ring_polygons.specs.declared.states.EarState.TheVariants.{Open, NotConvex, Hindered}
use Rattle.ring_polygons.specs.Caps.{corner, is_within, same_point, pass, hinders}
use Rattle.ring_polygons.specs.Ears.{place_before, place_after, point_at}
use Rattle.ring_polygons.specs.States.{IsTrueOf, AreTrue, state_at, moved_place, moved_state}
use Rattle.ring_polygons.proofs.Gaps.{up, read, up_same, up_below, up_moved, moved_below, up_before, up_after}

-- a state that is true of its corner may be kept
pub set_true : (w : Twins) (s : ℤ) (ring : List Point) (states : List EarState) (p : ℕ) (state : EarState)
    → p < length ring → AreTrue w s ring states → IsTrueOf w s ring p state → AreTrue w s ring (set states p state)
set_true w s ring states p state l h now = record {
  one_each = omega (arith, length-set states p state, h.one_each);
  each = λ t b. elim (cases_eq t p) [
    | inl e ↦
        let same : state_at (set states p state) t ≡ state = ap (state_at (set states p state)) e
        ∙ get_or-set_same states p state (Open 0) (omega (arith, h.one_each)) in
        subst (IsTrueOf w s ring t) (sym same) (subst (λ (i : ℕ). IsTrueOf w s ring i state) (sym e) now)
    | inr ne ↦ subst (IsTrueOf w s ring t) (sym (get_or-set_other states p t state (Open 0) ne)) (h.each t b)
  ];
}

-- ---- a corner stays as it is unless it is a neighbour of the one that is removed
abbrev blocks : Twins → ℤ → Bool → Bool → Bool → Point → Point → Point → Point → Bool
blocks w s x y z a b c q = not (x || y || z) && is_within s a b c q && not
    (pass w && (same_point q a || same_point q b || same_point q c))

blocks_same : (w : Twins) (s : ℤ) (x x' y y' z z' : Bool) (a a' b b' c c' q q' : Point) → x ≡ x' → y ≡ y' → z ≡ z'
    → a ≡ a' → b ≡ b' → c ≡ c' → q ≡ q' → blocks w s x y z a b c q ≡ blocks w s x' y' z' a' b' c' q'
blocks_same w s x x' y y' z z' a a' b b' c c' q q' ex ey ez ea eb ec eq =
    ap (λ (v : Bool). blocks w s v y z a b c q) ex ∙ ap (λ (v : Bool). blocks w s x' v z a b c q) ey
    ∙ ap (λ (v : Bool). blocks w s x' y' v a b c q) ez
    ∙ ap (λ (v : Point). blocks w s x' y' z' v b c q) ea ∙ ap (λ (v : Point). blocks w s x' y' z' a' v c q) eb
    ∙ ap (λ (v : Point). blocks w s x' y' z' a' b' v q) ec
    ∙ ap (λ (v : Point). blocks w s x' y' z' a' b' c' v) eq

-- what is the same of the corner at place t of the shorter ring
record Same (ring : List Point) (p t : ℕ) : Type 0 where
  there : p < length ring
  size : length (remove ring p) ≡ length ring - 1
  earlier : up p (place_before (length (remove ring p)) t) ≡ place_before (length ring) (up p t)
  later : up p (place_after (length (remove ring p)) t) ≡ place_after (length ring) (up p t)

same_before : (ring : List Point) (p t : ℕ) → Same ring p t
    → point_at (remove ring p) (place_before (length (remove ring p)) t)
    ≡ point_at ring (place_before (length ring) (up p t))
same_before ring p t h = read ring p (place_before (length (remove ring p)) t) origin h.there
    ∙ ap (point_at ring) h.earlier

same_after : (ring : List Point) (p t : ℕ) → Same ring p t
    → point_at (remove ring p) (place_after (length (remove ring p)) t)
    ≡ point_at ring (place_after (length ring) (up p t))
same_after ring p t h = read ring p (place_after (length (remove ring p)) t) origin h.there ∙ ap (point_at ring) h.later

same_place : (ring : List Point) (p t k i j : ℕ) → up p i ≡ j → (k == i) ≡ (up p k == j)
same_place ring p t k i j e = up_same p k i ∙ ap (λ (v : ℕ). up p k == v) e

hinders_same : (w : Twins) (s : ℤ) (ring : List Point) (p t k : ℕ) → Same ring p t
    → hinders w s (remove ring p) t k ≡ hinders w s ring (up p t) (up p k)
hinders_same w s ring p t k h =
    let n : ℕ = length ring in
    let m : ℕ = length (remove ring p) in
    blocks_same w s (k == place_before m t) (up p k == place_before n (up p t)) (k == t) (up p k == up p t)
    (k == place_after m t) (up p k == place_after n (up p t))
    (point_at (remove ring p) (place_before m t)) (point_at ring (place_before n (up p t))) (point_at (remove ring p) t)
    (point_at ring (up p t))
    (point_at (remove ring p) (place_after m t)) (point_at ring (place_after n (up p t))) (point_at (remove ring p) k)
    (point_at ring (up p k))
    (same_place ring p t k (place_before m t) (place_before n (up p t)) h.earlier) (up_same p k t)
    (same_place ring p t k (place_after m t) (place_after n (up p t)) h.later)
    (same_before ring p t h) (read ring p t origin h.there) (same_after ring p t h) (read ring p k origin h.there)

side_same : (ring : List Point) (p t : ℕ) → Same ring p t
    → side_of (corner origin (remove ring p) t) ≡ side_of (corner origin ring (up p t))
side_same ring p t h =
    let n : ℕ = length ring in
    let m : ℕ = length (remove ring p) in
    let shorter : List Point = remove ring p in
    ap (λ (v : Point). side v (point_at shorter t) (point_at shorter (place_after m t))) (same_before ring p t h)
    ∙ ap (λ (v : Point). side (point_at ring (place_before n (up p t))) v (point_at shorter (place_after m t)))
    (read ring p t origin h.there)
    ∙ ap (λ (v : Point). side (point_at ring (place_before n (up p t))) (point_at ring (up p t)) v)
    (same_after ring p t h)

-- so what is known of it stays known, unless it is that the removed vertex blocks it
moved_true : (w : Twins) (s : ℤ) (ring : List Point) (p t : ℕ) (state : EarState) → Same ring p t
    → IsTrueOf w s ring (up p t) state → IsTrueOf w s (remove ring p) t (moved_state p state)
moved_true w s ring p t (Open from) h known = tt
moved_true w s ring p t NotConvex h known = ap (λ (a : ℤ). int_lt (pos 0) (s *ℤ a)) (side_same ring p t h) ∙ known
moved_true w s ring p t (Hindered k) h known =
    let still : EarState = Hindered (moved_place p k) in
    elim (cases_eq k p) [
      | inl e ↦ subst (IsTrueOf w s (remove ring p) t)
          (sym (cond-true {A = EarState} (k == p) (Open k) still (eq-eqb k p e))) tt
      | inr ne ↦
          let below : moved_place p k < length (remove ring p) =
          omega (arith, h.size, moved_below (length ring) p k h.there known.0 ne) in
          let held : hinders w s (remove ring p) t (moved_place p k) ≡ true =
          hinders_same w s ring p t (moved_place p k) h ∙ ap (hinders w s ring (up p t)) (up_moved p k ne)
          ∙ known.1 in
          subst (IsTrueOf w s (remove ring p) t)
          (sym (cond-false {A = EarState} (k == p) (Open k) still (ne_eqb k p ne))) (below, held)
    ]

-- ---- a corner is cut off
same_corner : (ring : List Point) (p t : ℕ) → p < length ring → 3 < length ring → t < length ring - 1
    → up p t ≢ place_before (length ring) p → up p t ≢ place_after (length ring) p → Same ring p t
same_corner ring p t l more b nb na =
    let n : ℕ = length ring in
    let size : length (remove ring p) ≡ n - 1 = omega (arith, length-remove ring p l) in
    record {
      there = l;
      size = size;
      earlier = ap (λ (m : ℕ). up p (place_before m t)) size ∙ up_before n p t l (omega arith) b na;
      later = ap (λ (m : ℕ). up p (place_after m t)) size ∙ up_after n p t l (omega arith) b nb;
    }

-- what is known of each after the corner at place p is cut off: nothing of its neighbours
abbrev pub after_cut : List EarState → ℕ → List EarState
after_cut states p = set (set (map (moved_state p) states) (place_before (length states) p) (Open 0))
    (place_after (length states) p) (Open 0)

length_after : (states : List EarState) (p : ℕ) → length (after_cut states p) ≡ length states
length_after states p =
    let first : List EarState = set (map (moved_state p) states) (place_before (length states) p) (Open 0) in
    omega (
      arith,
      length-set first (place_after (length states) p) (Open 0),
      length-set (map (moved_state p) states) (place_before (length states) p) (Open 0),
      length-map states (moved_state p),
    )

pub cut_true : (w : Twins) (s : ℤ) (ring : List Point) (states : List EarState) (p : ℕ) → p < length ring
    → 3 < length ring → AreTrue w s ring states → AreTrue w s (remove ring p) (remove (after_cut states p) p)
cut_true w s ring states p l more h = record {
  one_each = omega (arith, length-remove ring p l, length-remove after' p (omega (arith, whole)), whole);
  each = each;
}
  where
    n : ℕ
    n = length ring

    b : ℕ
    b = place_before (length states) p

    a : ℕ
    a = place_after (length states) p

    first : List EarState
    first = set (map (moved_state p) states) b (Open 0)

    after' : List EarState
    after' = after_cut states p

    whole : length after' ≡ length ring
    whole = omega (arith, length_after states p, h.one_each)

    there : (i : ℕ) → i < n → i < length states
    there i c = omega (arith, h.one_each)

    open_after : (i : ℕ) → i < n → i ≡ a → state_at after' i ≡ Open 0
    open_after i c e = ap (state_at after') e
        ∙ get_or-set_same first a (Open 0) (Open 0)
        (omega (
          arith,
          length-set (map (moved_state p) states) b (Open 0),
          length-map states (moved_state p),
          h.one_each,
          e,
        ))

    open_before : (i : ℕ) → i < n → i ≡ b → i ≢ a → state_at after' i ≡ Open 0
    open_before i c e ne =
        get_or-set_other first a i (Open 0) (Open 0) ne ∙ ap (state_at first) e
        ∙ get_or-set_same (map (moved_state p) states) b (Open 0) (Open 0)
        (omega (arith, length-map states (moved_state p), h.one_each, e))

    kept : (i : ℕ) → i < n → i ≢ b → i ≢ a → state_at after' i ≡ moved_state p (state_at states i)
    kept i c nb na =
        get_or-set_other first a i (Open 0) (Open 0) na
        ∙ get_or-set_other (map (moved_state p) states) b i (Open 0) (Open 0) nb
        ∙ get_or-map (moved_state p) states i (Open 0) (Open 0) (there i c)

    each : (t : ℕ) → t < length (remove ring p) → IsTrueOf w s (remove ring p) t (state_at (remove after' p) t)
    each t c =
        let size : length (remove ring p) ≡ n - 1 = omega (arith, length-remove ring p l) in
        let low : t < n - 1 = omega (arith, size) in
        let i : ℕ = up p t in
        let below : i < n = up_below n p t low in
        let found : state_at (remove after' p) t ≡ state_at after' i =
        read after' p t (Open 0) (omega (arith, whole)) in
        let is : (state : EarState) → state_at after' i ≡ state → IsTrueOf w s (remove ring p) t state
        → IsTrueOf w s (remove ring p) t (state_at (remove after' p) t) =
        λ state e k. subst (IsTrueOf w s (remove ring p) t) (sym (found ∙ e)) k in
        elim (cases_eq i a) [
          | inl e ↦ is (Open 0) (open_after i below e) tt
          | inr na ↦ elim (cases_eq i b) [
            | inl e ↦ is (Open 0) (open_before i below e na) tt
            | inr nb ↦
                let same : Same ring p t = same_corner ring p t l more low
                (λ e. nb (e ∙ ap (λ (m : ℕ). place_before m p) (sym h.one_each)))
                (λ e. na (e ∙ ap (λ (m : ℕ). place_after m p) (sym h.one_each))) in
                is (moved_state p (state_at states i)) (kept i below nb na)
                (moved_true w s ring p t (state_at states i) same (h.each i below))
          ]
        ]
