-- Whether triangles are closed, by numbers of edges and of reverses.
use Rattle.std.proofs.Common.{◌≡◌, ◌⊎◌, inl, inr, ℕ, ◌+◌, ◌*◌, ◌/◌, ◌%◌, ◌<◌, ◌≤◌, ◌==◌, ◌&&◌, Bool, true, false, cond, nat_lt, List, [], ◌∷◌, ◌++◌, length, take, get_or, refl, sym, ap, ap₂, ◌∙◌, arith, All}
use Rattle.std.specs.Prelude.{count_by}
use Rattle.std.specs.List.{flat_map, AllByRecursion}
use Rattle.std.proofs.lemmas.List.{take_more}
use Rattle.std.proofs.lemmas.List.Concat.{flat_map-append}
use Rattle.std.proofs.lemmas.List.Sums.{sum_by-cons, sum_by-append}
use Rattle.std.proofs.lemmas.Bool.{ne_eqb, cases_lt, lt-ltb}
use Rattle.fku_types.proofs.TruthLaws.{and_comm}
use Rattle.plane_geom.specs.Rings.{ring_edges, is_edge, IsClosed}
use Rattle.triangle_meshes.proofs.KnownEdges.{IsKnown, known_edges}
use Rattle.triangle_meshes.specs.Keys.{first_of_key, last_id, is_forth, is_back}

guarded : (b : Bool) (p : ℕ × ℕ → Bool) (es : List (ℕ × ℕ)) → count_by (λ e. b && p e) es ≡ cond b (count_by p es) 0
guarded true p es = refl
guarded false p [] = refl
guarded false p (e ∷ es) = sum_by-cons (λ (x : ℕ × ℕ). cond (false && p x) 1 0) e es
    ∙ ap (λ (m : ℕ). cond false 1 0 + m) (guarded false p es)

pub ways_from_closed : (ts : List (List ℕ)) → IsClosed ts → (k : ℕ)
    → count_by (is_forth k) (flat_map ring_edges ts) ≡ count_by (is_back k) (flat_map ring_edges ts)
ways_from_closed ts closed k =
    let es = flat_map ring_edges ts in
    let b = nat_lt (first_of_key k) (last_id k) in
    guarded b (is_edge (first_of_key k) (last_id k)) es
    ∙ ap (λ (m : ℕ). cond b m 0) (closed (first_of_key k) (last_id k))
    ∙ sym (guarded b (is_edge (last_id k) (first_of_key k)) es)

-- no edge goes to or from a vertex that does not exist
none_there : (u v : ℕ) (es : List (ℕ × ℕ)) → AllByRecursion (IsKnown 4294967296) es → 4294967296 ≤ v
    → (count_by (is_edge u v) es ≡ 0) × (count_by (is_edge v u) es ≡ 0)
none_there u v [] a l = (refl, refl)
none_there u v (e ∷ es) a l =
    let rest = none_there u v es a.1 l in
    let to : (e.1 == v) ≡ false = ne_eqb e.1 v (λ q. absurd (omega (arith, q, a.0.1))) in
    let from : (e.0 == v) ≡ false = ne_eqb e.0 v (λ q. absurd (omega (arith, q, a.0.0))) in (
      sum_by-cons (λ (x : ℕ × ℕ). cond (is_edge u v x) 1 0) e es
          ∙ ap₂ (λ (b : Bool) (m : ℕ). cond b 1 0 + m)
          (and_comm (e.0 == u) (e.1 == v) ∙ ap (λ (b : Bool). b && (e.0 == u)) to) rest.0,
      sum_by-cons (λ (x : ℕ × ℕ). cond (is_edge v u x) 1 0) e es
          ∙ ap₂ (λ (b : Bool) (m : ℕ). cond b 1 0 + m) (ap (λ (b : Bool). b && (e.1 == u)) from) rest.1,
    )

-- the counts of an edge to a greater id and of its reverse
rising : (es : List (ℕ × ℕ)) → AllByRecursion (IsKnown 4294967296) es
    → ((k : ℕ) → count_by (is_forth k) es ≡ count_by (is_back k) es) → (u v : ℕ) → u < v
    → count_by (is_edge u v) es ≡ count_by (is_edge v u) es
rising es known h u v l = by_size (cases_lt v 4294967296)
  where
    by_size : (v < 4294967296) ⊎ (4294967296 ≤ v) → count_by (is_edge u v) es ≡ count_by (is_edge v u) es
    by_size (inl m) =
        let k : ℕ = 4294967296 * u + v in
        let p : k / 4294967296 ≡ u = omega arith in
        let q : k % 4294967296 ≡ v = omega arith in
        let t : nat_lt u v ≡ true = lt-ltb u v l in
        ap (λ (b : Bool). cond b (count_by (is_edge u v) es) 0) (sym t) ∙ sym (guarded (nat_lt u v) (is_edge u v) es)
        ∙ ap₂ (λ (x y : ℕ). count_by (λ e. nat_lt x y && is_edge x y e) es) (sym p) (sym q)
        ∙ h k
        ∙ ap₂ (λ (x y : ℕ). count_by (λ e. nat_lt x y && is_edge y x e) es) p q
        ∙ guarded (nat_lt u v) (is_edge v u) es ∙ ap (λ (b : Bool). cond b (count_by (is_edge v u) es) 0) t
    by_size (inr m) = (let n = none_there u v es known m in n.0 ∙ sym n.1)

pub closed_from_ways : (ts : List (List ℕ)) → All (All (λ id. id < 4294967296)) ts
    → ((k : ℕ) → count_by (is_forth k) (flat_map ring_edges ts) ≡ count_by (is_back k) (flat_map ring_edges ts))
    → IsClosed ts
closed_from_ways ts a h u v = by_order (cases_lt u v) (cases_lt v u)
  where
    es : List (ℕ × ℕ)
    es = flat_map ring_edges ts

    known : AllByRecursion (IsKnown 4294967296) (flat_map ring_edges ts)
    known = known_edges 4294967296 ts a

    by_order : (u < v) ⊎ (v ≤ u) → (v < u) ⊎ (u ≤ v) → count_by (is_edge u v) es ≡ count_by (is_edge v u) es
    by_order (inl l) m = rising es known h u v l
    by_order (inr l) (inl m) = sym (rising es known h v u m)
    by_order (inr l) (inr m) = (let e : u ≡ v = omega arith in ap₂ (λ (x y : ℕ). count_by (is_edge x y) es) e (sym e))

-- one more triangle
ways_more : (p : ℕ × ℕ → Bool) (ts : List (List ℕ)) (i a b c : ℕ) → i < length ts → a ∷ b ∷ c ∷ [] ≡ get_or ts i []
    →
    count_by p (flat_map ring_edges (take (i + 1) ts)) ≡ count_by p (flat_map ring_edges (take i ts))
    + cond (p (a, b)) 1 0 + cond (p (b, c)) 1 0 + cond (p (c, a)) 1 0
ways_more p ts i a b c l e =
    ap (λ (xs : List (List ℕ)). count_by p (flat_map ring_edges xs))
    (take_more ts i [] l ∙ ap (λ (t : List ℕ). take i ts ++ t ∷ []) (sym e))
    ∙ ap (count_by p) (flat_map-append ring_edges (take i ts) ((a ∷ b ∷ c ∷ []) ∷ []))
    ∙ sum_by-append (λ x. cond (p x) 1 0) (flat_map ring_edges (take i ts)) ((a, b) ∷ (b, c) ∷ (c, a) ∷ [])
    ∙ regroup (count_by p (flat_map ring_edges (take i ts))) (cond (p (a, b)) 1 0) (cond (p (b, c)) 1 0)
    (cond (p (c, a)) 1 0)
  where
    regroup : (n x y z : ℕ) → n + (0 + x + y + z) ≡ n + x + y + z
    regroup n x y z = omega arith

pub ways_step : (p : ℕ × ℕ → Bool) (ts : List (List ℕ)) (i a b c n m x y z : ℕ) → i < length ts
    → a ∷ b ∷ c ∷ [] ≡ get_or ts i [] → m ≡ n + count_by p (flat_map ring_edges (take i ts))
    → x ≡ m + cond (p (a, b)) 1 0 → y ≡ x + cond (p (b, c)) 1 0 → z ≡ y + cond (p (c, a)) 1 0
    → z ≡ n + count_by p (flat_map ring_edges (take (i + 1) ts))
ways_step p ts i a b c n m x y z l e before ab bc ca = omega (arith, ways_more p ts i a b c l e)
