-- Strips of a gap, pair by pair.
use Rattle.std.proofs.Common.{◌≡◌, ℕ, ◌+◌, ◌<◌, ◌≤◌, ◌==◌, if◌then◌else◌, List, [], ◌∷◌, ◌++◌, length, get_or, map, drop, sym, ap, ap₂, ◌∙◌, arith, subst, append_assoc, ℤ, ◌+ℤ◌, take}
use Rattle.std.proofs.lemmas.List.{append-nil, drop_more, drop_all, take_more, get_or-map, length-map}
use Rattle.strip_graph.specs.Strips.{Strip}
use Rattle.row_paths.specs.Solutions.{Solution, Solves}
use Rattle.pair_pool.specs.Solvers.{SolvesEach}
use Rattle.triangle_meshes.specs.Tiles.{tiles}
use Rattle.plane_geom.specs.Planes.{signed_sum}
use Rattle.plane_geom.proofs.RingReads.{signed_sum_push}
use Rattle.section_pairs.specs.declared.gap_pairs.GapPair.{GapPair}
use Rattle.section_pairs.specs.Pairs.{PairParts, pair_parts}
use Rattle.row_paths.proofs.SolutionLaws.{solves_least}
use Rattle.surface_core.specs.Surfaces.{strip_triangles, strips_in, AreLeast}

-- the tiles of a pair, if it belongs to a gap
abbrev pub tiles_in : ℕ → PairParts → Solution → List (List ℕ)
tiles_in s p x = if p.gap == s then tiles p.strip.low_ids p.strip.high_ids x.row 0 x.word else []

-- the strips of the pairs from a place on
pub strips_drop : (s : ℕ) (ps : List GapPair) (xs : List Solution) (i : ℕ) (p : GapPair) (x : Solution) → i < length ps
    → i < length xs → p ≡ get_or ps i p → x ≡ get_or xs i x
    → strip_triangles s (map pair_parts (drop i ps)) (drop i xs) ≡ tiles_in s (pair_parts p) x
    ++ strip_triangles s (map pair_parts (drop (i + 1) ps)) (drop (i + 1) xs)
strips_drop s ps xs i p x l m ep ex =
    let dp : drop i ps ≡ p ∷ drop (i + 1) ps = drop_more ps i p l
    ∙ ap (λ (q : GapPair). q ∷ drop (i + 1) ps) (sym ep) in
    let dx : drop i xs ≡ x ∷ drop (i + 1) xs = drop_more xs i x m
    ∙ ap (λ (q : Solution). q ∷ drop (i + 1) xs) (sym ex) in
    ap₂ (λ (qs : List GapPair) (ys : List Solution). strip_triangles s (map pair_parts qs) ys) dp dx

pub strips_step : (s : ℕ) (ps : List GapPair) (xs : List Solution) (i : ℕ) (p : GapPair) (x : Solution)
    (so_far now whole : List (List ℕ)) → i < length ps → i < length xs → p ≡ get_or ps i p → x ≡ get_or xs i x
    → now ≡ so_far ++ tiles_in s (pair_parts p) x
    → so_far ++ strip_triangles s (map pair_parts (drop i ps)) (drop i xs) ≡ whole
    → now ++ strip_triangles s (map pair_parts (drop (i + 1) ps)) (drop (i + 1) xs) ≡ whole
strips_step s ps xs i p x so_far now whole l m ep ex n w =
    let rest : List (List ℕ) = strip_triangles s (map pair_parts (drop (i + 1) ps)) (drop (i + 1) xs) in
    ap (λ (ts : List (List ℕ)). ts ++ rest) n ∙ append_assoc so_far (tiles_in s (pair_parts p) x) rest
    ∙ ap (λ (ts : List (List ℕ)). so_far ++ ts) (sym (strips_drop s ps xs i p x l m ep ex)) ∙ w

pub strips_end : (s : ℕ) (ps : List GapPair) (xs : List Solution) (i : ℕ) (made whole : List (List ℕ)) → length ps ≤ i
    → made ++ strip_triangles s (map pair_parts (drop i ps)) (drop i xs) ≡ whole → made ≡ whole
strips_end s ps xs i made whole l w =
    sym (append-nil made) ∙ ap (λ (qs : List GapPair). made ++ strip_triangles s (map pair_parts qs) (drop i xs))
    (sym (drop_all i ps l)) ∙ w

pub same_count : (ps : List GapPair) (xs : List Solution) → SolvesEach (strips_in (map pair_parts ps)) xs
    → length xs ≡ length ps
same_count ps xs h = h.count ∙ length-map (map pair_parts ps) _ ∙ length-map ps pair_parts

-- the solution at a pair's index solves it
pub solves_at : (ps : List GapPair) (xs : List Solution) → SolvesEach (strips_in (map pair_parts ps)) xs
    → (i : ℕ) (p : GapPair) (x : Solution) → i < length ps → p ≡ get_or ps i p → x ≡ get_or xs i x → Solves p.pair x
solves_at ps xs h i p x l ep ex =
    let n : i < length (map pair_parts ps) = omega (arith, length-map ps pair_parts) in
    let m : i < length (strips_in (map pair_parts ps)) =
    omega (arith, n, length-map (map pair_parts ps) (λ (q : PairParts). q.strip)) in
    let e : get_or (strips_in (map pair_parts ps)) i p.pair ≡ p.pair =
    get_or-map (λ (q : PairParts). q.strip) (map pair_parts ps) i (pair_parts p) p.pair n
    ∙ ap (λ (q : PairParts). q.strip) (get_or-map pair_parts ps i p (pair_parts p) l)
    ∙ ap (λ (q : GapPair). q.pair) (sym ep) in
    let s : Solves (get_or (strips_in (map pair_parts ps)) i p.pair) (get_or xs i x) = h.each i p.pair x m in
    let t : Solves p.pair (get_or xs i x) = subst (λ (q : Strip). Solves q (get_or xs i x)) e s in
    subst (Solves p.pair) (sym ex) t

-- costs in order
pub cost_step : (xs : List Solution) (i : ℕ) (x : Solution) (so_far now : ℤ) → i < length xs → x ≡ get_or xs i x
    → so_far ≡ signed_sum (λ y. y.cost) (take i xs) → now ≡ so_far +ℤ x.cost
    → now ≡ signed_sum (λ y. y.cost) (take (i + 1) xs)
cost_step xs i x so_far now l e s n =
    n ∙ ap (λ (k : ℤ). k +ℤ x.cost) s ∙ sym (signed_sum_push (λ (y : Solution). y.cost) (take i xs) x)
    ∙ ap (signed_sum (λ (y : Solution). y.cost))
    (ap (λ (y : Solution). take i xs ++ y ∷ []) e ∙ sym (take_more xs i x l))

-- the solutions of strips are least
pub are_least : (strips : List Strip) (xs : List Solution) → SolvesEach strips xs → AreLeast strips xs
are_least strips xs h k p x i j w l t = solves_least (get_or strips k p) (get_or xs k x) (h.each k p x l) i j w t
