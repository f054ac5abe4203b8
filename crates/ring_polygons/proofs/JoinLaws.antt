-- The edges of joined rings.
use Rattle.std.proofs.Common.{◌≡◌, ℕ, ◌+◌, ◌<◌, List, [], ◌∷◌, ◌++◌, take, drop, length, get_or, sym, ap, ◌∙◌, arith, append_assoc}
use Rattle.std.proofs.lemmas.List.{take_more, drop_more, take-append-drop}
use Rattle.ring_polygons.specs.Composites.{join}
use Rattle.plane_geom.proofs.Sums.{path_sum, ring_sum, path_split, ring_turned}

-- the joined ring has the edges of both rings, and the bridge once in each direction
joined : {X : Type 0} (f : X → X → ℕ) (front : List X) (j : X) (bs cs : List X) (w : X) (ds : List X)
    → ring_sum f (front ++ j ∷ w ∷ (ds ++ (cs ++ w ∷ j ∷ bs))) ≡ ring_sum f (front ++ j ∷ bs)
    + ring_sum f (cs ++ w ∷ ds) + f j w + f w j
joined {X = X} f front j bs cs w ds =
    let rest : List X = w ∷ (ds ++ (cs ++ w ∷ j ∷ bs)) in
    let one = ring_turned f front j rest in
    let two = ring_turned f front j bs in
    let three = ring_turned f cs w ds in
    let e : (w ∷ (ds ++ (cs ++ w ∷ j ∷ bs))) ++ (front ++ j ∷ []) ≡ (w ∷ (ds ++ cs))
    ++ (w ∷ j ∷ (bs ++ (front ++ j ∷ []))) = ap (λ (l : List X). w ∷ l) (simp append_assoc) in
    let s = path_split f (w ∷ (ds ++ cs)) w (j ∷ (bs ++ (front ++ j ∷ []))) in
    let k : w ∷ (ds ++ (cs ++ w ∷ [])) ≡ (w ∷ (ds ++ cs)) ++ w ∷ [] =
    ap (λ (l : List X). w ∷ l) (sym (append_assoc ds cs (w ∷ []))) in
    let k' = ap (path_sum f) k in
    let e' = ap (λ (l : List X). path_sum f (j ∷ l)) e in
    omega (arith, one, two, three, s, k', e')

pub join_sum : {X : Type 0} (f : X → X → ℕ) (ring other : List X) (p v : ℕ) (d : X) → p < length ring → v < length other
    → ring_sum f (join ring other p v) ≡ ring_sum f ring + ring_sum f other + f (get_or ring p d) (get_or other v d)
    + f (get_or other v d) (get_or ring p d)
join_sum {X = X} f ring other p v d lp lv =
    let j : X = get_or ring p d in
    let w : X = get_or other v d in
    let front : List X = take p ring in
    let bs : List X = drop (p + 1) ring in
    let cs : List X = take v other in
    let ds : List X = drop (v + 1) other in
    let tr : take (p + 1) ring ≡ front ++ j ∷ [] = take_more ring p d lp in
    let dr : drop p ring ≡ j ∷ bs = drop_more ring p d lp in
    let to : take (v + 1) other ≡ cs ++ w ∷ [] = take_more other v d lv in
    let dt : drop v other ≡ w ∷ ds = drop_more other v d lv in
    let whole : front ++ j ∷ bs ≡ ring = ap (λ (l : List X). front ++ l) (sym dr) ∙ take-append-drop p ring in
    let other_whole : cs ++ w ∷ ds ≡ other = ap (λ (l : List X). cs ++ l) (sym dt) ∙ take-append-drop v other in
    let e : join ring other p v ≡ front ++ j ∷ w ∷ (ds ++ (cs ++ w ∷ j ∷ bs)) =
    rw (tr, dr, to, dt) (simp append_assoc) in
    omega (arith, ap (ring_sum f) e, joined f front j bs cs w ds, ap (ring_sum f) whole, ap (ring_sum f) other_whole)
