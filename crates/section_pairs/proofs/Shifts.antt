-- Rings and composites whose vertices begin with another number.
use Rattle.std.proofs.Common.{◌≡◌, ℕ, zero, suc, ◌+◌, List, [], ◌∷◌, ◌++◌, length, map, take, drop, remove, reverse, refl, sym, ap, ap₂, ◌∙◌, arith, true, false, if◌then◌else◌}
use Rattle.std.specs.Prelude.{nat_lt}
use Rattle.std.specs.List.{range_with_len}
use Rattle.std.proofs.lemmas.List.{length-map, map-append, take-map, drop-map, reverse-append}
use Rattle.fku_types.specs.declared.points.Point.{Point}
use Rattle.plane_geom.specs.Rings.{RingView}
use Rattle.correspondence.specs.Contours.{contour_at}
use Rattle.correspondence.specs.Nesting.{depth, first_id, is_turned, turned, ring_from, ring_at, oriented}
use Rattle.ring_polygons.specs.Composites.{view_at, first_least, nearest_vertex, ring_square, nearest_ring, bridge_square, bridge_place, Bridge, least_bridge, join, bridged, join_others, composite, ring_point_at}
use Rattle.section_pairs.specs.Rings.{pick, composite_at}

-- a ring with larger ids
abbrev pub raised : ℕ → RingView → RingView
raised n r = record { points = r.points; ids = map (λ i. n + i) r.ids }

-- ---- rings
range_raised : (n a m : ℕ) → range_with_len (n + a) m ≡ map (λ i. n + i) (range_with_len a m)
range_raised n a zero = refl
range_raised n a (suc m) =
    let e : (n + a) + 1 ≡ n + (a + 1) = omega arith in
    ap (λ (xs : List ℕ). (n + a) ∷ xs) (ap (λ (k : ℕ). range_with_len k m) e ∙ range_raised n (a + 1) m)

reverse-map : {X Y : Type 0} (f : X → Y) (xs : List X) → reverse (map f xs) ≡ map f (reverse xs)
reverse-map f [] = refl
reverse-map {Y = Y} f (x ∷ xs) =
    reverse-append (f x ∷ []) (map f xs) ∙ ap (λ (ys : List Y). ys ++ f x ∷ []) (reverse-map f xs)
    ∙ sym (ap (map f) (reverse-append (x ∷ []) xs) ∙ map-append f (reverse xs) (x ∷ []))

turned-map : {X Y : Type 0} (f : X → Y) (xs : List X) → turned (map f xs) ≡ map f (turned xs)
turned-map f [] = refl
turned-map {Y = Y} f (x ∷ xs) = ap (λ (ys : List Y). f x ∷ ys) (reverse-map f xs)

ring_raised : (n d first : ℕ) (points : List Point)
    → ring_from d (n + first) points ≡ raised n (ring_from d first points)
unfolding ring_from
ring_raised n d first points =
    let ids = range_raised n first (length points) in
    elim (is_turned d points) as (λ b.
    (if b then record { points = turned points; ids = turned (range_with_len (n + first) (length points)) } else
    record { points = points; ids = range_with_len (n + first) (length points) })
    ≡ raised n (if b then record { points = turned points; ids = turned (range_with_len first (length points)) } else
    record { points = points; ids = range_with_len first (length points) })) [
      | true ↦ ap (λ (xs : List ℕ). let r : RingView = record { points = turned points; ids = xs } in r)
          (ap turned ids ∙ turned-map (λ i. n + i) (range_with_len first (length points)))
      | false ↦ ap (λ (xs : List ℕ). let r : RingView = record { points = points; ids = xs } in r) ids
    ]

rings_raised : (n : ℕ) (contours : List (List Point)) (ks : List ℕ)
    → map (ring_at n contours) ks ≡ map (raised n) (map (ring_at 0 contours) ks)
rings_raised n contours [] = refl
rings_raised n contours (k ∷ ks) =
    let e : first_id n contours k ≡ n + first_id 0 contours k = omega arith in
    ap₂ (λ (r : RingView) (rs : List RingView). r ∷ rs)
    (ap (λ (first : ℕ). ring_from (depth contours k) first (contour_at contours k)) e
    ∙ ring_raised n (depth contours k) (first_id 0 contours k) (contour_at contours k))
    (rings_raised n contours ks)

oriented_raised : (n : ℕ) (contours : List (List Point)) → oriented n contours ≡ map (raised n) (oriented 0 contours)
unfolding oriented
oriented_raised n contours = rings_raised n contours (range_with_len 0 (length contours))

view_raised : (n : ℕ) (rings : List RingView) (c : ℕ) → view_at (map (raised n) rings) c ≡ raised n (view_at rings c)
view_raised n [] c = refl
view_raised n (r ∷ rings) zero = refl
view_raised n (r ∷ rings) (suc c) = view_raised n rings c

pick_raised : (n : ℕ) (rings : List RingView) (places : List ℕ)
    → pick (map (raised n) rings) places ≡ map (raised n) (pick rings places)
pick_raised n rings [] = refl
pick_raised n rings (k ∷ ks) = ap₂ (λ (r : RingView) (rs : List RingView). r ∷ rs) (view_raised n rings k)
    (pick_raised n rings ks)

-- ---- bridges are chosen by points only
least_same : (f g : ℕ → ℕ) → ((k : ℕ) → f k ≡ g k) → (n : ℕ) → first_least f n ≡ first_least g n
least_same f g same zero = refl
least_same f g same (suc n) =
    let e = least_same f g same n in
    ap₂ (λ (a b : ℕ). if nat_lt a b then n else first_least f n) (same n) (ap f e ∙ same (first_least g n))
    ∙ ap (λ (m : ℕ). if nat_lt (g n) (g (first_least g n)) then n else m) e

nearest_raised : (n : ℕ) (p : Point) (rings : List RingView)
    → nearest_ring p (map (raised n) rings) ≡ nearest_ring p rings
nearest_raised n p rings =
    ap (first_least (λ c. ring_square p (view_at (map (raised n) rings) c))) (length-map rings (raised n))
    ∙ least_same (λ c. ring_square p (view_at (map (raised n) rings) c)) (λ c. ring_square p (view_at rings c))
    (λ c. ap (ring_square p) (view_raised n rings c)) (length rings)

square_raised : (n : ℕ) (ring : RingView) (others : List RingView) (p : ℕ)
    → bridge_square (raised n ring) (map (raised n) others) p ≡ bridge_square ring others p
square_raised n ring others p =
    let q = ring_point_at ring p in
    ap (λ (c : ℕ). ring_square q (view_at (map (raised n) others) c)) (nearest_raised n q others)
    ∙ ap (ring_square q) (view_raised n others (nearest_ring q others))

bridge_raised : (n : ℕ) (ring : RingView) (others : List RingView)
    → least_bridge (raised n ring) (map (raised n) others) ≡ least_bridge ring others
unfolding least_bridge
bridge_raised n ring others =
    let at : ℕ → List RingView → ℕ → Bridge =
    λ p rings c. record { place = p; other = c; vertex = nearest_vertex (ring_point_at ring p) (view_at rings c) }
    in
    let q = bridge_place ring others in
    let c = nearest_ring (ring_point_at ring q) others in
    ap (λ (p : ℕ). at p (map (raised n) others) (nearest_ring (ring_point_at ring p) (map (raised n) others)))
    (least_same (bridge_square (raised n ring) (map (raised n) others)) (bridge_square ring others)
    (square_raised n ring others) (length ring.points))
    ∙ ap (at q (map (raised n) others)) (nearest_raised n (ring_point_at ring q) others)
    ∙ ap (λ (r : RingView). let b : Bridge =
    record { place = q; other = c; vertex = nearest_vertex (ring_point_at ring q) r } in b) (view_raised n others c)

-- ---- composites
join-map : {X Y : Type 0} (f : X → Y) (xs ys : List X) (p v : ℕ)
    → join (map f xs) (map f ys) p v ≡ map f (join xs ys p v)
join-map {Y = Y} f xs ys p v =
    let a = take (p + 1) xs in
    let b = drop v ys in
    let c = take (v + 1) ys in
    let d = drop p xs in
    let plus : List Y → List Y → List Y = λ us vs. us ++ vs in
    ap₂ plus (take-map f (p + 1) xs) (ap₂ plus (drop-map f v ys) (ap₂ plus (take-map f (v + 1) ys) (drop-map f p xs)))
    ∙ sym (map-append f a (b ++ (c ++ d))
    ∙ ap (plus (map f a)) (map-append f b (c ++ d) ∙ ap (plus (map f b)) (map-append f c d)))

joined_raised : (n : ℕ) (ring other : RingView) (p v : ℕ)
    → bridged (raised n ring) (raised n other) p v ≡ raised n (bridged ring other p v)
joined_raised n ring other p v = ap
    (λ (ids : List ℕ). let r : RingView = record { points = join ring.points other.points p v; ids = ids } in r)
    (join-map (λ i. n + i) ring.ids other.ids p v)

remove_raised : (n : ℕ) (rings : List RingView) (c : ℕ)
    → remove (map (raised n) rings) c ≡ map (raised n) (remove rings c)
remove_raised n [] zero = refl
remove_raised n [] (suc c) = refl
remove_raised n (r ∷ rings) zero = refl
remove_raised n (r ∷ rings) (suc c) = ap (λ (rs : List RingView). raised n r ∷ rs) (remove_raised n rings c)

others_raised : (n m : ℕ) (ring : RingView) (others : List RingView)
    → join_others m (raised n ring) (map (raised n) others) ≡ raised n (join_others m ring others)
others_raised n zero ring others = refl
others_raised n (suc m) ring others =
    let b = least_bridge ring others in
    let all = map (raised n) others in
    let joins : Bridge → RingView = λ c.
    join_others m (bridged (raised n ring) (view_at all c.other) c.place c.vertex) (remove all c.other) in
    let next = bridged ring (view_at others b.other) b.place b.vertex in
    ap joins (bridge_raised n ring others)
    ∙ ap₂ (join_others m) (ap (λ (o : RingView). bridged (raised n ring) o b.place b.vertex)
    (view_raised n others b.other) ∙ joined_raised n ring (view_at others b.other) b.place b.vertex)
    (remove_raised n others b.other)
    ∙ others_raised n m next (remove others b.other)

composite_raised : (n : ℕ) (rings : List RingView) → composite (map (raised n) rings) ≡ raised n (composite rings)
composite_raised n [] = refl
composite_raised n (r ∷ rings) =
    ap (λ (m : ℕ). join_others m (raised n r) (map (raised n) rings)) (length-map rings (raised n))
    ∙ others_raised n (length rings) r rings

-- the composite of some rings of a section, from that of the section by itself
pub begun_at : (n : ℕ) (contours : List (List Point)) (places : List ℕ)
    → composite_at (oriented n contours) places ≡ raised n (composite_at (oriented 0 contours) places)
begun_at n contours places =
    ap (λ (rings : List RingView). composite (pick rings places)) (oriented_raised n contours)
    ∙ ap composite (pick_raised n (oriented 0 contours) places)
    ∙ composite_raised n (pick (oriented 0 contours) places)
