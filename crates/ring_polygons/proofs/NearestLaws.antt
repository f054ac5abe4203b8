-- Least bridges to each ring: what they are after a ring is joined, and that the first of them is the least bridge.
use Rattle.std.proofs.Common.{◌≡◌, ℕ, ◌+◌, ◌-◌, ◌<◌, ◌≤◌, ◌⊎◌, inl, inr, List, ◌++◌, length, take, drop, remove, refl, sym, ap, ap₂, ◌∙◌, arith, subst}
use Rattle.std.proofs.lemmas.Bool.{cases_lt}
use Rattle.std.proofs.lemmas.List.{length-append, length-take-le, length-drop, get_or-take, get_or-drop, get_or_append_left, get_or-append_right, append_assoc}
use Rattle.std.proofs.lemmas.List.Edits.{length-remove, get_or-remove_below, get_or-remove_above}
use Rattle.fku_types.specs.declared.points.Point.{Point}
use Rattle.plane_geom.specs.Rings.{RingView, origin}
use Rattle.plane_geom.specs.Lengths.{distance_square}
use Rattle.ring_polygons.specs.declared.bridges.Near.{Near}
use Rattle.ring_polygons.specs.Composites.{Bridge, view_at, no_view, join}
use Rattle.ring_polygons.specs.Bridges.{IsLeastBridge, square_of}
use Rattle.ring_polygons.specs.Nearest.{place_of, IsNearest, near_at, AreNearest, IsFirstNearest, IsExtended}

-- ---- a ring that is extended

-- the place in the longer ring of a place of the shorter one
pub record IsMoved (place added i q : ℕ) : Type 0 where
  pub front : i ≤ place → q ≡ i
  pub back : place < i → q ≡ i + added

-- a place of the longer ring is a place of the shorter one or one that was added
record Old (before after : List Point) (place added q : ℕ) : Type 0 where
  i : ℕ
  there : i < length before
  moved : IsMoved place added i q
  same : place_of after q ≡ place_of before i

record New (after : List Point) (place added q : ℕ) : Type 0 where
  j : ℕ
  there : j < length (take added (drop (place + 1) after))
  at : q ≡ place + 1 + j
  same : place_of after q ≡ place_of (take added (drop (place + 1) after)) j

added_length : (before after : List Point) (place added : ℕ) → IsExtended before after place added
    → length (take added (drop (place + 1) after)) ≡ added
added_length before after place added h =
    length-take-le added (drop (place + 1) after) (omega (arith, h.there, h.size, length-drop (place + 1) after))

added_read : (before after : List Point) (place added j : ℕ) → IsExtended before after place added → j < added
    → place_of (take added (drop (place + 1) after)) j ≡ place_of after (place + 1 + j)
added_read before after place added j h l = get_or-take added (drop (place + 1) after) j origin l
    ∙ get_or-drop (place + 1) after j origin

moved_same : (before after : List Point) (place added i q : ℕ) → IsExtended before after place added → i < length before
    → IsMoved place added i q → place_of after q ≡ place_of before i
moved_same before after place added i q h l m =
    elim (cases_lt place i) [
      | inl far ↦ ap (place_of after) (m.back far) ∙ h.back i far l
      | inr near ↦ ap (place_of after) (m.front near) ∙ h.front i near
    ]

old : (before after : List Point) (place added i q : ℕ) → IsExtended before after place added → i < length before
    → IsMoved place added i q → Old before after place added q
old before after place added i q h l m =
    record { i = i; there = l; moved = m; same = moved_same before after place added i q h l m }

split : (before after : List Point) (place added q : ℕ) → IsExtended before after place added → q < length after
    → Old before after place added q ⊎ New after place added q
split before after place added q h l =
    elim (cases_lt place q) [
      | inr front ↦ inl (old before after place added q q h (omega (arith, h.there))
          (record { front = λ k. refl; back = λ k. absurd (omega arith) }))
      | inl behind ↦ elim (cases_lt (place + added) q) [
        | inl far ↦ inl (old before after place added (q - added) q h (omega (arith, h.size))
            (record { front = λ k. absurd (omega arith); back = λ k. omega arith }))
        | inr among ↦ (let j : ℕ = q - (place + 1) in
            let at : q ≡ place + 1 + j = omega arith in
            let low : j < added = omega arith in
            inr (record {
              j = j;
              there = omega (arith, added_length before after place added h);
              at = at;
              same = ap (place_of after) at ∙ sym (added_read before after place added j h low);
            }))
      ]
    ]

-- the least bridge is the one that was least, at its place in the longer ring
pub kept : (before after other : List Point) (near fresh : Near) (place added q : ℕ) → IsNearest before other near
    → IsExtended before after place added → IsNearest (take added (drop (place + 1) after)) other fresh →
    IsMoved place added near.place q → near.square ≤ fresh.square
    → (fresh.square ≡ near.square → q ≤ place + 1 + fresh.place)
    → IsNearest after other (record { square = near.square; place = q; vertex = near.vertex })
kept before after other near fresh place added q n h f m le tie =
    let here : place_of after q ≡ place_of before near.place =
    moved_same before after place added near.place q h n.place m in
    let d : Point → ℕ → ℕ = λ p v. distance_square p (place_of other v) in
    record {
      place = elim (cases_lt place near.place) [
        | inl far ↦ omega (arith, m.back far, n.place, h.size)
        | inr close ↦ omega (arith, m.front close, n.place, h.size)
      ];
      vertex = n.vertex;
      square = n.square ∙ sym (ap (λ (p : Point). d p near.vertex) here);
      least = λ p v lp lv. elim (split before after place added p h lp) [
        | inl o ↦ omega (arith, ap (λ (x : Point). d x v) o.same, n.least o.i v o.there lv)
        | inr o ↦ omega (arith, ap (λ (x : Point). d x v) o.same, f.least o.j v o.there lv)
      ];
      first_place = λ p v lp lv e. elim (split before after place added p h lp) [
        | inl o ↦ (let low : near.place ≤ o.i =
            n.first_place o.i v o.there lv (sym (ap (λ (x : Point). d x v) o.same) ∙ e) in
            elim (cases_lt place o.i) [
              | inl far ↦ elim (cases_lt place near.place) [
                | inl far_too ↦ omega (arith, o.moved.back far, m.back far_too)
                | inr close ↦ omega (arith, o.moved.back far, m.front close)
              ]
              | inr close ↦ (let close_too : near.place ≤ place = omega arith in
                  omega (arith, o.moved.front close, m.front close_too))
            ])
        | inr o ↦ (let s : d (place_of (take added (drop (place + 1) after)) o.j) v ≡ near.square =
            sym (ap (λ (x : Point). d x v) o.same) ∙ e in
            let equal : fresh.square ≡ near.square = omega (arith, s, f.least o.j v o.there lv) in
            omega (arith, tie equal, o.at, f.first_place o.j v o.there lv (s ∙ sym equal)))
      ];
      first_vertex = λ v lv e. n.first_vertex v lv (sym (ap (λ (x : Point). d x v) here) ∙ e);
    }

-- the least bridge starts at one of the places that were added
pub taken : (before after other : List Point) (near fresh : Near) (place added q : ℕ) → IsNearest before other near
    → IsExtended before after place added → IsNearest (take added (drop (place + 1) after)) other fresh →
    IsMoved place added near.place q → fresh.square ≤ near.square
    → (fresh.square ≡ near.square → place + 1 + fresh.place < q)
    → IsNearest after other (record {
      square = fresh.square;
      place = place + 1 + fresh.place;
      vertex =
          fresh.vertex;
    })
taken before after other near fresh place added q n h f m le tie =
    let d : Point → ℕ → ℕ = λ p v. distance_square p (place_of other v) in
    let low : fresh.place < added = omega (arith, f.place, added_length before after place added h) in
    let same : place_of (take added (drop (place + 1) after)) fresh.place ≡ place_of after (place + 1 + fresh.place) =
    added_read before after place added fresh.place h low in
    record {
      place = omega (arith, low, h.size, h.there);
      vertex = f.vertex;
      square = f.square ∙ ap (λ (p : Point). d p fresh.vertex) same;
      least = λ p v lp lv. elim (split before after place added p h lp) [
        | inl o ↦ omega (arith, ap (λ (x : Point). d x v) o.same, n.least o.i v o.there lv)
        | inr o ↦ omega (arith, ap (λ (x : Point). d x v) o.same, f.least o.j v o.there lv)
      ];
      first_place = λ p v lp lv e. elim (split before after place added p h lp) [
        | inl o ↦ (let s : d (place_of before o.i) v ≡ fresh.square = sym (ap (λ (x : Point). d x v) o.same) ∙ e in
            let equal : fresh.square ≡ near.square = omega (arith, s, n.least o.i v o.there lv) in
            let least_place : near.place ≤ o.i = n.first_place o.i v o.there lv (s ∙ equal) in
            elim (cases_lt place o.i) [
              | inl far ↦ elim (cases_lt place near.place) [
                | inl far_too ↦ omega (arith, tie equal, o.moved.back far, m.back far_too)
                | inr close ↦ omega (arith, tie equal, o.moved.back far, m.front close)
              ]
              | inr close ↦ (let close_too : near.place ≤ place = omega arith in
                  omega (arith, tie equal, o.moved.front close, m.front close_too))
            ])
        | inr o ↦ omega (arith, o.at, f.first_place o.j v o.there lv (sym (ap (λ (x : Point). d x v) o.same) ∙ e))
      ];
      first_vertex = λ v lv e. f.first_vertex v lv (ap (λ (x : Point). d x v) same ∙ e);
    }

-- a joined ring is extended by the other ring and two more
pub join_extends : (xs ys : List Point) (p v : ℕ) → p < length xs → v < length ys
    → IsExtended xs (join xs ys p v) p (length ys + 2)
join_extends xs ys p v lp lv =
    let front : List Point = take (p + 1) xs in
    let rest : List Point = take (v + 1) ys ++ drop p xs in
    let head : List Point = front ++ (drop v ys ++ take (v + 1) ys) in
    let nf : length front ≡ p + 1 = length-take-le (p + 1) xs (omega arith) in
    let nt : length (take (v + 1) ys) ≡ v + 1 = length-take-le (v + 1) ys (omega arith) in
    let nh : length head ≡ p + (length ys + 2) =
    omega (
      arith,
      length-append front (drop v ys ++ take (v + 1) ys),
      length-append (drop v ys) (take (v + 1) ys),
      length-drop v ys,
    ) in
    let whole : join xs ys p v ≡ head ++ drop p xs =
    sym (append_assoc front (drop v ys ++ take (v + 1) ys) (drop p xs)
    ∙ ap (λ (l : List Point). front ++ l) (append_assoc (drop v ys) (take (v + 1) ys) (drop p xs))) in
    record {
      there = lp;
      size = omega (arith, ap length whole, length-append head (drop p xs), length-drop p xs);
      front = λ k l. get_or_append_left front (drop v ys ++ rest) origin k (omega arith)
          ∙ get_or-take (p + 1) xs k origin (omega arith);
      back = λ k l m.
          let far : p + (length ys + 2) ≤ k + (length ys + 2) = omega arith in
          ap (λ (l : List Point). place_of l (k + (length ys + 2))) whole
          ∙ get_or-append_right head (drop p xs) (p + (length ys + 2)) (k + (length ys + 2)) origin nh far
          ∙ get_or-drop p xs (k + (length ys + 2) - (p + (length ys + 2))) origin
          ∙ ap (place_of xs) (omega arith);
    }

-- ---- the least of the bridges to each ring

pub first_is_least : (ring : RingView) (others : List RingView) (nears : List Near) (c : ℕ)
    → AreNearest ring.points others nears → IsFirstNearest nears c →
    IsLeastBridge ring others (record { place = (near_at nears c).place; other = c; vertex = (near_at nears c).vertex })
first_is_least ring others nears c h f =
    let here : c < length others = omega (arith, f.there, h.same) in
    let n : IsNearest ring.points (view_at others c).points (near_at nears c) = h.each c here in
    record {
      place = n.place;
      other = here;
      vertex = n.vertex;
      least = λ p k v lp lk lv. omega (
        arith,
        n.square,
        f.least k (omega (arith, h.same)),
        (h.each k lk).least p v lp lv,
      );
      first_place = λ p k v lp lk lv e.
          let m = h.each k lk in
          let equal : (near_at nears k).square ≡ (near_at nears c).square =
          omega (arith, e, n.square, f.least k (omega (arith, h.same)), m.least p v lp lv) in
          omega (
            arith,
            f.place k (omega (arith, h.same)) equal,
            m.first_place p v lp lv (e ∙ sym n.square ∙ sym equal),
          );
      first_ring = λ k v lk lv e.
          let m = h.each k lk in
          let there : k < length nears = omega (arith, h.same) in
          let equal : (near_at nears k).square ≡ (near_at nears c).square =
          omega (arith, e, n.square, f.least k there, m.least (near_at nears c).place v n.place lv) in
          let low : (near_at nears k).place ≤ (near_at nears c).place =
          m.first_place (near_at nears c).place v n.place lv (e ∙ sym n.square ∙ sym equal) in
          let places : (near_at nears k).place ≡ (near_at nears c).place = omega (arith, f.place k there equal) in
          f.first k there equal places;
      first_vertex = λ v lv e. n.first_vertex v lv (e ∙ sym n.square);
    }

abbrev bridge : ℕ → ℕ → ℕ → Bridge
bridge p c v = record { place = p; other = c; vertex = v }

bridge_same : (p p' c c' v v' : ℕ) → p ≡ p' → c ≡ c' → v ≡ v' → bridge p c v ≡ bridge p' c' v'
bridge_same p p' c c' v v' e f g = ap (λ (x : ℕ). bridge x c v) e ∙ ap (λ (x : ℕ). bridge p' x v) f
    ∙ ap (bridge p' c') g

-- the least bridge is unique
pub one_least : (ring : RingView) (others : List RingView) (a b : Bridge) → IsLeastBridge ring others a
    → IsLeastBridge ring others b → a ≡ b
one_least ring others a b h k =
    let sq : Bridge → ℕ = λ x. square_of ring others x.place x.other x.vertex in
    let equal : sq a ≡ sq b = omega (
      arith,
      h.least b.place b.other b.vertex k.place k.other k.vertex,
      k.least a.place a.other a.vertex h.place h.other h.vertex,
    ) in
    let e : a.place ≡ b.place = omega (
      arith,
      h.first_place b.place b.other b.vertex k.place k.other k.vertex (sym equal),
      k.first_place a.place a.other a.vertex h.place h.other h.vertex equal,
    ) in
    let low : a.other ≤ b.other = h.first_ring b.other b.vertex k.other k.vertex
    (ap (λ (p : ℕ). square_of ring others p b.other b.vertex) e ∙ sym equal) in
    let high : b.other ≤ a.other = k.first_ring a.other a.vertex h.other h.vertex
    (ap (λ (p : ℕ). square_of ring others p a.other a.vertex) (sym e) ∙ equal) in
    let f : a.other ≡ b.other = omega arith in
    let in_a : b.vertex < length (view_at others a.other).points =
    subst (λ (c : ℕ). b.vertex < length (view_at others c).points) (sym f) k.vertex in
    let in_b : a.vertex < length (view_at others b.other).points =
    subst (λ (c : ℕ). a.vertex < length (view_at others c).points) f h.vertex in
    let first : a.vertex ≤ b.vertex = h.first_vertex b.vertex in_a
    (ap₂ (λ (p c : ℕ). square_of ring others p c b.vertex) e f ∙ sym equal) in
    let second : b.vertex ≤ a.vertex =
    k.first_vertex a.vertex in_b (ap₂ (λ (p c : ℕ). square_of ring others p c a.vertex) (sym e) (sym f) ∙ equal) in
    let g : a.vertex ≡ b.vertex = omega arith in
    bridge_same a.place b.place a.other b.other a.vertex b.vertex e f g

-- without one ring
pub nearest_remove : (ring : List Point) (others : List RingView) (nears : List Near) (c : ℕ) → c < length others
    → AreNearest ring others nears → AreNearest ring (remove others c) (remove nears c)
nearest_remove ring others nears c l h =
    let no : length (remove others c) + 1 ≡ length others = length-remove others c l in
    let nn : length (remove nears c) + 1 ≡ length nears = length-remove nears c (omega (arith, h.same)) in
    record {
      same = omega (arith, no, nn, h.same);
      each = λ k b. elim (cases_lt k c) [
        | inl low ↦ (let e : view_at (remove others c) k ≡ view_at others k =
            get_or-remove_below others c no_view k low l in
            let f : near_at (remove nears c) k ≡ near_at nears k =
            get_or-remove_below nears c (record { square = 0; place = 0; vertex = 0 }) k low (omega (arith, h.same))
            in
            subst (λ (n : Near). IsNearest ring (view_at (remove others c) k).points n) (sym f)
            (subst (λ (o : RingView). IsNearest ring o.points (near_at nears k)) (sym e)
            (h.each k (omega (arith, no)))))
        | inr high ↦ (let e : view_at (remove others c) k ≡ view_at others (k + 1) =
            get_or-remove_above others c no_view k high l in
            let f : near_at (remove nears c) k ≡ near_at nears (k + 1) =
            get_or-remove_above nears c (record { square = 0; place = 0; vertex = 0 }) k high
            (omega (arith, h.same)) in
            subst (λ (n : Near). IsNearest ring (view_at (remove others c) k).points n) (sym f)
            (subst (λ (o : RingView). IsNearest ring o.points (near_at nears (k + 1))) (sym e)
            (h.each (k + 1) (omega (arith, no)))))
      ];
    }
