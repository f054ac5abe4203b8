-- A gap with the same contours has the same components, and the same pairs except for vertex numbers.
use Rattle.std.proofs.Common.{◌≡◌, ℕ, zero, suc, Bool, true, false, ◌++◌, ◌+◌, ◌-◌, ◌<◌, ◌≤◌, ℤ, List, [], ◌∷◌, length, map, flat_map, get_or, refl, sym, ap, ap₂, ◌∙◌, subst, arith, All, sum_by, pos}
use Rattle.std.proofs.lemmas.Bool.{false≢true}
use Rattle.std.proofs.lemmas.List.{length-map, get_or-map, get_or_default}
use Rattle.fku_types.specs.declared.limits.TheConstants.{MAX_VERTICES}
use Rattle.fku_types.specs.declared.points.Point.{Point}
use Rattle.fku_types.specs.declared.rules.CostRule.{CostRule}
use Rattle.fku_types.specs.declared.rules.PairRule.{PairRule}
use Rattle.plane_geom.specs.Rings.{RingView}
use Rattle.std.proofs.lemmas.Simd.{map-map}
use Rattle.section_core.specs.Costs.{cost_rule}
use Rattle.section_core.specs.Parts.{CostParts, ContourParts, Parts, SectionParts, LinkParts}
use Rattle.section_core.specs.Flat.{ContourData, SectionData, section_data}
use Rattle.section_core.specs.ValidSections.{section_of, contour_at_height}
use Rattle.section_core.specs.declared.parts.Section.{Section}
use Rattle.correspondence.specs.Nesting.{oriented}
use Rattle.correspondence.specs.Outlines.{Layer, layer, layer_at, spot_point, section_at}
use Rattle.correspondence.specs.Correspondences.{Agree, Correspond}
use Rattle.correspondence.specs.Components.{Members, AreComponents}
use Rattle.correspondence.specs.Gaps.{AreGapMembers}
use Rattle.correspondence.proofs.Transferred.{same_components}
use Rattle.section_pairs.specs.declared.moved_pairs.Shift.{Shift}
use Rattle.section_pairs.specs.Rings.{composite_at, rings_at, first_vertex, vertices_in}
use Rattle.section_pairs.specs.Pairs.{PairParts, pair_of, sides_of, IsShort}
use Rattle.section_pairs.specs.SectionFaults.{names_in, outlines_in}
use Rattle.section_pairs.specs.Unchanged.{IsSameAt, IsSameGap, HasSameSections, AreShifts, moved_pair, CanMovePair}
use Rattle.section_pairs.proofs.RingIds.{Known, rings_known, pick_each, composite_each}
use Rattle.section_pairs.proofs.Shifts.{raised, begun_at}

-- ---- gaps of equal sections
abbrev blank : SectionParts
blank = record { z = pos 0; contours = [] }

abbrev layer_of : SectionData → Layer
layer_of s = record { names = names_in s; outlines = outlines_in s }

layer_is : (s : SectionParts) → layer_of (section_of s) ≡ layer s
layer_is s = ap₂ (λ (names : List (List ℕ)) (outlines : List (List Point)). let l : Layer =
    record { names = names; outlines = outlines } in l)
    (map-map (λ (c : ContourData). c.0) (contour_at_height s.z) s.contours)
    (map-map (λ (c : ContourData). c.1) (contour_at_height s.z) s.contours)

layer_held : (S : Parts) (ss : List Section) (k : ℕ) → map section_data ss ≡ map section_of S.sections
    → k < length (map section_data ss) → layer_of (get_or (map section_data ss) k (section_of blank)) ≡ layer_at S k
layer_held S ss k e l =
    let there : k < length S.sections = omega (arith, l, ap length e, length-map S.sections section_of) in
    ap (λ (xs : List SectionData). layer_of (get_or xs k (section_of blank))) e
    ∙ ap layer_of (get_or-map section_of S.sections k blank (section_of blank) there)
    ∙ layer_is (get_or S.sections k blank)

layers_same : (S T : Parts) (ss ts : List Section) (k : ℕ) → map section_data ss ≡ map section_of S.sections
    → map section_data ts ≡ map section_of T.sections → IsSameAt (map section_data ss) (map section_data ts) k
    → layer_at S k ≡ layer_at T k
layers_same S T ss ts k e f h =
    sym (layer_held S ss k e h.there) ∙ ap layer_of (h.same (section_of blank)) ∙ layer_held T ts k f h.also_there

pub gap_same : (S T : Parts) (ss ts : List Section) (g : ℕ) → map section_data ss ≡ map section_of S.sections
    → map section_data ts ≡ map section_of T.sections → S.cost ≡ T.cost → S.rule ≡ T.rule → S.links ≡ T.links
    → IsSameAt (map section_data ss) (map section_data ts) g
    → IsSameAt (map section_data ss) (map section_data ts) (g + 1) → IsSameGap S T g
gap_same S T ss ts g e f cost rule links low high = record {
  cost = cost;
  rule = rule;
  links = links;
  there = omega (arith, high.there, ap length e, length-map S.sections section_of);
  low = layers_same S T ss ts g e f low;
  high = layers_same S T ss ts (g + 1) e f high;
}

-- sections with equal heights and contours are equal
same_contours : (z : ℤ) (cs ds : List ContourParts)
    → map (λ (c : ContourParts). c.name) cs ≡ map (λ (c : ContourParts). c.name) ds
    → map (λ (c : ContourParts). map (spot_point z) c.points) cs
    ≡ map (λ (c : ContourParts). map (spot_point z) c.points) ds
    → map (contour_at_height z) cs ≡ map (contour_at_height z) ds
same_contours z [] [] e f = refl
same_contours z [] (d ∷ ds) e f = absurd (cc)
same_contours z (c ∷ cs) [] e f = absurd (cc)
same_contours z (c ∷ cs) (d ∷ ds) e f =
    let name : c.name ≡ d.name = cc in
    let names : map (λ (c : ContourParts). c.name) cs ≡ map (λ (c : ContourParts). c.name) ds = cc in
    let points : map (spot_point z) c.points ≡ map (spot_point z) d.points = cc in
    let outlines : map (λ (c : ContourParts). map (spot_point z) c.points) cs
    ≡ map (λ (c : ContourParts). map (spot_point z) c.points) ds = cc in
    ap₂ (λ (k : ContourData) (ks : List ContourData). k ∷ ks)
    (ap₂ (λ (n : List ℕ) (ps : List Point). (n, ps)) name points) (same_contours z cs ds names outlines)

same_section : (s t : SectionParts) → s.z ≡ t.z → layer s ≡ layer t → section_of s ≡ section_of t
same_section s t e f =
    let at : ℤ → Type 0 = λ z. map (λ (c : ContourParts). map (spot_point s.z) c.points) s.contours
    ≡ map (λ (c : ContourParts). map (spot_point z) c.points) t.contours in
    let outlines = subst at (sym e) (ap (λ (l : Layer). l.outlines) f) in
    ap₂ (λ (z : ℤ) (ks : List ContourData). (z, ks)) e
    (same_contours s.z s.contours t.contours (ap (λ (l : Layer). l.names) f) outlines
    ∙ ap (λ (z : ℤ). map (contour_at_height z) t.contours) e)

pub data_same : (S T : Parts) (ss ts : List Section) (k : ℕ) → map section_data ss ≡ map section_of S.sections
    → map section_data ts ≡ map section_of T.sections → k < length S.sections → k < length T.sections
    → (section_at S k).z ≡ (section_at T k).z → layer_at S k ≡ layer_at T k
    → IsSameAt (map section_data ss) (map section_data ts) k
data_same S T ss ts k e f l m z h =
    let there : k < length (map section_data ss) = omega (arith, l, ap length e, length-map S.sections section_of) in
    let also : k < length (map section_data ts) = omega (arith, m, ap length f, length-map T.sections section_of) in
    let own : get_or (map section_data ss) k (section_of blank) ≡ get_or (map section_data ts) k (section_of blank) =
    ap (λ (xs : List SectionData). get_or xs k (section_of blank)) e
    ∙ get_or-map section_of S.sections k blank (section_of blank) l
    ∙ same_section (section_at S k) (section_at T k) z h
    ∙ sym (ap (λ (xs : List SectionData). get_or xs k (section_of blank)) f
    ∙ get_or-map section_of T.sections k blank (section_of blank) m) in
    record {
      there = there;
      also_there = also;
      same = λ d. sym (get_or_default (map section_data ss) k (section_of blank) d there) ∙ own
          ∙ get_or_default (map section_data ts) k (section_of blank) d also;
    }

-- the gap is the same, so both its sections are
pub gap_data : (S T : Parts) (ss ts : List Section) (g : ℕ) → map section_data ss ≡ map section_of S.sections
    → map section_data ts ≡ map section_of T.sections → IsSameGap S T g → HasSameSections S T g
    → IsSameAt (map section_data ss) (map section_data ts) g
    × IsSameAt (map section_data ss) (map section_data ts) (g + 1)
gap_data S T ss ts g e f h k = (
  data_same S T ss ts g e f (omega (arith, h.there)) (omega (arith, k.there)) k.low h.low,
  data_same S T ss ts (g + 1) e f h.there k.there k.high h.high,
)

-- one more mark
pub marks_more : (P : ℕ → Type 0) (marks : List Bool) (mark : Bool) → ((k : ℕ) → get_or marks k false ≡ true → P k)
    → (mark ≡ true → P (length marks)) → (k : ℕ) → get_or (marks ++ mark ∷ []) k false ≡ true → P k
marks_more P [] mark h p zero e = p e
marks_more P [] mark h p (suc k) e = absurd (false≢true e)
marks_more P (m ∷ marks) mark h p zero e = h zero e
marks_more P (m ∷ marks) mark h p (suc k) e = marks_more (λ n. P (suc n)) marks mark (λ n d. h (suc n) d) p k e

-- a mark that has to be set is set
pub marks_all : (P : ℕ → Type 0) (marks : List Bool) (mark : Bool)
    → ((k : ℕ) → k < length marks → P k → get_or marks k false ≡ true) → (P (length marks) → mark ≡ true) → (k : ℕ)
    → k < length (marks ++ mark ∷ []) → P k → get_or (marks ++ mark ∷ []) k false ≡ true
marks_all P [] mark h p zero l e = p e
marks_all P [] mark h p (suc k) l e = absurd (omega (arith, l))
marks_all P (m ∷ marks) mark h p zero l e = h zero (omega arith) e
marks_all P (m ∷ marks) mark h p (suc k) l e =
    marks_all (λ n. P (suc n)) marks mark (λ n b d. h (suc n) (omega (arith, b)) d) p k (omega (arith, l)) e

-- ---- components
agree : (r q : PairRule) (ls ms : List LinkParts) (a b c d : Layer) (i j : ℕ) → r ≡ q → ls ≡ ms → a ≡ b → c ≡ d
    → Agree r ls a c i j → Agree q ms b d i j
agree r q ls ms a b c d i j er el ea ec h =
    subst (λ (x : Layer). Agree q ms b x i j) ec
    (subst (λ (x : Layer). Agree q ms x c i j) ea
    (subst (λ (x : List LinkParts). Agree q x a c i j) el
    (subst (λ (x : PairRule). Agree x ls a c i j) er h)))

correspond : (S T : Parts) (g i j : ℕ) → IsSameGap S T g → Correspond S g i j → Correspond T g i j
correspond S T g i j e h = record {
  below = subst (λ (l : Layer). i < length l.outlines) e.low h.below;
  above = subst (λ (l : Layer). j < length l.outlines) e.high h.above;
  agree = agree S.rule T.rule S.links T.links (layer_at S g) (layer_at T g) (layer_at S (g + 1)) (layer_at T (g + 1)) i
      j e.rule e.links e.low e.high h.agree;
}

back : (S T : Parts) (g i j : ℕ) → IsSameGap S T g → Correspond T g i j → Correspond S g i j
back S T g i j e h = record {
  below = subst (λ (l : Layer). i < length l.outlines) (sym e.low) h.below;
  above = subst (λ (l : Layer). j < length l.outlines) (sym e.high) h.above;
  agree = agree T.rule S.rule T.links S.links (layer_at T g) (layer_at S g) (layer_at T (g + 1)) (layer_at S (g + 1)) i
      j (sym e.rule) (sym e.links) (sym e.low) (sym e.high) h.agree;
}

pub members_same : (S T : Parts) (g : ℕ) (cs : List Members) → IsSameGap S T g → AreGapMembers S g cs
    → AreGapMembers T g cs
members_same S T g cs e h =
    subst (λ (l : Layer). AreComponents (Correspond T g) (length (layer_at T g).outlines) (length l.outlines) cs) e.high
    (subst (λ (l : Layer). AreComponents (Correspond T g) (length l.outlines) (length (layer_at S (g + 1)).outlines) cs)
    e.low
    (same_components (Correspond S g) (Correspond T g) (λ i j. (correspond S T g i j e, back S T g i j e))
    (length (layer_at S g).outlines) (length (layer_at S (g + 1)).outlines) cs h))

-- ---- ids
abbrev move : ℕ → ℕ → ℕ → ℕ
move from to id = (id - from) + to

move_raised : (from to : ℕ) (ids : List ℕ) → map (move from to) (map (λ i. from + i) ids) ≡ map (λ i. to + i) ids
move_raised from to [] = refl
move_raised from to (i ∷ ids) =
    let e : ((from + i) - from) + to ≡ to + i = omega arith in
    ap₂ (λ (k : ℕ) (ks : List ℕ). k ∷ ks) e (move_raised from to ids)

movable : (from to : ℕ) (ids : List ℕ) → All (λ v. v < MAX_VERTICES) (map (λ i. to + i) ids)
    → All (λ id. (from ≤ id) × (move from to id < MAX_VERTICES)) (map (λ i. from + i) ids)
movable from to ids h k d l =
    let m : k < length ids = omega (arith, l, length-map ids (λ i. from + i)) in
    let i = get_or ids k 0 in
    let old : get_or (map (λ i. from + i) ids) k d ≡ from + i = get_or-map (λ i. from + i) ids k 0 d m in
    let new : get_or (map (λ i. to + i) ids) k d ≡ to + i = get_or-map (λ i. to + i) ids k 0 d m in
    let below = h k d (omega (arith, m, length-map ids (λ i. to + i))) in
    (omega (arith, old), omega (arith, old, new, below))

-- ---- composites
abbrev moved_view : ℕ → ℕ → RingView → RingView
moved_view from to r = record { points = r.points; ids = map (move from to) r.ids }

abbrev alone : Layer → List ℕ → RingView
alone l places = composite_at (oriented 0 l.outlines) places

side_moved : (S T : Parts) (g : ℕ) (places : List ℕ) → layer_at S g ≡ layer_at T g
    → moved_view (first_vertex S g) (first_vertex T g) (composite_at (rings_at S g) places)
    ≡ composite_at (rings_at T g) places
side_moved S T g places e =
    let from = first_vertex S g in
    let to = first_vertex T g in
    let base = alone (layer_at S g) places in
    ap (moved_view from to) (begun_at from (layer_at S g).outlines places)
    ∙ ap (λ (ids : List ℕ). let r : RingView = record { points = base.points; ids = ids } in r)
    (move_raised from to base.ids)
    ∙ ap (λ (l : Layer). raised to (alone l places)) e
    ∙ sym (begun_at to (layer_at T g).outlines places)

side_points : (S T : Parts) (g : ℕ) (places : List ℕ) → layer_at S g ≡ layer_at T g
    → (composite_at (rings_at S g) places).points ≡ (composite_at (rings_at T g) places).points
side_points S T g places e = ap (λ (r : RingView). r.points) (side_moved S T g places e)

side_movable : (S T : Parts) (g : ℕ) (places : List ℕ) → layer_at S g ≡ layer_at T g
    → sum_by vertices_in T.sections ≤ MAX_VERTICES
    → All (λ id. (first_vertex S g ≤ id) × (move (first_vertex S g) (first_vertex T g) id < MAX_VERTICES))
    (composite_at (rings_at S g) places).ids
side_movable S T g places e few =
    let from = first_vertex S g in
    let to = first_vertex T g in
    let base = alone (layer_at S g) places in
    let n = sum_by vertices_in T.sections in
    let known : Known n (composite_at (rings_at T g) places).ids =
    composite_each (λ v. v < n) _ (pick_each (λ v. v < n) (rings_at T g) places (rings_known T g)) in
    let ids : (composite_at (rings_at T g) places).ids ≡ map (λ i. to + i) base.ids =
    ap (λ (r : RingView). r.ids) (begun_at to (layer_at T g).outlines places
    ∙ ap (λ (l : Layer). raised to (alone l places)) (sym e)) in
    let within : All (λ v. v < MAX_VERTICES) (map (λ i. to + i) base.ids) =
    λ k d l. omega (arith, few, subst (Known n) ids known k d l) in
    subst (λ (xs : List ℕ). All (λ id. (from ≤ id) × (move from to id < MAX_VERTICES)) xs)
    (sym (ap (λ (r : RingView). r.ids) (begun_at from (layer_at S g).outlines places)))
    (movable from to base.ids within)

-- ---- pairs
pair_moved : (S T : Parts) (g : ℕ) (low high : Shift) (c : Members) → IsSameGap S T g → AreShifts S T g low high
    → moved_pair low high (pair_of S g c) ≡ pair_of T g c
pair_moved S T g low high c e a =
    let pair : CostRule → RingView → RingView → PairParts = λ k l h. record {
      strip = record { low = l.points; low_ids = l.ids; high = h.points; high_ids = h.ids; cost = k };
      gap = g;
      below = c.below;
      above = c.above;
    } in
    let lower = composite_at (rings_at S g) c.below in
    let upper = composite_at (rings_at S (g + 1)) c.above in
    let one : moved_view low.from low.to lower ≡ composite_at (rings_at T g) c.below =
    ap₂ (λ (f t : ℕ). moved_view f t lower) a.low_from a.low_to ∙ side_moved S T g c.below e.low in
    let other : moved_view high.from high.to upper ≡ composite_at (rings_at T (g + 1)) c.above =
    ap₂ (λ (f t : ℕ). moved_view f t upper) a.high_from a.high_to ∙ side_moved S T (g + 1) c.above e.high in
    ap (λ (k : CostParts). pair (cost_rule k) (moved_view low.from low.to lower) (moved_view high.from high.to upper))
    e.cost
    ∙ ap₂ (pair (cost_rule T.cost)) one other

pub pairs_moved : (S T : Parts) (g : ℕ) (low high : Shift) (cs : List Members) → IsSameGap S T g
    → AreShifts S T g low high → map (moved_pair low high) (map (pair_of S g) cs) ≡ map (pair_of T g) cs
pairs_moved S T g low high [] e a = refl
pairs_moved S T g low high (c ∷ cs) e a =
    ap₂ (λ (p : PairParts) (ps : List PairParts). p ∷ ps) (pair_moved S T g low high c e a)
    (pairs_moved S T g low high cs e a)

sides_same : (S T : Parts) (g : ℕ) (cs : List Members) → IsSameGap S T g
    → flat_map (sides_of S g) cs ≡ flat_map (sides_of T g) cs
sides_same S T g [] e = refl
sides_same S T g (c ∷ cs) e =
    let sides : List Point → List Point → List (ℕ × ℕ) → List (ℕ × ℕ) =
    λ l h more. (g + 1, length l) ∷ (g + 2, length h) ∷ more in
    ap₂ (λ (l h : List Point). sides l h (flat_map (sides_of S g) cs)) (side_points S T g c.below e.low)
    (side_points S T (g + 1) c.above e.high)
    ∙ ap (sides (composite_at (rings_at T g) c.below).points (composite_at (rings_at T (g + 1)) c.above).points)
    (sides_same S T g cs e)

pub sides_stay : (S T : Parts) (g : ℕ) (cs : List Members) → IsSameGap S T g → All IsShort (flat_map (sides_of S g) cs)
    → All IsShort (flat_map (sides_of T g) cs)
sides_stay S T g cs e h = subst (λ (xs : List (ℕ × ℕ)). All IsShort xs) (sides_same S T g cs e) h

pub pairs_movable : (S T : Parts) (g : ℕ) (low high : Shift) (cs : List Members) → IsSameGap S T g
    → AreShifts S T g low high → sum_by vertices_in T.sections ≤ MAX_VERTICES
    → All (CanMovePair low high) (map (pair_of S g) cs)
pairs_movable S T g low high cs e a few k d l =
    let m : k < length cs = omega (arith, l, length-map cs (pair_of S g)) in
    let c : Members = get_or cs k (record { below = []; above = [] }) in
    let here : get_or (map (pair_of S g) cs) k d ≡ pair_of S g c =
    get_or-map (pair_of S g) cs k (record { below = []; above = [] }) d m in
    let at : ℕ → ℕ → List ℕ → Type 0 = λ f t ids. All (λ id. (f ≤ id) × (move f t id < MAX_VERTICES)) ids in
    let lower = (composite_at (rings_at S g) c.below).ids in
    let upper = (composite_at (rings_at S (g + 1)) c.above).ids in
    let one : at low.from low.to lower =
    subst (λ (f : ℕ). at f low.to lower) (sym a.low_from)
    (subst (λ (t : ℕ). at (first_vertex S g) t lower) (sym a.low_to) (side_movable S T g c.below e.low few)) in
    let other : at high.from high.to upper =
    subst (λ (f : ℕ). at f high.to upper) (sym a.high_from)
    (subst (λ (t : ℕ). at (first_vertex S (g + 1)) t upper) (sym a.high_to)
    (side_movable S T (g + 1) c.above e.high few)) in
    subst (CanMovePair low high) (sym here) (one, other)
