-- A plan with one more pair, and the solutions that it gives.
use Rattle.std.proofs.Common.{◌≡◌, inl, inr, ℕ, ◌+◌, ◌<◌, ◌≤◌, Bool, true, false, cond, List, [], ◌∷◌, ◌++◌, length, take, get_or, map, refl, sym, ap, ap₂, ◌∙◌, subst, subst₂, arith}
use Rattle.std.specs.Prelude.{All, not, ◌&&◌, nat_eq}
use Rattle.std.specs.List.{list_any}
use Rattle.std.proofs.lemmas.Bool.{false≢true, and_parts, cases_lt, eqb-true}
use Rattle.std.proofs.lemmas.List.{length-map, map-append, get_or-map, get_or_append_left}
use Rattle.std.proofs.lemmas.List.Folds.{list_any_at}
use Rattle.std.proofs.lemmas.List.Sums.{count_by-le-length}
use Rattle.std.proofs.lemmas.Grind.{common_steps}
use Rattle.std.proofs.Common.{length-append}
use Rattle.std.proofs.Math.Seq.{get_or-append_seam}
use Rattle.fku_types.specs.declared.points.Point.{Point}
use Rattle.fku_types.specs.declared.rules.CostRule.{CostRule}
use Rattle.fku_types.specs.declared.rules.CostRule.TheVariants.{Span, Area, Mix}
use Rattle.fku_types.proofs.ListLaws.{take_next}
use Rattle.strip_graph.specs.Strips.{Strip, arcs}
use Rattle.section_pairs.specs.declared.gap_pairs.GapPair.{GapPair}
use Rattle.section_pairs.specs.Pairs.{PairParts, pair_parts}
use Rattle.surface_core.specs.Surfaces.{strips_in}
use Rattle.section_pairs.proofs.Equals.{points_same}
use Rattle.row_paths.specs.Solutions.{Solution, Solves}
use Rattle.pair_pool.specs.Solvers.{SolvesEach}
use Rattle.section_edits.specs.declared.plans.Origin.{Origin}
use Rattle.section_edits.specs.declared.plans.Origin.TheVariants.{Kept, Fresh}
use Rattle.section_edits.specs.Fresh.{same_points, same_rule, is_same_strip, is_fresh, fresh}
use Rattle.section_edits.specs.Plans.{IsSameStripAt, ComesFrom, IsPlanOf, IsAmong, no_solution, solution_from}

abbrev pub strips_of : List GapPair → List Strip
strips_of ps = strips_in (map pair_parts ps)

abbrev strip_of : PairParts → Strip
strip_of p = p.strip

pub strips_count : (ps : List GapPair) → length (strips_of ps) ≡ length ps
strips_count ps = length-map (map pair_parts ps) strip_of ∙ length-map ps pair_parts

pub strip_at : (ps : List GapPair) (k : ℕ) (x : GapPair) (q : Strip) → k < length ps → x ≡ get_or ps k x
    → get_or (strips_of ps) k q ≡ x.pair
strip_at ps k x q l e =
    let m : k < length (map pair_parts ps) = omega (arith, length-map ps pair_parts) in
    get_or-map strip_of (map pair_parts ps) k (pair_parts x) q m
    ∙ ap strip_of (get_or-map pair_parts ps k x (pair_parts x) l)
    ∙ ap (λ (y : GapPair). y.pair) (sym e)

pub strips_more : (ps : List GapPair) (i : ℕ) (x : GapPair) → i < length ps → x ≡ get_or ps i x
    → strips_of (take (i + 1) ps) ≡ strips_of (take i ps) ++ x.pair ∷ []
strips_more ps i x l e =
    ap strips_of (take_next ps i x l e) ∙ ap strips_in (map-append pair_parts (take i ps) (x ∷ []))
    ∙ map-append strip_of (map pair_parts (take i ps)) (pair_parts x ∷ [])

pub same_here : (ps : List GapPair) (k : ℕ) (x : GapPair) (p : Strip) → k < length ps → x ≡ get_or ps k x
    → is_same_strip p x.pair ≡ true → IsSameStripAt p (strips_of ps) k
same_here ps k x p l e s = (omega (arith, strips_count ps), λ q. ap (is_same_strip p) (strip_at ps k x q l e) ∙ s)

-- a strip that is the same is not new
abbrev one_if : Bool → ℕ
one_if b = cond b 1 0

fresh_more : (kept strips : List Strip) (p : Strip)
    → fresh kept (strips ++ p ∷ []) ≡ fresh kept strips + one_if (is_fresh kept p)
fresh_more kept strips p = grind (arith, common_steps)

-- one more pair at its place
each_push : (kept solving strips : List Strip) (origins : List Origin) (p : Strip) (r : Origin)
    → length origins ≡ length strips → ((k : ℕ) (q : Strip) (o : Origin) → k < length strips
    → ComesFrom kept solving (get_or strips k q) (get_or origins k o)) → ComesFrom kept solving p r
    → (k : ℕ) (q : Strip) (o : Origin) → k < length (strips ++ p ∷ [])
    → ComesFrom kept solving (get_or (strips ++ p ∷ []) k q) (get_or (origins ++ r ∷ []) k o)
each_push kept solving strips origins p r n old here k q o l =
    elim (cases_lt k (length strips)) [
      | inl m ↦
          let m' : k < length origins = omega arith in
          subst₂ (ComesFrom kept solving) (sym (get_or_append_left strips (p ∷ []) q k m))
          (sym (get_or_append_left origins (r ∷ []) o k m')) (old k q o m)
      | inr m ↦
          let at : length strips ≡ k = omega (arith, length-append strips (p ∷ [])) in
          let at' : length origins ≡ k = omega arith in
          subst₂ (ComesFrom kept solving)
          (sym (subst (λ (j : ℕ). get_or (strips ++ p ∷ []) j q ≡ p) at (get_or-append_seam strips p [] q)))
          (sym (subst (λ (j : ℕ). get_or (origins ++ r ∷ []) j o ≡ r) at' (get_or-append_seam origins r [] o))) here
    ]

more_solving : (kept solving : List Strip) (s p : Strip) (o : Origin) → ComesFrom kept solving p o
    → ComesFrom kept (solving ++ s ∷ []) p o
more_solving kept solving s p (Kept k) h = h
more_solving kept solving s p (Fresh k) h = (
  omega (arith, h.0, length-append solving (s ∷ [])),
  λ (q : Strip). get_or_append_left solving (s ∷ []) q k h.0
      ∙ h.1 q,
)

one_more : (strips : List Strip) (origins : List Origin) (p : Strip) (r : Origin) → length origins ≡ length strips
    → length (origins ++ r ∷ []) ≡ length (strips ++ p ∷ [])
one_more strips origins p r e = omega (arith, length-append origins (r ∷ []), length-append strips (p ∷ []))

pub plan_kept : (kept strips solving : List Strip) (origins : List Origin) (p : Strip) (k : ℕ)
    → IsPlanOf kept strips origins solving → IsSameStripAt p kept k
    → IsPlanOf kept (strips ++ p ∷ []) (origins ++ Kept k ∷ []) solving
plan_kept kept strips solving origins p k h s =
    let known : is_fresh kept p ≡ false = ap not (list_any_at (is_same_strip p) kept k p s.0 (s.1 p)) in
    record {
      count = one_more strips origins p (Kept k) h.count;
      each = each_push kept solving strips origins p (Kept k) h.count h.each s;
      fresh = omega (arith, h.fresh, fresh_more kept strips p, ap one_if known);
    }

pub plan_fresh : (kept strips solving : List Strip) (origins : List Origin) (p : Strip) (k : ℕ)
    → IsPlanOf kept strips origins solving → list_any (is_same_strip p) kept ≡ false → k ≡ length solving
    → IsPlanOf kept (strips ++ p ∷ []) (origins ++ Fresh k ∷ []) (solving ++ p ∷ [])
plan_fresh kept strips solving origins p k h none last =
    let new : is_fresh kept p ≡ true = ap not none in
    let here : ComesFrom kept (solving ++ p ∷ []) p (Fresh k) = (
      omega (arith, length-append solving (p ∷ [])),
      λ (q : Strip). subst (λ (j : ℕ). get_or (solving ++ p ∷ []) j q ≡ p) (sym last)
          (get_or-append_seam solving p [] q),
    ) in
    record {
      count = one_more strips origins p (Fresh k) h.count;
      each = each_push kept (solving ++ p ∷ []) strips origins p (Fresh k) h.count
          (λ (j : ℕ) (q : Strip) (o : Origin) (l : j < length strips).
          more_solving kept solving p (get_or strips j q) (get_or origins j o) (h.each j q o l)) here;
      fresh = omega (arith, h.fresh, fresh_more kept strips p, ap one_if new, length-append solving (p ∷ []));
    }

-- the same strips have the same solutions
rule_is : (a b : CostRule) → same_rule a b ≡ true → a ≡ b
rule_is Span Span e = refl
rule_is Area Area e = refl
rule_is (Mix a b) (Mix c d) e = let w = and_parts (nat_eq a c) (nat_eq b d) e in
    ap₂ (λ (x y : ℕ). Mix x y) (eqb-true a c w.0) (eqb-true b d w.1)
rule_is Span Area e = absurd (false≢true e)
rule_is Area Span e = absurd (false≢true e)
rule_is Span (Mix c d) e = absurd (false≢true e)
rule_is Area (Mix c d) e = absurd (false≢true e)
rule_is (Mix a b) Span e = absurd (false≢true e)
rule_is (Mix a b) Area e = absurd (false≢true e)

abbrev with_ids : Strip → Strip → Strip
with_ids p q = record { low = q.low; low_ids = p.low_ids; high = q.high; high_ids = p.high_ids; cost = q.cost }

ids_aside : (p q : Strip) (s : Solution) → Solves q s → Solves (with_ids p q) s
unfolding arcs
ids_aside p q s h = record { chosen = h.chosen; cost = h.cost }

same_but_ids : (p q : Strip) → is_same_strip p q ≡ true → with_ids p q ≡ p
same_but_ids p q e =
    let a = and_parts (same_rule p.cost q.cost) (same_points p.low q.low && same_points p.high q.high) e in
    let b = and_parts (same_points p.low q.low) (same_points p.high q.high) a.1 in
    ap₂ (λ (low high : List Point). let r : Strip =
    record { low = low; low_ids = p.low_ids; high = high; high_ids = p.high_ids; cost = q.cost } in r)
    (sym (points_same p.low q.low b.0)) (sym (points_same p.high q.high b.1))
    ∙ ap (λ (cost : CostRule). let r : Strip =
    record { low = p.low; low_ids = p.low_ids; high = p.high; high_ids = p.high_ids; cost = cost } in r)
    (sym (rule_is p.cost q.cost a.0))

pub solves_same : (p q : Strip) (s : Solution) → is_same_strip p q ≡ true → Solves q s → Solves p s
solves_same p q s e h = subst (λ (r : Strip). Solves r s) (same_but_ids p q e) (ids_aside p q s h)

-- the solutions that a plan gives
abbrev no_strip : Strip
no_strip = record { low = []; low_ids = []; high = []; high_ids = []; cost = Span }

among : (kept solving : List Strip) (xs ys : List Solution) (p : Strip) (o : Origin) → length xs ≡ length kept
    → length ys ≡ length solving → ComesFrom kept solving p o → IsAmong (length xs) (length ys) o
among kept solving xs ys p (Kept k) e f h = omega (arith, h.0)
among kept solving xs ys p (Fresh k) e f h = omega (arith, h.0)

pub all_among : (kept strips solving : List Strip) (origins : List Origin) (xs ys : List Solution)
    → IsPlanOf kept strips origins solving → SolvesEach kept xs → SolvesEach solving ys
    → All (IsAmong (length xs) (length ys)) origins
all_among kept strips solving origins xs ys h a b k o l =
    let m : k < length strips = omega (arith, h.count) in
    among kept solving xs ys (get_or strips k no_strip) (get_or origins k o) a.count b.count (h.each k no_strip o m)

solves_from : (kept solving : List Strip) (xs ys : List Solution) (p : Strip) (o : Origin) → SolvesEach kept xs
    → SolvesEach solving ys → ComesFrom kept solving p o → Solves p (solution_from xs ys o)
solves_from kept solving xs ys p (Kept k) a b h =
    solves_same p (get_or kept k no_strip) (get_or xs k no_solution) (h.1 no_strip) (a.each k no_strip no_solution h.0)
solves_from kept solving xs ys p (Fresh k) a b h =
    subst (λ (q : Strip). Solves q (get_or ys k no_solution)) (h.1 no_strip) (b.each k no_strip no_solution h.0)

pub all_solved : (kept strips solving : List Strip) (origins : List Origin) (xs ys zs : List Solution)
    → IsPlanOf kept strips origins solving → SolvesEach kept xs → SolvesEach solving ys
    → zs ≡ map (solution_from xs ys) origins → SolvesEach strips zs
all_solved kept strips solving origins xs ys zs h a b e = record {
  count = ap length e ∙ length-map origins (solution_from xs ys) ∙ h.count;
  each = λ (k : ℕ) (p : Strip) (s : Solution) (l : k < length strips).
      let m : k < length origins = omega (arith, h.count) in
      subst (λ (x : Solution). Solves (get_or strips k p) x)
      (sym (ap (λ (us : List Solution). get_or us k s) e ∙ get_or-map (solution_from xs ys) origins k (Kept 0) s m))
      (solves_from kept solving xs ys (get_or strips k p) (get_or origins k (Kept 0)) a b (h.each k p (Kept 0) l));
}

pub fresh_not_more : (kept strips : List Strip) → fresh kept strips ≤ length strips
fresh_not_more kept strips = count_by-le-length (is_fresh kept) strips

pub planned_as : (kept before after : List Strip) (origins new_origins : List Origin) (solving new_solving : List Strip)
    → after ≡ before → new_origins ≡ origins → new_solving ≡ solving → IsPlanOf kept before origins solving
    → IsPlanOf kept after new_origins new_solving
planned_as kept before after origins new_origins solving new_solving e f g h =
    subst (λ (xs : List Strip). IsPlanOf kept after new_origins xs) (sym g)
    (subst₂ (λ (xs : List Strip) (os : List Origin). IsPlanOf kept xs os solving) (sym e) (sym f) h)
