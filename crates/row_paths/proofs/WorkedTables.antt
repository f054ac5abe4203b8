-- The definitions at worked examples: the tables of costs of two points under one.
use Rattle.std.proofs.Common.{◌≡◌, ℕ, zero, suc, ◌+◌, ◌*◌, ◌<◌, ◌≤◌, [], ◌∷◌, Some, None, arith}
use mathlib.Core.Path.{refl}
use Rattle.std.specs.Prelude.{slice_index}
use Rattle.fku_types.specs.declared.rules.CostRule.TheVariants.{Span, Area, Mix}
use Rattle.fku_types.specs.Points.{square}
use Rattle.plane_geom.specs.Rings.{around}
use Rattle.plane_geom.specs.Lengths.{distance_square}
use Rattle.strip_graph.specs.declared.tilings.Step.TheVariants.{V, H}
use Rattle.strip_graph.specs.Strips.{Strip, arcs, area_square}
use Rattle.strip_graph.proofs.LayoutLaws.{arcs_by_place}
use Rattle.strip_graph.proofs.Worked.{corner}
use Rattle.row_paths.specs.StripCosts.{AreDowns, AreRights, AreRightsOf, AreStripCosts}

abbrev two_under_one : Strip
two_under_one = record {
  low = corner 0 0 0 ∷ corner 1 0 0 ∷ [];
  low_ids = [];
  high = corner 0 0 2 ∷ [];
  high_ids = [];
  cost = Span;
}

costs_of_v : AreDowns 5 two_under_one (5 ∷ 5 ∷ 4 ∷ 4 ∷ [])
unfolding arcs around distance_square square
costs_of_v = record { count = refl; first = record { are = are; small = small } }
  where
    are : (r c : ℕ) → c < 2 → r * 2 + c < 4 → slice_index (5 ∷ 5 ∷ 4 ∷ 4 ∷ []) (r * 2 + c) ≡ arcs two_under_one r c V
    are zero zero l k = refl
    are zero (suc zero) l k = refl
    are (suc zero) zero l k = refl
    are (suc zero) (suc zero) l k = refl
    are r (suc (suc c)) l k = absurd (omega (arith, l))
    are (suc (suc r)) c l k = absurd (omega (arith, k))

    small : (k : ℕ) → k < 4 → slice_index (5 ∷ 5 ∷ 4 ∷ 4 ∷ []) k ≤ 5
    small zero l = omega arith
    small (suc zero) l = omega arith
    small (suc (suc zero)) l = omega arith
    small (suc (suc (suc zero))) l = omega arith
    small (suc (suc (suc (suc k)))) l = absurd (omega (arith, l))

costs_of_h : AreRights 5 two_under_one (4 ∷ 5 ∷ [])
unfolding arcs around distance_square square
costs_of_h = record { count = refl; first = record { are = are; small = small } }
  where
    are : (r c : ℕ) → c < 1 → r * 1 + c < 2 → slice_index (4 ∷ 5 ∷ []) (r * 1 + c) ≡ arcs two_under_one r c H
    are zero zero l k = refl
    are (suc zero) zero l k = refl
    are r (suc c) l k = absurd (omega (arith, l))
    are (suc (suc r)) c l k = absurd (omega (arith, k))

    small : (k : ℕ) → k < 2 → slice_index (4 ∷ 5 ∷ []) k ≤ 5
    small zero l = omega arith
    small (suc zero) l = omega arith
    small (suc (suc k)) l = absurd (omega (arith, l))

all_costs : AreStripCosts 5 two_under_one (5 ∷ 5 ∷ 4 ∷ 4 ∷ []) (Some (4 ∷ 5 ∷ []))
    × AreStripCosts 5 two_under_one (5 ∷ 5 ∷ 4 ∷ 4 ∷ []) None
all_costs = (
  record { by_v = costs_of_v; by_h = costs_of_h },
  record { by_v = costs_of_v; by_h = arcs_by_place two_under_one tt },
)

-- under a rule of areas H has its own costs
own_costs : AreRightsOf 5 (record two_under_one { cost = Area }) None → ⊥
unfolding arcs around area_square square
own_costs e = let f : 4 ≡ 0 = e 0 0 in omega (arith, f)

-- under a mix without areas H has none, for any weight of spans
mixed_costs : AreRightsOf 5 (record two_under_one { cost = Mix 3 0 }) None
mixed_costs = arcs_by_place (record two_under_one { cost = Mix 3 0 }) refl
