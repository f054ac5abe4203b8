-- The definitions at worked examples: a strip of one row and one column, every step of which costs 1.
use Rattle.std.proofs.Common.{◌≡◌, ℕ, zero, suc, ◌+◌, ◌-◌, ◌<◌, ◌≤◌, min, List, [], ◌∷◌, true, false, ap, inl, inr, lit<, lit≤, arith, sym, ◌∙◌}
use mathlib.Core.Path.{refl}
use Rattle.std.specs.Prelude.{slice_index}
use Rattle.strip_graph.specs.declared.tilings.Step.{Step}
use Rattle.strip_graph.specs.declared.tilings.Step.TheVariants.{V, H}
use Rattle.strip_graph.specs.Words.{Arcs, word_cost, count_v, count_h}
use Rattle.strip_graph.specs.Distances.{distance, IsFirst}
use Rattle.strip_graph.specs.Paths.{entry}
use Rattle.strip_graph.specs.Regions.{IsWithin, IsRegional, GoesV, GoesH}
use Rattle.strip_graph.proofs.LeastWords.{distance-reached}
use Rattle.strip_graph.proofs.Canonical.{tail_v, tail_h}
use Rattle.strip_graph.proofs.Sides.{test_no}
use Rattle.row_paths.specs.Fans.{HasReached, HasReachedAfter, HasEnds, HasStarts}
use Rattle.row_paths.specs.Searches.{IsRegion, IsPlaceCost, HasCosts, HasCostsBefore, LeadsDown, LeadsRight, HasAllWays, IsSameBut, StaysIn, HasEntries}
use Rattle.row_paths.specs.StripCosts.{IsRowCosts}
use Rattle.row_paths.specs.Turns.{IsPathOf}

abbrev even : Arcs
even i j s = 1

even_sum : (i j : ℕ) (w : List Step) → word_cost even i j w ≡ count_v w + count_h w
even_sum i j [] = refl
even_sum i j (V ∷ w) = omega (arith, even_sum (i + 1) j w)
even_sum i j (H ∷ w) = omega (arith, even_sum i (j + 1) w)

even_distance : (i j r c : ℕ) → distance even i j r c ≡ r + c
even_distance i j r c = let k = distance-reached even i j r c in
    omega (arith, k.cost, even_sum i j k.word, k.letters.v, k.letters.h)

-- all its places
abbrev first_column : ℕ → ℕ
first_column x = 0

abbrev last_column : ℕ → ℕ
last_column x = 1

whole : IsRegion first_column last_column 1 1
whole = record {
  rises = λ x. omega arith;
  joined = λ x. omega arith;
  sinks = λ x. omega arith;
  within =
      λ x. omega arith;
  ends = refl;
}

regional : (i j r c : ℕ) → IsRegional even first_column last_column i j r c (r + c)
regional i j r c = record {
  least = omega (arith, even_distance i j r c);
  within =
      λ w l t. omega (arith, even_sum i j w, l.v, l.h);
}

place_cost : (end n x c : ℕ) → IsPlaceCost 1 even first_column last_column end n x c (end - x + (n - c))
place_cost end n x c = record { regional = regional x c (end - x) (n - c); small = omega arith }

-- the costs of row 0 from column 0 on, and of its places before column 1
row_costs : HasCosts 1 even first_column last_column 1 1 0 (2 ∷ 1 ∷ []) 0
row_costs zero from to = place_cost 1 1 0 0
row_costs (suc zero) from to = place_cost 1 1 0 1
row_costs (suc (suc c)) from to = absurd (omega (arith, to))

row_costs_before : HasCostsBefore 1 even first_column last_column 1 1 0 (2 ∷ []) 1
row_costs_before zero from to = place_cost 1 1 0 0
row_costs_before (suc c) from to = absurd (omega (arith, to))

-- 1 is too little for the place of row 0 and column 0, and so is 0 for column 1
too_little : HasCosts 1 even first_column last_column 1 1 0 (1 ∷ 1 ∷ []) 0 → ⊥
too_little h = let k = h 0 (lit≤ tt) (lit≤ tt) in omega (arith, k.regional.least, even_distance 0 0 1 1)

-- the costs from row 0 and column 0 to row 1
reached : HasReached 1 even first_column last_column 0 0 1 (1 ∷ 2 ∷ []) 1
reached zero from to = place_cost 1 0 0 0
reached (suc zero) from to = place_cost 1 1 0 0
reached (suc (suc c)) from to = absurd (omega (arith, to))

reached_after : HasReachedAfter 1 even first_column last_column 0 0 1 (7 ∷ 2 ∷ []) 0
reached_after zero from to = absurd (omega (arith, from))
reached_after (suc zero) from to = place_cost 1 1 0 0
reached_after (suc (suc c)) from to = absurd (omega (arith, to))

-- to the last column of rows 0 and 1, and from column 0 of rows 1 and 0
ends_there : HasEnds even first_column last_column 0 0 1 1 (1 ∷ 2 ∷ [])
ends_there zero from to e = regional 0 0 0 1
ends_there (suc zero) from to e = regional 0 0 1 1
ends_there (suc (suc y)) from to e = absurd (omega (arith, to))

starts_there : HasStarts even first_column last_column 1 1 0 (2 ∷ 1 ∷ [])
starts_there zero from to e = regional 0 0 1 1
starts_there (suc zero) from to e = regional 1 0 0 1
starts_there (suc (suc y)) from to e = absurd (omega (arith, to))

-- ---- words go on by V from row 0, and by H from row 1

down_0 : LeadsDown even first_column last_column 1 1 0 0
down_0 = record { row = lit< tt; goes = goes }
  where
    goes : (w : List Step) → IsFirst even 0 0 1 1 w → IsWithin first_column last_column 0 0 w
        → GoesV even first_column last_column 0 0 0 1 w
    goes [] f t = absurd (omega (arith, f.letters.v))
    goes (V ∷ w) f t = record { rest = w; is = refl; first = (tail_v even 0 0 0 1 w f).1; within = t.1 }
    goes (H ∷ w) f t = absurd (f.first (V ∷ H ∷ []) (record { v = refl; h = refl })
        (omega (arith, even_distance 0 0 1 1)))

down_1 : LeadsDown even first_column last_column 1 1 0 1
down_1 = record { row = lit< tt; goes = goes }
  where
    goes : (w : List Step) → IsFirst even 0 1 1 0 w → IsWithin first_column last_column 0 1 w
        → GoesV even first_column last_column 0 1 0 0 w
    goes [] f t = absurd (omega (arith, f.letters.v))
    goes (V ∷ w) f t = record { rest = w; is = refl; first = (tail_v even 0 1 0 0 w f).1; within = t.1 }
    goes (H ∷ w) f t = absurd (omega (arith, f.letters.h))

right_0 : LeadsRight even first_column last_column 1 1 1 0
right_0 = record { col = lit< tt; goes = goes }
  where
    goes : (w : List Step) → IsFirst even 1 0 0 1 w → IsWithin first_column last_column 1 0 w
        → GoesH even first_column last_column 1 0 0 0 w
    goes [] f t = absurd (omega (arith, f.letters.h))
    goes (V ∷ w) f t = absurd (omega (arith, f.letters.v))
    goes (H ∷ w) f t = record { rest = w; is = refl; first = (tail_h even 1 0 0 0 w f).1; within = t.1 }

ways : HasAllWays even first_column last_column 1 1 (true ∷ true ∷ false ∷ false ∷ []) 0
ways zero from to zero above below = down_0
ways zero from to (suc zero) above below = down_1
ways zero from to (suc (suc c)) above below = absurd (omega (arith, below))
ways (suc zero) from to zero above below = λ l. right_0
ways (suc zero) from to (suc zero) above below = λ l. absurd (omega (arith, l))
ways (suc zero) from to (suc (suc c)) above below = absurd (omega (arith, below))
ways (suc (suc x)) from to c above below = absurd (omega (arith, to))

no_way_down : HasAllWays even first_column last_column 1 1 (true ∷ true ∷ true ∷ false ∷ []) 0 → ⊥
no_way_down h = let l : 1 < 1 = (h 1 (lit≤ tt) (lit≤ tt) 0 (lit≤ tt) (lit≤ tt)).row in omega (arith, l)

-- tables that differ only in row 1
row_1_alone : IsSameBut 1 1 (true ∷ false ∷ true ∷ true ∷ false ∷ []) (true ∷ false ∷ false ∷ true ∷ false ∷ [])
row_1_alone zero b = refl
row_1_alone (suc zero) b = refl
row_1_alone (suc (suc zero)) (inl l) = absurd (omega (arith, l))
row_1_alone (suc (suc zero)) (inr l) = absurd (omega (arith, l))
row_1_alone (suc (suc (suc zero))) (inl l) = absurd (omega (arith, l))
row_1_alone (suc (suc (suc zero))) (inr l) = absurd (omega (arith, l))
row_1_alone (suc (suc (suc (suc k)))) b = refl

-- the canonical word goes on by V and then by H
stays : StaysIn even first_column last_column 1 0 1
stays [] f = absurd (omega (arith, f.letters.v))
stays (H ∷ w) f = absurd (f.first (V ∷ H ∷ []) (record { v = refl; h = refl }) (omega (arith, even_distance 0 0 1 1)))
stays (V ∷ []) f = absurd (omega (arith, f.letters.h))
stays (V ∷ V ∷ w) f = absurd (omega (arith, f.letters.v))
stays (V ∷ H ∷ V ∷ w) f = absurd (omega (arith, f.letters.v))
stays (V ∷ H ∷ H ∷ w) f = absurd (omega (arith, f.letters.h))
stays (V ∷ H ∷ []) f = (
  record { from = lit≤ tt; to = lit≤ tt },
  (record { from = lit≤ tt; to = lit≤ tt }, record { from = lit≤ tt; to = lit≤ tt }),
)

past : (x : ℕ) → entry 0 0 (V ∷ H ∷ []) (suc (suc x)) ≡ 1
past x = test_no (suc (suc x)) 0 0 (entry 1 0 (H ∷ []) (suc (suc x))) (omega arith)
    ∙ test_no (suc (suc x)) 1 0 1 (omega arith)

-- it enters rows 0 and 1 in column 0, and is in column 1 past its end
entries : HasEntries even 1 0 1 (0 ∷ 0 ∷ 1 ∷ [])
entries [] f x = absurd (omega (arith, f.letters.v))
entries (H ∷ w) f x = absurd (f.first (V ∷ H ∷ []) (record { v = refl; h = refl })
    (omega (arith, even_distance 0 0 1 1)))
entries (V ∷ []) f x = absurd (omega (arith, f.letters.h))
entries (V ∷ V ∷ w) f x = absurd (omega (arith, f.letters.v))
entries (V ∷ H ∷ V ∷ w) f x = absurd (omega (arith, f.letters.v))
entries (V ∷ H ∷ H ∷ w) f x = absurd (omega (arith, f.letters.h))
entries (V ∷ H ∷ []) f zero = refl
entries (V ∷ H ∷ []) f (suc zero) = refl
entries (V ∷ H ∷ []) f (suc (suc x)) = let e : min (suc (suc x)) 2 ≡ 2 = omega arith in
    ap (slice_index (0 ∷ 0 ∷ 1 ∷ [])) e ∙ sym (past x)

path : IsPathOf even 1 1 0 (0 ∷ 0 ∷ 1 ∷ [])
path = entries

row_0 : IsRowCosts 1 even 1 0 (1 ∷ 1 ∷ []) (1 ∷ [])
row_0 = record {
  downs_count = lit< tt;
  rights_count = lit≤ tt;
  downs_are = downs;
  rights_are = rights;
  downs_small =
      downs_small;
  rights_small = rights_small;
}
  where
    downs : (c : ℕ) → c ≤ 1 → slice_index (1 ∷ 1 ∷ []) c ≡ 1
    downs zero l = refl
    downs (suc zero) l = refl
    downs (suc (suc c)) l = absurd (omega (arith, l))

    rights : (c : ℕ) → c < 1 → slice_index (1 ∷ []) c ≡ 1
    rights zero l = refl
    rights (suc c) l = absurd (omega (arith, l))

    downs_small : (c : ℕ) → c ≤ 1 → slice_index (1 ∷ 1 ∷ []) c ≤ 1
    downs_small c l = omega (arith, downs c l)

    rights_small : (c : ℕ) → c < 1 → slice_index (1 ∷ []) c ≤ 1
    rights_small c l = omega (arith, rights c l)
