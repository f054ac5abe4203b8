-- A region's rows are reached place by place, from left to right.
use Rattle.std.proofs.Common.{◌≡◌, ◌≢◌, ℕ, zero, suc, ◌+◌, ◌-◌, ◌*◌, ◌<◌, ◌≤◌, max, min, List, length, get_or, set, get_or-set_other, get_or-set_same, ap, sym, subst, subst₂, arith, ◌⊎◌, inl, inr}
use Rattle.std.proofs.lemmas.Bool.{cases_lt}
use Rattle.strip_graph.specs.declared.tilings.Step.TheVariants.{V, H}
use Rattle.strip_graph.specs.Words.{Arcs}
use Rattle.strip_graph.specs.Strips.{Strip, arcs, rows, cols}
use Rattle.strip_graph.specs.Regions.{IsRegional}
use Rattle.row_paths.specs.Counts.{area}
use Rattle.row_paths.specs.Searches.{IsPlaceCost}
use Rattle.row_paths.specs.StripCosts.{largest}
use Rattle.row_paths.specs.Fans.{HasReached, HasReachedAfter, HasEnds}
use Rattle.row_paths.proofs.Places.{cost_fits}
use Rattle.row_paths.proofs.Reaching.{reach_start, reach_down, reach_right, reach_both}

-- one more place
reached_more : (b : ℕ) (a : Arcs) (lo hi : ℕ → ℕ) (i j x c cost : ℕ) (t : List ℕ) → c + 1 < length t
    → HasReached b a lo hi i j x t c → IsPlaceCost b a lo hi x (c + 1) i j cost
    → HasReached b a lo hi i j x (set t (c + 1) cost) (c + 1)
reached_more b a lo hi i j x c cost t lt f p k from to = by (cases_lt k (c + 1))
  where
    by : (k < c + 1) ⊎ (c + 1 ≤ k) → IsPlaceCost b a lo hi x k i j (get_or (set t (c + 1) cost) k 0)
    by (inl less) = let ne : k ≢ c + 1 = omega arith in rw get_or-set_other (f k from (omega arith))
    by (inr same) = let d : k ≡ c + 1 = omega arith in rw (d, get_or-set_same) p

-- a row is reached up to a column
pub record IsReachedTo (b : ℕ) (a : Arcs) (lo hi : ℕ → ℕ) (i j x : ℕ) (row : List ℕ) (col cost : ℕ) : Type 0 where
  pub cost_is : get_or row col 0 ≡ cost
  pub reached : HasReached b a lo hi i j x row col

at_col : (b : ℕ) (a : Arcs) (lo hi : ℕ → ℕ) (i j x col cost : ℕ) (t : List ℕ) → max (lo x) j ≤ col
    → IsReachedTo b a lo hi i j x t col cost → IsPlaceCost b a lo hi x col i j cost
at_col b a lo hi i j x col cost t from f =
    subst (IsPlaceCost b a lo hi x col i j) f.cost_is (f.reached col from (omega arith))

pub on_fits : (most : ℕ) (p : Strip) (a : Arcs) (lo hi : ℕ → ℕ) (i j x col cost v : ℕ) (t : List ℕ) → x < 2 * rows p
    → col ≤ cols p → v ≤ largest most p → max (lo x) j ≤ col → IsReachedTo (largest most p) a lo hi i j x t col cost
    → cost + v ≤ most
on_fits most p a lo hi i j x col cost v t few narrow small from f =
    cost_fits most p a lo hi x col i j cost v few narrow small (at_col (largest most p) a lo hi i j x col cost t from f)

pub on_right : (b : ℕ) (a : Arcs) (lo hi : ℕ → ℕ) (i j x c cost v : ℕ) (t : List ℕ) → c + 1 < length t → i ≤ x
    → max (lo x) j ≤ c → ((k : ℕ) → x ≡ k + 1 → i < x → hi k ≤ c) → v ≡ a x c H → v ≤ b
    → IsReachedTo b a lo hi i j x t c cost → IsReachedTo b a lo hi i j x (set t (c + 1) (cost + v)) (c + 1) (cost + v)
on_right b a lo hi i j x c cost v t lt le from shut is small f = record {
  cost_is = get_or-set_same t (c + 1) (cost + v) 0 lt;
  reached = reached_more b a lo hi i j x c (cost + v) t lt f.reached
      (reach_right b a lo hi i j x c cost v le (omega arith) shut is small (at_col b a lo hi i j x c cost t from f));
}

pub on_both : (b : ℕ) (a : Arcs) (lo hi : ℕ → ℕ) (i j x c cost v y z : ℕ) (t : List ℕ) → c + 1 < length t → i ≤ x
    → max (lo (x + 1)) j ≤ c → c + 1 ≤ hi x → y ≡ a x (c + 1) V → y ≤ b → z ≡ a (x + 1) c H → z ≤ b
    → v ≡ min (get_or t (c + 1) 0 + y) (cost + z)
    → HasReachedAfter b a lo hi i j x t c → IsReachedTo b a lo hi i j (x + 1) t c cost
    → IsReachedTo b a lo hi i j (x + 1) (set t (c + 1) v) (c + 1) v
on_both b a lo hi i j x c cost v y z t lt le from to is small is' small' v-is after f = record {
  cost_is = get_or-set_same t (c + 1) v 0 lt;
  reached = reached_more b a lo hi i j (x + 1) c v t lt f.reached
      (subst (IsPlaceCost b a lo hi (x + 1) (c + 1) i j) (sym v-is)
      (reach_both b a lo hi i j x c (get_or t (c + 1) 0) cost y z le (omega arith) is small is' small'
      (after (c + 1) (omega arith) to) (at_col b a lo hi i j (x + 1) c cost t from f)));
}

-- the costs of the row above that are still in the list
pub after_less : (b : ℕ) (a : Arcs) (lo hi : ℕ → ℕ) (i j x c cost : ℕ) (t : List ℕ)
    → HasReachedAfter b a lo hi i j x t c → HasReachedAfter b a lo hi i j x (set t (c + 1) cost) (c + 1)
after_less b a lo hi i j x c cost t f k from to = let ne : k ≢ c + 1 = omega arith in
    rw get_or-set_other (f k (omega arith) to)

-- the first place of a row, to which V alone leads
pub entered : (b : ℕ) (a : Arcs) (lo hi : ℕ → ℕ) (i j x c v : ℕ) (t : List ℕ) → c < length t → i ≤ x
    → c ≡ max (lo (x + 1)) j → lo x ≤ lo (x + 1) → c ≤ hi x → v ≡ a x c V → v ≤ b → HasReached b a lo hi i j x t (hi x)
    → HasReached b a lo hi i j (x + 1) (set t c (get_or t c 0 + v)) c
    × HasReachedAfter b a lo hi i j x (set t c (get_or t c 0 + v)) c
entered b a lo hi i j x c v t lt le is sinks within cost small f = (here, rest)
  where
    by : (lo (x + 1) < j) ⊎ (j ≤ lo (x + 1)) → (c ≡ j) ⊎ (c ≤ lo (x + 1))
    by (inl less) = inl (omega arith)
    by (inr more) = inr (omega arith)

    here : HasReached b a lo hi i j (x + 1) (set t c (get_or t c 0 + v)) c
    here k from to =
        let d : k ≡ c = omega arith in
        rw (d, get_or-set_same) (reach_down b a lo hi i j x c (get_or t c 0) v le (omega arith)
        (by (cases_lt (lo (x + 1)) j)) cost small (f c (omega arith) within))

    rest : HasReachedAfter b a lo hi i j x (set t c (get_or t c 0 + v)) c
    rest k from to = let ne : k ≢ c = omega arith in rw get_or-set_other (f k (omega arith) to)

-- the first place of all
pub begun : (b : ℕ) (a : Arcs) (lo hi : ℕ → ℕ) (i j : ℕ) (t : List ℕ) → j < length t
    → HasReached b a lo hi i j i (set t j 0) j
begun b a lo hi i j t lt k from to = let d : k ≡ j = omega arith in rw (d, get_or-set_same) (reach_start b a lo hi i j)

-- the same for an equal strip and row
pub reached_at : (most : ℕ) (p q : Strip) (lo hi : ℕ → ℕ) (i j x y : ℕ) (costs : List ℕ) (last last' : ℕ) → p ≡ q
    → x ≡ y → last ≤ last' → HasReached (largest most q) (arcs q) lo hi i j y costs last'
    → HasReached (largest most p) (arcs p) lo hi i j x costs last
reached_at most p q lo hi i j x y costs last last' e f le g k from to =
    subst₂ (λ (s : Strip) (r : ℕ). IsPlaceCost (largest most s) (arcs s) lo hi r k i j (get_or costs k 0)) (sym e)
    (sym f) (g k (omega (arith, from, ap lo f)) (omega arith))

-- the cost at the end of one more row
pub ends_first : (b : ℕ) (a : Arcs) (lo hi : ℕ → ℕ) (i j n : ℕ) (sums ends : List ℕ) (v : ℕ) → v ≡ get_or sums n 0
    → i < length ends → max (lo i) j ≤ hi i → HasReached b a lo hi i j i sums (hi i)
    → HasEnds a lo hi i j n i (set ends i v)
ends_first b a lo hi i j n sums ends v v-is lt some f y from to is =
    let d : y ≡ i = omega arith in
    rw (d, get_or-set_same, v-is) (f n (omega (arith, some, is, ap hi d)) (omega (arith, is, ap hi d))).regional

pub ends_more : (b : ℕ) (a : Arcs) (lo hi : ℕ → ℕ) (i j n x : ℕ) (sums ends : List ℕ) (v : ℕ) → v ≡ get_or sums n 0
    → x + 1 < length ends → max (lo (x + 1)) j ≤ hi (x + 1) → HasReached b a lo hi i j (x + 1) sums (hi (x + 1))
    → HasEnds a lo hi i j n x ends
    → HasEnds a lo hi i j n (x + 1) (set ends (x + 1) v)
ends_more b a lo hi i j n x sums ends v v-is lt some f g y from to is = by (cases_lt y (x + 1))
  where
    by : (y < x + 1) ⊎ (x + 1 ≤ y) → IsRegional a lo hi i j (y - i) (n - j) (get_or (set ends (x + 1) v) y 0)
    by (inl less) = let ne : y ≢ x + 1 = omega arith in rw get_or-set_other (g y from (omega arith) is)
    by (inr same) =
        let d : y ≡ x + 1 = omega arith in
        rw (d, get_or-set_same, v-is) (f n (omega (arith, some, is, ap hi d)) (omega (arith, is, ap hi d))).regional

-- the area of one more row
pub area_one : (lo hi : ℕ → ℕ) (i : ℕ) → area lo hi i (i + 1 - i) ≡ hi i + 1 - lo i
area_one lo hi i =
    let e : i + 1 - i ≡ suc zero = omega arith in
    let d : i + 0 ≡ i = omega arith in
    rw e (omega (arith, ap (λ (y : ℕ). hi y + 1 - lo y) d))

pub area_next : (lo hi : ℕ → ℕ) (i x : ℕ) → i ≤ x
    → area lo hi i (x + 1 + 1 - i) ≡ area lo hi i (x + 1 - i) + (hi (x + 1) + 1 - lo (x + 1))
area_next lo hi i x le =
    let e : x + 1 + 1 - i ≡ suc (x + 1 - i) = omega arith in
    let d : i + (x + 1 - i) ≡ x + 1 = omega arith in
    rw e (omega (arith, ap (λ (y : ℕ). hi y + 1 - lo y) d))
