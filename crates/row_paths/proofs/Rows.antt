-- A region's rows are filled place by place, from right to left.
use Rattle.std.proofs.Common.{◌≡◌, ◌≢◌, ℕ, ◌+◌, ◌-◌, ◌*◌, ◌<◌, ◌≤◌, min, Bool, true, false, leb, List, length, get_or, set, get_or-set_other, get_or-set_same, mul-le-mul_right, refl, ap, ap₂, sym, subst, subst₂, arith, ◌⊎◌, inl, inr}
use Rattle.std.proofs.lemmas.Bool.{cases_lt}
use Rattle.std.proofs.lemmas.Bool.Decides.{nat_tests}
use Rattle.strip_graph.specs.declared.tilings.Step.TheVariants.{V, H}
use Rattle.strip_graph.specs.Words.{Arcs}
use Rattle.strip_graph.specs.Strips.{Strip, arcs, rows, cols}
use Rattle.row_paths.specs.Counts.{area}
use Rattle.row_paths.specs.StripCosts.{largest}
use Rattle.row_paths.specs.Searches.{IsRegion, IsPlaceCost, IsWay, HasCosts, HasCostsBefore, HasWays, IsSameBut, HasAllWays}
use Rattle.row_paths.proofs.Counting.{area-more}
use Rattle.row_paths.proofs.Places.{place_end, place_down, place_right, place_both, leads_down, leads_right, leads_by_cost, cost_fits}

-- a row of a region is not empty
pub row_some : (lo hi : ℕ → ℕ) (n end x : ℕ) → IsRegion lo hi n end → lo x ≤ hi x
row_some lo hi n end x r = omega (arith, r.sinks x, r.joined x)

-- a place of a table with rows of n + 1
pub place_is : (x c w n : ℕ) → w ≡ n → x * (w + 1) + c ≡ x * (n + 1) + c
place_is x c w n e = ap (λ (k : ℕ). x * (k + 1) + c) e

pub place_fits : (x end c w n len : ℕ) → w ≡ n → x ≤ end → c ≤ n → (end + 1) * (n + 1) ≤ len → x * (w + 1) + c < len
place_fits x end c w n len e le lec fits =
    omega (arith, place_is x c w n e, mul-le-mul_right (n + 1) (more x end le), fits)
  where
    more : (x end : ℕ) → x ≤ end → x + 1 ≤ end + 1
    more x end le = omega arith

-- a row is filled from a column on: the cost there, all costs and ways from there on, and the other rows' ways as
-- before
pub record IsFilledFrom (b : ℕ) (a : Arcs) (lo hi : ℕ → ℕ) (end n x : ℕ) (row : List ℕ) (old new : List Bool)
    (col cost : ℕ) : Type 0 where
  pub cost_is : get_or row col 0 ≡ cost
  pub costs : HasCosts b a lo hi end n x row col
  pub ways : HasWays a lo hi end n x new col
  pub rest : IsSameBut n x old new

-- one more place
costs_more : (b : ℕ) (a : Arcs) (lo hi : ℕ → ℕ) (end n x c cost : ℕ) (t : List ℕ) → c < length t
    → HasCosts b a lo hi end n x t (c + 1) → IsPlaceCost b a lo hi end n x c cost
    → HasCosts b a lo hi end n x (set t c cost) c
costs_more b a lo hi end n x c cost t lt f p k from to = by (cases_lt c k)
  where
    by : (c < k) ⊎ (k ≤ c) → IsPlaceCost b a lo hi end n x k (get_or (set t c cost) k 0)
    by (inl more) = let ne : k ≢ c = omega arith in rw get_or-set_other (f k (omega arith) to)
    by (inr same) = let d : k ≡ c = omega arith in rw (d, get_or-set_same) p

ways_more : (a : Arcs) (lo hi : ℕ → ℕ) (end n x c at : ℕ) (way : Bool) (t : List Bool) → at ≡ x * (n + 1) + c
    → at < length t → HasWays a lo hi end n x t (c + 1) → IsWay a lo hi end n x c way
    → HasWays a lo hi end n x (set t at way) c
ways_more a lo hi end n x c at way t e fits f p k from to = by (cases_lt c k)
  where
    by : (c < k) ⊎ (k ≤ c) → IsWay a lo hi end n x k (get_or (set t at way) (x * (n + 1) + k) false)
    by (inl more) = let ne : x * (n + 1) + k ≢ at = omega arith in rw get_or-set_other (f k (omega arith) to)
    by (inr same) =
        let d : k ≡ c = omega arith in
        let i : x * (n + 1) + k ≡ at = omega (arith, d) in
        let here : get_or (set t at way) at false ≡ way = get_or-set_same t at way false fits in
        rw (i, d, here) p

same_more : (n x c at : ℕ) (way : Bool) (t t' : List Bool) → at ≡ x * (n + 1) + c → c ≤ n → IsSameBut n x t t'
    → IsSameBut n x t (set t' at way)
same_more n x c at way t t' e le s k out = let ne : k ≢ at = other out in rw get_or-set_other (s k out)
  where
    other : (k < x * (n + 1)) ⊎ ((x + 1) * (n + 1) ≤ k) → k ≢ at
    other (inl lt) = omega arith
    other (inr ge) = omega arith

pub filled_more : (b : ℕ) (a : Arcs) (lo hi : ℕ → ℕ) (end n x c at cost cost' : ℕ) (way : Bool) (costs : List ℕ)
    (ways ways' : List Bool) → c < length costs → at ≡ x * (n + 1) + c → at < length ways' → c ≤ n
    → IsFilledFrom b a lo hi end n x costs ways ways' (c + 1) cost → IsPlaceCost b a lo hi end n x c cost'
    → IsWay a lo hi end n x c way → IsFilledFrom b a lo hi end n x (set costs c cost') ways (set ways' at way) c cost'
filled_more b a lo hi end n x c at cost cost' way costs ways ways' lt e fits le f p q = record {
  cost_is = get_or-set_same costs c cost' 0 lt;
  costs = costs_more b a lo hi end n x c cost' costs lt f.costs p;
  ways = ways_more a lo hi end n x c at way ways' e fits f.ways q;
  rest = same_more n x c at way ways ways' e le f.rest;
}

-- one more place from which H alone leads on, and one from which both letters do
pub filled_right : (b : ℕ) (a : Arcs) (lo hi : ℕ → ℕ) (end n x c at cost v : ℕ) (costs : List ℕ)
    (ways ways' : List Bool) → c < length costs → at ≡ x * (n + 1) + c → at < length ways' → c < hi x → hi x ≤ n
    → (x ≡ end) ⊎ (c < lo (x + 1)) → v ≡ a x c H → v ≤ b
    → IsFilledFrom b a lo hi end n x costs ways ways' (c + 1) cost
    → IsFilledFrom b a lo hi end n x (set costs c (cost + v)) ways (set ways' at false) c (cost + v)
filled_right b a lo hi end n x c at cost v costs ways ways' lt e fits to within shut is small f =
    filled_more b a lo hi end n x c at cost (cost + v) false costs ways ways' lt e fits (omega arith) f
    (place_right b a lo hi end n x c cost v (omega arith) shut is small
    (subst (IsPlaceCost b a lo hi end n x (c + 1)) f.cost_is (f.costs (c + 1) (omega arith) (omega arith))))
    (λ left. leads_right a lo hi end n x c (omega arith) shut)

pub filled_both : (b : ℕ) (a : Arcs) (lo hi : ℕ → ℕ) (end n x c at cost u v y z : ℕ) (way : Bool) (costs : List ℕ)
    (ways ways' : List Bool) → c < length costs → at ≡ x * (n + 1) + c → at < length ways' → x < end → c < hi x
    → hi x ≤ n
    → y ≡ a x c V → y ≤ b → z ≡ a x c H → z ≤ b → IsPlaceCost b a lo hi end n (x + 1) c u → v ≡ min (u + y) (cost + z)
    → way ≡ leb (u + y) (cost + z)
    → IsFilledFrom b a lo hi end n x costs ways ways' (c + 1) cost
    → IsFilledFrom b a lo hi end n x (set costs c v) ways (set ways' at way) c v
filled_both b a lo hi end n x c at cost u v y z way costs ways ways' lt e fits above to within is small is' small' below
    v-is way-is f =
    filled_more b a lo hi end n x c at cost v way costs ways ways' lt e fits (omega arith) f
    (subst (IsPlaceCost b a lo hi end n x c) (sym v-is)
    (place_both b a lo hi end n x c u cost y z above (omega arith) is small is' small' below right))
    (by way way-is)
  where
    right : IsPlaceCost b a lo hi end n x (c + 1) cost
    right = subst (IsPlaceCost b a lo hi end n x (c + 1)) f.cost_is (f.costs (c + 1) (omega arith) (omega arith))

    by : (b : Bool) → b ≡ leb (u + y) (cost + z) → IsWay a lo hi end n x c b
    by true d = (leads_by_cost b a lo hi end n x c u cost y z above (omega arith) is is' below right).0
        (grind (arith, nat_tests))
    by false d = λ left. (leads_by_cost b a lo hi end n x c u cost y z above (omega arith) is is' below right).1
        (grind (arith, nat_tests))

-- the cost of the next place fits
pub filled_fits : (most : ℕ) (p : Strip) (a : Arcs) (lo hi : ℕ → ℕ) (end n x col cost v : ℕ) (row : List ℕ)
    (old new : List Bool) → end < 2 * rows p → n ≤ cols p → col ≤ hi x → v ≤ largest most p
    → IsFilledFrom (largest most p) a lo hi end n x row old new col cost
    → cost + v ≤ most
filled_fits most p a lo hi end n x col cost v row old new few narrow to small f =
    cost_fits most p a lo hi end n x col cost v few narrow small
    (subst (IsPlaceCost (largest most p) a lo hi end n x col) f.cost_is (f.costs col (omega arith) to))

-- a column may be written in another way
pub filled_at : (b : ℕ) (a : Arcs) (lo hi : ℕ → ℕ) (end n x col col' cost : ℕ) (row : List ℕ) (old new : List Bool)
    → col ≡ col' → IsFilledFrom b a lo hi end n x row old new col cost
    → IsFilledFrom b a lo hi end n x row old new col' cost
filled_at b a lo hi end n x col col' cost row old new e f =
    subst (λ (c : ℕ). IsFilledFrom b a lo hi end n x row old new c cost) e f

-- the place of a row that is read
pub place_of : (x x' c w n : ℕ) → x' ≡ x → w ≡ n → x' * (w + 1) + c ≡ x * (n + 1) + c
place_of x x' c w n e f = ap₂ (λ (k l : ℕ). k * (l + 1) + c) e f

-- the costs of the row below that are still in the list
pub before_less : (b : ℕ) (a : Arcs) (lo hi : ℕ → ℕ) (end n x c cost last : ℕ) (t : List ℕ) → c ≤ last
    → HasCostsBefore b a lo hi end n x t last → HasCostsBefore b a lo hi end n x (set t c cost) c
before_less b a lo hi end n x c cost last t le f k from to = let ne : k ≢ c = omega arith in
    rw get_or-set_other (f k from (omega arith))

-- the last place of a row, from which V alone leads on
pub record IsGoneDown (b : ℕ) (a : Arcs) (lo hi : ℕ → ℕ) (end n x : ℕ) (row : List ℕ) (old new : List Bool) : Type 0
  where
    pub below : HasCostsBefore b a lo hi end n (x + 1) row (hi x)
    pub costs : HasCosts b a lo hi end n x row (hi x)
    pub ways : HasWays a lo hi end n x new (hi x)
    pub rest : IsSameBut n x old new

pub gone_down : (b : ℕ) (a : Arcs) (lo hi : ℕ → ℕ) (end n x c at v : ℕ) (costs : List ℕ) (ways : List Bool) → c ≡ hi x
    → c < length costs → at ≡ x * (n + 1) + c → at < length ways → x < end → c ≤ n → hi x ≤ hi (x + 1)
    → lo (x + 1) ≤ hi x → v ≡ a x c V → v ≤ b
    → HasCosts b a lo hi end n (x + 1) costs (lo (x + 1))
    → IsGoneDown b a lo hi end n x (set costs c (get_or costs c 0 + v)) ways (set ways at true)
gone_down b a lo hi end n x c at v costs ways is lt e fits above le rises joined cost small f = record {
  below = λ k from to. let ne : k ≢ c = omega (arith, is) in rw get_or-set_other (f k from (omega (arith, to, rises)));
  costs = λ k from to. costs_more b a lo hi end n x c (get_or costs c 0 + v) costs lt
      (λ l p q. absurd (omega (arith, is)))
      (place_down b a lo hi end n x c (get_or costs c 0) v above (omega (arith, is)) cost small
      (f c (omega (arith, is, joined)) (omega (arith, is, rises)))) k (omega (arith, is, from)) to;
  ways = λ k from to. ways_more a lo hi end n x c at true ways e fits (λ l p q. absurd (omega (arith, is, p, q)))
      (leads_down a lo hi end n x c above (omega (arith, is))) k (omega (arith, is, from)) to;
  rest = same_more n x c at true ways ways e le (λ k out. refl);
}

-- the last place of all
pub ended : (b : ℕ) (a : Arcs) (lo hi : ℕ → ℕ) (end n x at : ℕ) (costs : List ℕ) (ways : List Bool) → x ≡ end → hi x ≡ n
    → n < length costs → at ≡ x * (n + 1) + n → at < length ways → HasCosts b a lo hi end n x (set costs n 0) n
    × HasWays a lo hi end n x (set ways at false) n
ended b a lo hi end n x at costs ways is last lt e fits = (
  costs_more b a lo hi end n x n 0 costs lt (λ l p q. absurd (omega (arith, last)))
      (place_end b a lo hi end n x n is refl),
  ways_more a lo hi end n x n at false ways e fits (λ l p q. absurd (omega (arith, last, p, q)))
      (λ left. absurd (omega (arith, is, left))),
)

-- one more row
pub rows_more : (a : Arcs) (lo hi : ℕ → ℕ) (end n x : ℕ) (t t' : List Bool) → x ≤ end → ((k : ℕ) → hi k ≤ n)
    → IsSameBut n x t t' → HasWays a lo hi end n x t' (lo x) → HasAllWays a lo hi end n t (x + 1)
    → HasAllWays a lo hi end n t' x
rows_more a lo hi end n x t t' le within s here below y from to = by (cases_lt x y)
  where
    by : (x < y) ⊎ (y ≤ x) → HasWays a lo hi end n y t' (lo y)
    by (inl lt) = λ c p q. subst (IsWay a lo hi end n y c) (sym (s (y * (n + 1) + c) (inr (past y lt c))))
        (below y (omega arith) to c p q)
      where
        past : (y : ℕ) → x < y → (c : ℕ) → (x + 1) * (n + 1) ≤ y * (n + 1) + c
        past y lt c = grind arith
    by (inr ge) = let e : x ≡ y = omega arith in subst (λ (k : ℕ). HasWays a lo hi end n k t' (lo k)) e here

-- the area of a row and of those below it
pub area_up : (lo hi : ℕ → ℕ) (x k : ℕ) → area lo hi x (k + 1) ≡ (hi x + 1 - lo x) + area lo hi (x + 1) k
area_up lo hi x k =
    let e : k + 1 ≡ 1 + k = omega arith in
    let d : x + 0 ≡ x = omega arith in
    rw e (omega (arith, area-more lo hi x 1 k, ap (λ (y : ℕ). hi y + 1 - lo y) d))

-- the same rows of an equal strip
pub costs_at : (most : ℕ) (p q : Strip) (lo hi : ℕ → ℕ) (end n x y : ℕ) (costs : List ℕ) → p ≡ q → x ≡ y
    → HasCosts (largest most q) (arcs q) lo hi end n y costs (lo y)
    → HasCosts (largest most p) (arcs p) lo hi end n x costs (lo x)
costs_at most p q lo hi end n x y costs e f =
    subst₂ (λ (s : Strip) (k : ℕ). HasCosts (largest most s) (arcs s) lo hi end n k costs (lo k)) (sym e) (sym f)

ways_at : (p q : Strip) (lo hi : ℕ → ℕ) (end n x y : ℕ) (ways : List Bool) → p ≡ q → x ≡ y
    → HasWays (arcs q) lo hi end n y ways (lo y) → HasWays (arcs p) lo hi end n x ways (lo x)
ways_at p q lo hi end n x y ways e f =
    subst₂ (λ (s : Strip) (k : ℕ). HasWays (arcs s) lo hi end n k ways (lo k)) (sym e) (sym f)

pub filled_end : (most : ℕ) (p q : Strip) (lo hi : ℕ → ℕ) (end n x : ℕ) (costs : List ℕ) (ways : List Bool) → p ≡ q
    → x ≡ end → HasCosts (largest most q) (arcs q) lo hi end n end costs (lo end)
    → HasWays (arcs q) lo hi end n end ways (lo end)
    → HasCosts (largest most p) (arcs p) lo hi end n x costs (lo x) × HasAllWays (arcs p) lo hi end n ways x
filled_end most p q lo hi end n x costs ways e f g h =
    (costs_at most p q lo hi end n x end costs e f g, λ y from to. ways_at p q lo hi end n y end ways e (omega arith) h)

pub filled_row : (most : ℕ) (p q : Strip) (lo hi : ℕ → ℕ) (end n x y z : ℕ) (costs : List ℕ) (ways ways' : List Bool)
    → p ≡ q → x ≡ y → z ≡ x + 1 → x ≤ end → ((k : ℕ) → hi k ≤ n)
    → HasCosts (largest most q) (arcs q) lo hi end n y costs (lo y)
    → HasWays (arcs q) lo hi end n y ways' (lo y) → IsSameBut n y ways ways' → HasAllWays (arcs p) lo hi end n ways z
    → HasCosts (largest most p) (arcs p) lo hi end n x costs (lo x) × HasAllWays (arcs p) lo hi end n ways' x
filled_row most p q lo hi end n x y z costs ways ways' e f d le within g h s all = (
  costs_at most p q lo hi end n x y costs e f g,
  rows_more (arcs p) lo hi end n x ways ways' le within (subst (λ (k : ℕ). IsSameBut n k ways ways') (sym f) s)
      (ways_at p q lo hi end n x y ways' e f h) (subst (HasAllWays (arcs p) lo hi end n ways) d all),
)
