-- The costs of a region's places, by the steps that lead on from them.
use Rattle.std.proofs.Common.{◌∙◌, ◌≡◌, ℕ, ◌+◌, ◌-◌, ◌*◌, ◌<◌, ◌≤◌, min, List, length, get_or, refl, ap, sym, subst, subst₂, arith, ◌⊎◌, inl, inr}
use Rattle.strip_graph.specs.declared.tilings.Step.TheVariants.{V, H}
use Rattle.strip_graph.specs.Words.{Arcs}
use Rattle.strip_graph.specs.declared.tilings.Step.{Step}
use Rattle.strip_graph.specs.Distances.{IsFirst}
use Rattle.strip_graph.specs.Regions.{IsWithin, IsRegional, NoV, GoesV, GoesH}
use Rattle.strip_graph.proofs.Regional.{regional_end, regional_v, regional_h, regional_both, goes_v, goes_h, goes_by_cost}
use Rattle.strip_graph.specs.Strips.{Strip, rows, cols}
use Rattle.row_paths.specs.StripCosts.{largest}
use Rattle.row_paths.proofs.AmountLaws.{sum_fits}
use Rattle.row_paths.specs.Searches.{bound_at, IsPlaceCost, LeadsDown, LeadsRight}

-- a list's number within its length
pub bound_at-read : (xs : List ℕ) (x : ℕ) → x < length xs → bound_at xs x ≡ get_or xs x 0
bound_at-read xs x lt = let e : min x (length xs - 1) ≡ x = omega arith in ap (λ (k : ℕ). get_or xs k 0) e

-- the numbers of letters may be written in another way
pub regional_at : (a : Arcs) (lo hi : ℕ → ℕ) (x c r r' q q' cost : ℕ) → r ≡ r' → q ≡ q'
    → IsRegional a lo hi x c r q cost → IsRegional a lo hi x c r' q' cost
regional_at a lo hi x c r r' q q' cost e f = subst₂ (λ (k l : ℕ). IsRegional a lo hi x c k l cost) e f

pub place_end : (b : ℕ) (a : Arcs) (lo hi : ℕ → ℕ) (end n x c : ℕ) → x ≡ end → c ≡ n → IsPlaceCost b a lo hi end n x c 0
place_end b a lo hi end n x c e f =
    record {
      regional = regional_at a lo hi x c 0 (end - x) 0 (n - c) 0 (omega arith) (omega arith)
          (regional_end a lo hi x c);
      small = omega arith;
    }

pub place_down : (b : ℕ) (a : Arcs) (lo hi : ℕ → ℕ) (end n x c u v : ℕ) → x < end → hi x ≤ c → v ≡ a x c V → v ≤ b
    → IsPlaceCost b a lo hi end n (x + 1) c u → IsPlaceCost b a lo hi end n x c (u + v)
place_down b a lo hi end n x c u v lt last e small p = record {
  regional = subst (λ (k : ℕ). IsRegional a lo hi x c (end - x) (n - c) (u + k)) (sym e)
      (regional_at a lo hi x c (end - (x + 1) + 1) (end - x) (n - c) (n - c) (u + a x c V) (omega arith) refl
      (regional_v a lo hi x c (end - (x + 1)) (n - c) u p.regional (inr (λ k. omega (arith, k.to)))));
  small = (let d : end - x ≡ end - (x + 1) + 1 = omega arith in
      omega (arith, p.small, small, ap (λ (k : ℕ). (k + (n - c)) * b) d));
}

pub place_right : (b : ℕ) (a : Arcs) (lo hi : ℕ → ℕ) (end n x c u v : ℕ) → c < n → (x ≡ end) ⊎ (c < lo (x + 1))
    → v ≡ a x c H → v ≤ b → IsPlaceCost b a lo hi end n x (c + 1) u → IsPlaceCost b a lo hi end n x c (u + v)
place_right b a lo hi end n x c u v lt shut e small p = record {
  regional = subst (λ (k : ℕ). IsRegional a lo hi x c (end - x) (n - c) (u + k)) (sym e)
      (regional_at a lo hi x c (end - x) (end - x) (n - (c + 1) + 1) (n - c) (u + a x c H) refl (omega arith)
      (regional_h a lo hi x c (end - x) (n - (c + 1)) u p.regional (no_v shut)));
  small = (let d : n - c ≡ n - (c + 1) + 1 = omega arith in
      omega (arith, p.small, small, ap (λ (k : ℕ). (end - x + k) * b) d));
}
  where
    no_v : (x ≡ end) ⊎ (c < lo (x + 1)) → NoV lo hi x c (end - x)
    no_v (inl d) = inl (omega arith)
    no_v (inr out) = inr (λ k. omega (arith, k.from))

pub place_both : (b : ℕ) (a : Arcs) (lo hi : ℕ → ℕ) (end n x c u v y z : ℕ) → x < end → c < n → y ≡ a x c V → y ≤ b
    → z ≡ a x c H → z ≤ b → IsPlaceCost b a lo hi end n (x + 1) c u → IsPlaceCost b a lo hi end n x (c + 1) v
    → IsPlaceCost b a lo hi end n x c (min (u + y) (v + z))
place_both b a lo hi end n x c u v y z lt lt' e small f small' p q = record {
  regional = subst₂ (λ (k l : ℕ). IsRegional a lo hi x c (end - x) (n - c) (min (u + k) (v + l))) (sym e) (sym f)
      (regional_at a lo hi x c (end - (x + 1) + 1) (end - x) (n - (c + 1) + 1) (n - c) (min (u + a x c V) (v + a x c H))
      (omega arith) (omega arith)
      (regional_both a lo hi x c (end - (x + 1)) (n - (c + 1)) u v
      (regional_at a lo hi (x + 1) c (end - (x + 1)) (end - (x + 1)) (n - c) (n - (c + 1) + 1) u refl (omega arith)
      p.regional)
      (regional_at a lo hi x (c + 1) (end - x) (end - (x + 1) + 1) (n - (c + 1)) (n - (c + 1)) v (omega arith) refl
      q.regional)));
  small = (let d : end - x ≡ end - (x + 1) + 1 = omega arith in
      omega (arith, p.small, small, ap (λ (k : ℕ). (k + (n - c)) * b) d));
}

-- the numbers of letters may be written in another way
pub first_at : (a : Arcs) (i j r r' c c' : ℕ) (w : List Step) → r ≡ r' → c ≡ c' → IsFirst a i j r c w
    → IsFirst a i j r' c' w
first_at a i j r r' c c' w e f = subst₂ (λ (k l : ℕ). IsFirst a i j k l w) e f

-- only V leads on, and only H does
pub leads_down : (a : Arcs) (lo hi : ℕ → ℕ) (end n x c : ℕ) → x < end → hi x ≤ c → LeadsDown a lo hi end n x c
leads_down a lo hi end n x c lt last = record {
  row = lt;
  goes = λ w f k. goes_v a lo hi x c (end - (x + 1)) (n - c) w
      (first_at a x c (end - x) (end - (x + 1) + 1) (n - c) (n - c) w (omega arith) refl f) k
      (inr (λ q. omega (arith, q.to)));
}

pub leads_right : (a : Arcs) (lo hi : ℕ → ℕ) (end n x c : ℕ) → c < n → (x ≡ end) ⊎ (c < lo (x + 1))
    → LeadsRight a lo hi end n x c
leads_right a lo hi end n x c lt shut = record {
  col = lt;
  goes = λ w f k. goes_h a lo hi x c (end - x) (n - (c + 1)) w
      (first_at a x c (end - x) (end - x) (n - c) (n - (c + 1) + 1) w refl (omega arith) f) k (no_v shut);
}
  where
    no_v : (x ≡ end) ⊎ (c < lo (x + 1)) → NoV lo hi x c (end - x)
    no_v (inl d) = inl (omega arith)
    no_v (inr out) = inr (λ k. omega (arith, k.from))

-- both lead on: the costs decide
pub leads_by_cost : (b : ℕ) (a : Arcs) (lo hi : ℕ → ℕ) (end n x c u v y z : ℕ) → x < end → c < n → y ≡ a x c V
    → z ≡ a x c H → IsPlaceCost b a lo hi end n (x + 1) c u → IsPlaceCost b a lo hi end n x (c + 1) v
    → (u + y ≤ v + z → LeadsDown a lo hi end n x c) × (v + z < u + y → LeadsRight a lo hi end n x c)
leads_by_cost b a lo hi end n x c u v y z lt lt' e f p q = (
  (λ le. record {
    row = lt;
    goes = λ w g k. subst (λ (l : ℕ). GoesV a lo hi x c (end - (x + 1)) l w) last
        ((by w g k).0 (omega (arith, e, f, le)));
  }),
  (λ gt. record {
    col = lt';
    goes = λ w g k. subst (λ (l : ℕ). GoesH a lo hi x c l (n - (c + 1)) w) next
        ((by w g k).1 (omega (arith, e, f, gt)));
  }),
)
  where
    last : n - (c + 1) + 1 ≡ n - c
    last = omega arith

    next : end - (x + 1) + 1 ≡ end - x
    next = omega arith

    by : (w : List Step) → IsFirst a x c (end - x) (n - c) w → IsWithin lo hi x c w
        → (u + a x c V ≤ v + a x c H → GoesV a lo hi x c (end - (x + 1)) (n - (c + 1) + 1) w)
        × (v + a x c H < u + a x c V → GoesH a lo hi x c (end - (x + 1) + 1) (n - (c + 1)) w)
    by w g k =
        goes_by_cost a lo hi x c (end - (x + 1)) (n - (c + 1)) u v w
        (first_at a x c (end - x) (end - (x + 1) + 1) (n - c) (n - (c + 1) + 1) w (sym next) (sym last) g) k
        (regional_at a lo hi (x + 1) c (end - (x + 1)) (end - (x + 1)) (n - c) (n - (c + 1) + 1) u refl (sym last)
        p.regional)
        (regional_at a lo hi x (c + 1) (end - x) (end - (x + 1) + 1) (n - (c + 1)) (n - (c + 1)) v (sym next) refl
        q.regional)

-- a cost in a region of a strip, plus one step's cost, fits
pub cost_fits : (most : ℕ) (p : Strip) (a : Arcs) (lo hi : ℕ → ℕ) (end n x c u v : ℕ) → end < 2 * rows p → n ≤ cols p
    → v ≤ largest most p → IsPlaceCost (largest most p) a lo hi end n x c u → u + v ≤ most
cost_fits most p a lo hi end n x c u v few narrow small q =
    sum_fits most p (end - x) (n - c) u v (omega arith) q.small small

-- a bound that is read at a row
pub bound_read : (xs : List ℕ) (x x' : ℕ) → x' ≡ x → x + 1 < length xs → bound_at xs (x + 1) ≡ get_or xs (x' + 1) 0
bound_read xs x x' e lt = bound_at-read xs (x + 1) lt ∙ ap (λ (k : ℕ). get_or xs (k + 1) 0) (sym e)
