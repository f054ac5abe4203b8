-- Offsets, in order.
use Rattle.std.proofs.Common.{◌≡◌, ℕ, ◌+◌, ◌-◌, ◌*◌, ◌/◌, ◌^◌, ◌<◌, ◌≤◌, ℤ, pos, unsigned_abs, List, [], ◌∷◌, ◌++◌, length, get_or, ap, ap₂, ◌∙◌, arith, ◌⊎◌, inl, inr, mul-le-mul_right}
use Rattle.std.proofs.lemmas.Bool.{cases_lt}
use Rattle.std.proofs.lemmas.List.{get_or_append_left, get_or_push, length_push}
use Rattle.fku_types.specs.declared.limits.TheConstants.{MAX_COMPOSITE_VERTICES}
use Rattle.strip_graph.specs.Words.{Arcs}
use Rattle.strip_graph.specs.Strips.{Strip, IsStrip, arcs, rows, cols, step_cost_limit}
use Rattle.strip_graph.specs.Distances.{distance, turn_cost, offset}
use Rattle.strip_graph.proofs.Bounds.{arcs-le, distance-below}
use Rattle.strip_graph.proofs.PotentialCertificates.{offset-small}
use Rattle.row_paths.specs.Turns.{start_of, end_of, cost_of}
use Rattle.row_paths.specs.Solutions.{AreOffsets}

-- the words of the turns from row l to the next row, and from the next row to itself
pub cost_to_next : (a : Arcs) (m n l : ℕ) → cost_of a m n (2 * l + 1) ≡ turn_cost a m n l (l + 1)
cost_to_next a m n l =
    let e : (2 * l + 1) / 2 ≡ l = omega arith in
    let f : end_of m (2 * l + 1) - start_of (2 * l + 1) ≡ l + 1 + m - l = omega arith in
    ap₂ (λ (x y : ℕ). distance a x 0 y n) e f

pub cost_at_next : (a : Arcs) (m n l : ℕ) → cost_of a m n (2 * l + 2) ≡ turn_cost a m n (l + 1) (l + 1)
cost_at_next a m n l =
    let e : (2 * l + 2) / 2 ≡ l + 1 = omega arith in
    let f : end_of m (2 * l + 2) - start_of (2 * l + 2) ≡ l + 1 + m - (l + 1) = omega arith in
    ap₂ (λ (x y : ℕ). distance a x 0 y n) e f

pub cost_small : (s : Strip) (q : ℕ) → IsStrip s → cost_of (arcs s) (rows s) (cols s) q ≤ 2 ^ 120
cost_small s q p =
    omega (
      arith,
      distance-below (arcs s) step_cost_limit (arcs-le s p) (start_of q) 0 (end_of (rows s) q - start_of q) (cols s),
      mul-le-mul_right step_cost_limit (short q (rows s) (cols s) p.low.few p.high.few),
    )
  where
    short : (q m n : ℕ) → m ≤ MAX_COMPOSITE_VERTICES → n ≤ MAX_COMPOSITE_VERTICES → end_of m q - start_of q + n ≤ 2 ^ 14
    short q m n b d = omega arith

pub offset_below : (s : Strip) (l : ℕ) → IsStrip s → l < rows s
    → unsigned_abs (offset (arcs s) (rows s) (cols s) l) < 10 ^ 35
offset_below s l p lt =
    omega (
      arith,
      offset-small (arcs s) (rows s) (cols s) step_cost_limit l (arcs-le s p) lt,
      mul-le-mul_right step_cost_limit (short (rows s) (cols s) p.low.few p.high.few),
    )
  where
    short : (m n : ℕ) → m ≤ MAX_COMPOSITE_VERTICES → n ≤ MAX_COMPOSITE_VERTICES → 2 * m + n ≤ 12288
    short m n b d = omega arith

pub offset_fits : (s : Strip) (l : ℕ) → IsStrip s → l < rows s
    → unsigned_abs (offset (arcs s) (rows s) (cols s) l) ≤ 2 ^ 120
offset_fits s l p lt = omega (arith, offset_below s l p lt)

-- one more offset
pub offsets_more : (a : Arcs) (m n k : ℕ) (x : ℤ) (xs xs' : List ℤ) → xs' ≡ xs ++ x ∷ [] → x ≡ offset a m n k
    → AreOffsets a m n k xs → AreOffsets a m n (k + 1) xs'
offsets_more a m n k x xs xs' e is c = record {
  count = omega (arith, ap length e, length_push xs x, c.count);
  are = λ l lt. ap (λ (ys : List ℤ). get_or ys l (pos 0)) e ∙ at l (cases_lt l k) lt;
}
  where
    at : (l : ℕ) → (l < k) ⊎ (k ≤ l) → l < k + 1 → get_or (xs ++ x ∷ []) l (pos 0) ≡ offset a m n l
    at l (inl lt) le = get_or_append_left xs (x ∷ []) (pos 0) l (omega (arith, c.count)) ∙ c.are l lt
    at l (inr ge) le = let d : k ≡ l = omega arith in get_or_push xs x (pos 0) l (c.count ∙ d) ∙ is
        ∙ ap (offset a m n) d
