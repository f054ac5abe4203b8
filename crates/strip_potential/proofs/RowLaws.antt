-- Rows of potentials: their values are not large, each follows from earlier ones, and the rows follow one another.
use Rattle.std.proofs.Common.{◌≡◌, ℕ, ◌+◌, ◌-◌, ◌*◌, ◌/◌, ◌%◌, ◌^◌, ◌<◌, ◌≤◌, ◌++◌, ℤ, pos, ◌+ℤ◌, unsigned_abs, List, length, All, get_or, length-append, ap, ap₂, sym, subst, ◌∙◌, mul-le-mul_right, arith, inl, inr}
use Rattle.std.proofs.lemmas.Bool.{cases_lt}
use Rattle.std.proofs.lemmas.Int.{ints, clamps}
use Rattle.std.proofs.lemmas.Nat.{mul-add-lt, div_below, mod_below, div-add-mod'}
use Rattle.std.proofs.lemmas.List.{get_or_append_left, get_or-append-add}
use Rattle.std.proofs.lemmas.List.Elements.{All-from_get_or}
use Rattle.std.specs.Int.{int_min}
use Rattle.fku_types.specs.declared.limits.TheConstants.{MAX_COMPOSITE_VERTICES}
use Rattle.strip_graph.specs.declared.tilings.Step.{Step}
use Rattle.strip_graph.specs.declared.tilings.Step.TheVariants.{V, H}
use Rattle.strip_graph.specs.Strips.{Strip, IsStrip, arcs, rows, cols, step_cost_limit}
use Rattle.strip_graph.specs.Certificates.{value_at, Certifies}
use Rattle.strip_graph.proofs.Bounds.{arcs-le}
use Rattle.strip_graph.proofs.PotentialSweep.{potential-first, potential-along, potential-down_start, potential-down, potential-both}
use Rattle.strip_graph.proofs.PotentialCertificates.{potential-small, potential_certifies}
use Rattle.row_paths.specs.Solutions.{Solution, AreOffsets, Solves}
use Rattle.strip_potential.specs.Rows.{potential_at, HasRow, HasRows}

few : (s : Strip) → IsStrip s → (4 * rows s + 2 * cols s) * step_cost_limit ≤ 6 * MAX_COMPOSITE_VERTICES *
    step_cost_limit
few s p = mul-le-mul_right step_cost_limit (short (rows s) (cols s) p.low.few p.high.few)
  where
    short : (m n : ℕ) → m ≤ MAX_COMPOSITE_VERTICES → n ≤ MAX_COMPOSITE_VERTICES
        → 4 * m + 2 * n ≤ 6 * MAX_COMPOSITE_VERTICES
    short m n b d = omega arith

-- the potential at a place of the strip is not large
pub potential_small : (s : Strip) (r c : ℕ) → IsStrip s → r < 2 * rows s → c ≤ cols s
    → unsigned_abs (potential_at s r c) ≤ 6 * MAX_COMPOSITE_VERTICES * step_cost_limit
potential_small s r c p lt le = omega (
  arith,
  few s p,
  potential-small (arcs s) (rows s) (cols s) step_cost_limit r c (arcs-le s p)
      (omega (arith, p.low.enough)) lt le,
)

-- the first value, and the next one along row 0
pub value_first : (s : Strip) → IsStrip s → potential_at s 0 0 ≡ pos 0
value_first s p = potential-first (arcs s) (rows s) (cols s) (omega (arith, p.low.enough))

pub value_along : (s : Strip) (c : ℕ) → IsStrip s → 0 < c
    → potential_at s 0 c ≡ potential_at s 0 (c - 1) +ℤ pos (arcs s 0 (c - 1) H)
value_along s c p lt =
    let e : c ≡ c - 1 + 1 = omega arith in
    ap (potential_at s 0) e ∙ potential-along (arcs s) (rows s) (cols s) (c - 1) (omega (arith, p.low.enough))

-- the first value of the next row, from the offsets
pub value_down : (s : Strip) (r : ℕ) (v x : ℤ) (offsets : List ℤ) → IsStrip s
    → AreOffsets (arcs s) (rows s) (cols s) (rows s) offsets → v ≡ potential_at s r 0 +ℤ pos (arcs s r 0 V)
    → (r + 1 < length offsets → x ≡ int_min v (get_or offsets (r + 1) (pos 0))) → (length offsets ≤ r + 1 → x ≡ v)
    → x ≡ potential_at s (r + 1) 0
value_down s r v x offsets p o is own none =
    elim (cases_lt (r + 1) (rows s)) [
      | inl lt ↦ omega (
        arith,
        ints,
        clamps,
        own (omega (arith, o.count)),
        o.are (r + 1) lt,
        is,
        potential-down_start (arcs s) (rows s) (cols s) r lt,
      )
      | inr ge ↦ omega (
        arith,
        ints,
        none (omega (arith, o.count)),
        is,
        potential-down (arcs s) (rows s) (cols s) r (omega (arith, p.low.enough)) (omega arith),
      )
    ]

-- each other value of the next row
pub value_both : (s : Strip) (r c : ℕ) → IsStrip s → 0 < c
    → potential_at s (r + 1) c ≡ int_min (potential_at s r c +ℤ pos (arcs s r c V))
    (potential_at s (r + 1) (c - 1) +ℤ pos (arcs s (r + 1) (c - 1) H))
value_both s r c p lt =
    let e : c ≡ c - 1 + 1 = omega arith in
    let both = potential-both (arcs s) (rows s) (cols s) r (c - 1) (omega (arith, p.low.enough)) in
    subst (λ (k : ℕ). potential_at s (r + 1) k
    ≡ int_min (potential_at s r k +ℤ pos (arcs s r k V))
    (potential_at s (r + 1) (c - 1) +ℤ pos (arcs s (r + 1) (c - 1) H))) (sym e) both

pub rows_more : (s : Strip) (k : ℕ) (values pi : List ℤ) → HasRow s k values → HasRows s k pi
    → HasRows s (k + 1) (pi ++ values)
rows_more s k values pi row done =
    record { count = omega (arith, length-append pi values, done.count, row.count, rows_add k (cols s)); are = at }
  where
    rows_add : (k n : ℕ) → (k + 1) * (n + 1) ≡ k * (n + 1) + (n + 1)
    rows_add k n = grind arith

    at : (r c : ℕ) → r < k + 1 → c ≤ cols s → value_at (cols s) (pi ++ values) r c ≡ potential_at s r c
    at r c lt le =
        elim (cases_lt r k) [
          | inl less ↦ get_or_append_left pi values (pos 0) (r * (cols s + 1) + c)
              (omega (arith, done.count, mul-add-lt r (cols s + 1) c k less (omega arith))) ∙ done.are r c less le
          | inr ge ↦ (let e : r ≡ k = omega arith in
              let place : r * (cols s + 1) + c ≡ length pi + c =
              omega (arith, done.count, ap (λ (x : ℕ). x * (cols s + 1)) e) in
              ap (λ (x : ℕ). get_or (pi ++ values) x (pos 0)) place ∙ get_or-append-add pi values c (pos 0)
              ∙ row.are c le ∙ ap (λ (x : ℕ). potential_at s x c) (sym e))
        ]

-- no value of any row is large
pub rows_small : (s : Strip) (pi : List ℤ) → IsStrip s → HasRows s (2 * rows s) pi
    → All (λ v. unsigned_abs v < 10 ^ 35) pi
rows_small s pi p done =
    All-from_get_or (λ (v : ℤ). unsigned_abs v < 10 ^ 35) pi (pos 0) (λ k lt. omega (
      arith,
      at (k / (cols s + 1)) (k % (cols s + 1))
          (div_below k (cols s + 1) (2 * rows s) (omega arith) (omega (arith, done.count, lt)))
          (omega (arith, mod_below k (cols s + 1))),
      ap (λ (x : ℕ). unsigned_abs (get_or pi x (pos 0))) (div-add-mod' k (cols s + 1)),
    ))
  where
    at : (r c : ℕ) → r < 2 * rows s → c ≤ cols s → unsigned_abs (value_at (cols s) pi r c) < 10 ^ 35
    at r c lt le = omega (arith, ap unsigned_abs (done.are r c lt le), potential_small s r c p lt le)

-- with the solution they make a valid certificate
pub rows_certify : (s : Strip) (pi : List ℤ) (t : Solution) → IsStrip s → Solves s t → HasRows s (2 * rows s) pi
    → Certifies (arcs s) (rows s) (cols s) (rows s) (cols s) t.cost t.row t.word pi
rows_certify s pi t p k done =
    subst (λ (x : ℤ). Certifies (arcs s) (rows s) (cols s) (rows s) (cols s) x t.row t.word pi) (sym k.cost)
    (potential_certifies (arcs s) (rows s) (cols s) step_cost_limit pi t.row t.word k.chosen.least (arcs-le s p)
    (omega (arith, few s p)) done.count done.are)

-- a step's cost is that of an equal strip and an equal row
pub cost_at : (p q : Strip) (i i' j : ℕ) (t : Step) → p ≡ q → i ≡ i' → arcs p i j t ≡ arcs q i' j t
cost_at p q i i' j t e f = ap₂ (λ (s : Strip) (x : ℕ). arcs s x j t) e f
