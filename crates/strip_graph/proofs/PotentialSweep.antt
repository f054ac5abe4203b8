-- The potential follows from its neighbours: the first place, the first row, the first column, and each other place.
use Rattle.std.proofs.Common.{◌≡◌, ℕ, ◌+◌, ◌-◌, ◌<◌, ◌≤◌, pos, ◌+ℤ◌, ◌≤ℤ◌, refl, ap, arith, ◌⊎◌, inl, inr}
use Rattle.std.proofs.lemmas.Bool.{cases_lt}
use Rattle.std.proofs.lemmas.Int.{ints, clamps}
use Rattle.std.specs.Int.{int_min}
use Rattle.strip_graph.specs.declared.tilings.Step.TheVariants.{V, H}
use Rattle.strip_graph.specs.Words.{Arcs}
use Rattle.strip_graph.specs.Distances.{distance, offset}
use Rattle.strip_graph.proofs.LeastWords.{distance-none}
use Rattle.strip_graph.specs.Potentials.{potential}
use Rattle.strip_graph.proofs.LastSteps.{last_step, LastV, LastH}
use Rattle.strip_graph.proofs.Potential.{potential-le, From, potential-reached, step_at, potential-step_v, potential-step_h}

-- where a potential comes from: the place above, the place to the left, or its own offset in column 0
record FromAbove (a : Arcs) (m n r c : ℕ) : Type 0 where
  before : ℕ
  rows : r ≡ before + 1
  value : (potential a m n before c +ℤ pos (a before c V)) ≤ℤ potential a m n r c

record FromLeft (a : Arcs) (m n r c : ℕ) : Type 0 where
  before : ℕ
  cols : c ≡ before + 1
  value : (potential a m n r before +ℤ pos (a r before H)) ≤ℤ potential a m n r c

record FromOffset (a : Arcs) (m n r c : ℕ) : Type 0 where
  row : r < m
  col : c ≡ 0
  value : offset a m n r ≤ℤ potential a m n r c

came : (a : Arcs) (m n r c : ℕ) → 0 < m → FromOffset a m n r c ⊎ (FromAbove a m n r c ⊎ FromLeft a m n r c)
came a m n r c some = at (cases_lt 0 (r - k.row + c))
  where
    k : From a m n r c
    k = potential-reached a m n r c some

    above : LastV a k.row 0 (r - k.row) c → FromAbove a m n r c
    above v =
        let q : ℕ = k.row + v.before in
        let e : q - k.row ≡ v.before = omega arith in
        record {
          before = q;
          rows = omega (arith, v.rows, k.above);
          value = omega (
            arith,
            ints,
            k.value,
            v.cost,
            potential-le a m n q c k.row k.below (omega arith),
            ap (λ (x : ℕ). distance a k.row 0 x c) e,
            (step_at a q (0 + c) q c refl (omega arith)).0,
          );
        }

    left : LastH a k.row 0 (r - k.row) c → FromLeft a m n r c
    left h = record {
      before = h.before;
      cols = h.cols;
      value = omega (
        arith,
        ints,
        k.value,
        h.cost,
        potential-le a m n r h.before k.row k.below k.above,
        (step_at a (k.row + (r - k.row)) (0 + h.before) r h.before (omega (arith, k.above)) (omega arith)).1,
      );
    }

    at : (0 < r - k.row + c) ⊎ (r - k.row + c ≤ 0) → FromOffset a m n r c ⊎ (FromAbove a m n r c ⊎ FromLeft a m n r c)
    at (inl lt) = elim (last_step a k.row 0 (r - k.row) c lt)
        [ inl v ↦ inr (inl (above v)) | inr h ↦ inr (inr (left h)) ]
    at (inr le) =
        let e : k.row ≡ r = omega (arith, k.above) in
        inl (record {
          row = omega (arith, k.below);
          col = omega arith;
          value =
              omega (arith, ints, k.value, ap (offset a m n) e);
        })

-- no potential is above its own offset
by_offset : (a : Arcs) (m n i : ℕ) → i < m → potential a m n i 0 ≤ℤ offset a m n i
by_offset a m n i lt =
    let e : i - i ≡ 0 = omega arith in
    omega (
      arith,
      ints,
      potential-le a m n i 0 i lt (omega arith),
      ap (λ (x : ℕ). distance a i 0 x 0) e,
      distance-none a i 0,
    )

-- the same facts where a row or a column is written in another way
same_row : (a : Arcs) (m n c q r : ℕ) → q ≡ r → (potential a m n q c ≡ potential a m n r c) × (a q c V ≡ a r c V)
same_row a m n c q r e = (ap (λ (x : ℕ). potential a m n x c) e, ap (λ (x : ℕ). a x c V) e)

same_col : (a : Arcs) (m n r q c : ℕ) → q ≡ c → (potential a m n r q ≡ potential a m n r c) × (a r q H ≡ a r c H)
same_col a m n r q c e = (ap (potential a m n r) e, ap (λ (x : ℕ). a r x H) e)

-- the sweep: the first place, the first row, the first column, and each other place
pub potential-first : (a : Arcs) (m n : ℕ) → 0 < m → potential a m n 0 0 ≡ pos 0
potential-first a m n some =
    elim (came a m n 0 0 some) [
      | inl f ↦ omega (arith, ints, f.value, by_offset a m n 0 some)
      | inr g ↦ elim g [ inl v ↦ absurd (omega (arith, v.rows)) | inr h ↦ absurd (omega (arith, h.cols)) ]
    ]

pub potential-along : (a : Arcs) (m n c : ℕ) → 0 < m → potential a m n 0 (c + 1) ≡ potential a m n 0 c +ℤ pos (a 0 c H)
potential-along a m n c some =
    elim (came a m n 0 (c + 1) some) [
      | inl f ↦ absurd (omega (arith, f.col))
      | inr g ↦ elim g [
        | inl v ↦ absurd (omega (arith, v.rows))
        | inr h ↦ omega (
          arith,
          ints,
          h.value,
          potential-step_h a m n 0 c some,
          same_col a m n 0 h.before c (omega (arith, h.cols)),
        )
      ]
    ]

pub potential-down_start : (a : Arcs) (m n r : ℕ) → r + 1 < m
    → potential a m n (r + 1) 0 ≡ int_min (potential a m n r 0 +ℤ pos (a r 0 V)) (offset a m n (r + 1))
potential-down_start a m n r lt =
    elim (came a m n (r + 1) 0 (omega arith)) [
      | inl f ↦ omega (
        arith,
        ints,
        clamps,
        f.value,
        by_offset a m n (r + 1) lt,
        potential-step_v a m n r 0 (omega arith),
      )
      | inr g ↦ elim g [
        | inl v ↦ omega (
          arith,
          ints,
          clamps,
          v.value,
          by_offset a m n (r + 1) lt,
          potential-step_v a m n r 0 (omega arith),
          same_row a m n 0 v.before r (omega (arith, v.rows)),
        )
        | inr h ↦ absurd (omega (arith, h.cols))
      ]
    ]

pub potential-down : (a : Arcs) (m n r : ℕ) → 0 < m → m ≤ r + 1
    → potential a m n (r + 1) 0 ≡ potential a m n r 0 +ℤ pos (a r 0 V)
potential-down a m n r some le =
    elim (came a m n (r + 1) 0 some) [
      | inl f ↦ absurd (omega (arith, f.row))
      | inr g ↦ elim g [
        | inl v ↦ omega (
          arith,
          ints,
          v.value,
          potential-step_v a m n r 0 some,
          same_row a m n 0 v.before r (omega (arith, v.rows)),
        )
        | inr h ↦ absurd (omega (arith, h.cols))
      ]
    ]

pub potential-both : (a : Arcs) (m n r c : ℕ) → 0 < m
    → potential a m n (r + 1) (c + 1) ≡ int_min (potential a m n r (c + 1) +ℤ pos (a r (c + 1) V))
    (potential a m n (r + 1) c +ℤ pos (a (r + 1) c H))
potential-both a m n r c some =
    elim (came a m n (r + 1) (c + 1) some) [
      | inl f ↦ absurd (omega (arith, f.col))
      | inr g ↦ elim g [
        | inl v ↦ omega (
          arith,
          ints,
          clamps,
          v.value,
          potential-step_v a m n r (c + 1) some,
          potential-step_h a m n (r + 1) c some,
          same_row a m n (c + 1) v.before r (omega (arith, v.rows)),
        )
        | inr h ↦ omega (
          arith,
          ints,
          clamps,
          h.value,
          potential-step_v a m n r (c + 1) some,
          potential-step_h a m n (r + 1) c some,
          same_col a m n (r + 1) h.before c (omega (arith, h.cols)),
        )
      ]
    ]
