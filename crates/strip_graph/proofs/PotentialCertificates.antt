-- If no step costs much, potentials stay small, and they make a valid certificate with a least tiling.
use Rattle.std.proofs.lemmas.Nat.{div_below, mod_below, div-add-mod'}
use Rattle.std.proofs.lemmas.List.Elements.{All-from_get_or}
use Rattle.std.proofs.Common.{◌*◌, ◌/◌, ◌%◌, ◌^◌, get_or, unsigned_abs, List, length, mul-le-mul_right, ◌≡◌, ℕ, ◌+◌, ◌-◌, ◌<◌, ◌≤◌, ℤ, pos, refl, ap, arith}
use Rattle.std.proofs.lemmas.Int.{ints}
use Rattle.strip_graph.specs.declared.tilings.Step.{Step}
use Rattle.strip_graph.specs.declared.tilings.Step.TheVariants.{V, H}
use Rattle.strip_graph.specs.Words.{Arcs, word_cost, count_v, count_h}
use Rattle.strip_graph.specs.Tilings.{IsLeast}
use Rattle.strip_graph.specs.Distances.{turn_cost, offset}
use Rattle.strip_graph.proofs.LeastWords.{distance-reached}
use Rattle.strip_graph.proofs.Bounds.{distance-below, word_cost-le}
use Rattle.strip_graph.specs.Potentials.{potential}
use Rattle.strip_graph.specs.Certificates.{value_at, StepHolds, Certifies}
use Rattle.strip_graph.proofs.Telescoping.{offsets_telescope}
use Rattle.strip_graph.proofs.Potential.{potential-reached, potential-step_v, potential-step_h, potential-turn}

-- if no step costs more than b, offsets and potentials stay small
pub offset-small : (a : Arcs) (m n b l : ℕ) → ((i j : ℕ) (s : Step) → a i j s ≤ b) → l < m
    → unsigned_abs (offset a m n l) ≤ (2 * m + n) * b
offset-small a m n b l cheap lt =
    let up = offsets_telescope a m n 0 (λ x p. omega arith) 0 l (omega arith) lt in
    let down = offsets_telescope a m n 0 (λ x p. omega arith) l 0 lt (omega arith) in
    omega (
      arith,
      ints,
      up,
      down,
      distance-below a b cheap 0 0 (l + m - 0) n,
      distance-below a b cheap l 0 (0 + m - l) n,
      mul-le-mul_right b (first l m n lt),
      mul-le-mul_right b (second l m n lt),
    )
  where
    first : (l m n : ℕ) → l < m → l + m - 0 + n ≤ 2 * m + n
    first l m n lt = omega arith

    second : (l m n : ℕ) → l < m → 0 + m - l + n ≤ 2 * m + n
    second l m n lt = omega arith

pub potential-small : (a : Arcs) (m n b r c : ℕ) → ((i j : ℕ) (s : Step) → a i j s ≤ b) → 0 < m → r < 2 * m → c ≤ n
    → unsigned_abs (potential a m n r c) ≤ (4 * m + 2 * n) * b
potential-small a m n b r c cheap some lt le =
    let k = potential-reached a m n r c some in
    omega (
      arith,
      ints,
      k.value,
      offset-small a m n b k.row cheap k.below,
      distance-below a b cheap k.row 0 (r - k.row) c,
      mul-le-mul_right b (far r k.row c m n lt le),
    )
  where
    far : (r k c m n : ℕ) → r < 2 * m → c ≤ n → r - k + c ≤ 2 * m + n
    far r k c m n lt le = omega arith

-- no turn costs less than a least tiling
pub least_is_least_turn : (a : Arcs) (m n i : ℕ) (w : List Step) → IsLeast a m n i 0 w → (l : ℕ) → l < m
    → word_cost a i 0 w ≤ turn_cost a m n l l
least_is_least_turn a m n i w t l lt =
    let k = distance-reached a l 0 (l + m - l) n in
    omega (
      arith,
      k.cost,
      t.least l 0 k.word
          (record {
            row = lt;
            col = t.acceptable.col;
            letters =
                record { v = omega (arith, k.letters.v); h = k.letters.h };
          }),
    )

-- a list of the potentials, a least tiling and its cost are a valid certificate
pub potential_certifies : (a : Arcs) (m n b : ℕ) (pi : List ℤ) (row : ℕ) (word : List Step) → IsLeast a m n row 0 word
    → ((i j : ℕ) (s : Step) → a i j s ≤ b) → (4 * m + 2 * n) * b ≤ 10 ^ 36 → length pi ≡ 2 * m * (n + 1)
    → ((i j : ℕ) → i < 2 * m → j ≤ n → value_at n pi i j ≡ potential a m n i j)
    → Certifies a m n m n (pos (word_cost a row 0 word)) row word pi
potential_certifies a m n b pi row word t cheap few len e = record {
  rows = refl;
  cols = refl;
  size = len;
  cost_modest = omega (
    arith,
    ints,
    word_cost-le a b cheap row 0 word,
    t.acceptable.letters.v,
    t.acceptable.letters.h,
    mul-le-mul_right b (short (count_v word) (count_h word) m n t.acceptable.letters.v t.acceptable.letters.h),
  );
  values_modest = All-from_get_or (λ (z : ℤ). unsigned_abs z ≤ 10 ^ 36) pi (pos 0) (λ k lt. omega (
    arith,
    modest (k / (n + 1)) (k % (n + 1)) (div_below k (n + 1) (2 * m) (omega arith) (omega (arith, len, lt)))
        (omega (arith, mod_below k (n + 1))),
    ap (λ (x : ℕ). unsigned_abs (get_or pi x (pos 0))) (div-add-mod' k (n + 1)),
  ));
  acceptable = t.acceptable;
  costs = refl;
  steps = step_holds;
  turns = λ i lt. omega (
    arith,
    ints,
    potential-turn a m n (word_cost a row 0 word) (least_is_least_turn a m n row word t) i lt,
    e i 0 (omega arith) (omega arith),
    e (i + m) n (omega arith) (omega arith),
  );
}
  where
    some : 0 < m
    some = omega (arith, t.acceptable.row)

    modest : (i j : ℕ) → i < 2 * m → j ≤ n → unsigned_abs (value_at n pi i j) ≤ 10 ^ 36
    modest i j lt le = omega (arith, ap unsigned_abs (e i j lt le), potential-small a m n b i j cheap some lt le, few)

    short : (v h m n : ℕ) → v ≡ m → h ≡ n → v + h ≤ 4 * m + 2 * n
    short v h m n p q = omega arith

    step_holds : (i j : ℕ) (s : Step) → StepHolds a m n pi i j s
    step_holds i j V = λ lt le. omega (
      arith,
      ints,
      potential-step_v a m n i j some,
      e i j (omega arith) le,
      e (i + 1) j lt le,
    )
    step_holds i j H = λ lt lt'. omega
        (arith, ints, potential-step_h a m n i j some, e i j lt (omega arith), e i (j + 1) lt (omega arith))
