-- The definitions at worked examples: the certificate of two equal squares, one above the other, and what is wrong
-- where it is changed.
use Rattle.std.proofs.Common.{◌≡◌, ℕ, zero, suc, ◌+◌, ◌^◌, ℤ, pos, ◌-ℤ◌, Bool, T, ltb, leb, List, [], ◌∷◌, length, Vec, lit<, lit≤, subst₂, sym, arith, inl, inr}
use Rattle.std.specs.Int.Signed.{le_z, le_z_yes}
use Rattle.std.proofs.lemmas.Int.{ints}
use mathlib.Core.Path.{refl}
use Rattle.std.specs.declared.alloc.Global.{Global}
use Rattle.plane_geom.specs.Rings.{around}
use Rattle.plane_geom.specs.Lengths.{distance_square}
use Rattle.fku_types.specs.Points.{square}
use Rattle.strip_graph.specs.declared.tilings.Step.{Step}
use Rattle.strip_graph.specs.declared.tilings.Step.TheVariants.{V, H}
use Rattle.strip_graph.specs.Strips.{arcs}
use Rattle.strip_graph.specs.Tilings.{IsAcceptable}
use Rattle.strip_graph.specs.Certificates.{value_at, StepHolds, TurnHolds}
use Rattle.strip_graph.proofs.ComputedTests.{are_modest, modest, passes, passes_at, list_at}
use Rattle.strip_graph.proofs.Worked.{squares}
use Rattle.cert_checker.specs.declared.certs.Cert.{Cert}
use Rattle.cert_checker.specs.declared.certs.Verdict.TheVariants.{Accept, Arc, Turn}
use Rattle.cert_checker.specs.Verdicts.{FitsPair, ComesBefore, IsVerdict}

-- a certificate of 4 columns, wherever its lists lie
abbrev cert : Vec ℤ Global → ℕ → ℕ → (w : List Step) → T (ltb (length w) (2 ^ 63)) → (pi : List ℤ)
    → T (ltb (length pi) (2 ^ 63)) → Cert
cert v rows cost w few pi few' = record {
  rows = rows;
  cols = 4;
  cost = pos cost;
  tiling = record { row = 0; word = list_at v w few };
  pi =
      list_at v pi few';
}

abbrev word : List Step
word = V ∷ H ∷ V ∷ H ∷ V ∷ H ∷ V ∷ H ∷ []

-- the numbers, with one of their own at row 1 and column 1
abbrev numbers : ℕ → List ℤ
numbers x =
    pos 0 ∷ pos 200 ∷ pos 500 ∷ pos 700 ∷ pos 800 ∷ pos 200 ∷ pos x ∷ pos 500 ∷ pos 800 ∷ pos 1000 ∷ pos 300 ∷ pos 500
    ∷ pos 600 ∷ pos 800 ∷ pos 1100 ∷ pos 500 ∷ pos 800 ∷ pos 800 ∷ pos 900 ∷ pos 1100 ∷ pos 600 ∷ pos 800 ∷ pos 1100
    ∷ pos 1100 ∷ pos 1200 ∷ pos 800 ∷ pos 900 ∷ pos 1100 ∷ pos 1400 ∷ pos 1400 ∷ pos 1100 ∷ pos 1100 ∷ pos 1200
    ∷ pos 1400 ∷ pos 1700 ∷ pos 1300 ∷ pos 1400 ∷ pos 1400 ∷ pos 1500 ∷ pos 1700 ∷ []

abbrev zeros : ℕ → List ℤ
zeros zero = []
zeros (suc k) = pos 0 ∷ zeros k

-- whether the steps from a place raise its number by no more than their costs
abbrev v_holds : List ℤ → ℕ → ℕ → Bool
v_holds pi r c = le_z (value_at 4 pi (r + 1) c -ℤ value_at 4 pi r c) (pos (arcs squares r c V))

abbrev h_holds : List ℤ → ℕ → ℕ → Bool
h_holds pi r c = le_z (value_at 4 pi r (c + 1) -ℤ value_at 4 pi r c) (pos (arcs squares r c H))

all_steps : (pi : List ℤ) → T (passes 7 (λ r. passes 5 (v_holds pi r))) → T (passes 8 (λ r. passes 4 (h_holds pi r)))
    → (i j : ℕ) (s : Step) → StepHolds (arcs squares) 4 4 pi i j s
all_steps pi v h i j V = λ lt le. le_z_yes
    (passes_at 5 (v_holds pi i) (passes_at 7 (λ r. passes 5 (v_holds pi r)) v i (omega arith)) j (omega arith))
all_steps pi v h i j H = λ lt less.
    le_z_yes (passes_at 4 (h_holds pi i) (passes_at 8 (λ r. passes 4 (h_holds pi r)) h i (omega arith)) j less)

-- whether once round from a row raises the numbers by at least the cost
abbrev gains : List ℤ → ℕ → ℕ → Bool
gains pi cost i = le_z (pos cost) (value_at 4 pi (i + 4) 4 -ℤ value_at 4 pi i 0)

all_turns : (pi : List ℤ) (cost : ℕ) → T (passes 4 (gains pi cost)) → (i : ℕ) → TurnHolds 4 4 pi (pos cost) i
all_turns pi cost t i = λ lt. le_z_yes (passes_at 4 (gains pi cost) t i lt)

goes_round : IsAcceptable 4 4 0 0 word
goes_round = record { row = lit< tt; col = lit< tt; letters = record { v = refl; h = refl } }

fits : (v : Vec ℤ Global) (cost : ℕ) (w : List Step) (few : T (ltb (length w) (2 ^ 63))) (pi : List ℤ)
    (few' : T (ltb (length pi) (2 ^ 63))) → length pi ≡ 40 → T (leb cost (10 ^ 36)) → T (are_modest pi)
    → FitsPair squares (cert v 4 cost w few pi few')
fits v cost w few pi few' count c m =
    record { rows_same = refl; cols_same = refl; count = count; cost_modest = lit≤ c; values_modest = modest pi m }

accepted : (v : Vec ℤ Global) → IsVerdict squares (cert v 4 1200 word tt (numbers 300) tt) Accept
unfolding arcs around distance_square square
accepted v = record {
  rows = refl;
  cols = refl;
  size = refl;
  cost_modest = lit≤ tt;
  values_modest = modest (numbers 300) tt;
  acceptable = goes_round;
  costs = refl;
  steps = all_steps (numbers 300) tt tt;
  turns = all_turns (numbers 300) 1200 tt;
}

-- one number raised by 1
raised : (v : Vec ℤ Global) → IsVerdict squares (cert v 4 1200 word tt (numbers 301) tt) (Arc 0 1 V)
unfolding arcs around distance_square square
raised v = (
  fits v 1200 word tt (numbers 301) tt refl tt tt,
  goes_round,
  refl,
  record { fails = λ h. omega (arith, ints, h (lit< tt) (lit≤ tt)); first = before },
)
  where
    here : (s : Step) → StepHolds (arcs squares) 4 4 (numbers 301) 0 0 s
    here V = λ lt le. le_z_yes tt
    here H = λ lt less. le_z_yes tt

    before : (i j : ℕ) (s : Step) → ComesBefore i j s 0 1 V → StepHolds (arcs squares) 4 4 (numbers 301) i j s
    before i j s b =
        elim b [
          | inl lt ↦ absurd (omega (arith, lt))
          | inr e ↦ elim e.1 [
            | inl lt ↦ (let f : j ≡ 0 = omega (arith, lt) in
                subst₂ (λ (x y : ℕ). StepHolds (arcs squares) 4 4 (numbers 301) x y s) (sym e.0) (sym f) (here s))
            | inr k ↦ absurd (let t : V ≡ H = k.2 in cc)
          ]
        ]

-- every number 0
all_zero : (v : Vec ℤ Global) → IsVerdict squares (cert v 4 1200 word tt (zeros 40) tt) (Turn 0)
unfolding arcs around distance_square square
all_zero v = (
  fits v 1200 word tt (zeros 40) tt refl tt tt,
  goes_round,
  refl,
  all_steps (zeros 40) tt tt,
  record { fails = λ h. omega (arith, ints, h (lit< tt)); first = λ i lt. absurd (omega (arith, lt)) },
)
