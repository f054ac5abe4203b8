-- What is wrong with a certificate.
use Rattle.std.specs.Prelude.{◌≡◌, ℕ, ◌+◌, ◌*◌, ◌<◌, ◌⊎◌, pos, length, All}
use Rattle.strip_graph.specs.declared.tilings.Step.{Step}
use Rattle.strip_graph.specs.declared.tilings.Step.TheVariants.{V, H}
use Rattle.strip_graph.specs.Words.{word_cost}
use Rattle.strip_graph.specs.Strips.{Strip, arcs, rows, cols}
use Rattle.strip_graph.specs.Tilings.{IsAcceptable}
use Rattle.strip_graph.specs.Certificates.{IsModest, StepHolds, TurnHolds, Certifies}
use Rattle.cert_checker.specs.declared.certs.Cert.{Cert}
use Rattle.cert_checker.specs.declared.certs.Verdict.{Verdict}
use Rattle.cert_checker.specs.declared.certs.Verdict.TheVariants.{Accept, Size, Word, Cost, Arc, Turn}

-- a certificate is valid for a pair
abbrev pub Holds : Strip → Cert → Type 0
Holds p k = Certifies (arcs p) (rows p) (cols p) k.rows k.cols k.cost k.tiling.row k.tiling.word.items k.pi.items

-- its rows and columns are the pair's, it has a number for each place of the strip, and its numbers are modest
pub record FitsPair (p : Strip) (k : Cert) : Type 0 where
  pub rows_same : k.rows ≡ rows p
  pub cols_same : k.cols ≡ cols p
  pub count : length k.pi.items ≡ 2 * rows p * (cols p + 1)
  pub cost_modest : IsModest k.cost
  pub values_modest : All IsModest k.pi.items

-- its tiling is acceptable, and its cost is as stated
abbrev pub HasTiling : Strip → Cert → Type 0
HasTiling p k = IsAcceptable (rows p) (cols p) k.tiling.row 0 k.tiling.word.items

abbrev pub HasCost : Strip → Cert → Type 0
HasCost p k = k.cost ≡ pos (word_cost (arcs p) k.tiling.row 0 k.tiling.word.items)

-- a step inside the strip raises its numbers by at most the step's cost
abbrev pub ArcHolds : Strip → Cert → ℕ → ℕ → Step → Type 0
ArcHolds p k i j s = StepHolds (arcs p) (rows p) (cols p) k.pi.items i j s

-- in one row one step comes before another one: by column, and V before H
abbrev pub ComesFirst : ℕ → Step → ℕ → Step → Type 0
ComesFirst j s j' s' = (j < j') ⊎ ((j ≡ j') × (s ≡ V) × (s' ≡ H))

-- one step comes before another one: by row, and in one row as above
abbrev pub ComesBefore : ℕ → ℕ → Step → ℕ → ℕ → Step → Type 0
ComesBefore i j s i' j' s' = (i < i') ⊎ ((i ≡ i') × ComesFirst j s j' s')

-- the first step that fails a condition
pub record IsFirstStep (Good : ℕ → ℕ → Step → Type 0) (i j : ℕ) (s : Step) : Type 0 where
  pub fails : Good i j s → ⊥
  pub first : (i' j' : ℕ) (s' : Step) → ComesBefore i' j' s' i j s → Good i' j' s'

-- the first row that fails a condition
pub record IsFirstRow (Good : ℕ → Type 0) (i : ℕ) : Type 0 where
  pub fails : Good i → ⊥
  pub first : (i' : ℕ) → i' < i → Good i'

-- the verdict is the first condition that fails, in this order, or that the certificate is valid
abbrev pub IsVerdict : Strip → Cert → Verdict → Type 0
IsVerdict p k Accept = Holds p k
IsVerdict p k Size = FitsPair p k → ⊥
IsVerdict p k Word = FitsPair p k × (HasTiling p k → ⊥)
IsVerdict p k Cost = FitsPair p k × HasTiling p k × (HasCost p k → ⊥)
IsVerdict p k (Arc i j s) = FitsPair p k × HasTiling p k × HasCost p k × IsFirstStep (ArcHolds p k) i j s
IsVerdict p k (Turn i) =
    FitsPair p k × HasTiling p k × HasCost p k × ((i j : ℕ) (s : Step) → ArcHolds p k i j s)
    × IsFirstRow (TurnHolds (rows p) (cols p) k.pi.items k.cost) i
