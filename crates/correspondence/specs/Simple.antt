-- Pairs of edges of a ring that break the rule.
use Rattle.std.specs.Prelude.{◌≡◌, ℕ, suc, List, length}
use Rattle.fku_types.specs.declared.points.Point.{Point}
use Rattle.fku_types.specs.declared.fault.Fault.{Fault}
use Rattle.fku_types.specs.declared.fault.Fault.TheVariants.{SelfCrossing}
use Rattle.plane_geom.specs.Rings.{around}
use Rattle.plane_geom.specs.Segments.{SharePoint, ShareMore}
use Rattle.correspondence.specs.Pairs.{NonePair, FirstPair}

-- edge f begins at the last vertex and ends at the first, where edge e begins
abbrev pub Closes : List Point → ℕ → ℕ → Type 0
Closes ring e f = (e ≡ 0) × (suc f ≡ length ring)

-- an edge of one ring and an edge of another share a point
abbrev pub EdgesMeet : List Point → ℕ → List Point → ℕ → Type 0
EdgesMeet one e other f = SharePoint (around one e) (around one (suc e)) (around other f) (around other (suc f))

-- the edges e < f of a ring break the rule: neighbours that share more than their vertex, or others that share a point
pub data AgainstRule (ring : List Point) (e f : ℕ) : Type 0 where
  following : f ≡ suc e → ShareMore (around ring e) (around ring f) (around ring (suc f)) → AgainstRule ring e f
  closing : Closes ring e f → ShareMore (around ring f) (around ring 0) (around ring 1) → AgainstRule ring e f
  distant : (f ≡ suc e → ⊥) → (Closes ring e f → ⊥) → EdgesMeet ring e ring f → AgainstRule ring e f

-- no two edges of a ring break the rule
abbrev pub IsSimple : List Point → Type 0
IsSimple ring = NonePair (AgainstRule ring) (length ring)

-- the fault has the first two edges of a contour that break the rule, by the first and then the second
abbrev pub IsSelfCrossing : List ℕ → List Point → Fault → Type 0
IsSelfCrossing name ring (SelfCrossing n e f) = (n ≡ name) × FirstPair (AgainstRule ring) (length ring) e f
IsSelfCrossing name ring _ = ⊥
