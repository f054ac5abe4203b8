-- Components of the code as contracts see them.
use Rattle.std.specs.Prelude.{ℕ, ◌+◌, List, length, map}
use Rattle.section_core.specs.Parts.{Parts}
use Rattle.correspondence.specs.declared.gaps.Component.{Component}
use Rattle.correspondence.specs.Outlines.{layer_at}
use Rattle.correspondence.specs.Correspondences.{Correspond}
use Rattle.correspondence.specs.Components.{Members, AreComponents}

abbrev pub members_of : Component → Members
members_of c = record { below = c.below.items; above = c.above.items }

-- the components of the gap above section g
abbrev pub AreGapMembers : Parts → ℕ → List Members → Type 0
AreGapMembers S g cs =
    AreComponents (Correspond S g) (length (layer_at S g).outlines) (length (layer_at S (g + 1)).outlines) cs

-- the same as the code holds them
abbrev pub AreGapComponents : Parts → ℕ → List Component → Type 0
AreGapComponents S g cs = AreGapMembers S g (map members_of cs)
