-- The findings of a section and of the gap above it.
use Rattle.std.specs.Prelude.{ℕ, ◌+◌, ◌-◌, min, [], ◌∷◌, map, length, slice_index_or}
use Rattle.section_core.specs.Parts.{Parts}
use Rattle.section_core.specs.Flat.{SectionData}
use Rattle.section_core.specs.ValidSections.{section_of}
use Rattle.section_pairs.specs.Ranges.{AreFindings}
use Rattle.section_pairs.specs.declared.findings.Findings.{Findings}

-- how many gaps lie above the sections before a place: one above each section but the last
abbrev pub gaps_before : Parts → ℕ → ℕ
gaps_before S k = min k (length S.sections - 1)

-- the findings of the section at a place and of the gap above it
abbrev pub IsFoundAt : Parts → ℕ → Findings → Type 0
IsFoundAt S place f =
    (s : SectionData) → AreFindings S (slice_index_or (map section_of S.sections) place s ∷ []) place
    (gaps_before S (place + 1)) f
