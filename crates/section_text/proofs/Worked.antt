-- What parsers return, at worked examples.
use Rattle.std.proofs.Common.{◌≡◌, [], Ok, Err, refl, ap}
use Rattle.fku_types.specs.declared.fault.Fault.TheVariants.{NoMemory, EndMissing}
use Rattle.fku_types.specs.declared.rules.PairRule.TheVariants.{Overlap}
use Rattle.section_core.specs.Parts.{Parts, span, area}
use Rattle.section_text.specs.Texts.{ReadsBack}

abbrev empty : Parts
empty = record { cost = span; rule = Overlap; sections = []; links = [] }

abbrev by_area : Parts
by_area = record { cost = area; rule = Overlap; sections = []; links = [] }

given : ReadsBack empty (Ok empty) × ReadsBack empty (Err NoMemory)
given = (refl, refl)

not_given : (ReadsBack empty (Ok by_area) → ⊥) × (ReadsBack empty (Err EndMissing) → ⊥)
not_given = (λ e. let c : area ≡ span = ap (λ (S : Parts). S.cost) e in absurd (cc), λ e. absurd (cc))
