-- Cost rules as the code holds them and as they are written.
use Rattle.std.specs.Prelude.{pos, unsigned_abs}
use Rattle.fku_types.specs.declared.rules.CostRule.{CostRule}
use Rattle.fku_types.specs.declared.rules.CostRule.TheVariants.{Span, Area, Mix}
use Rattle.section_core.specs.Parts.{CostParts, span, area, mix}

-- a rule of the code as it is written
abbrev pub cost_parts : CostRule → CostParts
cost_parts Span = span
cost_parts Area = area
cost_parts (Mix a b) = mix (pos a) (pos b)

-- the rule of the code that is written so; a minus is dropped, which no text without a fault has there
abbrev pub cost_rule : CostParts → CostRule
cost_rule span = Span
cost_rule area = Area
cost_rule (mix a b) = Mix (unsigned_abs a) (unsigned_abs b)
