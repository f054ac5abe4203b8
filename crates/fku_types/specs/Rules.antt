-- The weights of a cost rule.
use Rattle.std.specs.Prelude.{◌+◌, ◌<◌, ◌≤◌, ⊤}
use Rattle.fku_types.specs.declared.limits.TheConstants.{MAX_WEIGHT}
use Rattle.fku_types.specs.declared.rules.CostRule.{CostRule}
use Rattle.fku_types.specs.declared.rules.CostRule.TheVariants.{Span, Area, Mix}

-- no weight is above the largest, and not both are 0
abbrev pub IsWeighted : CostRule → Type 0
IsWeighted Span = ⊤
IsWeighted Area = ⊤
IsWeighted (Mix span area) = (span ≤ MAX_WEIGHT) × (area ≤ MAX_WEIGHT) × (0 < span + area)
