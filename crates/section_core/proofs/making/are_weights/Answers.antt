use Rattle.std.proofs.Common.{◌≡◌, Bool, true, false, pos, Option, None, Some, sym, ◌∙◌}
use Rattle.std.specs.Option.{MatchOption, is_some}
use Rattle.fku_types.specs.declared.rules.CostRule.{CostRule}
use Rattle.section_core.specs.Steps.{are_weights}
use Rattle.section_core.proofs.making.are_weights.Goals as goal

told : (o : Option CostRule) (w : Bool) (P : CostRule → Type 0) → MatchOption o (w ≡ false) (λ r. P r × (w ≡ true))
    → is_some o ≡ w
told None w P h = sym h
told (Some r) w P h = sym h.1

pub returns : goal.returns
returns c = c.is_some.ensures ∙ told c.mix.result (are_weights (pos c.args.span) (pos c.args.area)) _
    (c.mix.ensures (pos c.args.span) (pos c.args.area) c.number_of.ensures c.number_of-2.ensures)
