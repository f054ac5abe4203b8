use Rattle.std.proofs.Common.{◌≡◌, sym, ◌∙◌, arith}
use Rattle.fku_types.specs.declared.rules.PairRule.TheVariants.{Overlap, Links}
use Rattle.section_core.specs.Costs.{cost_parts}
use Rattle.section_core.proofs.Pieces.{made_parts, made_lawful}
use Rattle.section_core.proofs.WholePieces.{pieces_flat, none_left}
use Rattle.section_core.proofs.sections.make_admitted.Goals as goal

links_overlap : Links ≡ Overlap → ⊥
links_overlap e = cc

pub finished-requires-clause-are_parts : goal.finished-requires-clause-are_parts
finished-requires-clause-are_parts c =
    made_parts (cost_parts c.args.head.cost) c.args.head.rule c.args.sections.items c.args.links.items
    c.requires.named.0 c.requires.named.1
    (λ _. none_left c.args.links.items (λ h. omega (arith, h, c.if-len-gt0.false, c.len.ensures)))

pub finished-requires-clause-lawful : goal.finished-requires-clause-lawful
finished-requires-clause-lawful c =
    made_lawful (cost_parts c.args.head.cost) c.args.head.rule c.args.sections.items c.args.links.items
    c.requires.lawful c.requires.named.0 c.requires.named.1
    (λ _. none_left c.args.links.items (λ h. omega (arith, h, c.if-len-gt0.false, c.len.ensures)))

pub finished-requires-clause-flat : goal.finished-requires-clause-flat
finished-requires-clause-flat c = pieces_flat (cost_parts c.args.head.cost) c.args.sections.items c.args.links.items
    c.requires.lawful

pub finished-requires-in-Links-clause-are_parts : goal.finished-requires-in-Links-clause-are_parts
finished-requires-in-Links-clause-are_parts c =
    made_parts (cost_parts c.args.head.cost) c.args.head.rule c.args.sections.items c.args.links.items
    c.requires.named.0 c.requires.named.1 (λ o. absurd (links_overlap (sym c.in-Links.is ∙ o)))

pub finished-requires-in-Links-clause-lawful : goal.finished-requires-in-Links-clause-lawful
finished-requires-in-Links-clause-lawful c =
    made_lawful (cost_parts c.args.head.cost) c.args.head.rule c.args.sections.items c.args.links.items
    c.requires.lawful c.requires.named.0 c.requires.named.1 (λ o. absurd (links_overlap (sym c.in-Links.is ∙ o)))

pub finished-requires-in-Links-clause-flat : goal.finished-requires-in-Links-clause-flat
finished-requires-in-Links-clause-flat c =
    pieces_flat (cost_parts c.args.head.cost) c.args.sections.items c.args.links.items c.requires.lawful
