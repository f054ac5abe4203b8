use Rattle.section_core.specs.Costs.{cost_parts}
use Rattle.section_core.proofs.MakeFaults.{refuses, accepts}
use Rattle.section_core.proofs.sections.Sections.make.Goals as goal

pub returns-clause-exact : goal.returns-clause-exact
returns-clause-exact c fault has =
    refuses (cost_parts c.args.cost) c.args.rule c.args.sections.items c.args.links.items c.make_parts.result fault
    c.make_parts.ensures.fine c.make_parts.ensures.fault has

pub returns-clause-fine : goal.returns-clause-fine
returns-clause-fine c a flat =
    accepts (cost_parts c.args.cost) c.args.rule c.args.sections.items c.args.links.items c.make_parts.result
    c.make_parts.ensures.fault a flat
