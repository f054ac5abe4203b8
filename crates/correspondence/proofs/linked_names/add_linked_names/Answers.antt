use Rattle.section_core.specs.Views.{link_parts}
use Rattle.correspondence.proofs.LinkedNameSteps.{linked_names_more}
use Rattle.correspondence.proofs.linked_names.add_linked_names.Goals as goal

pub returns : goal.returns
returns c links h = linked_names_more c.args.linked_names.now.keys c.insert.new.self.keys links
    (link_parts c.args.link.now) c.copy.result c.copy-2.result c.copy.ensures c.copy-2.ensures
    c.in_ok-insert.ensures.keys h
