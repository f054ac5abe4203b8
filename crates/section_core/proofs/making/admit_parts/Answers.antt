use Rattle.section_core.specs.Costs.{cost_parts}
use Rattle.section_core.specs.Made.{pieces_of}
use Rattle.section_core.proofs.PieceWalks.{pieces_ok, pieces_err, pieces_memory}
use Rattle.section_core.proofs.making.admit_parts.Goals as goal

pub returns-clause-ok : goal.returns-clause-ok
returns-clause-ok c =
    pieces_ok (pieces_of (cost_parts c.args.cost) c.args.sections.now c.args.links.now) c.admit_pieces.result
    c.admit_pieces.new.tally (c.admit_pieces.ensures.walks c.new-tally.ensures.begun)

pub returns-clause-fault : goal.returns-clause-fault
returns-clause-fault c =
    pieces_err (pieces_of (cost_parts c.args.cost) c.args.sections.now c.args.links.now) c.admit_pieces.result
    c.admit_pieces.new.tally (c.admit_pieces.ensures.walks c.new-tally.ensures.begun)

pub returns-clause-memory : goal.returns-clause-memory
returns-clause-memory c =
    pieces_memory (pieces_of (cost_parts c.args.cost) c.args.sections.now c.args.links.now) c.admit_pieces.result
    c.admit_pieces.new.tally (c.admit_pieces.ensures.walks c.new-tally.ensures.begun)
