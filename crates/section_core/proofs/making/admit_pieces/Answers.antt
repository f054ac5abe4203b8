use Rattle.std.proofs.Common.{◌≡◌, ◌++◌, map, Err, true, false, sym, ◌∙◌}
use Rattle.std.specs.List.{flat_map}
use Rattle.section_core.specs.Costs.{cost_parts}
use Rattle.section_core.specs.Machine.{cost_is}
use Rattle.section_core.specs.Steps.{after, is_weighted}
use Rattle.section_core.specs.Made.{walk, keeps_name, section_pieces, link_piece, nothing}
use Rattle.section_core.proofs.Walking.{walks_ok, walks_on, walks_after, cost_err, cost_ok, tallies_cost}
use Rattle.section_core.proofs.making.admit_pieces.Goals as goal

pub returns-then-not-is_weighted-clause-walks : goal.returns-then-not-is_weighted-clause-walks
returns-then-not-is_weighted-clause-walks c = λ _.
    let k = cost_parts c.args.cost in
    let bad : is_weighted k ≡ false = sym c.is_weighted.ensures ∙ c.if-not-is_weighted.true in
    cost_err k nothing (flat_map section_pieces c.args.sections.now ++ map link_piece c.args.links.now) c.args.tally.now
    bad

pub returns-in-Err-clause-walks : goal.returns-in-Err-clause-walks
returns-in-Err-clause-walks c = λ begun.
    let k = cost_parts c.args.cost in
    let ss = flat_map section_pieces c.args.sections.now in
    let ls = map link_piece c.args.links.now in
    let good : is_weighted k ≡ true = sym c.is_weighted.ensures ∙ c.if-not-is_weighted.false in
    let f = after nothing (cost_is k) in
    let tally = c.admit_sections.new.tally in
    cost_ok k nothing (ss ++ ls) (Err c.in-Err.fault) tally good
    (walks_on f ss ls c.in-Err.fault tally tally
    (c.in-Err.ensures.walks f (tallies_cost c.args.tally.now nothing k begun)))

pub returns-in-Ok-clause-walks : goal.returns-in-Ok-clause-walks
returns-in-Ok-clause-walks c = λ begun.
    let k = cost_parts c.args.cost in
    let ss = flat_map section_pieces c.args.sections.now in
    let ls = map link_piece c.args.links.now in
    let good : is_weighted k ≡ true = sym c.is_weighted.ensures ∙ c.if-not-is_weighted.false in
    let f = after nothing (cost_is k) in
    let d = walks_ok (keeps_name f ss) (walk f ss) c.in-Ok.field-0 c.admit_sections.new.tally
    (c.in-Ok.ensures.walks f (tallies_cost c.args.tally.now nothing k begun)) in
    cost_ok k nothing (ss ++ ls) c.admit_links.result c.admit_links.new.tally good
    (walks_after f d.0 ss ls c.admit_links.result c.admit_links.new.tally d.1 (c.admit_links.ensures.walks d.0 d.2))
