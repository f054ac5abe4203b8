use Rattle.std.proofs.Common.{◌≡◌, inr, refl, arith, drop, subst, length, [], map, None, rules}
use Rattle.fku_types.specs.declared.limits.TheConstants.{MAX_EDITS}
use Rattle.text_io.specs.WordLists.{lines_of, first_number}
use Rattle.section_core.specs.Parts.{Parts}
use Rattle.section_pairs.specs.SectionFaults.{ArePairs, IsFound}
use Rattle.section_pairs.specs.Pairs.{pair_parts}
use Rattle.command_replies.specs.Reply.{Then}
use Rattle.surface_commands.specs.Edit.{AreFew, IsTooMany, on_edits}
use Rattle.surface_commands.specs.EditSteps.{kept_in, IsTextOfEdits}
use Rattle.command_replies.proofs.ReplyLemmas.{failed}
use Rattle.surface_commands.proofs.EditLemmas.{edits_told, few_lines, left_count, many_refused}
use Rattle.surface_commands.proofs.editing.edit_sections.Goals as goal

pub returns-in_err-find_pairs-clause-reply : goal.returns-in_err-find_pairs-clause-reply
returns-in_err-find_pairs-clause-reply g c =
    let S = c.args.sections in
    let tail = kept_in c.args.input.now c.args.tail in
    let n = g.P.PairSolver.solved_pairs c.args.solver.now in
    failed (IsFound S) (ArePairs S) (λ ps.
    Then (IsTooMany tail) (AreFew tail) (on_edits g.W.SurfaceWriter.format S (length ps))) n n
    c.from_residual.result c.in_err-find_pairs.field-0.0 c.from_residual.ensures.1 c.in_err-find_pairs.ensures.fault
    (inr refl) (omega arith)

pub returns-in-Some-clause-reply : goal.returns-in-Some-clause-reply
returns-in-Some-clause-reply g c =
    let tail = kept_in c.args.input.now c.args.tail in
    many_refused g.W.SurfaceWriter.format c.args.sections tail (map pair_parts c.in_ok-find_pairs.field-0.items)
    c.in-Some.line (g.P.PairSolver.solved_pairs c.args.solver.now) c.in_ok-find_pairs.ensures.pairs
    c.in-Some.ensures

pub returns-in_err-session-clause-reply : goal.returns-in_err-session-clause-reply
returns-in_err-session-clause-reply g c =
    let S = c.args.sections in
    let tail = kept_in c.args.input.now c.args.tail in
    let before = g.P.PairSolver.solved_pairs c.args.solver.now in
    let after = g.P.PairSolver.solved_pairs c.open.new.solver in
    let fault = c.in_err-session.field-0.0 in
    let out = c.from_residual-in_err-session in
    failed (IsFound S) (ArePairs S) (λ ps.
    Then (IsTooMany tail) (AreFew tail) (on_edits g.W.SurfaceWriter.format S (length ps))) before after out.result
    fault out.ensures.1
    c.in_err-session.ensures.fault (left_count S [] before after fault c.in_err-session.ensures.fault_count)
    c.in_err-session.ensures.not_less

pub returns-clause-reply : goal.returns-clause-reply
returns-clause-reply g c =
    let S = c.args.sections in
    let tail = kept_in c.args.input.now c.args.tail in
    let session = c.in_ok-session.session in
    let before = g.P.PairSolver.solved_pairs c.args.solver.now in
    let middle = g.P.PairSolver.solved_pairs c.open.new.solver in
    let after = g.P.PairSolver.solved_pairs c.edits_text.new.solver in
    let same : session.sections ≡ S = c.in_ok-session.ensures.sections in
    let none : None ≡ first_number (drop MAX_EDITS tail) = search rules in
    edits_told g.W.SurfaceWriter.format S tail session.pairs before middle after c.in_ok-text.text
    (subst (λ (U : Parts). ArePairs U session.pairs) same c.in_ok-session.ensures.solved.pairs)
    (few_lines tail none)
    c.in_ok-session.ensures.counted c.in_ok-session.ensures.not_less c.in_ok-text.ensures.later
    (subst (λ (U : Parts). IsTextOfEdits g.W.SurfaceWriter.format U (lines_of tail) c.in_ok-text.text.items middle
    after) same c.in_ok-text.ensures.text)
