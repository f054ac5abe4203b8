use Rattle.std.proofs.Common.{Ok}
use Rattle.section_core.specs.Texts.{IsTextOfFile}
use Rattle.command_replies.specs.Stages.{AreSeveral, IsOnly, IsTextFault}
use Rattle.surface_commands.specs.Densify.{densify, densify_sections}
use Rattle.surface_commands.proofs.DensifyLemmas.{gives_densified, not_densified, stops, went_to}
use Rattle.surface_commands.proofs.densifying.densified_text.Goals as goal

pub returns-in_err-objects-clause-reply : goal.returns-in_err-objects-clause-reply
returns-in_err-objects-clause-reply g c =
    let bytes = c.args.input.now in
    stops (IsTextFault bytes) (IsTextOfFile bytes) densify (g.P.PairSolver.solved_pairs c.args.solver.now)
    c.from_residual.result c.in_err-objects.field-0.0 c.from_residual.ensures.1 c.in_err-objects.ensures.fault

pub returns-in_err-sections-clause-reply : goal.returns-in_err-sections-clause-reply
returns-in_err-sections-clause-reply g c =
    let bytes = c.args.input.now in
    let F = c.in_ok-objects.objects in
    let n = g.P.PairSolver.solved_pairs c.args.solver.now in
    let out = c.from_residual-in_err-sections in
    went_to (IsTextFault bytes) (IsTextOfFile bytes) densify n n out.result F c.in_ok-objects.ensures.text
    (stops (AreSeveral F) (IsOnly F) densify_sections n out.result c.in_err-sections.field-0.0 out.ensures.1
    c.in_err-sections.ensures.fault)

pub returns-in_err-made-clause-reply : goal.returns-in_err-made-clause-reply
returns-in_err-made-clause-reply g c =
    let bytes = c.args.input.now in
    let F = c.in_ok-objects.objects in
    let S = c.in_ok-sections.sections in
    let before = g.P.PairSolver.solved_pairs c.args.solver.now in
    let after = g.P.PairSolver.solved_pairs c.densify.new.solver in
    let out = c.from_residual-in_err-made in
    let says = c.in_err-made.ensures in
    went_to (IsTextFault bytes) (IsTextOfFile bytes) densify before after out.result F c.in_ok-objects.ensures.text
    (went_to (AreSeveral F) (IsOnly F) densify_sections before after out.result S c.in_ok-sections.ensures.only
    (not_densified S before after out.result c.in_err-made.field-0.0 out.ensures.1 says.fault says.uncounted
    says.counted_middle says.not_less))

pub returns-clause-reply : goal.returns-clause-reply
returns-clause-reply g c =
    let bytes = c.args.input.now in
    let F = c.in_ok-objects.objects in
    let S = c.in_ok-sections.sections in
    let made = c.in_ok-made.made in
    let text = c.in_ok-text.text in
    let before = g.P.PairSolver.solved_pairs c.args.solver.now in
    let after = g.P.PairSolver.solved_pairs c.densify.new.solver in
    let says = c.in_ok-made.ensures in
    let written = c.in_ok-text.ensures in
    went_to (IsTextFault bytes) (IsTextOfFile bytes) densify before after (Ok text) F c.in_ok-objects.ensures.text
    (went_to (AreSeveral F) (IsOnly F) densify_sections before after (Ok text) S c.in_ok-sections.ensures.only
    (gives_densified S made before after text says.densified (record {
      made = made;
      densified = says.densified;
      canonical = written.canonical;
      reads = written.law;
      short = written.short;
      pairs = says.pairs;
      faultless = says.faultless;
      old = says.old;
    }) says.counted says.not_less))
