use Rattle.std.proofs.Common.{◌≡◌, ◌++◌, ◌∙◌, ℕ, List, Ok, length, sym, ap, arith, subst}
use Rattle.std.proofs.lemmas.List.{length-map}
use Rattle.std.proofs.lemmas.List.Concat.{length-flat_map}
use Rattle.section_core.specs.declared.parts.Section.{Section}
use Rattle.section_core.specs.Views.{section_parts}
use Rattle.section_core.specs.Parts.{Parts, SectionParts, contours_of}
use Rattle.section_pairs.specs.SectionFaults.{IsFound}
use Rattle.command_replies.specs.Reply.{Replies, told}
use Rattle.command_replies.specs.Stages.{IsSurfaceOfOne, on_surface_of}
use Rattle.surface_commands.specs.Report.{Reports, demo_line, report_text}
use Rattle.command_replies.proofs.ReplyLemmas.{failed, gives, went_on}
use Rattle.surface_commands.proofs.ReportLemmas.{contours_counted}
use Rattle.surface_commands.proofs.reporting.demo.Goals as goal

pub contours_in-contours-requires : goal.contours_in-contours-requires
contours_in-contours-requires g c =
    omega (
      arith,
      length-flat_map (λ (s : Section). s.contours.items) c.sections-2.result.now,
      c.sections-2.ensures.kept.few_contours,
    )

pub returns-in_err-built-clause-reply : goal.returns-in_err-built-clause-reply
returns-in_err-built-clause-reply g c =
    let S = c.in_ok-made.made in
    let head = demo_line c.args.seed c.args.sections c.args.vertices in
    let before = g.P.PairSolver.solved_pairs c.args.solver.now in
    let after = g.P.PairSolver.solved_pairs c.surface.new.solver in
    let out = c.from_residual-in_err-built in
    subst (λ (T : Parts). Replies (on_surface_of T (Reports head T.sections)) before after out.result)
    c.in_ok-made.ensures
    (failed (IsFound S) (IsSurfaceOfOne S) (Reports head S.sections) before after out.result c.in_err-built.field-0.0
    out.ensures.1 c.in_err-built.ensures.fault c.in_err-built.ensures.uncounted c.in_err-built.ensures.not_less)

pub returns-clause-reply : goal.returns-clause-reply
returns-clause-reply g c =
    let S = c.in_ok-made.made in
    let b = c.in_ok-built.built in
    let head = demo_line c.args.seed c.args.sections c.args.vertices in
    let before = g.P.PairSolver.solved_pairs c.args.solver.now in
    let after = g.P.PairSolver.solved_pairs c.surface.new.solver in
    let sections = sym (length-map c.sections.result.now section_parts) ∙ ap length c.sections.ensures.parts in
    let contours = c.contours_in-contours.ensures ∙ sym (contours_counted c.sections-2.result.now)
    ∙ ap (λ (ss : List SectionParts). length (contours_of ss)) c.sections-2.ensures.parts in
    let line : c.as_bytes.result.now ≡ head = c.as_bytes.ensures.value ∙ c.in_ok-line.ensures in
    let text = c.in_ok-text.ensures S.sections sections contours
    ∙ ap (λ (h : List ℕ). h ++ report_text S.sections b) line in
    subst (λ (T : Parts). Replies (on_surface_of T (Reports head T.sections)) before after (Ok c.in_ok-text.text))
    c.in_ok-made.ensures
    (went_on (IsFound S) (IsSurfaceOfOne S) (Reports head S.sections) before after _ b
    (record {
      is_built = c.in_ok-built.ensures.built;
      valid = c.in_ok-built.ensures.valid;
      closed =
          c.in_ok-built.ensures.closed;
    })
    (gives (Reports head S.sections b) before after b.pairs c.in_ok-text.text
    (record {
      volume = λ o. c.six_volume-volume.ensures.anywhere c.in_ok-built.ensures.closed o
          ∙ c.six_volume-volume.ensures.value;
      tells = ap (λ (t : List ℕ). told t b.pairs) text;
    })
    c.in_ok-built.ensures.counted c.in_ok-built.ensures.not_less))
