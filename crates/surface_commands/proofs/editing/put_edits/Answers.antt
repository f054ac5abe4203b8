use Rattle.std.proofs.Common.{◌≡◌, ◌++◌, ◌∙◌, ap, subst, List, ℕ}
use Rattle.std.proofs.lemmas.Result.{on_ok_weaker as on_ok}
use Rattle.section_core.specs.Parts.{Parts}
use Rattle.command_replies.specs.Stages.{IsSurfaceOfOne}
use Rattle.surface_commands.specs.Edit.{answers_text}
use Rattle.surface_commands.proofs.EditLemmas.{text_is}
use Rattle.surface_commands.proofs.editing.put_edits.Goals as goal

pub returns-clause-text : goal.returns-clause-text
returns-clause-text g c =
    let h = c.in_ok-count.ensures.edited in
    let x = h.editing in
    let b = c.in_ok-built.built in
    on_ok c.put_mesh.result (λ made empty. (
    let first : c.put_answers.new.out.items ≡ answers_text 1 x.answers = h.text
    ∙ ap (λ (s : List ℕ). s ++ answers_text 1 x.answers) empty in
    record {
      editing = x;
      is_editing = h.is_editing;
      built = b;
      surface = subst (λ (T : Parts). IsSurfaceOfOne T b) h.sections
          (record {
            is_built = c.in_ok-built.ensures.built;
            valid = c.in_ok-built.ensures.valid;
            closed =
                c.in_ok-built.ensures.closed;
          });
      text = text_is g.W.SurfaceWriter.format x.answers b c.in_ok-count.count c.put_answers.new.out.items
          c.put_total.new.out.items c.put_mesh.new.out.items first h.number c.in_ok-put_total.ensures made;
      raised = h.raised;
    }
    )) c.put_mesh.ensures
