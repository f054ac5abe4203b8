use Rattle.std.proofs.Common.{◌≡◌, ◌≤◌, ◌+◌, ℕ, drop, ap, sym, subst, ◌∙◌, arith, refl}
use Rattle.fku_types.specs.declared.limits.TheConstants.{MAX_EDITS}
use Rattle.text_io.specs.Text.{lines, kept_from}
use Rattle.text_io.specs.WordLists.{first_number}
use Rattle.surface_commands.proofs.EditLemmas.{behind_all, behind_more}
use Rattle.surface_commands.specs.EditSteps.{kept_in}
use Rattle.surface_commands.proofs.editing.line_too_many.Goals as goal

pub loop-preserved : goal.loop-preserved
loop-preserved c =
    let text = c.args.input.now in
    let found = c.in-Some.ensures.found in
    record {
      within = found.in_order.3;
      passed = omega (arith, found.counted.1, c.loop.invariant.passed);
      behind = behind_more (kept_in text c.args.tail)
          (kept_from (c.in-Some.line.number + 1) (lines (drop c.in-Some.line.next text))) c.loop.counter _
          (c.loop.invariant.behind ∙ found.kept);
    }

pub returns-in_default : goal.returns-in_default
returns-in_default c =
    let kept = kept_in c.args.input.now c.args.tail in
    let early : c.loop.counter ≤ MAX_EDITS = omega arith in
    ap first_number (sym (behind_all kept c.loop.counter MAX_EDITS early
    (c.loop.invariant.behind ∙ c.in_default.ensures.none.0 refl)))

pub returns-in-Some-kept_line_at : goal.returns-in-Some-kept_line_at
returns-in-Some-kept_line_at c =
    let kept = kept_in c.args.input.now c.args.tail in
    let all : c.loop.counter ≡ MAX_EDITS = omega arith in
    let behind = subst (λ (n : ℕ). drop n kept
    ≡ kept_from (c.loop.number + 1) (lines (drop c.loop.at c.args.input.now))) all c.loop.invariant.behind in
    ap first_number (sym (behind ∙ c.in-Some-kept_line_at.ensures.found.kept))

pub returns-in-None : goal.returns-in-None
returns-in-None c =
    let kept = kept_in c.args.input.now c.args.tail in
    let all : c.loop.counter ≡ MAX_EDITS = omega arith in
    let behind = subst (λ (n : ℕ). drop n kept
    ≡ kept_from (c.loop.number + 1) (lines (drop c.loop.at c.args.input.now))) all c.loop.invariant.behind in
    ap first_number (sym (behind ∙ c.in-None.ensures.none.0 refl))
