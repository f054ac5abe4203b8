use Rattle.std.proofs.Common.{arith, refl, ap, ◌∙◌}
use Rattle.text_io.specs.WordLists.{lines_of}
use Rattle.surface_commands.proofs.EditLemmas.{all_answered, none_yet, one_more}
use Rattle.surface_commands.proofs.editing.put_answers.Goals as goal

pub loop-line-init : goal.loop-line-init
loop-line-init g c = record {
  within = c.requires.tail.within;
  passed = c.requires.tail.passed;
  few = omega arith;
  later = omega arith;
  same_workers = refl;
  so_far = none_yet _ _ _ _;
}

pub loop-line-preserved : goal.loop-line-preserved
loop-line-preserved g c =
    let found = c.in-Some.ensures.found in
    record {
      within = found.in_order.3;
      passed = omega (arith, found.counted.1, c.loop-line.invariant.passed);
      few = omega (arith, found.counted.0, found.counted.1, c.loop-line.invariant.few);
      later = omega (arith, c.loop-line.invariant.later, c.answer_line.ensures.later);
      same_workers = c.answer_line.ensures.same_workers ∙ c.loop-line.invariant.same_workers;
      so_far = one_more _ _ _ _ _ _ _ _ _ _ _ _ _ _ c.loop-line.invariant.so_far (ap lines_of found.kept)
          c.in_ok-answer_line.ensures.answered;
    }

pub returns-clause-edited : goal.returns-clause-edited
returns-clause-edited g c = all_answered _ _ _ _ _ _ _ _ _ c.loop-line.invariant.so_far
    (ap lines_of (c.in_default.ensures.none.0 refl))
