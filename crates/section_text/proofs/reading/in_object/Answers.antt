use Rattle.std.proofs.Common.{map}
use Rattle.section_core.specs.Costs.{cost_parts}
use Rattle.section_core.specs.Steps.{after, first_broken}
use Rattle.section_core.specs.Views.{draft_parts}
use Rattle.section_text.specs.States.{body_of}
use Rattle.section_text.proofs.LineTakes.{inside_ok, inside_err, inner_read}
use Rattle.section_text.proofs.reading.in_object.Goals as goal

pub returns-in-Err : goal.returns-in-Err
returns-in-Err c = record {
  takes = λ it is f t.
      inside_err c.args.version (cost_parts c.args.head.cost) c.args.head.rule (map draft_parts c.args.front.items)
      c.args.name c.args.line (body_of c.args.body) it (first_broken f it) c.in-Err.fault _ (after f it)
      (inner_read c.args.item it is c.in_default.not-Object c.in_default.not-End)
      (c.in-Err.ensures.takes it is f t);
  flat = λ a b. tt;
}

pub returns-in-Ok : goal.returns-in-Ok
returns-in-Ok c = record {
  takes = λ it is f t.
      inside_ok c.args.version c.args.head c.args.front c.args.name c.args.line (body_of c.args.body) it
      (first_broken f it) c.in-Ok.body _ (after f it)
      (inner_read c.args.item it is c.in_default.not-Object c.in_default.not-End)
      (c.in-Ok.ensures.takes it is f t);
  flat = λ a b. (a, c.in-Ok.ensures.flat b);
}
