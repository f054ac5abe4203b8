use Rattle.std.proofs.Common.{rules}
use Rattle.correspondence.proofs.LeastBounds.{least, greatest}
use Rattle.fku_types.proofs.TruthLaws.{int_le_through}
use Rattle.correspondence.proofs.bounds.Bounds.with.Goals as goal

pub returns-clause-added : goal.returns-clause-added
returns-clause-added c = record {
  left = (least c.args.self.min_x c.args.p.x c.min.result (search rules) (search rules) c.min.ensures.value).0;
  right = (greatest c.args.self.max_x c.args.p.x c.max.result (search rules) (search rules) c.max.ensures.value).0;
  bottom = (least c.args.self.min_y c.args.p.y c.min-2.result (search rules) (search rules) c.min-2.ensures.value).0;
  top = (greatest c.args.self.max_y c.args.p.y c.max-2.result (search rules) (search rules) c.max-2.ensures.value).0;
}

pub returns-clause-kept : goal.returns-clause-kept
returns-clause-kept c q w = record {
  left = int_le_through _ _ _ (least c.args.self.min_x c.args.p.x c.min.result (search rules) (search rules)
      c.min.ensures.value).1 w.left;
  right = int_le_through _ _ _ w.right (greatest c.args.self.max_x c.args.p.x c.max.result (search rules) (search rules)
      c.max.ensures.value).1;
  bottom = int_le_through _ _ _ (least c.args.self.min_y c.args.p.y c.min-2.result (search rules) (search rules)
      c.min-2.ensures.value).1 w.bottom;
  top = int_le_through _ _ _ w.top (greatest c.args.self.max_y c.args.p.y c.max-2.result (search rules) (search rules)
      c.max-2.ensures.value).1;
}
