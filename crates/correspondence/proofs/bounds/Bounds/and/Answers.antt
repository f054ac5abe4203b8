use Rattle.std.proofs.Common.{rules}
use Rattle.correspondence.proofs.LeastBounds.{least, greatest}
use Rattle.fku_types.proofs.TruthLaws.{int_le_through}
use Rattle.correspondence.proofs.bounds.Bounds.and.Goals as goal

pub returns-clause-one : goal.returns-clause-one
returns-clause-one c q w = record {
  left = int_le_through _ _ _ (least c.args.self.min_x c.args.other.min_x c.min.result (search rules) (search rules)
      c.min.ensures.value).1 w.left;
  right = int_le_through _ _ _ w.right
      (greatest c.args.self.max_x c.args.other.max_x c.max.result (search rules) (search rules)
      c.max.ensures.value).1;
  bottom = int_le_through _ _ _ (least c.args.self.min_y c.args.other.min_y c.min-2.result (search rules) (search rules)
      c.min-2.ensures.value).1 w.bottom;
  top = int_le_through _ _ _ w.top
      (greatest c.args.self.max_y c.args.other.max_y c.max-2.result (search rules) (search rules)
      c.max-2.ensures.value).1;
}

pub returns-clause-other : goal.returns-clause-other
returns-clause-other c q w = record {
  left = int_le_through _ _ _ (least c.args.self.min_x c.args.other.min_x c.min.result (search rules) (search rules)
      c.min.ensures.value).0 w.left;
  right = int_le_through _ _ _ w.right
      (greatest c.args.self.max_x c.args.other.max_x c.max.result (search rules) (search rules)
      c.max.ensures.value).0;
  bottom = int_le_through _ _ _ (least c.args.self.min_y c.args.other.min_y c.min-2.result (search rules) (search rules)
      c.min-2.ensures.value).0 w.bottom;
  top = int_le_through _ _ _ w.top
      (greatest c.args.self.max_y c.args.other.max_y c.max-2.result (search rules) (search rules)
      c.max-2.ensures.value).0;
}
