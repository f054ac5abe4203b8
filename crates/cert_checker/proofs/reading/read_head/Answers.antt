use Rattle.std.proofs.Common.{pos, [], refl, arith}
use Rattle.std.specs.Prelude.{codes}
use Rattle.fku_types.specs.declared.limits.TheConstants.{MAX_COMPOSITE_VERTICES, MAX_PAIRS, MAX_START_ROW}
use Rattle.strip_graph.specs.Certificates.{IsModest}
use Rattle.text_io.specs.Text.{words}
use Rattle.cert_checker.specs.LineSteps.{IsBetween}
use Rattle.cert_checker.proofs.HeadLines.{named_none, from_pair, from_rows, from_cols, from_cost, from_start, to_pair, to_rows, to_cols, to_cost, to_start}
use Rattle.cert_checker.proofs.reading.read_head.Goals as goal

pub returns-in_default : goal.returns-in_default
returns-in_default c h i m =
    named_none (IsBetween 1 1) (words c.args.line.now) (codes "CERT") (pos 1) (from_pair h) c.in_default.ensures
    (1, refl, omega arith, omega arith) m

pub returns-in_default-count_behind : goal.returns-in_default-count_behind
returns-in_default-count_behind c h i m =
    named_none (IsBetween 1 MAX_PAIRS) _ (codes "PAIR") (pos h.pair) (from_rows h) c.in_default-count_behind.ensures
    (h.pair, refl, i.pair.0, i.pair.1) (to_pair _ _ _ h c.in-Some.ensures.2 m)

pub returns-in_default-count_behind-2 : goal.returns-in_default-count_behind-2
returns-in_default-count_behind-2 c h i m =
    named_none (IsBetween 3 MAX_COMPOSITE_VERTICES) _ (codes "ROWS") (pos h.rows) (from_cols h)
    c.in_default-count_behind-2.ensures (h.rows, refl, i.rows.0, i.rows.1)
    (to_rows _ _ _ h c.in-Some-count_behind.ensures.2 (to_pair _ _ _ h c.in-Some.ensures.2 m))

pub returns-in_default-count_behind-3 : goal.returns-in_default-count_behind-3
returns-in_default-count_behind-3 c h i m =
    named_none (IsBetween 3 MAX_COMPOSITE_VERTICES) _ (codes "COLS") (pos h.cols) (from_cost h)
    c.in_default-count_behind-3.ensures (h.cols, refl, i.cols.0, i.cols.1)
    (to_cols _ _ _ h c.in-Some-count_behind-2.ensures.2
    (to_rows _ _ _ h c.in-Some-count_behind.ensures.2 (to_pair _ _ _ h c.in-Some.ensures.2 m)))

pub returns-in_default-value_behind : goal.returns-in_default-value_behind
returns-in_default-value_behind c h i m =
    named_none IsModest _ (codes "COST") h.cost (from_start h) c.in_default-value_behind.ensures i.cost
    (to_cost _ _ _ h c.in-Some-count_behind-3.ensures.2
    (to_cols _ _ _ h c.in-Some-count_behind-2.ensures.2
    (to_rows _ _ _ h c.in-Some-count_behind.ensures.2 (to_pair _ _ _ h c.in-Some.ensures.2 m))))

pub returns-in_default-count_behind-4 : goal.returns-in_default-count_behind-4
returns-in_default-count_behind-4 c h i m =
    named_none (IsBetween 0 MAX_START_ROW) _ (codes "START") (pos h.start) [] c.in_default-count_behind-4.ensures
    (h.start, refl, omega arith, i.start)
    (to_start _ _ _ h c.in-Some-value_behind.ensures.1
    (to_cost _ _ _ h c.in-Some-count_behind-3.ensures.2
    (to_cols _ _ _ h c.in-Some-count_behind-2.ensures.2
    (to_rows _ _ _ h c.in-Some-count_behind.ensures.2 (to_pair _ _ _ h c.in-Some.ensures.2 m)))))
