use Rattle.std.proofs.Common.{arith, rules, ◌≡◌, ◌+◌, ◌-◌, ◌<◌, refl, sym, ◌∙◌, length, IsTrue, IsFalse}
use Rattle.strip_graph.specs.Strips.{arcs, cols}
use Rattle.strip_graph.proofs.Canonical.{canonical}
use Rattle.strip_graph.proofs.Regional.{within_start}
use Rattle.row_paths.specs.Searches.{bound_at, last_at}
use Rattle.row_paths.proofs.Traces.{traced_none, traced_down, traced_right, traced_all, traced_same}
use Rattle.row_paths.proofs.searches.trace.Goals as goal
use Rattle.row_paths.proofs.searches.trace.Goals.{then-goes_down, else-goes_down}

pub loop-letter-init : goal.loop-letter-init
loop-letter-init g c =
    let w = c.requires.width in
    let n = cols c.args.strip.now in
    let k = canonical (arcs c.args.strip.now) c.args.region.now.start 0
    (c.args.region.now.end - c.args.region.now.start) n in
    record {
      traced = traced_none (arcs c.args.strip.now) (bound_at c.args.region.now.lo.now)
          (last_at c.args.region.now.hi.now) n c.args.region.now.start c.args.region.now.end k.word
          c.begin_path.new.path c.args.region.now.order k.first (c.requires.within k.word k.first)
          c.begin_path.ensures.first (λ x lt le. c.begin_path.ensures.rest x lt le ∙ w);
      place = omega arith;
    }

pub goes_down-requires-clause-from : goal.goes_down-requires-clause-from
goes_down-requires-clause-from g c =
    (within_start (bound_at c.args.region.now.lo.now) (last_at c.args.region.now.hi.now) c.loop-letter.row
    c.loop-letter.col c.loop-letter.invariant.traced.back c.loop-letter.invariant.traced.within).from

pub goes_down-requires-clause-to : goal.goes_down-requires-clause-to
goes_down-requires-clause-to g c =
    (within_start (bound_at c.args.region.now.lo.now) (last_at c.args.region.now.hi.now) c.loop-letter.row
    c.loop-letter.col c.loop-letter.invariant.traced.back c.loop-letter.invariant.traced.within).to

pub loop-letter-preserved : goal.loop-letter-preserved
loop-letter-preserved g c =
    let a = arcs c.args.strip.now in
    let lo = bound_at c.args.region.now.lo.now in
    let hi = last_at c.args.region.now.hi.now in
    let n = cols c.args.strip.now in
    let word = (canonical a c.args.region.now.start 0 (c.args.region.now.end - c.args.region.now.start) n).word in
    let t = c.loop-letter.invariant.traced in
    record {
      traced = elim c.if-goes_down.branch [
        | then-goes_down w ↦ (let yes : IsTrue c.goes_down.result = search (rules, w.if-goes_down.true) in
            let d = c.goes_down.ensures.down yes in
            traced_same a lo hi n c.args.region.now.start c.args.region.now.end word _ c.if-goes_down.path _
            c.if-goes_down.row _ c.if-goes_down.col w.path-is w.row-is w.col-is
            (traced_down a lo hi n c.args.region.now.start c.args.region.now.end word c.loop-letter.path
            c.loop-letter.row c.loop-letter.col t d
            (omega (arith, d.row, c.requires.path, c.loop-letter.auto.path, c.begin_path.auto.path))))
        | else-goes_down w ↦ (let not' : IsFalse c.goes_down.result = search (rules, w.if-goes_down.false) in
            let d = c.goes_down.ensures.right not' in
            traced_same a lo hi n c.args.region.now.start c.args.region.now.end word _ c.if-goes_down.path _
            c.if-goes_down.row _ c.if-goes_down.col w.path-is w.row-is w.col-is
            (traced_right a lo hi n c.args.region.now.start c.args.region.now.end word c.loop-letter.path
            c.loop-letter.row c.loop-letter.col t d))
      ];
      place = elim c.if-goes_down.branch [
        | then-goes_down w ↦ omega (arith, w.row-is, w.col-is, c.loop-letter.invariant.place)
        | else-goes_down w ↦ omega (arith, w.row-is, w.col-is, c.loop-letter.invariant.place)
      ];
    }

pub returns : goal.returns
returns g c =
    let w = c.requires.width in
    let a = arcs c.args.strip.now in
    let n = cols c.args.strip.now in
    let k = canonical a c.args.region.now.start 0 (c.args.region.now.end - c.args.region.now.start) n in
    let t = c.loop-letter.invariant.traced in
    let e : c.loop-letter.row ≡ c.args.region.now.end =
    omega (
      arith,
      t.above,
      t.left,
      c.loop-letter.invariant.place,
      c.loop-letter-test.false,
      c.args.region.now.order,
      w,
    ) in
    let f : c.loop-letter.col ≡ n = omega
    (arith, t.above, t.left, c.loop-letter.invariant.place, c.loop-letter-test.false, c.args.region.now.order, w) in
    let fits : c.args.region.now.end + 1 < length c.loop-letter.path =
    omega (arith, c.requires.path, c.loop-letter.auto.path, c.begin_path.auto.path) in
    traced_all a (bound_at c.args.region.now.lo.now) (last_at c.args.region.now.hi.now) n c.args.region.now.start
    c.args.region.now.end k.word c.loop-letter.path c.args.region.now.order fits k.first
    (traced_same a (bound_at c.args.region.now.lo.now) (last_at c.args.region.now.hi.now) n c.args.region.now.start
    c.args.region.now.end k.word c.loop-letter.path c.loop-letter.path c.loop-letter.row c.args.region.now.end
    c.loop-letter.col n refl (sym e) (sym f) t)
