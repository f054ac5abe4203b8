use Rattle.std.proofs.Common.{arith, rules, ◌≡◌, ℕ, ◌-◌, [], ◌∷◌, ◌++◌, sym, subst₂, IsTrue, IsFalse}
use Rattle.strip_graph.specs.declared.tilings.Step.TheVariants.{V, H}
use Rattle.strip_graph.specs.Strips.{arcs, cols}
use Rattle.strip_graph.proofs.Canonical.{canonical}
use Rattle.strip_graph.proofs.Regional.{within_start}
use Rattle.row_paths.specs.Searches.{bound_at, last_at}
use Rattle.row_paths.proofs.Traces.{IsSpelled, spelled_down, spelled_right, spelled_all}
use Rattle.row_paths.proofs.searches.spell.Goals as goal
use Rattle.row_paths.proofs.searches.spell.Goals.{then-goes_down+in_ok-push, else-goes_down+in_ok-push-2}

pub goes_down-requires-clause-from : goal.goes_down-requires-clause-from
goes_down-requires-clause-from g c =
    (within_start (bound_at c.args.region.now.lo.now) (last_at c.args.region.now.hi.now) c.loop-letter.row
    c.loop-letter.col c.loop-letter.invariant.spelled.back c.loop-letter.invariant.spelled.within).from

pub goes_down-requires-clause-to : goal.goes_down-requires-clause-to
goes_down-requires-clause-to g c =
    (within_start (bound_at c.args.region.now.lo.now) (last_at c.args.region.now.hi.now) c.loop-letter.row
    c.loop-letter.col c.loop-letter.invariant.spelled.back c.loop-letter.invariant.spelled.within).to

pub loop-letter-preserved : goal.loop-letter-preserved
loop-letter-preserved g c =
    let a = arcs c.args.strip.now in
    let lo = bound_at c.args.region.now.lo.now in
    let hi = last_at c.args.region.now.hi.now in
    let n = cols c.args.strip.now in
    let word = (canonical a c.args.region.now.start 0 (c.args.region.now.end - c.args.region.now.start) n).word in
    let t = c.loop-letter.invariant.spelled in
    record {
      spelled = elim c.if-goes_down.branch [
        | then-goes_down+in_ok-push w ↦ (let yes : IsTrue c.goes_down.result = search (rules, w.if-goes_down.true) in
            let e : c.if-goes_down.word.items ≡ c.loop-letter.word.items ++ V ∷ [] =
            cc (w.word-is, w.in_ok-push.ensures.items) in
            subst₂ (λ (x y : ℕ). IsSpelled a lo hi n c.args.region.now.start c.args.region.now.end word
            c.if-goes_down.word.items x y) (sym w.row-is) (sym w.col-is)
            (spelled_down a lo hi n c.args.region.now.start c.args.region.now.end word c.loop-letter.word.items
            c.if-goes_down.word.items c.loop-letter.row c.loop-letter.col e t (c.goes_down.ensures.down yes)))
        | else-goes_down+in_ok-push-2 w ↦ (let not' : IsFalse c.goes_down.result =
            search (rules, w.if-goes_down.false) in
            let e : c.if-goes_down.word.items ≡ c.loop-letter.word.items ++ H ∷ [] =
            cc (w.word-is, w.in_ok-push-2.ensures.items) in
            subst₂ (λ (x y : ℕ). IsSpelled a lo hi n c.args.region.now.start c.args.region.now.end word
            c.if-goes_down.word.items x y) (sym w.row-is) (sym w.col-is)
            (spelled_right a lo hi n c.args.region.now.start c.args.region.now.end word c.loop-letter.word.items
            c.if-goes_down.word.items c.loop-letter.row c.loop-letter.col e t (c.goes_down.ensures.right not')))
      ];
      place = elim c.if-goes_down.branch [
        | then-goes_down+in_ok-push w ↦ omega (arith, w.row-is, w.col-is, c.loop-letter.invariant.place)
        | else-goes_down+in_ok-push-2 w ↦ omega (arith, w.row-is, w.col-is, c.loop-letter.invariant.place)
      ];
    }

pub returns : goal.returns
returns g c =
    let w = c.requires.width in
    let a = arcs c.args.strip.now in
    let n = cols c.args.strip.now in
    let k = canonical a c.args.region.now.start 0 (c.args.region.now.end - c.args.region.now.start) n in
    let t = c.loop-letter.invariant.spelled in
    let e : c.loop-letter.row ≡ c.args.region.now.end =
    omega (
      arith,
      t.above,
      t.left,
      c.loop-letter.invariant.place,
      c.loop-letter-test.false,
      c.args.region.now.order,
      w,
    ) in
    let f : c.loop-letter.col ≡ n = omega
    (arith, t.above, t.left, c.loop-letter.invariant.place, c.loop-letter-test.false, c.args.region.now.order, w) in
    spelled_all a (bound_at c.args.region.now.lo.now) (last_at c.args.region.now.hi.now) n c.args.region.now.start
    c.args.region.now.end k.word c.loop-letter.word.items c.loop-letter.row c.loop-letter.col e f k.first t
