use Rattle.std.proofs.Common.{arith, rules, true, false, ◌≡◌, ◌<◌, ◌∙◌, ℕ, ◌+◌, ◌-◌, [], ◌∷◌, ◌++◌, sym}
use Rattle.strip_graph.specs.declared.tilings.Step.TheVariants.{V, H}
use Rattle.round_sweeps.specs.Searched.{guarded}
use Rattle.round_sweeps.specs.Searches.{way_at}
use Rattle.round_sweeps.proofs.SearchLaws.{guarded_down, guarded_right, spelled_down, spelled_right, spelled_end}
use Rattle.round_sweeps.proofs.turns.spell_ways.Goals as goal
use Rattle.round_sweeps.proofs.turns.spell_ways.Goals.{then-goes_down+in_ok-push, else-goes_down+in_ok-push-2}

pub loop-letter-preserved : goal.loop-letter-preserved
loop-letter-preserved c =
    let m : ℕ = c.args.rows in
    let n : ℕ = c.args.cols in
    let h = c.loop-letter.invariant in
    let way = guarded m n (way_at m c.args.ways.now) in
    let row : ℕ = c.loop-letter.row in
    let col : ℕ = c.loop-letter.col in
    let f : ℕ = m + n - (c.loop-letter.letter + 1) in
    let more : row + col < m + n = omega (arith, h.place, c.loop-letter-test.true) in
    let g : m + n - c.loop-letter.letter ≡ f + 1 = omega (arith, c.loop-letter-test.true) in
    record {
      place = elim c.if-goes_down.branch [
        | then-goes_down+in_ok-push w ↦ omega (arith, w.row-is, w.col-is, h.place)
        | else-goes_down+in_ok-push-2 w ↦ omega (arith, w.row-is, w.col-is, h.place)
      ];
      row_in = elim c.if-goes_down.branch [
        | then-goes_down+in_ok-push w ↦ (let t : way row col ≡ true = sym c.goes_down.ensures
            ∙ search (rules, w.if-goes_down.true) in
            omega (arith, w.row-is, guarded_down m n (way_at m c.args.ways.now) row col t))
        | else-goes_down+in_ok-push-2 w ↦ omega (arith, w.row-is, h.row_in)
      ];
      col_in = elim c.if-goes_down.branch [
        | then-goes_down+in_ok-push w ↦ omega (arith, w.col-is, h.col_in)
        | else-goes_down+in_ok-push-2 w ↦ (let t : way row col ≡ false = sym c.goes_down.ensures
            ∙ search (rules, w.if-goes_down.false) in
            omega (arith, w.col-is, guarded_right m n (way_at m c.args.ways.now) row col t h.row_in more))
      ];
      spelled = elim c.if-goes_down.branch [
        | then-goes_down+in_ok-push w ↦ (let t : way row col ≡ true = sym c.goes_down.ensures
            ∙ search (rules, w.if-goes_down.true) in
            let e : c.if-goes_down.word.items ≡ c.loop-letter.word.items ++ V ∷ [] =
            cc (w.word-is, w.in_ok-push.ensures.items) in
            rw (w.row-is, w.col-is) (spelled_down way f _ row col c.loop-letter.word.items c.if-goes_down.word.items _ g
            t e h.spelled))
        | else-goes_down+in_ok-push-2 w ↦ (let t : way row col ≡ false = sym c.goes_down.ensures
            ∙ search (rules, w.if-goes_down.false) in
            let e : c.if-goes_down.word.items ≡ c.loop-letter.word.items ++ H ∷ [] =
            cc (w.word-is, w.in_ok-push-2.ensures.items) in
            rw (w.row-is, w.col-is) (spelled_right way f _ row col c.loop-letter.word.items c.if-goes_down.word.items _
            g t e h.spelled))
      ];
    }

pub returns : goal.returns
returns c =
    let m : ℕ = c.args.rows in
    let n : ℕ = c.args.cols in
    let h = c.loop-letter.invariant in
    spelled_end (guarded m n (way_at m c.args.ways.now)) _ c.loop-letter.row c.loop-letter.col c.loop-letter.word.items
    _ (omega (arith, c.loop-letter-test.false)) h.spelled
