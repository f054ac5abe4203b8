use Rattle.std.proofs.Common.{arith, ◌≡◌, ◌<◌, ◌+◌, ◌*◌, ◌/◌, ◌++◌, List, ℕ, length, drop, sym, ap, ◌∙◌, subst}
use Rattle.std.specs.List.{concat}
use Rattle.std.proofs.lemmas.List.{length-append}
use Rattle.fku_types.specs.declared.points.Point.{Point}
use Rattle.byu_text.specs.Fields.{coordinates_line}
use Rattle.byu_text.specs.Pieces.{ArePoints, point_lines}
use Rattle.byu_text.specs.Stages.{counts_of, NoneOf, AreNext, point_lines_at}
use Rattle.byu_text.proofs.Steps.{points_more, two_more, points_fault_at}
use Rattle.byu_text.proofs.points.read_pairs.Goals as goal

pub returns-in_default-clause-err : goal.returns-in_default-clause-err
returns-in_default-clause-err c =
    let inv = c.loop-pair.invariant in
    let h = counts_of c.args.head in
    let j : ℕ = c.loop-pair.pair in
    let l : j < h.vertices / 2 = c.loop-pair-test.true in
    points_fault_at c.args.text.now h c.requires.sizes.0 c.loop-pair.points.items j (point_lines_at h + 73 * j) 2
    c.requires.head c.requires.sizes.1 inv.are inv.count (omega (arith, l)) (omega (arith, l)) inv.lines
    (subst (λ (a : ℕ). NoneOf (AreNext 2) coordinates_line (drop (a + 73 * j) c.args.text.now)) c.points_at.ensures
    c.in_default.ensures)

pub loop-pair-preserved : goal.loop-pair-preserved
loop-pair-preserved c =
    let inv = c.loop-pair.invariant in
    let h = counts_of c.args.head in
    let j : ℕ = c.loop-pair.pair in
    let l : j < h.vertices / 2 = c.loop-pair-test.true in
    let old = c.loop-pair.points.items in
    let two : List Point = c.in-Some.two in
    let items = c.in_ok-extend_from_slice.ensures.items in
    let here : drop (point_lines_at h + 73 * j) c.args.text.now ≡ coordinates_line two
    ++ drop (point_lines_at h + 73 * j + 73) c.args.text.now =
    subst (λ (a : ℕ). drop (a + 73 * j) c.args.text.now ≡ coordinates_line two
    ++ drop (a + 73 * j + 73) c.args.text.now) c.points_at.ensures c.in-Some.ensures.1 in
    let lines = two_more c.args.text.now old two j (point_lines_at h + 73 * j) (point_lines_at h)
    (point_lines_at h + 73 * j + 73) inv.count c.in-Some.ensures.0 inv.lines here in
    record {
      are = subst (ArePoints h) (sym items)
          (points_more h old two 2 inv.are c.in-Some.ensures.0 (omega (arith, inv.count, l)));
      count = omega (arith, ap length items, length-append old two, inv.count, c.in-Some.ensures.0.long);
      lines = lines ∙ ap (λ (k : ℕ). concat (point_lines (old ++ two)) ++ drop k c.args.text.now)
          (let k : point_lines_at h + 73 * j + 73 ≡ point_lines_at h + 73 * (j + 1) = omega arith in k)
          ∙ ap (λ (l : List Point). concat (point_lines l) ++ drop (point_lines_at h + 73 * (j + 1)) c.args.text.now)
          (sym items);
    }
