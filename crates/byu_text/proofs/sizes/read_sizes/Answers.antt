use Rattle.std.proofs.Common.{arith, ◌≡◌, ◌+◌, ◌*◌, ℕ, length, drop, [], ◌∷◌, ◌++◌, List, sym, ap, ◌∙◌, subst}
use Rattle.std.specs.Prelude.{sum}
use Rattle.std.specs.List.{concat}
use Rattle.std.proofs.lemmas.List.{length-append}
use Rattle.std.proofs.lemmas.List.Sums.{sum_by_push}
use Rattle.byu_text.specs.Pieces.{AreSizes, size_lines}
use Rattle.byu_text.specs.Stages.{counts_of}
use Rattle.byu_text.proofs.Steps.{sizes_more, size_lines_more, size_fault_at}
use Rattle.byu_text.proofs.sizes.read_sizes.Goals as goal

pub returns-in_default-clause-err : goal.returns-in_default-clause-err
returns-in_default-clause-err c =
    let inv = c.loop-part.invariant in
    size_fault_at c.args.text.now (counts_of c.args.head) c.loop-part.sizes.items c.loop-part.first c.loop-part.part
    (33 + 17 * c.loop-part.part) c.requires inv.are inv.count inv.first c.loop-part-test.true inv.lines
    c.in_default.ensures

pub loop-part-preserved : goal.loop-part-preserved
loop-part-preserved c =
    let inv = c.loop-part.invariant in
    let old = c.loop-part.sizes.items in
    let n : ℕ = c.in-Some.size in
    let items = c.in_ok-extend_from_slice.ensures.items in
    let lines = size_lines_more c.args.text.now old n c.loop-part.first (33 + 17 * c.loop-part.part)
    (33 + 17 * c.loop-part.part + 17) inv.first inv.lines c.in-Some.ensures.1 in
    record {
      are = subst (AreSizes (counts_of c.args.head)) (sym items)
          (sizes_more (counts_of c.args.head) old n c.loop-part.first c.loop-part.part inv.are inv.count inv.first
          c.loop-part-test.true c.in-Some.ensures.0);
      count = omega (arith, ap length items, length-append old (n ∷ []), inv.count);
      first = omega (arith, ap sum items, sum_by_push (λ (x : ℕ). x) old n, inv.first);
      lines = lines ∙ ap (λ (k : ℕ). concat (size_lines 1 (old ++ n ∷ [])) ++ drop k c.args.text.now)
          (let k : 33 + 17 * c.loop-part.part + 17 ≡ 33 + 17 * (c.loop-part.part + 1) = omega arith in k)
          ∙ ap (λ (l : List ℕ). concat (size_lines 1 l) ++ drop (33 + 17 * (c.loop-part.part + 1)) c.args.text.now)
          (sym items);
    }
