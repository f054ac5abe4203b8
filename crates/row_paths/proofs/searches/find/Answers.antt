use Rattle.std.proofs.Common.{ℕ, ◌-◌, sym, subst, subst₂, arith, ◌∙◌}
use Rattle.strip_graph.specs.Strips.{arcs, cols}
use Rattle.strip_graph.specs.Regions.{IsRegional}
use Rattle.row_paths.specs.Searches.{bound_at, last_at}
use Rattle.row_paths.specs.InRegions.{AllWays}
use Rattle.row_paths.proofs.AmountLaws.{read_is}
use Rattle.row_paths.proofs.Traces.{found_cost}
use Rattle.row_paths.proofs.searches.find.Goals as goal

pub trace-requires-clause-known : goal.trace-requires-clause-known
trace-requires-clause-known g c =
    subst (AllWays c.args.strip.now c.args.region.now) (sym c.deref.ensures.value) c.fill_table.ensures.ways

pub returns-clause-cost : goal.returns-clause-cost
returns-clause-cost g c =
    let a = arcs c.args.strip.now in
    let lo = bound_at c.args.region.now.lo.now in
    let hi = last_at c.args.region.now.hi.now in
    let end = c.args.region.now.end in
    let start = c.args.region.now.start in
    let first = read_is g.C.Sum.Amount.value c.fill_table.new.table.starts.items start c.index.result.now
    c.index.ensures (omega (arith, c.fill_table.ensures.table.starts, c.requires.end, c.args.region.now.order)) in
    found_cost a lo hi end (cols c.args.strip.now) start c.wide.result
    (λ e. subst₂ (λ (n x : ℕ). IsRegional a lo hi start 0 (end - start) (n - 0) x) c.requires.width
    (sym (c.wide.ensures ∙ first)) (c.fill_table.ensures.starts start (omega arith) c.args.region.now.order e))
    c.requires.within
