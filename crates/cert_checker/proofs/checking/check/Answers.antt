use Rattle.std.proofs.Common.{rules}
use Rattle.strip_graph.specs.Strips.{arcs, rows, cols}
use Rattle.strip_graph.proofs.Around.{arcs-periodic}
use Rattle.strip_graph.proofs.Soundness.{certificate_bounds}
use Rattle.cert_checker.specs.Verdicts.{Holds}
use Rattle.cert_checker.proofs.checking.check.Goals as goal

pub returns-in-None-clause-least : goal.returns-in-None-clause-least
returns-in-None-clause-least c =
    let p = c.args.pair.now in
    let k = c.args.cert.now in
    let holds : Holds p k = search rules in
    λ _. certificate_bounds (arcs p) (rows p) (cols p) k.rows k.cols k.cost k.tiling.row k.tiling.word.items k.pi.items
    (arcs-periodic p) holds
