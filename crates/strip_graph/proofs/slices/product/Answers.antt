use Rattle.std.proofs.Common.{to_z-of_z}
use Rattle.strip_graph.proofs.slices.product.Goals as goal
use Rattle.plane_geom.proofs.ProductBounds.{product_fits, product-le}

pub overflow_mul-result : goal.overflow_mul-result
overflow_mul-result c =
    let f = c.ranges.a in let g = c.ranges.b in
    simp to_z-of_z (product_fits c.args.a c.args.b c.requires.a c.requires.b)

pub returns-clause-value : goal.returns-clause-value
returns-clause-value c =
    let f = c.ranges.a in let g = c.ranges.b in
    let ab = product_fits c.args.a c.args.b c.requires.a c.requires.b in
    simp to_z-of_z

pub returns-clause-range : goal.returns-clause-range
returns-clause-range c =
    let f = c.ranges.a in let g = c.ranges.b in
    let ab = product_fits c.args.a c.args.b c.requires.a c.requires.b in
    simp to_z-of_z (product-le c.args.a c.args.b c.requires.a c.requires.b)
