use Rattle.std.proofs.Common.{arith, ◌≡◌, ◌∙◌, ap, ap₂, ◌≤◌, ◌*ℤ◌, ◌+ℤ◌, ◌-ℤ◌, ℤ, unsigned_abs, to_z, of_z, w64}
use Rattle.triangle_meshes.proofs.Sizes.{three, two_fit, three_fit, sum_within}
use Rattle.plane_geom.proofs.Signed.{passed_i64}
use Rattle.plane_geom.specs.Planes.{cross_product}
use Rattle.triangle_meshes.proofs.tetrahedra.determinant.Goals as goal

pub overflow_add-result : goal.overflow_add-result
overflow_add-result c = two_fit c.product-by_x.result c.product-by_y.result c.product-by_x.ensures.range
    c.product-by_y.ensures.range

pub overflow_add-result-2 : goal.overflow_add-result-2
overflow_add-result-2 c = three_fit c.product-by_x.result c.product-by_y.result c.product-by_z.result
    c.product-by_x.ensures.range c.product-by_y.ensures.range c.product-by_z.ensures.range

-- a difference passed to a call is itself
passed : (x : ℤ) → unsigned_abs x ≤ 1999998 → to_z w64 (of_z w64 x) ≡ x
passed x h = passed_i64 x (omega arith)

-- one of the three products
by : (r d k ux uy vx vy : ℤ) → unsigned_abs d ≤ 1999998 → unsigned_abs k ≤ 8000000000000 → unsigned_abs ux ≤ 1999998
    → unsigned_abs uy ≤ 1999998 → unsigned_abs vx ≤ 1999998 → unsigned_abs vy ≤ 1999998 →
    r ≡ to_z w64 (of_z w64 d) *ℤ to_z w64 (of_z w64 k)
    → k ≡ cross_product (to_z w64 (of_z w64 ux)) (to_z w64 (of_z w64 uy)) (to_z w64 (of_z w64 vx))
    (to_z w64 (of_z w64 vy)) → r ≡ d *ℤ cross_product ux uy vx vy
by r d k ux uy vx vy dn kn uxn uyn vxn vyn product is =
    product ∙ ap₂ ◌*ℤ◌ (passed d dn) (passed_i64 k kn ∙ is
    ∙ ap₂ ◌-ℤ◌ (ap₂ ◌*ℤ◌ (passed ux uxn) (passed vy vyn)) (ap₂ ◌*ℤ◌ (passed uy uyn) (passed vx vxn)))

pub returns-clause-value : goal.returns-clause-value
returns-clause-value c =
    let p = c.args.p in
    let q = c.args.q in
    let r = c.args.r in
    let pn = c.requires.p in
    let qn = c.requires.q in
    let rn = c.requires.r in
    let x = by c.product-by_x.result p.x c.cross.result q.y q.z r.y r.z pn.x c.cross.ensures.range qn.y qn.z rn.y rn.z
    c.product-by_x.ensures.value c.cross.ensures.value in
    let y = by c.product-by_y.result p.y c.cross-2.result q.z q.x r.z r.x pn.y c.cross-2.ensures.range qn.z qn.x rn.z
    rn.x c.product-by_y.ensures.value c.cross-2.ensures.value in
    let z = by c.product-by_z.result p.z c.cross-3.result q.x q.y r.x r.y pn.z c.cross-3.ensures.range qn.x qn.y rn.x
    rn.y c.product-by_z.ensures.value c.cross-3.ensures.value in
    three c.product-by_x.result c.product-by_y.result c.product-by_z.result c.product-by_x.ensures.range
    c.product-by_y.ensures.range c.product-by_z.ensures.range ∙ ap₂ ◌+ℤ◌ (ap₂ ◌+ℤ◌ x y) z

pub returns-clause-range : goal.returns-clause-range
returns-clause-range c =
    omega (
      arith,
      ap unsigned_abs (three c.product-by_x.result c.product-by_y.result c.product-by_z.result
          c.product-by_x.ensures.range c.product-by_y.ensures.range c.product-by_z.ensures.range),
      sum_within (c.product-by_x.result +ℤ c.product-by_y.result) c.product-by_z.result 32000000000000000000
          16000000000000000000 (sum_within c.product-by_x.result c.product-by_y.result 16000000000000000000
          16000000000000000000 c.product-by_x.ensures.range c.product-by_y.ensures.range) c.product-by_z.ensures.range,
    )
