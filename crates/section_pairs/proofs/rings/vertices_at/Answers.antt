use Rattle.std.proofs.Common.{◌≡◌, ◌+◌, arith}
use Rattle.section_pairs.proofs.SectionRings.{section_vertices, first_is, few_ids, few_firsts, ids_more}
use Rattle.section_pairs.proofs.rings.vertices_at.Goals as goal

pub returns-then-place-all-clause-next : goal.returns-then-place-all-clause-next
returns-then-place-all-clause-next c =
    let S = c.args.sections.now in
    let ss = c.sections-all.result.now in
    let i = c.args.place in
    let s = c.index-all-place.result in
    let size : c.count_vertices.result ≡ section_vertices s = c.count_vertices.ensures in
    omega (
      arith,
      size,
      first_is ss S i c.sections-all.ensures.«data»,
      first_is ss S (i + 1) c.sections-all.ensures.«data»,
      ids_more ss i s c.if-place-all.true c.index-all-place.is,
    )

pub returns-then-place-all-clause-few : goal.returns-then-place-all-clause-few
returns-then-place-all-clause-few c =
    let S = c.args.sections.now in
    let ss = c.sections-all.result.now in
    let s = c.index-all-place.result in
    let size : c.count_vertices.result ≡ section_vertices s = c.count_vertices.ensures in
    omega (
      arith,
      size,
      first_is ss S c.args.place c.sections-all.ensures.«data»,
      few_ids ss c.args.place s c.sections-all.ensures.kept c.if-place-all.true c.index-all-place.is,
    )

pub returns-else-place-all-clause-few : goal.returns-else-place-all-clause-few
returns-else-place-all-clause-few c =
    omega (
      arith,
      few_firsts c.sections-all.result.now c.args.sections.now c.args.place c.sections-all.ensures.«data»
          c.sections-all.ensures.kept,
    )
