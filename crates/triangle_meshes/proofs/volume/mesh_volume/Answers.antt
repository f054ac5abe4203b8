use Rattle.std.proofs.Common.{arith, ◌≡◌, ◌≤◌, ◌<◌, ◌+◌, ◌*◌, ℕ, ℤ, ◌+ℤ◌, [], length, get_or, take, refl, All, unsigned_abs, to_z, sym, ap, ap₂, ◌∙◌, subst}
use Rattle.std.specs.Prelude.{sum_by}
use mir.Syntax.{w128}
use Rattle.std.proofs.lemmas.List.Sums.{sum_by_more, sum_by_more_le}
use Rattle.fku_types.specs.declared.limits.TheConstants.{MAX_MESH_TRIANGLES}
use Rattle.plane_geom.specs.Rings.{IsClosed}
use Rattle.triangle_meshes.specs.Meshes.{triangle_lists}
use Rattle.triangle_meshes.proofs.Parts.{part_read, few_in_part}
use Rattle.triangle_meshes.specs.Volumes.{part_volume}
use Rattle.triangle_meshes.proofs.Sizes.{one_more, sum_within}
use Rattle.triangle_meshes.proofs.Anywhere.{sum_more}
use Rattle.triangle_meshes.proofs.volume.mesh_volume.Goals as goal

pub part_volume-sum-requires-clause-known : goal.part_volume-sum-requires-clause-known
part_volume-sum-requires-clause-known c =
    let ps = c.args.parts.now in
    let i = c.loop-part.part-index in
    let part = part_read ps ps i c.part-item.result c.deref.result.now c.deref.ensures.value refl c.loop-part-test.true
    c.part-item.is in
    subst (All (All (λ id. id < length c.args.vertices.now))) (sym part.is) (c.requires.known i [] part.there)

pub part_volume-sum-requires-clause-few : goal.part_volume-sum-requires-clause-few
part_volume-sum-requires-clause-few c =
    let ps = c.args.parts.now in
    let i = c.loop-part.part-index in
    let part = part_read ps ps i c.part-item.result c.deref.result.now c.deref.ensures.value refl c.loop-part-test.true
    c.part-item.is in
    omega (arith, ap length part.is, few_in_part ps i MAX_MESH_TRIANGLES part.there c.requires.few)

small : (s t : ℤ) (m n k : ℕ) → k ≡ m + n → unsigned_abs s ≤ m * 48000000000000000000
    → unsigned_abs t ≤ n * 48000000000000000000 → unsigned_abs (s +ℤ t) ≤ k * 48000000000000000000
small s t m n k e f g = omega (arith, sum_within s t (m * 48000000000000000000) (n * 48000000000000000000) f g)

pub loop-part-preserved : goal.loop-part-preserved
loop-part-preserved c =
    let vs = c.args.vertices.now in
    let about = c.args.about in
    let ps = c.args.parts.now in
    let ls = triangle_lists ps in
    let i = c.loop-part.part-index in
    let inv = c.loop-part.invariant in
    let part = part_read ps ps i c.part-item.result c.deref.result.now c.deref.ensures.value refl c.loop-part-test.true
    c.part-item.is in
    let s = to_z w128 c.loop-part.sum-bits in
    let t = c.part_volume-sum.result in
    let ensures = c.part_volume-sum.ensures in
    let more = sum_by_more length ls i [] part.there in
    let few = sum_by_more_le length ls i [] part.there in
    let size : unsigned_abs t ≤ length (get_or ls i []) * 48000000000000000000 =
    omega (arith, ensures.range, ap length part.is) in
    let bound = small s t (sum_by length (take i ls)) (length (get_or ls i [])) (sum_by length (take (i + 1) ls)) more
    inv.bound size in
    let fit = one_more s t (omega (arith, bound, few, c.requires.few, more)) (omega (arith, size, few, c.requires.few))
    in
    record {
      sum = fit ∙ ap₂ ◌+ℤ◌ inv.sum (ensures.value ∙ ap (part_volume vs about) part.is)
          ∙ sym (sum_more (part_volume vs about) ls i [] part.there);
      bound = omega (arith, ap unsigned_abs fit, bound);
      anywhere = λ closed o.
          sum_more (part_volume vs o) ls i [] part.there
          ∙ ap₂ ◌+ℤ◌ (inv.anywhere closed o)
          (sym (ap (part_volume vs o) part.is)
          ∙ ensures.anywhere (subst IsClosed (sym part.is) (closed i [] part.there)) o)
          ∙ sym fit;
    }
