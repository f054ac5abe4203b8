use Rattle.std.proofs.Common.{arith, ◌≡◌, ◌≤◌, ◌<◌, ◌+◌, ◌*◌, ℕ, ℤ, ◌+ℤ◌, [], length, get_or, All, unsigned_abs, to_z, sym, ap, ap₂, ◌∙◌, take_all}
use mir.Syntax.{w128}
use Rattle.std.proofs.lemmas.List.{get_or_default}
use Rattle.fku_types.specs.declared.limits.TheConstants.{MAX_MESH_TRIANGLES}
use Rattle.triangle_meshes.proofs.TriangleCounts.{three_is}
use Rattle.triangle_meshes.specs.Volumes.{six_volume_of, part_volume}
use Rattle.triangle_meshes.proofs.Sizes.{one_more, sum_within}
use Rattle.triangle_meshes.proofs.Anywhere.{HasThree, sum_more, volume_anywhere}
use Rattle.triangle_meshes.proofs.volume.part_volume.Goals as goal

small : (s t : ℤ) (i : ℕ) → i < MAX_MESH_TRIANGLES → unsigned_abs s ≤ i * 48000000000000000000
    → unsigned_abs t ≤ 48000000000000000000 → unsigned_abs (s +ℤ t) ≤ (i + 1) * 48000000000000000000
small s t i l h k = omega (arith, sum_within s t (i * 48000000000000000000) 48000000000000000000 h k)

pub loop-triangle-preserved : goal.loop-triangle-preserved
loop-triangle-preserved c =
    let vs = c.args.vertices.now in
    let o = c.args.about in
    let ts = c.args.triangles.now in
    let i = c.loop-triangle.triangle-index in
    let s = to_z w128 c.loop-triangle.sum-bits in
    let t = c.triangle_volume-sum.result in
    let l = c.loop-triangle-test.true in
    let bound = small s t i (omega (arith, l, c.requires.few)) c.loop-triangle.invariant.bound
    c.triangle_volume-sum.ensures.range in
    let fit = one_more s t (omega (arith, bound, l, c.requires.few))
    (omega (arith, c.triangle_volume-sum.ensures.range)) in
    let value : t ≡ six_volume_of vs o (get_or ts i []) = c.triangle_volume-sum.ensures.value
    ∙ ap (six_volume_of vs o) (three_is (get_or ts i []) (c.told-triangles i l)) in
    record {
      sum = fit ∙ ap₂ ◌+ℤ◌ c.loop-triangle.invariant.sum value ∙ sym (sum_more (six_volume_of vs o) ts i [] l);
      bound = omega (arith, ap unsigned_abs fit, bound);
    }

pub returns-clause-anywhere : goal.returns-clause-anywhere
returns-clause-anywhere c =
    let vs = c.args.vertices.now in
    let ts = c.args.triangles.now in
    let i = c.loop-triangle.triangle-index in
    let whole = c.loop-triangle.invariant.sum
    ∙ ap (part_volume vs c.args.about) (take_all i ts (omega (arith, c.loop-triangle-test.false))) in
    let three : All HasThree ts = λ k d l. ap length (get_or_default ts k d [] l) ∙ c.told-triangles k l in
    λ closed o. volume_anywhere vs ts o c.args.about three closed ∙ sym whole
