use Rattle.std.proofs.Common.{◌≡◌, ℕ, ◌*◌, map, length, refl, subst, arith}
use Rattle.std.specs.Prelude.{min}
use Rattle.std.proofs.lemmas.List.{length-map}
use Rattle.plane_geom.specs.Nesting.CountedAmong.{at_begin}
use Rattle.correspondence.specs.declared.groups.TheConstants.{GROUP}
use Rattle.correspondence.specs.Contours.{points_of}
use Rattle.correspondence.specs.Nesting.{IsDepthAmong}
use Rattle.correspondence.proofs.Nested.{depth_whole}
use Rattle.correspondence.proofs.nesting.depth.Goals as goal

pub loop-group-init : goal.loop-group-init
loop-group-init c =
    let begin : 0 ≡ min (length c.args.contours.now) 0 = omega arith in
    subst (λ (e : ℕ). IsDepthAmong (map points_of c.args.contours.now) c.args.place e 0) begin
    (record { counted = refl; among = at_begin; few = omega arith })

pub returns-clause-depth : goal.returns-clause-depth
returns-clause-depth c =
    let contours = map points_of c.args.contours.now in
    let reached = min (length c.args.contours.now) (c.loop-group.group-index * GROUP) in
    let all : reached ≡ length contours =
    omega (arith, length-map c.args.contours.now points_of, c.requires.groups.all, c.loop-group-test.false) in
    depth_whole contours c.args.place c.loop-group.count reached all c.loop-group.invariant
