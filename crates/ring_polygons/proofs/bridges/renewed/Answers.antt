use Rattle.std.proofs.Common.{arith, ℕ, ◌+◌, ◌-◌, ◌≡◌, subst, take, drop}
use Rattle.ring_polygons.specs.Nearest.{IsNearest}
use Rattle.ring_polygons.proofs.NearestLaws.{IsMoved, kept, taken}
use Rattle.ring_polygons.proofs.bridges.renewed.Goals as goal

pub returns-then-precedes : goal.returns-then-precedes
returns-then-precedes c before n h =
    let m : IsMoved c.args.place c.args.added c.args.near.place c.moved.result =
    record { front = c.moved.ensures.front; back = c.moved.ensures.back } in
    let size : c.args.place + 1 + c.args.added - (c.args.place + 1) ≡ c.args.added = omega arith in
    let f = subst (λ (k : ℕ). IsNearest (take k (drop (c.args.place + 1) c.args.after.now)) c.args.other.now
    c.nearest-fresh.result) size c.nearest-fresh.ensures in
    let p = c.precedes.ensures.less c.if-precedes.true in
    taken before c.args.after.now c.args.other.now c.args.near c.nearest-fresh.result c.args.place c.args.added
    c.moved.result n h f m p.0 p.1

pub returns-else-precedes : goal.returns-else-precedes
returns-else-precedes c before n h =
    let m : IsMoved c.args.place c.args.added c.args.near.place c.moved.result =
    record { front = c.moved.ensures.front; back = c.moved.ensures.back } in
    let size : c.args.place + 1 + c.args.added - (c.args.place + 1) ≡ c.args.added = omega arith in
    let f = subst (λ (k : ℕ). IsNearest (take k (drop (c.args.place + 1) c.args.after.now)) c.args.other.now
    c.nearest-fresh.result) size c.nearest-fresh.ensures in
    let p = c.precedes.ensures.not_less c.if-precedes.false in
    kept before c.args.after.now c.args.other.now c.args.near c.nearest-fresh.result c.args.place c.args.added
    c.moved.result n h f m p.0 p.1
