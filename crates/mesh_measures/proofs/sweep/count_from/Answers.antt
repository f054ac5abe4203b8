use Rattle.std.proofs.Common.{◌+◌, ◌<◌, ◌^◌, List, sym, subst, All, count_by, get_or, slice_index}
use Rattle.mesh_measures.specs.declared.triangle_boxes.Boxed.{Boxed}
use Rattle.mesh_measures.specs.TriangleBoxes.{ComesAfter, IsSwept, crosses_at}
use Rattle.mesh_measures.proofs.Rests.{rest_is, behind_rest, swept_rest, room_rest}
use Rattle.mesh_measures.proofs.Whole.{blank}
use Rattle.mesh_measures.proofs.sweep.count_from.Goals as goal

pub count_behind-own-requires-clause-behind : goal.count_behind-own-requires-clause-behind
count_behind-own-requires-clause-behind c =
    let xs = c.args.sorted.now in
    let n = c.args.place in
    subst (All (ComesAfter (get_or xs n blank))) (sym (rest_is xs (n + 1)))
    (behind_rest xs n blank c.requires.place c.requires.swept)

pub count_behind-own-requires-clause-swept : goal.count_behind-own-requires-clause-swept
count_behind-own-requires-clause-swept c =
    let xs = c.args.sorted.now in
    let n = c.args.place in
    subst IsSwept (sym (rest_is xs (n + 1))) (swept_rest xs (n + 1) c.requires.swept)

pub count_behind-own-requires-clause-room : goal.count_behind-own-requires-clause-room
count_behind-own-requires-clause-room c = λ i.
    let xs = c.args.sorted.now in
    let n = c.args.place in
    subst (λ (ys : List Boxed). slice_index c.args.counts.now i
    + count_by (crosses_at (get_or xs n blank) i) ys < 2 ^ 32) (sym (rest_is xs (n + 1)))
    (room_rest xs n blank i (slice_index c.args.counts.now i) (2 ^ 32) c.requires.place (c.requires.room i))
