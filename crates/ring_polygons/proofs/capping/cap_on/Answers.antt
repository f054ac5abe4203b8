use Rattle.std.proofs.Common.{arith, ◌<◌, ℕ, List, sym, subst, All}
use Rattle.std.proofs.lemmas.Grind.{common_steps}
use Rattle.ring_polygons.specs.Caps.{top_cap, LeavesRing}
use Rattle.ring_polygons.proofs.CapLaws.{face_total, cap_three}
use Rattle.ring_polygons.proofs.Turned.{faced_all}
use Rattle.ring_polygons.proofs.capping.cap_on.Goals as goal

turned : goal.returns-clause-triangles
turned c = grind (arith, common_steps)

pub returns-clause-triangles : goal.returns-clause-triangles
returns-clause-triangles c = turned c

pub returns-clause-left_over : goal.returns-clause-left_over
returns-clause-left_over c =
    let ring = c.args.ring.now in
    subst (λ (ts : List (List ℕ)). LeavesRing c.args.face ts ring.ids.items) (sym (turned c))
    (face_total c.args.face ring.points.items ring.ids.items (omega (arith, ring.one_id_each, c.requires.enough))
    ring.one_id_each)

pub returns-clause-vertices : goal.returns-clause-vertices
returns-clause-vertices c n below =
    let ring = c.args.ring.now in
    let top = top_cap ring.points.items ring.ids.items in
    let known = subst (λ (ts : List (List ℕ)). All (All (λ (v : ℕ). v < n)) ts) c.in_ok-list.ensures.triangles
    (c.in_ok-list.ensures.vertices n below) in
    subst (All (All (λ (v : ℕ). v < n))) (sym (turned c))
    (faced_all (λ (v : ℕ). v < n) c.args.face top
    (cap_three ring.points.items ring.ids.items (omega (arith, ring.one_id_each, c.requires.enough))
    ring.one_id_each) known)
