use Rattle.std.proofs.Common.{◌≡◌, ◌∙◌, ◌&&◌, ◌≤◌, Bool, ℤ, unsigned_abs, to_z, of_z, w32, ap, ap₂, sym}
use Rattle.mesh_measures.specs.TriangleBoxes.{overlap}
use Rattle.plane_geom.proofs.Signed.{passed_i32}
use Rattle.mesh_measures.proofs.triangle_boxes.boxes_meet.Goals as goal
use Rattle.mesh_measures.proofs.triangle_boxes.boxes_meet.Goals.{Joined-overlap, then-overlap, else-overlap}

-- ranges passed to a call are themselves
passed : (r : Bool) (a b c d : ℤ) → unsigned_abs a ≤ 999999 → unsigned_abs b ≤ 999999 → unsigned_abs c ≤ 999999
    → unsigned_abs d ≤ 999999
    → r ≡ overlap (to_z w32 (of_z w32 a)) (to_z w32 (of_z w32 b)) (to_z w32 (of_z w32 c)) (to_z w32 (of_z w32 d))
    → r ≡ overlap a b c d
passed r a b c d h k l m e =
    e ∙ ap₂ (λ (x y : ℤ). overlap x y (to_z w32 (of_z w32 c)) (to_z w32 (of_z w32 d))) (passed_i32 a h) (passed_i32 b k)
    ∙ ap₂ (λ (x y : ℤ). overlap a b x y) (passed_i32 c l) (passed_i32 d m)

-- in two directions
both : (c : Joined-overlap)
    → c.if-overlap.value
    ≡ (overlap c.args.s.now.least.y c.args.s.now.greatest.y c.args.t.now.least.y c.args.t.now.greatest.y
    && overlap c.args.s.now.least.z c.args.s.now.greatest.z c.args.t.now.least.z c.args.t.now.greatest.z)
both c =
    let s = c.args.s.now in
    let t = c.args.t.now in
    let r = c.requires in
    let z = overlap s.least.z s.greatest.z t.least.z t.greatest.z in
    let first = passed _ s.least.y s.greatest.y t.least.y t.greatest.y r.s.least.y r.s.greatest.y r.t.least.y
    r.t.greatest.y c.overlap.ensures in
    elim c.if-overlap.branch [
      | then-overlap w ↦ w.value-is ∙ passed _ s.least.z s.greatest.z t.least.z t.greatest.z r.s.least.z r.s.greatest.z
          r.t.least.z r.t.greatest.z w.overlap-then-overlap.ensures
          ∙ sym (ap (λ (b : Bool). b && z) (sym first ∙ w.if-overlap.true))
      | else-overlap w ↦ w.value-is ∙ w.if-overlap.false
          ∙ sym (ap (λ (b : Bool). b && z) (sym first ∙ w.if-overlap.false))
    ]

pub returns-then-overlap-2 : goal.returns-then-overlap-2
returns-then-overlap-2 c =
    let s = c.args.s.now in
    let t = c.args.t.now in
    let r = c.requires in
    let x = overlap s.least.x s.greatest.x t.least.x t.greatest.x in
    passed _ s.least.x s.greatest.x t.least.x t.greatest.x r.s.least.x r.s.greatest.x r.t.least.x r.t.greatest.x
    c.overlap-then-overlap-2.ensures
    ∙ sym (ap (λ (b : Bool). b && x)
    (sym (both (goal.at.returns-then-overlap-2 c).Joined-overlap) ∙ c.if-overlap-2.true))

pub returns-else-overlap-2 : goal.returns-else-overlap-2
returns-else-overlap-2 c =
    let s = c.args.s.now in
    let t = c.args.t.now in
    let x = overlap s.least.x s.greatest.x t.least.x t.greatest.x in
    c.if-overlap-2.false
    ∙ sym (ap (λ (b : Bool). b && x)
    (sym (both (goal.at.returns-else-overlap-2 c).Joined-overlap) ∙ c.if-overlap-2.false))
