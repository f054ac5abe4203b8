use Rattle.std.proofs.Common.{◌≡◌, ℤ, pos, true, false, length, map, ap, sym, ◌∙◌, subst, Ok, Err}
use Rattle.std.proofs.Common.{List}
use Rattle.std.specs.List.{list_all}
use Rattle.fku_types.specs.declared.points.Point.{Point}
use Rattle.fku_types.specs.declared.fault.Fault.TheVariants.{Range}
use Rattle.section_core.specs.Numbers.{NumberIs}
use Rattle.section_core.specs.Machine.{contour}
use Rattle.section_core.specs.Steps.{after, first_broken}
use Rattle.section_core.specs.Tallies.{Tallies}
use Rattle.section_core.specs.Made.{walk, keeps_name, point_piece, is_good}
use Rattle.section_core.proofs.Walking.{admits_ok, contour_err, head_ok, points_ok, points_err}
use Rattle.section_core.proofs.making.admit_contour.Goals as goal

pub returns-in-Err-clause-walks : goal.returns-in-Err-clause-walks
returns-in-Err-clause-walks c f t =
    let num : NumberIs c.count_of.result (pos (length c.args.contour.now.points.items)) =
    subst (λ (ps : List Point). NumberIs c.count_of.result (pos (length ps))) c.deref.ensures.value
    c.count_of.ensures in
    let it = contour c.args.contour.now.name (pos (length c.args.contour.now.points.items)) in
    let more = map (point_piece c.args.section.now.z) c.args.contour.now.points.items in
    contour_err (first_broken f it) c.args.contour.now.name (pos (length c.args.contour.now.points.items))
    (keeps_name (after f it) more) (walk (after f it) more) c.in-Err.fault
    (λ _. Tallies c.admit_name.new.tally (after f it)) _
    (c.in-Err.ensures.admits f (pos (length c.args.contour.now.points.items)) t num)

pub returns-then-are_good-clause-walks : goal.returns-then-are_good-clause-walks
returns-then-are_good-clause-walks c f t =
    let num : NumberIs c.count_of.result (pos (length c.args.contour.now.points.items)) =
    subst (λ (ps : List Point). NumberIs c.count_of.result (pos (length ps))) c.deref.ensures.value
    c.count_of.ensures in
    let k : ℤ = pos (length c.args.contour.now.points.items) in
    let it = contour c.args.contour.now.name k in
    let head = admits_ok (first_broken f it) c.in-Ok.field-0 (λ _. Tallies c.admit_name.new.tally (after f it))
    (c.in-Ok.ensures.admits f k t num) in
    let good : list_all (is_good c.args.section.now.z) c.args.contour.now.points.items ≡ true =
    ap (list_all (is_good c.args.section.now.z)) (sym c.deref-in-Ok.ensures.value) ∙ sym c.are_good.ensures
    ∙ c.if-are_good.true in
    let more = map (point_piece c.args.section.now.z) c.args.contour.now.points.items in
    head_ok (first_broken f it) it (keeps_name (after f it) more) (walk (after f it) more) (Ok tt)
    c.admit_name.new.tally head.0 (points_ok (keeps_name (after f it) more) c.args.section.now.z
    c.args.contour.now.points.items (after f it) c.admit_name.new.tally good head.1)

pub returns-else-are_good-clause-walks : goal.returns-else-are_good-clause-walks
returns-else-are_good-clause-walks c f t =
    let num : NumberIs c.count_of.result (pos (length c.args.contour.now.points.items)) =
    subst (λ (ps : List Point). NumberIs c.count_of.result (pos (length ps))) c.deref.ensures.value
    c.count_of.ensures in
    let k : ℤ = pos (length c.args.contour.now.points.items) in
    let it = contour c.args.contour.now.name k in
    let head = admits_ok (first_broken f it) c.in-Ok.field-0 (λ _. Tallies c.admit_name.new.tally (after f it))
    (c.in-Ok.ensures.admits f k t num) in
    let bad : list_all (is_good c.args.section.now.z) c.args.contour.now.points.items ≡ false =
    ap (list_all (is_good c.args.section.now.z)) (sym c.deref-in-Ok.ensures.value) ∙ sym c.are_good.ensures
    ∙ c.if-are_good.false in
    let more = map (point_piece c.args.section.now.z) c.args.contour.now.points.items in
    head_ok (first_broken f it) it (keeps_name (after f it) more) (walk (after f it) more) (Err (Range 0))
    c.admit_name.new.tally head.0 (points_err (keeps_name (after f it) more) c.args.section.now.z
    c.args.contour.now.points.items (after f it) c.admit_name.new.tally bad)
