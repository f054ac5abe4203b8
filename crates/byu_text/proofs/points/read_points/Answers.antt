use Rattle.std.proofs.Common.{arith, ◌≡◌, ◌+◌, ◌*◌, ◌/◌, ◌%◌, ◌++◌, List, ℕ, drop, sym, ap, ◌∙◌, subst}
use Rattle.std.specs.List.{concat}
use Rattle.std.proofs.lemmas.List.{length-append}
use Rattle.fku_types.specs.declared.points.Point.{Point}
use Rattle.byu_text.specs.Fields.{coordinates_line}
use Rattle.byu_text.specs.Pieces.{point_lines}
use Rattle.byu_text.specs.Stages.{counts_of, NoneOf, AreNext, HasPoints, point_lines_at, polygons_at}
use Rattle.byu_text.proofs.Steps.{points_more, one_more, points_fault_at}
use Rattle.byu_text.proofs.points.read_points.Goals as goal
use Rattle.byu_text.proofs.points.read_points.Goals.{then-head-eq1+in-Some+in_ok-extend_from_slice, else-head-eq1}

pub returns-in_default-clause-err : goal.returns-in_default-clause-err
returns-in_default-clause-err c =
    let h = counts_of c.args.head in
    let j : ℕ = h.vertices / 2 in
    let odd : h.vertices % 2 ≡ 1 = c.if-head-eq1.true in
    let pairs = c.in_ok-points.ensures.ok in
    points_fault_at c.args.text.now h c.requires.sizes.0 c.in_ok-points.points.items j (point_lines_at h + 73 * j) 1
    c.requires.head c.requires.sizes.1 pairs.are pairs.all (omega (arith, odd)) (omega (arith, odd)) pairs.lines
    (subst (λ (a : ℕ). NoneOf (AreNext 1) coordinates_line (drop (a + 73 * j) c.args.text.now)) c.points_at.ensures
    c.in_default.ensures)

pub returns-clause-ok : goal.returns-clause-ok
returns-clause-ok c =
    let h = counts_of c.args.head in
    let j : ℕ = h.vertices / 2 in
    let old = c.in_ok-points.points.items in
    let pairs = c.in_ok-points.ensures.ok in
    let text = c.args.text.now in
    elim c.if-head-eq1.branch [
      | then-head-eq1+in-Some+in_ok-extend_from_slice w ↦
          (let odd : h.vertices % 2 ≡ 1 = w.if-head-eq1.true in
          let one : List Point = w.in-Some.one in
          let items : c.if-head-eq1.points.items ≡ old ++ one = ap (λ x. x.items) w.points-is
          ∙ w.in_ok-extend_from_slice.ensures.items in
          let here : drop (point_lines_at h + 73 * j) text ≡ coordinates_line one
          ++ drop (point_lines_at h + 73 * j + 37) text =
          subst (λ (a : ℕ). drop (a + 73 * j) text ≡ coordinates_line one ++ drop (a + 73 * j + 37) text)
          w.points_at.ensures w.in-Some.ensures.1 in
          let lines = one_more text old one j (point_lines_at h + 73 * j) (point_lines_at h)
          (point_lines_at h + 73 * j + 37) pairs.all w.in-Some.ensures.0 pairs.lines here in
          subst (HasPoints text h) (sym items) (record {
            are = points_more h old one 1 pairs.are w.in-Some.ensures.0 (omega (arith, pairs.all, odd));
            all = omega (arith, length-append old one, pairs.all, w.in-Some.ensures.0.long, odd);
            lines = lines ∙ ap (λ (k : ℕ). concat (point_lines (old ++ one)) ++ drop k text)
                (let k : point_lines_at h + 73 * j + 37 ≡ polygons_at h = omega (arith, odd) in k);
          }))
      | else-head-eq1 w ↦
          (let even : h.vertices % 2 ≡ 0 = omega (arith, w.if-head-eq1.false) in
          subst (HasPoints text h) (sym (ap (λ x. x.items) w.points-is)) (record {
            are = pairs.are;
            all = omega (arith, pairs.all, even);
            lines = pairs.lines ∙ ap (λ (k : ℕ). concat (point_lines old) ++ drop k text)
                (let k : point_lines_at h + 73 * j ≡ polygons_at h = omega (arith, even) in k);
          }))
    ]
