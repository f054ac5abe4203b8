use Rattle.std.proofs.Common.{arith, ap, sym, subst, length, All, [], ◌∷◌}
use Rattle.std.proofs.lemmas.List.Elements.{All-nil, All-cons}
use Rattle.fku_types.specs.Points.{IsInRange}
use Rattle.strip_call_tests.proofs.rings.four_points.Goals as goal

pub returns : goal.returns
returns c =
    let items = c.in_ok-from_array.ensures.items in
    let p = c.point.result in
    let q = c.point-2.result in
    let r = c.point-3.result in
    let t = c.point-4.result in
    record {
      enough = omega (arith, ap length items);
      few = omega (arith, ap length items);
      in_range = subst (All IsInRange) (sym items)
          (All-cons IsInRange p (q ∷ r ∷ t ∷ []) c.point.ensures
          (All-cons IsInRange q (r ∷ t ∷ []) c.point-2.ensures
          (All-cons IsInRange r (t ∷ []) c.point-3.ensures
          (All-cons IsInRange t [] c.point-4.ensures (All-nil IsInRange)))));
    }
