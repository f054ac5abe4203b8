use Rattle.std.proofs.Common.{ℕ, find, map, sym, ap, ◌∙◌}
use Rattle.std.specs.List.{range_with_len}
use Rattle.std.proofs.lemmas.List.{length-map}
use Rattle.correspondence.specs.Contours.{points_of}
use Rattle.ring_caps.specs.Groups.{is_around}
use Rattle.ring_caps.proofs.Families.{parent_odd, parent_even}
use Rattle.ring_caps.proofs.groups.parent.Goals as goal

pub returns-then-is_odd : goal.returns-then-is_odd
returns-then-is_odd c =
    c.first_around.ensures ∙ ap (λ (n : ℕ).
    find (is_around (map points_of c.args.contours.now) c.args.place) (range_with_len 0 n))
    (sym (length-map c.args.contours.now points_of))
    ∙ sym (parent_odd (map points_of c.args.contours.now) c.args.place (sym c.is_odd.ensures ∙ c.if-is_odd.true))

pub returns-else-is_odd : goal.returns-else-is_odd
returns-else-is_odd c = sym (parent_even (map points_of c.args.contours.now) c.args.place
    (sym c.is_odd.ensures ∙ c.if-is_odd.false))
