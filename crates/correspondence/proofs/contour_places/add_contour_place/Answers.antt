use Rattle.std.proofs.Common.{◌∙◌, sym, ap, bytes_eq, cond, Some, ℕ, List, refl}
use Rattle.std.specs.HashMap.{get}
use Rattle.correspondence.proofs.ContourPlaceSteps.{found_stays, found_added, is_there, is_none}
use Rattle.correspondence.proofs.contour_places.add_contour_place.Goals as goal

pub returns-then-contains_key : goal.returns-then-contains_key
returns-then-contains_key c q =
    let m = c.args.contour_places.now in
    let w = is_there (get bytes_eq m c.args.name.now) (sym c.contains_key.ensures ∙ c.if-contains_key.true) in
    found_stays (get bytes_eq m) c.args.name.now q c.args.contour_place (bytes_eq q c.args.name.now) refl w.0 w.1

pub returns : goal.returns
returns c q =
    let m = c.args.contour_places.now in
    let none = is_none (get bytes_eq m c.args.name.now) (sym c.contains_key.ensures ∙ c.if-contains_key.false) in
    found_added (get bytes_eq m) (get bytes_eq c.insert.new.self) c.args.name.now q c.args.contour_place none
    (c.in_ok-insert.ensures.updates.0 q
    ∙ ap (λ (n : List ℕ). cond (bytes_eq n q) (Some c.args.contour_place) (get bytes_eq m q)) c.copy.ensures)
