use Rattle.std.proofs.Common.{◌≡◌, ℕ, List, ◌++◌, ◌∷◌, [], false, cond, ap, ◌∙◌, refl}
use Rattle.std.specs.List.{list_any}
use Rattle.section_core.specs.Machine.{same}
use Rattle.section_core.proofs.TallyLemmas.{contour_tallies, insert_new}
use Rattle.section_core.proofs.tally.Tally.add_contour.Goals as goal

pub returns-in-Ok-clause-added : goal.returns-in-Ok-clause-added
returns-in-Ok-clause-added c f t apart =
    let ks : List (List ℕ) = c.args.self.now.names.keys in
    let new : list_any (same c.args.name.now) ks ≡ false = ap (list_any (same c.args.name.now)) t.names ∙ apart in
    let keys : c.insert.new.self.keys ≡ ks ++ c.args.name.now ∷ [] =
    c.in-Ok.ensures.keys ∙ ap (λ (v : List ℕ). cond (list_any (same v) ks) ks (ks ++ v ∷ [])) c.copy.ensures
    ∙ insert_new ks c.args.name.now new in
    contour_tallies f c.args.name.now c.args.count c.args.self.now _ t keys refl refl refl refl refl refl
