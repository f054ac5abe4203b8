use Rattle.std.proofs.Common.{rules, ◌≡◌, ap, ◌∙◌, sym, subst, false}
use Rattle.std.specs.Option.{unwrap_or}
use Rattle.std.specs.Ordering.{nat_cmp}
use Rattle.itertools.specs.Extremes.{by_cmp, wins, position_of}
use Rattle.row_paths.specs.Turns.{IsFirstLeast}
use Rattle.row_paths.proofs.FirstLeast.{first_place}
use Rattle.row_paths.proofs.solving.first_least.Goals as goal

pub returns : goal.returns
returns c =
    let e : c.position_min.result ≡ position_of (wins false (by_cmp nat_cmp)) c.args.costs.now = search rules in
    let p = first_place c.args.costs.now c.requires in
    let d : c.unwrap_or.result ≡ p.0 = c.unwrap_or.ensures ∙ ap (λ o. unwrap_or o 0) (e ∙ p.1) in
    subst (IsFirstLeast c.args.costs.now) (sym d) p.2
