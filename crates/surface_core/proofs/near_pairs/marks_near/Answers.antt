use Rattle.std.proofs.Common.{◌<◌, ℕ, Bool, List, Vec, All, IfOk, sym, subst, arith}
use Rattle.std.specs.Global.{Global}
use Rattle.surface_core.specs.Marks.{AreSetAt}
use Rattle.surface_core.proofs.NearPairs.{near_joined}
use Rattle.surface_core.proofs.near_pairs.marks_near.Goals as goal

pub marks_on-requires : goal.marks_on-requires
marks_on-requires c =
    let here = c.places-begin in
    let same = near_joined c.args.face c.args.section _ _ here.result.0 here.result.1 c.args.pairs.now
    (omega (arith, c.saturating_sub.ensures, c.from-number.ensures)) (omega (arith, c.from-number.ensures))
    here.ensures.order here.ensures.before here.ensures.after in
    subst (All (λ k. k < c.args.count)) (sym same) c.requires.joined

pub returns : goal.returns
returns c =
    let here = c.places-begin in
    let same = near_joined c.args.face c.args.section _ _ here.result.0 here.result.1 c.args.pairs.now
    (omega (arith, c.saturating_sub.ensures, c.from-number.ensures)) (omega (arith, c.from-number.ensures))
    here.ensures.order here.ensures.before here.ensures.after in
    subst (λ (places : List ℕ). IfOk c.marks_on.result (λ (v : Vec Bool Global). AreSetAt v.items c.args.count places))
    same c.marks_on.ensures
