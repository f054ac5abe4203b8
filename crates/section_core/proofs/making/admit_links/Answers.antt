use Rattle.std.proofs.Common.{◌≡◌, ◌+◌, ◌∷◌, List, [], drop, map, subst}
use Rattle.section_core.specs.declared.parts.Link.{Link}
use Rattle.section_core.specs.Made.{link_piece, IsLinkNamed}
use Rattle.section_core.proofs.Walking.{GoesOn, goes_more, goes_err, all_next}
use Rattle.fku_types.proofs.ListLaws.{drop_next}
use Rattle.section_core.proofs.making.admit_links.Goals as goal

pub returns-in-Err-clause-walks : goal.returns-in-Err-clause-walks
returns-in-Err-clause-walks c f t =
    let xs = c.args.links.now in
    let i = c.loop-link.link-index in
    let item = c.link-item.result in
    let next : drop i xs ≡ item ∷ drop (i + 1) xs = drop_next xs i item c.loop-link-test.true c.link-item.is in
    let on = subst (λ (ys : List Link). GoesOn f (map link_piece xs) c.loop-link.tally (map link_piece ys)) next
    (c.loop-link.invariant.goes f t) in
    goes_err f (map link_piece xs) c.loop-link.tally c.admit_link.new.tally c.admit_link.new.tally
    (link_piece item ∷ []) (map link_piece (drop (i + 1) xs)) c.in-Err.fault on
    (c.in-Err.ensures.walks on.facts on.tallies)

pub loop-link-preserved : goal.loop-link-preserved
loop-link-preserved c =
    let xs = c.args.links.now in
    let i = c.loop-link.link-index in
    let item = c.link-item.result in
    let next : drop i xs ≡ item ∷ drop (i + 1) xs = drop_next xs i item c.loop-link-test.true c.link-item.is in
    record {
      goes = λ f t.
          let on = subst (λ (ys : List Link). GoesOn f (map link_piece xs) c.loop-link.tally (map link_piece ys)) next
          (c.loop-link.invariant.goes f t) in
          goes_more f (map link_piece xs) c.loop-link.tally c.admit_link.new.tally (link_piece item ∷ [])
          (map link_piece (drop (i + 1) xs)) c.in-Ok.field-0 on (c.in-Ok.ensures.walks on.facts on.tallies);
      named = all_next IsLinkNamed xs i item (drop (i + 1) xs) next c.loop-link.invariant.named c.in-Ok.ensures.named;
    }
