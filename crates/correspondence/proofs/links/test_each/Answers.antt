use Rattle.std.proofs.Common.{◌≡◌, ◌∙◌, ℕ, None, length, map, take, sym, ap, subst, arith, bytes_eq}
use borrow.Author.Count.{below_more}
use Rattle.std.proofs.lemmas.List.{length-map}
use Rattle.std.specs.HashMap.{get}
use Rattle.section_core.specs.Parts.{LinkParts}
use Rattle.section_core.specs.Views.{link_parts}
use Rattle.correspondence.specs.Links.{cause_of, IsLinkFault}
use Rattle.correspondence.specs.Named.{lists_of, AreLinkedNames}
use Rattle.correspondence.proofs.LinkedNameSteps.{links_take}
use Rattle.correspondence.proofs.CauseReads.{cause_told, link_read}
use Rattle.correspondence.proofs.links.test_each.Goals as goal

pub returns-in-Some : goal.returns-in-Some
returns-in-Some c =
    let S = c.args.sections.now in
    let links = c.links-links.result.now in
    let i = c.loop-link.link-index in
    let item = c.link-item.result in
    let told = cause_told S links i item c.cause_of.result (lists_of c.args.depths.now) c.loop-link.linked_names.keys
    (get bytes_eq c.args.contour_places.now) c.links-links.ensures.parts c.loop-link-test.true c.link-item.is
    c.requires.depths c.loop-link.invariant.linked_names c.requires.places c.cause_of.ensures in
    let link = sym (link_read S links i item c.links-links.ensures.parts c.loop-link-test.true c.link-item.is) in
    subst (IsLinkFault S) (sym c.fault_of.ensures) (
      i,
      record {
        there = omega (
          arith,
          c.loop-link-test.true,
          ap length c.links-links.ensures.parts,
          length-map links link_parts,
        );
        good_before = c.loop-link.invariant.good;
        cause = sym told ∙ c.in-Some.is;
        below = ap (λ (l : LinkParts). l.below) link;
        above = ap (λ (l : LinkParts). l.above) link;
      },
    )

pub loop-link-preserved : goal.loop-link-preserved
loop-link-preserved c =
    let S = c.args.sections.now in
    let links = c.links-links.result.now in
    let i = c.loop-link.link-index in
    let item = c.link-item.result in
    let told = cause_told S links i item c.cause_of.result (lists_of c.args.depths.now) c.loop-link.linked_names.keys
    (get bytes_eq c.args.contour_places.now) c.links-links.ensures.parts c.loop-link-test.true c.link-item.is
    c.requires.depths c.loop-link.invariant.linked_names c.requires.places c.cause_of.ensures in
    record {
      good = below_more (λ (k : ℕ). cause_of S k ≡ None) i c.loop-link.invariant.good (sym told ∙ c.in_default.is);
      linked_names = subst (AreLinkedNames c.add_linked_names.new.linked_names.keys)
          (sym (links_take links i item c.loop-link-test.true c.link-item.is))
          (c.in_ok-add_linked_names.ensures (map link_parts (take i links)) c.loop-link.invariant.linked_names);
    }

pub returns : goal.returns
returns c k l = c.loop-link.invariant.good k
    (omega (arith, l, ap length c.links-links.ensures.parts, length-map c.links-links.result.now link_parts))
