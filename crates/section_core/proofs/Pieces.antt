-- Parts are lawful exactly if their pieces are.
use Rattle.std.proofs.Common.{◌≡◌, List, [], ◌∷◌, ◌++◌, map, Some, refl, ap, sym, ◌∙◌, subst, append-nil}
use Rattle.std.specs.List.{flat_map, AllByRecursion}
use Rattle.std.proofs.lemmas.List.{length-map, map-append}
use Rattle.fku_types.specs.declared.rules.PairRule.{PairRule}
use Rattle.fku_types.specs.declared.rules.PairRule.TheVariants.{Overlap, Links}
use Rattle.section_core.specs.declared.parts.Contour.{Contour}
use Rattle.section_core.specs.declared.parts.Section.{Section}
use Rattle.section_core.specs.declared.parts.Link.{Link}
use Rattle.section_core.specs.declared.parts.Version.{Version}
use Rattle.section_core.specs.declared.parts.Version.TheVariants.{One}
use Rattle.section_core.specs.Parts.{CostParts, IsParts, as_file, IsCountedContour, IsLink, IsLinked, contours_of}
use Rattle.section_core.specs.Laws.{Facts, facts, law_order, KeepsAll, IsLawful}
use Rattle.section_core.specs.Machine.{Item, cost_is, link, finish, section_items, link_items, body_items, file_items, State, at_version, ended, advance, run, parts_of}
use Rattle.section_core.specs.Steps.{after}
use Rattle.section_core.specs.Views.{spot_of, contour_parts, section_parts, link_parts}
use Rattle.section_core.specs.Flat.{AreFlat}
use Rattle.section_core.specs.Accepted.{IsAccepted}
use Rattle.section_core.specs.Finished.{ended_parts}
use Rattle.section_core.specs.Made.{Piece, whole, link_piece, pieces_of, nothing, facts_after, ArePiecesLawful, IsNamed, AreNamed, IsLinkNamed}
use Rattle.section_core.proofs.SoFar.{and_then_some, some_is}
use Rattle.section_core.proofs.Whole.{run_whole}
use Rattle.fku_types.proofs.ListLaws.{all_join}
use Rattle.section_core.proofs.FactSteps.{facts-advance}
use Rattle.section_core.proofs.OneObject.{lawful-to, lawful-from, file-to}
use Rattle.section_core.proofs.WholePieces.{items_are, section_level, link_level}

run_facts : (w : Version) (state : State) (items : List Item) (end : State) → run w state items ≡ Some end
    → facts (parts_of end) ≡ facts_after (facts (parts_of state)) items
run_facts w state [] end e = ap (λ (s : State). facts (parts_of s)) (sym (some_is e))
run_facts w state (item ∷ items) end e =
    let s = and_then_some (λ next. run w next items) (advance w state item) end e in
    run_facts w s.0 items end s.2 ∙ ap (λ (f : Facts). facts_after f items) (facts-advance w state item s.0 s.1)

after_finish : (f : Facts) (items : List Item) → facts_after f (items ++ finish ∷ []) ≡ facts_after f items
after_finish f [] = refl
after_finish f (item ∷ items) = after_finish (after f item) items

contours_are : (cs : List Contour) → AllByRecursion IsNamed cs → AllByRecursion IsCountedContour (map contour_parts cs)
contours_are [] h = tt
contours_are (c ∷ cs) h = ((h.0, length-map c.points.items spot_of), contours_are cs h.1)

sections_are : (ss : List Section) → AllByRecursion AreNamed ss
    → AllByRecursion IsCountedContour (contours_of (map section_parts ss))
sections_are [] h = tt
sections_are (s ∷ ss) h = all_join IsCountedContour (map contour_parts s.contours.items)
    (contours_of (map section_parts ss)) (contours_are s.contours.items h.0) (sections_are ss h.1)

links_are : (ls : List Link) → AllByRecursion IsLinkNamed ls → AllByRecursion IsLink (map link_parts ls)
links_are [] h = tt
links_are (l ∷ ls) h = (h.0, links_are ls h.1)

linked : (rule : PairRule) (ls : List Link) → AllByRecursion IsLinkNamed ls → (rule ≡ Overlap → ls ≡ [])
    → IsLinked rule (map link_parts ls)
linked Overlap ls h e = ap (map link_parts) (e refl)
linked Links ls h e = links_are ls h

pub linked_items : (rule : PairRule) (ls : List Link) → (rule ≡ Overlap → ls ≡ [])
    → link_items rule (map link_parts ls) ≡ map link (map link_parts ls)
linked_items Overlap ls e = ap (λ (ks : List Link). map link (map link_parts ks)) (sym (e refl))
linked_items Links ls e = refl

pub made_parts : (cost : CostParts) (rule : PairRule) (ss : List Section) (ls : List Link) → AllByRecursion AreNamed ss
    → AllByRecursion IsLinkNamed ls → (rule ≡ Overlap → ls ≡ []) → IsParts (ended_parts cost rule ss ls)
made_parts cost rule ss ls n m e = record { contours = sections_are ss n; links = linked rule ls m e }

-- the facts of parts are those of their pieces
facts_are : (cost : CostParts) (rule : PairRule) (ss : List Section) (ls : List Link)
    → IsParts (ended_parts cost rule ss ls) → (rule ≡ Overlap → ls ≡ [])
    → facts (as_file (ended_parts cost rule ss ls))
    ≡ facts_after nothing (cost_is cost ∷ flat_map section_items (map section_parts ss) ++ map link (map link_parts ls))
facts_are cost rule ss ls p e =
    let S = ended_parts cost rule ss ls in
    let F = as_file S in
    let body = body_items S.rule S.sections S.links in
    run_facts One at_version (file_items F) (ended F) (run_whole One F (file-to S p) refl)
    ∙ ap (λ (is : List Item). facts_after nothing (cost_is cost ∷ is ++ finish ∷ [])) (append-nil body)
    ∙ after_finish nothing (cost_is cost ∷ body)
    ∙ ap (λ (is : List Item). facts_after nothing (cost_is cost ∷ flat_map section_items S.sections ++ is))
    (linked_items rule ls e)

pub unlinked : (rule : PairRule) (ls : List Link) → IsLinked rule (map link_parts ls) → rule ≡ Overlap → ls ≡ []
unlinked Overlap [] h e = refl
unlinked Overlap (l ∷ ls) h e = absurd (cc)
unlinked Links ls h e = absurd (cc)

-- parts of lawful pieces are lawful
pub parts_lawful : (cost : CostParts) (rule : PairRule) (ss : List Section) (ls : List Link)
    → ArePiecesLawful (pieces_of cost ss ls) → IsParts (ended_parts cost rule ss ls)
    → IsLawful (ended_parts cost rule ss ls)
parts_lawful cost rule ss ls k p =
    let same = facts_are cost rule ss ls p (unlinked rule ls p.links)
    ∙ ap (facts_after nothing) (sym (items_are cost ss ls k)) in
    lawful-from (ended_parts cost rule ss ls) (subst (KeepsAll law_order) (sym same) k.lawful)

pub made_lawful : (cost : CostParts) (rule : PairRule) (ss : List Section) (ls : List Link)
    (k : ArePiecesLawful (pieces_of cost ss ls)) → AllByRecursion AreNamed ss → AllByRecursion IsLinkNamed ls
    → (rule ≡ Overlap → ls ≡ []) → IsLawful (ended_parts cost rule ss ls)
made_lawful cost rule ss ls k n m e =
    parts_lawful cost rule ss ls k (made_parts cost rule ss ls n m e)

-- accepted parts have no piece at fault
pub accepted_pieces : (cost : CostParts) (rule : PairRule) (ss : List Section) (ls : List Link)
    → IsAccepted (ended_parts cost rule ss ls) → AreFlat ss → ArePiecesLawful (pieces_of cost ss ls)
accepted_pieces cost rule ss ls a flat =
    let S = ended_parts cost rule ss ls in
    let one = flat_map section_items S.sections in
    let two = map link S.links in
    record {
      items = cost_is cost ∷ (one ++ two);
      split = ap (λ (qs : List Piece). whole (cost_is cost) ∷ qs)
          (ap (λ (qs : List Piece). qs ++ map link_piece ls) (section_level ss flat)
          ∙ ap (λ (qs : List Piece). map whole one ++ qs) (link_level ls) ∙ sym (map-append whole one two));
      lawful = subst (KeepsAll law_order) (facts_are cost rule ss ls a.are_parts (unlinked rule ls a.are_parts.links))
          (lawful-to S a.lawful);
    }
