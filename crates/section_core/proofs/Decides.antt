-- The reader's state decides what lines begin: they match a prefix for lawful parts exactly if they lead to a state and
-- the parts read so far keep the laws.
use Rattle.std.proofs.Common.{◌≡◌, List, [], ◌∷◌, ◌++◌, map, true, Option, Some, refl, ap, sym, ◌∙◌, subst}
use Rattle.std.specs.List.{flat_map, AllByRecursion, AllZip}
use Rattle.std.specs.Option.{option_and_then}
use Rattle.std.proofs.lemmas.List.{map-append}
use Rattle.fku_types.specs.Names.{is_name}
use Rattle.section_core.specs.declared.parts.Version.{Version}
use Rattle.section_core.specs.declared.parts.Version.TheVariants.{One, Two}
use Rattle.section_core.specs.Parts.{FileParts, ObjectParts, Spot, ContourParts, SectionParts, LinkParts, IsFile, AreObjects, IsCountedContour, IsLink, IsLinked, contours_of, all_sections}
use Rattle.text_io.specs.WordLists.{Word, Matches, Line}
use Rattle.fku_types.specs.declared.rules.PairRule.{PairRule}
use Rattle.fku_types.specs.declared.rules.PairRule.TheVariants.{Overlap, Links}
use Rattle.section_core.specs.Laws.{Law, facts, Keeps, KeepsAll}
use Rattle.section_core.specs.Reading.{Begins}
use Rattle.section_core.specs.Machine.{Item, point, link, finish, IsItem, contour_items, section_items, link_items, body_items, object_items, item_line, item_of, file_items, State, at_version, ended, advance, run, parts_of}
use Rattle.section_core.proofs.SoFar.{so_far, so_far-run, and_then_some, some_is}
use Rattle.section_core.proofs.Whole.{run_whole, contours-split}
use Rattle.fku_types.proofs.ListLaws.{all_rest, all_front, all_join}
use Rattle.section_core.proofs.Ends.{complete, completed, complete_items, IsSound, sound-advance, sound-completed}
use Rattle.section_core.proofs.FactSteps.{keeps-advance}
use Rattle.section_core.proofs.CompletedFacts.{keeps-completed}
use Rattle.section_core.proofs.Lines.{items-lines, item_of-matches, item_of-says}

-- the state after one more line
abbrev pub take_line : Version → State → Line → Option State
take_line w state line = option_and_then (advance w state) (item_of line)

-- the state after lines
abbrev pub take_lines : Version → State → List Line → Option State
take_lines w state [] = Some state
take_lines w state (line ∷ lines) = option_and_then (λ next. take_lines w next lines) (take_line w state line)

keeps-run : (law : Law) (w : Version) (state : State) (items : List Item) (end : State) → run w state items ≡ Some end
    → Keeps law (facts (parts_of end)) → Keeps law (facts (parts_of state))
keeps-run law w state [] end e k = subst (λ (s : State). Keeps law (facts (parts_of s))) (some_is (sym e)) k
keeps-run law w state (item ∷ items) end e k =
    let s = and_then_some (λ next. run w next items) (advance w state item) end e in
    keeps-advance law w state item s.0 s.1 (keeps-run law w s.0 items end s.2 k)

pub keeps_all-run : (laws : List Law) (w : Version) (state : State) (items : List Item) (end : State)
    → run w state items ≡ Some end → KeepsAll laws (facts (parts_of end)) → KeepsAll laws (facts (parts_of state))
keeps_all-run [] w state items end e k = tt
keeps_all-run (law ∷ laws) w state items end e k =
    (keeps-run law w state items end e k.0, keeps_all-run laws w state items end e k.1)

keeps_all-completed : (laws : List Law) (state : State) → KeepsAll laws (facts (parts_of state))
    → KeepsAll laws (facts (completed state))
keeps_all-completed [] state k = tt
keeps_all-completed (law ∷ laws) state k = (keeps-completed law state k.0, keeps_all-completed laws state k.1)

pub and_then-at : {A B : Type 0} (f : A → Option B) (o : Option A) (x : A) → o ≡ Some x → option_and_then f o ≡ f x
and_then-at f o x e = ap (option_and_then f) e

-- lines that match a front of readable items lead to a state, from which the items go on to their end
lines_read : (laws : List Law) (w : Version) (S : FileParts) → KeepsAll laws (facts S)
    → (state : State) (items : List Item) (lines : List Line) (front rest : List (List Word))
    → AllByRecursion IsItem items → map item_line items ≡ front ++ rest → AllZip Matches lines front
    → run w state items ≡ Some (ended S) → (end : State) × (take_lines w state lines ≡ Some end)
    × KeepsAll laws (facts (parts_of end))
lines_read laws w S k state items [] [] rest i e m r = (state, refl, keeps_all-run laws w state items (ended S) r k)
lines_read laws w S k state [] (line ∷ lines) (p ∷ front) rest i e m r = absurd (cc)
lines_read laws w S k state (item ∷ items) (line ∷ lines) (p ∷ front) rest i e m r =
    let s = and_then_some (λ next. run w next items) (advance w state item) (ended S) r in
    let heads : item_line item ≡ p = cc in
    let tails : map item_line items ≡ front ++ rest = cc in
    let says : item_of line ≡ Some item = item_of-matches line item (subst (Matches line) (sym heads) m.0) i.0 in
    let here : take_line w state line ≡ Some s.0 = and_then-at (advance w state) (item_of line) item says ∙ s.1 in
    let more = lines_read laws w S k s.0 items lines front rest i.1 tails m.1 s.2 in
    (more.0, and_then-at (λ (next : State). take_lines w next lines) (take_line w state line) s.0 here ∙ more.1, more.2)
lines_read laws w S k state items [] (p ∷ front) rest i e m r = absurd m
lines_read laws w S k state items (line ∷ lines) [] rest i e m r = absurd m

point_items : (ps : List Spot) → AllByRecursion IsItem (map point ps)
point_items [] = tt
point_items (p ∷ ps) = (tt, point_items ps)

contour_items-are : (cs : List ContourParts) → AllByRecursion IsCountedContour cs
    → AllByRecursion IsItem (flat_map contour_items cs)
contour_items-are [] h = tt
contour_items-are (c ∷ cs) h = (
  h.0.0,
  all_join IsItem (map point c.points) (flat_map contour_items cs) (point_items c.points) (contour_items-are cs h.1),
)

section_items-are : (ss : List SectionParts) → AllByRecursion IsCountedContour (contours_of ss)
    → AllByRecursion IsItem (flat_map section_items ss)
section_items-are [] h = tt
section_items-are (s ∷ ss) h = (
  tt,
  all_join IsItem (flat_map contour_items s.contours) (flat_map section_items ss)
      (contour_items-are s.contours (all_front IsCountedContour s.contours (contours_of ss) h))
      (section_items-are ss (all_rest IsCountedContour s.contours (contours_of ss) h)),
)

link_items-are : (ls : List LinkParts) → AllByRecursion IsLink ls → AllByRecursion IsItem (map link ls)
link_items-are [] h = tt
link_items-are (l ∷ ls) h = (h.0, link_items-are ls h.1)

link_items-by_rule : (rule : PairRule) (ls : List LinkParts) → IsLinked rule ls
    → AllByRecursion IsItem (link_items rule ls)
link_items-by_rule Overlap ls h = tt
link_items-by_rule Links ls h = link_items-are ls h

body_items-are : (rule : PairRule) (ss : List SectionParts) (ls : List LinkParts)
    → AllByRecursion IsCountedContour (contours_of ss) → IsLinked rule ls
    → AllByRecursion IsItem (body_items rule ss ls)
body_items-are rule ss ls h k = all_join IsItem (flat_map section_items ss) (link_items rule ls)
    (section_items-are ss h) (link_items-by_rule rule ls k)

-- the items of objects whose names, where stated, are names
two_items-are : (rule : PairRule) (os : List ObjectParts)
    → AllByRecursion (λ (o : ObjectParts). is_name o.name ≡ true) os
    → AllByRecursion IsCountedContour (contours_of (all_sections os))
    → AllByRecursion (λ (o : ObjectParts). IsLinked rule o.links) os
    → AllByRecursion IsItem (flat_map (object_items Two rule) os)
two_items-are rule [] n h k = tt
two_items-are rule (o ∷ os) n h k =
    let split = contours-split o.sections (all_sections os) h in (
      n.0,
      all_join IsItem (body_items rule o.sections o.links) (flat_map (object_items Two rule) os)
          (body_items-are rule o.sections o.links split.0 k.0) (two_items-are rule os n.1 split.1 k.1),
    )

one_items-are : (rule : PairRule) (os : List ObjectParts)
    → AllByRecursion IsCountedContour (contours_of (all_sections os))
    → AllByRecursion (λ (o : ObjectParts). IsLinked rule o.links) os
    → AllByRecursion IsItem (flat_map (object_items One rule) os)
one_items-are rule [] h k = tt
one_items-are rule (o ∷ os) h k =
    let split = contours-split o.sections (all_sections os) h in
    all_join IsItem (body_items rule o.sections o.links) (flat_map (object_items One rule) os)
    (body_items-are rule o.sections o.links split.0 k.0) (one_items-are rule os split.1 k.1)

objects_items-are : (v : Version) (rule : PairRule) (os : List ObjectParts) → AreObjects v os
    → AllByRecursion IsCountedContour (contours_of (all_sections os))
    → AllByRecursion (λ (o : ObjectParts). IsLinked rule o.links) os
    → AllByRecursion IsItem (flat_map (object_items v rule) os)
objects_items-are One rule os n h k = one_items-are rule os h k
objects_items-are Two rule os n h k = two_items-are rule os n h k

pub file_items-are : (F : FileParts) → IsFile F → AllByRecursion IsItem (file_items F)
file_items-are F h = (
  tt,
  (
    tt,
    (
      tt,
      all_join IsItem (flat_map (object_items F.version F.rule) F.objects) (finish ∷ [])
          (objects_items-are F.version F.rule F.objects h.objects h.contours h.links) (tt, tt),
    ),
  ),
)

-- Lines that match a prefix for parts with these laws lead to a state whose parts keep them.
pub state-of_begins : (w : Version) (laws : List Law) (lines : List Line) → Begins w laws lines → (end : State)
    × (take_lines w at_version lines ≡ Some end) × KeepsAll laws (facts (parts_of end))
state-of_begins w laws lines b =
    lines_read laws w b.says b.lawful.keeps at_version (file_items b.says) lines b.front b.rest
    (file_items-are b.says b.lawful.is_file) (items-lines b.says ∙ b.split) b.match
    (run_whole w b.says b.lawful.is_file b.lawful.known)

-- the items that lines said
pub record Said (w : Version) (state : State) (lines : List Line) (end : State) : Type 0 where
  pub items : List Item
  pub leads : run w state items ≡ Some end
  pub match : AllZip Matches lines (map item_line items)
  pub sound : IsSound w end

pub lines_said : (w : Version) (state : State) (lines : List Line) (end : State) → IsSound w state
    → take_lines w state lines ≡ Some end → Said w state lines end
lines_said w state [] end s e = record { items = []; leads = e; match = tt; sound = subst (IsSound w) (some_is e) s }
lines_said w state (line ∷ lines) end s e =
    let mid = and_then_some (λ next. take_lines w next lines) (take_line w state line) end e in
    let item = and_then_some (advance w state) (item_of line) mid.0 mid.1 in
    let says = item_of-says line item.0 item.1 in
    let more = lines_said w mid.0 lines end (sound-advance w state item.0 mid.0 s says.1 item.2) mid.2 in
    record {
      items = item.0 ∷ more.items;
      leads = and_then-at (λ (next : State). run w next more.items) (advance w state item.0) mid.0 item.2 ∙ more.leads;
      match = (says.0, more.match);
      sound = more.sound;
    }

-- Lines that lead to a state whose parts keep these laws match a prefix for parts that keep them.
pub begins-of_state : (w : Version) (laws : List Law) (lines : List Line) (end : State)
    → take_lines w at_version lines ≡ Some end → KeepsAll laws (facts (parts_of end)) → Begins w laws lines
begins-of_state w laws lines end e k =
    let said = lines_said w at_version lines end tt e in
    let items-are : so_far end ≡ said.items = so_far-run w at_version said.items end said.leads in
    record {
      says = completed end;
      lawful = record {
        is_file = (sound-completed w end said.sound).0;
        known = (sound-completed w end said.sound).1;
        keeps = keeps_all-completed laws end k;
      };
      front = map item_line said.items;
      rest = map item_line (complete end);
      split = sym (items-lines (completed end))
          ∙ ap (map item_line) (complete_items w end ∙ ap (λ (items : List Item). items ++ complete end) items-are)
          ∙ map-append item_line said.items (complete end);
      match = said.match;
    }
