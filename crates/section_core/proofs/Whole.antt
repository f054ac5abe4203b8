-- The items of parts are read to their end.
use Rattle.std.proofs.Common.{◌≡◌, ℕ, true, List, [], ◌∷◌, ◌++◌, map, length, ℤ, Option, Some, refl, ap, sym, ◌∙◌, subst, append_assoc, append-nil}
use Rattle.std.specs.Prelude.{⊤}
use Rattle.std.specs.List.{flat_map, AllByRecursion}
use Rattle.std.specs.Option.{option_and_then, option_map}
use Rattle.std.proofs.lemmas.Bool.{cond-true}
use Rattle.std.proofs.lemmas.Grind.{flat_map-append}
use Rattle.fku_types.specs.declared.rules.PairRule.{PairRule}
use Rattle.fku_types.specs.declared.rules.PairRule.TheVariants.{Overlap, Links}
use Rattle.section_core.specs.declared.parts.Version.{Version}
use Rattle.section_core.specs.declared.parts.Version.TheVariants.{One, Two}
use Rattle.section_core.specs.Parts.{CostParts, Spot, ContourParts, SectionParts, LinkParts, ObjectParts, FileParts, contours_of, all_sections, IsCountedContour, IsLinked, IsFile, is_read, only_name}
use Rattle.section_core.specs.Machine.{Item, version, cost_is, rule_is, object, section, contour, point, link, finish, Body, bare, in_section, in_contour, in_links, step, sections_of, links_of, object_of, is_whole, State, at_version, no_object, in_object, ended, inside, begun, advance, run, opened, with_section, with_contour, section_items, contour_items, link_items, body_items, object_items, file_items}
use Rattle.section_core.proofs.SoFar.{and_then_some}
use Rattle.fku_types.proofs.ListLaws.{all_front, all_rest}

-- one run after another
pub run-append : (w : Version) (state : State) (items more : List Item) (mid : State) → run w state items ≡ Some mid
    → run w state (items ++ more) ≡ run w mid more
run-append w state [] more mid e = ap (λ (s : Option State). option_and_then (λ next. run w next more) s) e
run-append w state (item ∷ items) more mid e =
    let s = and_then_some (λ next. run w next items) (advance w state item) mid e in
    ap (λ (s : Option State). option_and_then (λ next. run w next (items ++ more)) s) s.1
    ∙ run-append w s.0 items more mid s.2

-- an object after items of its own
abbrev pub steps : PairRule → Body → List Item → Option Body
steps rule body [] = Some body
steps rule body (item ∷ items) = option_and_then (λ next. steps rule next items) (step rule body item)

pub steps-append : (rule : PairRule) (body : Body) (items more : List Item) (mid : Body)
    → steps rule body items ≡ Some mid → steps rule body (items ++ more) ≡ steps rule mid more
steps-append rule body [] more mid e = ap (λ (b : Option Body). option_and_then (λ next. steps rule next more) b) e
steps-append rule body (item ∷ items) more mid e =
    let s = and_then_some (λ next. steps rule next items) (step rule body item) mid e in
    ap (λ (b : Option Body). option_and_then (λ next. steps rule next (items ++ more)) b) s.1
    ∙ steps-append rule s.0 items more mid s.2

-- points up to the last of a contour
pub steps_points : (rule : PairRule) (front : List SectionParts) (z : ℤ) (contours : List ContourParts) (name : List ℕ)
    (count : ℤ) (points rest : List Spot)
    → steps rule (opened front z contours name count points (length rest)) (map point rest)
    ≡ Some (in_section front z (with_contour contours name count (points ++ rest)))
steps_points rule front z contours name count points [] =
    ap (λ (ps : List Spot). Some (in_section front z (with_contour contours name count ps))) (sym (append-nil points))
steps_points rule front z contours name count points (p ∷ rest) =
    steps_points rule front z contours name count (points ++ p ∷ []) rest
    ∙ ap (λ (ps : List Spot). Some (in_section front z (with_contour contours name count ps)))
    (append_assoc points (p ∷ []) rest)

steps_contour : (rule : PairRule) (front : List SectionParts) (z : ℤ) (contours : List ContourParts) (c : ContourParts)
    → IsCountedContour c → steps rule (in_section front z contours) (contour_items c)
    ≡ Some (in_section front z (contours ++ c ∷ []))
steps_contour rule front z contours c h =
    ap (λ (n : ℕ). steps rule (opened front z contours c.name c.count [] n) (map point c.points)) (sym h.1)
    ∙ steps_points rule front z contours c.name c.count [] c.points

steps_contours : (rule : PairRule) (front : List SectionParts) (z : ℤ) (contours more : List ContourParts)
    → AllByRecursion IsCountedContour more
    → steps rule (in_section front z contours) (flat_map contour_items more)
    ≡ Some (in_section front z (contours ++ more))
steps_contours rule front z contours [] h =
    ap (λ (cs : List ContourParts). Some (in_section front z cs)) (sym (append-nil contours))
steps_contours rule front z contours (c ∷ more) h =
    steps-append rule (in_section front z contours) (contour_items c) (flat_map contour_items more) _
    (steps_contour rule front z contours c h.0)
    ∙ steps_contours rule front z (contours ++ c ∷ []) more h.1
    ∙ ap (λ (cs : List ContourParts). Some (in_section front z cs)) (append_assoc contours (c ∷ []) more)

-- no link has been read, and no contour is open
abbrev IsPlain : Body → Type 0
IsPlain bare = ⊤
IsPlain (in_section front z contours) = ⊤
IsPlain body = ⊥

-- where items of sections lead
record Sectioned (rule : PairRule) (body : Body) (items : List Item) (sections : List SectionParts) : Type 0 where
  end : Body
  leads : steps rule body items ≡ Some end
  sections-are : sections_of end ≡ sections
  plain : IsPlain end

-- the sections after the first
steps_sections : (rule : PairRule) (front : List SectionParts) (z : ℤ) (contours : List ContourParts)
    (more : List SectionParts) → AllByRecursion IsCountedContour (contours_of more)
    → Sectioned rule (in_section front z contours) (flat_map section_items more) (with_section front z contours ++ more)
steps_sections rule front z contours [] h =
    record {
      end = in_section front z contours;
      leads = refl;
      sections-are =
          sym (append-nil (with_section front z contours));
      plain = tt;
    }
steps_sections rule front z contours (s ∷ more) h =
    let here = all_front IsCountedContour s.contours (contours_of more) h in
    let there = all_rest IsCountedContour s.contours (contours_of more) h in
    let next = in_section (with_section front z contours) s.z [] in
    let rest = steps_sections rule (with_section front z contours) s.z s.contours more there in
    record {
      end = rest.end;
      leads = steps-append rule next (flat_map contour_items s.contours) (flat_map section_items more) _
          (steps_contours rule (with_section front z contours) s.z [] s.contours here) ∙ rest.leads;
      sections-are = rest.sections-are ∙ append_assoc (with_section front z contours) (s ∷ []) more;
      plain = rest.plain;
    }

all_steps : (rule : PairRule) (sections : List SectionParts) → AllByRecursion IsCountedContour (contours_of sections)
    → Sectioned rule bare (flat_map section_items sections) sections
all_steps rule [] h = record { end = bare; leads = refl; sections-are = refl; plain = tt }
all_steps rule (s ∷ more) h =
    let here = all_front IsCountedContour s.contours (contours_of more) h in
    let there = all_rest IsCountedContour s.contours (contours_of more) h in
    let next = in_section [] s.z [] in
    let rest = steps_sections rule [] s.z s.contours more there in
    record {
      end = rest.end;
      leads = steps-append rule next (flat_map contour_items s.contours) (flat_map section_items more) _
          (steps_contours rule [] s.z [] s.contours here) ∙ rest.leads;
      sections-are = rest.sections-are;
      plain = rest.plain;
    }

steps_links : (sections : List SectionParts) (links more : List LinkParts)
    → steps Links (in_links sections links) (map link more) ≡ Some (in_links sections (links ++ more))
steps_links sections links [] = ap (λ (ls : List LinkParts). Some (in_links sections ls)) (sym (append-nil links))
steps_links sections links (l ∷ more) =
    steps_links sections (links ++ l ∷ []) more
    ∙ ap (λ (ls : List LinkParts). Some (in_links sections ls)) (append_assoc links (l ∷ []) more)

-- where the items of an object lead
pub record Reached (rule : PairRule) (body : Body) (items : List Item) (sections : List SectionParts)
    (links : List LinkParts) : Type 0 where
  pub end : Body
  pub leads : steps rule body items ≡ Some end
  pub sections-are : sections_of end ≡ sections
  pub links-are : links_of end ≡ links
  pub whole : is_whole end ≡ true

stays : (rule : PairRule) (body : Body) → IsPlain body → Reached rule body [] (sections_of body) []
stays rule bare p = record { end = bare; leads = refl; sections-are = refl; links-are = refl; whole = refl }
stays rule (in_section front z contours) p =
    record { end = in_section front z contours; leads = refl; sections-are = refl; links-are = refl; whole = refl }
stays rule (in_contour front z contours name count points missing) p = absurd p
stays rule (in_links sections links) p = absurd p

links_after : (body : Body) (l : LinkParts) (more : List LinkParts) → IsPlain body
    → Reached Links body (map link (l ∷ more)) (sections_of body) (l ∷ more)
links_after bare l more p = record {
  end = in_links [] (l ∷ more);
  leads = steps_links [] (l ∷ []) more;
  sections-are = refl;
  links-are = refl;
  whole =
      refl;
}
links_after (in_section front z contours) l more p =
    record {
      end = in_links (with_section front z contours) (l ∷ more);
      leads =
          steps_links (with_section front z contours) (l ∷ []) more;
      sections-are = refl;
      links-are = refl;
      whole = refl;
    }
links_after (in_contour front z contours name count points missing) l more p = absurd p
links_after (in_links sections links) l more p = absurd p

steps_tail : (rule : PairRule) (body : Body) (links : List LinkParts) → IsPlain body → IsLinked rule links
    → Reached rule body (link_items rule links) (sections_of body) links
steps_tail Overlap body links p h =
    subst (λ (ls : List LinkParts). Reached Overlap body [] (sections_of body) ls) (sym h) (stays Overlap body p)
steps_tail Links body [] p h = stays Links body p
steps_tail Links body (l ∷ links) p h = links_after body l links p

-- the items of an object lead to the object
pub steps_body : (rule : PairRule) (sections : List SectionParts) (links : List LinkParts)
    → AllByRecursion IsCountedContour (contours_of sections) → IsLinked rule links
    → Reached rule bare (body_items rule sections links) sections links
steps_body rule sections links h k =
    let a = all_steps rule sections h in
    let b = steps_tail rule a.end links a.plain k in
    record {
      end = b.end;
      leads = steps-append rule bare (flat_map section_items sections) (link_items rule links) a.end a.leads ∙ b.leads;
      sections-are = b.sections-are ∙ a.sections-are;
      links-are = b.links-are;
      whole = b.whole;
    }

no_object_step : (rule : PairRule) (body : Body) (n : List ℕ) (next : Body) → step rule body (object n) ≡ Some next → ⊥
no_object_step rule bare n next e = cc
no_object_step rule (in_section front z contours) n next e = cc
no_object_step rule (in_contour front z contours name count points missing) n next e = cc
no_object_step rule (in_links sections links) n next e = cc

no_end_step : (rule : PairRule) (body next : Body) → step rule body finish ≡ Some next → ⊥
no_end_step rule bare next e = cc
no_end_step rule (in_section front z contours) next e = cc
no_end_step rule (in_contour front z contours name count points missing) next e = cc
no_end_step rule (in_links sections links) next e = cc

-- what an object reads, its text reads
step_inside : (v : Version) (cost : CostParts) (rule : PairRule) (front : List ObjectParts) (name : List ℕ)
    (body : Body) (item : Item) (next : Body) → step rule body item ≡ Some next
    → inside v cost rule front name body item ≡ Some (in_object v cost rule front name next)
step_inside v cost rule front name body (object n) next e = absurd (no_object_step rule body n next e)
step_inside v cost rule front name body finish next e = absurd (no_end_step rule body next e)
step_inside v cost rule front name body (version u) next e = ap (option_map (in_object v cost rule front name)) e
step_inside v cost rule front name body (cost_is c) next e = ap (option_map (in_object v cost rule front name)) e
step_inside v cost rule front name body (rule_is r) next e = ap (option_map (in_object v cost rule front name)) e
step_inside v cost rule front name body (section z) next e = ap (option_map (in_object v cost rule front name)) e
step_inside v cost rule front name body (contour n count) next e = ap (option_map (in_object v cost rule front name)) e
step_inside v cost rule front name body (point p) next e = ap (option_map (in_object v cost rule front name)) e
step_inside v cost rule front name body (link l) next e = ap (option_map (in_object v cost rule front name)) e

pub steps_run : (w v : Version) (cost : CostParts) (rule : PairRule) (front : List ObjectParts) (name : List ℕ)
    (body : Body) (items : List Item) (end : Body) → steps rule body items ≡ Some end
    → run w (in_object v cost rule front name body) items ≡ Some (in_object v cost rule front name end)
steps_run w v cost rule front name body [] end e = ap (option_map (in_object v cost rule front name)) e
steps_run w v cost rule front name body (item ∷ items) end e =
    let s = and_then_some (λ next. steps rule next items) (step rule body item) end e in
    ap (option_and_then (λ next. run w next items)) (step_inside v cost rule front name body item s.0 s.1)
    ∙ steps_run w v cost rule front name s.0 items end s.2

same_object : (name : List ℕ) (body : Body) (o : ObjectParts) → name ≡ o.name → sections_of body ≡ o.sections
    → links_of body ≡ o.links → object_of name body ≡ o
same_object name body o n s l = λ i. record { name = n i; sections = s i; links = l i }

abbrev file : Version → CostParts → PairRule → List ObjectParts → FileParts
file v cost rule objects = record { version = v; cost = cost; rule = rule; objects = objects }

pub end_run : (w v : Version) (cost : CostParts) (rule : PairRule) (front : List ObjectParts) (name : List ℕ)
    (body : Body) → is_whole body ≡ true
    → run w (in_object v cost rule front name body) (finish ∷ [])
    ≡ Some (ended (file v cost rule (front ++ object_of name body ∷ [])))
end_run w v cost rule front name body e = ap (option_and_then (λ next. run w next [])) (cond-true (is_whole body) _ _ e)

-- the contours of an object, and those of the others
pub contours-split : (ss ts : List SectionParts) → AllByRecursion IsCountedContour (contours_of (ss ++ ts))
    → AllByRecursion IsCountedContour (contours_of ss) × AllByRecursion IsCountedContour (contours_of ts)
contours-split ss ts h =
    let g = subst (AllByRecursion IsCountedContour) (flat_map-append (λ (s : SectionParts). s.contours) ss ts) h in (
      all_front IsCountedContour (contours_of ss) (contours_of ts) g,
      all_rest IsCountedContour (contours_of ss) (contours_of ts) g,
    )

-- the objects after one, and END
run_objects : (w : Version) (cost : CostParts) (rule : PairRule) (front : List ObjectParts) (name : List ℕ)
    (body : Body) (more : List ObjectParts) → is_whole body ≡ true
    → AllByRecursion IsCountedContour (contours_of (all_sections more))
    → AllByRecursion (λ (o : ObjectParts). IsLinked rule o.links) more
    → run w (in_object Two cost rule front name body) (flat_map (object_items Two rule) more ++ finish ∷ [])
    ≡ Some (ended (file Two cost rule (front ++ object_of name body ∷ more)))
run_objects w cost rule front name body [] e h k = end_run w Two cost rule front name body e
run_objects w cost rule front name body (o ∷ more) e h k =
    let split = contours-split o.sections (all_sections more) h in
    let r = steps_body rule o.sections o.links split.0 k.0 in
    let before = front ++ object_of name body ∷ [] in
    let rest = flat_map (object_items Two rule) more ++ finish ∷ [] in
    ap (option_and_then (λ next. run w next
    ((body_items rule o.sections o.links ++ flat_map (object_items Two rule) more) ++ finish ∷ [])))
    (cond-true (is_whole body) _ _ e)
    ∙ ap (run w (in_object Two cost rule before o.name bare))
    (append_assoc (body_items rule o.sections o.links) (flat_map (object_items Two rule) more) (finish ∷ []))
    ∙ run-append w (in_object Two cost rule before o.name bare) (body_items rule o.sections o.links) rest _
    (steps_run w Two cost rule before o.name bare (body_items rule o.sections o.links) r.end r.leads)
    ∙ run_objects w cost rule before o.name r.end more r.whole split.1 k.1
    ∙ ap (λ (p : ObjectParts). Some (ended (file Two cost rule (before ++ p ∷ more))))
    (same_object o.name r.end o refl r.sections-are r.links-are)
    ∙ ap (λ (os : List ObjectParts). Some (ended (file Two cost rule os)))
    (append_assoc front (object_of name body ∷ []) (o ∷ more))

-- after the head, in version 2
run_two : (w : Version) (cost : CostParts) (rule : PairRule) (objects : List ObjectParts)
    → AllByRecursion IsCountedContour (contours_of (all_sections objects))
    → AllByRecursion (λ (o : ObjectParts). IsLinked rule o.links) objects
    → run w (no_object cost rule) (flat_map (object_items Two rule) objects ++ finish ∷ [])
    ≡ Some (ended (file Two cost rule objects))
run_two w cost rule [] h k = refl
run_two w cost rule (o ∷ more) h k =
    let split = contours-split o.sections (all_sections more) h in
    let r = steps_body rule o.sections o.links split.0 k.0 in
    let rest = flat_map (object_items Two rule) more ++ finish ∷ [] in
    let first = in_object Two cost rule [] o.name bare in
    ap (run w first) (append_assoc (body_items rule o.sections o.links) (flat_map (object_items Two rule) more)
    (finish ∷ []))
    ∙ run-append w first (body_items rule o.sections o.links) rest _
    (steps_run w Two cost rule [] o.name bare (body_items rule o.sections o.links) r.end r.leads)
    ∙ run_objects w cost rule [] o.name r.end more r.whole split.1 k.1
    ∙ ap (λ (p : ObjectParts). Some (ended (file Two cost rule (p ∷ more))))
    (same_object o.name r.end o refl r.sections-are r.links-are)

-- in version 1
run_one : (w : Version) (cost : CostParts) (rule : PairRule) (o : ObjectParts) → o.name ≡ only_name
    → AllByRecursion IsCountedContour (contours_of o.sections) → IsLinked rule o.links
    → run w (in_object One cost rule [] only_name bare) (flat_map (object_items One rule) (o ∷ []) ++ finish ∷ [])
    ≡ Some (ended (file One cost rule (o ∷ [])))
run_one w cost rule o n h k =
    let r = steps_body rule o.sections o.links h k in
    let items = body_items rule o.sections o.links in
    let first = in_object One cost rule [] only_name bare in
    ap (λ (xs : List Item). run w first (xs ++ finish ∷ [])) (append-nil items)
    ∙ run-append w first items (finish ∷ []) _ (steps_run w One cost rule [] only_name bare items r.end r.leads)
    ∙ end_run w One cost rule [] only_name r.end r.whole
    ∙ ap (λ (p : ObjectParts). Some (ended (file One cost rule (p ∷ []))))
    (same_object only_name r.end o (sym n) r.sections-are r.links-are)

run_behind : (w v : Version) (cost : CostParts) (rule : PairRule) (objects : List ObjectParts)
    → IsFile (file v cost rule objects)
    → run w (begun v cost rule) (flat_map (object_items v rule) objects ++ finish ∷ [])
    ≡ Some (ended (file v cost rule objects))
run_behind w One cost rule objects h =
    let o : ObjectParts = h.objects.0 in
    let is : objects ≡ o ∷ [] = h.objects.1 in
    let contours = subst (λ (os : List ObjectParts). AllByRecursion IsCountedContour (contours_of (all_sections os))) is
    h.contours in
    let links = subst (AllByRecursion (λ (p : ObjectParts). IsLinked rule p.links)) is h.links in
    let named : o.name ≡ only_name = h.objects.2 in
    subst (λ (os : List ObjectParts). run w (in_object One cost rule [] only_name bare)
    (flat_map (object_items One rule) os ++ finish ∷ []) ≡ Some (ended (file One cost rule os))) (sym is)
    (run_one w cost rule o named (contours-split o.sections [] contours).0 links.0)
run_behind w Two cost rule objects h = run_two w cost rule objects h.contours h.links

-- the items of parts lead to their end
pub run_whole : (w : Version) (F : FileParts) → IsFile F → is_read w F.version ≡ true
    → run w at_version (file_items F) ≡ Some (ended F)
run_whole w F h r =
    ap (option_and_then (λ next. run w next
    (cost_is F.cost ∷ rule_is F.rule ∷ flat_map (object_items F.version F.rule) F.objects ++ finish ∷ [])))
    (cond-true (is_read w F.version) _ _ r)
    ∙ run_behind w F.version F.cost F.rule F.objects h
