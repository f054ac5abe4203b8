-- The plain reader returns what the definition says.
use Rattle.std.proofs.Common.{◌≡◌, ℕ, Bool, true, false, cond, ◌&&◌, List, [], ◌∷◌, ◌++◌, map, length, Option, None, Some, Result, Ok, Err, refl, ap, sym, ◌∙◌, subst, append_assoc, append-nil, arith}
use Rattle.std.specs.Prelude.{codes, nat_lt}
use Rattle.std.specs.List.{AllZip}
use Rattle.std.specs.Option.{option_and_then}
use Rattle.std.proofs.lemmas.Bool.{and_parts, false≢true}
use Rattle.std.proofs.lemmas.Bool.Decides.{nat_tests}
use Rattle.std.proofs.lemmas.List.{map-append}
use Rattle.fku_types.specs.declared.rules.PairRule.{PairRule}
use Rattle.section_core.specs.declared.parts.Version.{Version}
use Rattle.section_core.specs.declared.parts.Version.TheVariants.{One, Two}
use Rattle.section_core.specs.Parts.{CostParts, Parts, ContourParts, ObjectParts, FileParts, IsFile, AreObjects, is_read, only_name, as_file, file_lines, contours_of}
use Rattle.text_io.specs.WordLists.{Matches, Line, Kept, lines_of}
use Rattle.section_core.specs.Laws.{Law, facts, KeepsAll, BreaksFirst, law_order}
use Rattle.section_core.specs.Reading.{Breach, Breaks, HasFile, HasContour, EndsTooSoon, HasNoEnd, is_filled}
use Rattle.section_core.specs.Machine.{Item, finish, item_line, item_of, file_items, Body, is_whole, State, at_version, at_cost, at_rule, no_object, in_object, ended, inside, advance, parts_of}
use Rattle.section_core.specs.Steps.{after, first_broken}
use Rattle.section_core.specs.Reader.{checked, judged, take_item, judge, AnswerOf, front_is, no_contours, at_fault, too_soon, goes_on, read_file, HoldsFile, first_object, one_object, read_from, HoldsAnswer}
use Rattle.section_core.proofs.SoFar.{so_far-run, some_is, if_some}
use Rattle.fku_types.proofs.ListLaws.{all_join}
use Rattle.section_core.proofs.Lines.{items-lines}
use Rattle.section_core.proofs.Decides.{take_line, take_lines, and_then-at, begins-of_state, lines_said}
use Rattle.section_core.proofs.Breach.{take_lines-more, breaks-form, breaks-law}
use Rattle.section_core.proofs.FactSteps.{facts-advance}
use Rattle.section_core.proofs.Verdicts.{Verdict, verdict}

-- what the result of one step means, where lines led to the state
abbrev pub Steps : Version → List Line → State → Line → Result State Breach → Type 0
Steps w lines state line (Ok next) = (take_line w state line ≡ Some next) × KeepsAll law_order (facts (parts_of next))
Steps w lines state line (Err breach) = Breaks w (lines ++ line ∷ []) breach

checked_steps : (w : Version) (lines : List Line) (state : State) (line : Line) (item : Item) (next : State)
    (o : Option Law) → take_lines w at_version lines ≡ Some state → take_line w state line ≡ Some next
    → facts (parts_of next) ≡ after (facts (parts_of state)) item → Verdict (after (facts (parts_of state)) item) o
    → Steps w lines state line (checked o next)
checked_steps w lines state line item next None leads here f v = (here, subst (KeepsAll law_order) (sym f) v)
checked_steps w lines state line item next (Some law) leads here f v =
    let b : BreaksFirst law (facts (parts_of next)) = subst (BreaksFirst law) (sym f) v in
    breaks-law w lines line state next b.0 law leads here b.1 b.2 b.3

judged_steps : (w : Version) (lines : List Line) (state : State) (line : Line) (item : Item) (o : Option State)
    → take_lines w at_version lines ≡ Some state → KeepsAll law_order (facts (parts_of state))
    → item_of line ≡ Some item → advance w state item ≡ o
    → Steps w lines state line (judged o (first_broken (facts (parts_of state)) item))
judged_steps w lines state line item None leads keeps says goes =
    breaks-form w lines line state leads (and_then-at (advance w state) (item_of line) item says ∙ goes)
judged_steps w lines state line item (Some next) leads keeps says goes =
    checked_steps w lines state line item next (first_broken (facts (parts_of state)) item) leads
    (and_then-at (advance w state) (item_of line) item says ∙ goes)
    (facts-advance w state item next goes)
    (verdict (facts (parts_of state)) item keeps)

item_steps : (w : Version) (lines : List Line) (state : State) (line : Line) (o : Option Item)
    → take_lines w at_version lines ≡ Some state → KeepsAll law_order (facts (parts_of state)) → item_of line ≡ o
    → Steps w lines state line (take_item w state o)
item_steps w lines state line None leads keeps says =
    breaks-form w lines line state leads (ap (option_and_then (advance w state)) says)
item_steps w lines state line (Some item) leads keeps says =
    judged_steps w lines state line item (advance w state item) leads keeps says refl

-- each step of the reader is right
pub judge_steps : (w : Version) (lines : List Line) (state : State) (line : Line)
    → take_lines w at_version lines ≡ Some state → KeepsAll law_order (facts (parts_of state))
    → Steps w lines state line (judge w state line)
judge_steps w lines state line leads keeps = item_steps w lines state line (item_of line) leads keeps refl

end_inside : (v : Version) (cost : CostParts) (rule : PairRule) (front : List ObjectParts) (name : List ℕ) (body : Body)
    (next : State) → inside v cost rule front name body finish ≡ Some next → (F : FileParts) × (next ≡ ended F)
end_inside v cost rule front name body next e = (
  _,
  sym (some_is (if_some (is_whole body) (Some (ended (parts_of (in_object v cost rule front name body)))) next
      e).1),
)

-- only END leads to the end
pub finish_ends : (w : Version) (state next : State) → advance w state finish ≡ Some next → (F : FileParts)
    × (next ≡ ended F)
finish_ends w at_version next e = absurd (cc)
finish_ends w (at_cost v) next e = absurd (cc)
finish_ends w (at_rule v cost) next e = absurd (cc)
finish_ends w (no_object cost rule) next e = (_, sym (some_is e))
finish_ends w (in_object v cost rule front name body) next e = end_inside v cost rule front name body next e
finish_ends w (ended F) next e = absurd (cc)

pub end_line_ends : (w : Version) (state next : State) (line : Line) → line ≡ codes "END" ∷ []
    → take_line w state line ≡ Some next → (F : FileParts) × (next ≡ ended F)
end_line_ends w state next line e t = finish_ends w state next (ap (take_line w state) (sym e) ∙ t)

-- lines that lead to the end are those of its parts
whole_front : (w : Version) (lines : List Line) (F : FileParts) → take_lines w at_version lines ≡ Some (ended F)
    → AllZip Matches lines (file_lines F) × IsFile F × (is_read w F.version ≡ true)
whole_front w lines F leads =
    let said = lines_said w at_version lines (ended F) tt leads in
    let items-are : file_items F ≡ said.items = so_far-run w at_version said.items (ended F) said.leads in (
      subst (AllZip Matches lines) (ap (map item_line) (sym items-are) ∙ items-lines F) said.match,
      said.sound.0,
      said.sound.1,
    )

at_end_holds : (w : Version) (all : List Kept) (b : Bool) (F : FileParts) (tail : List Kept) → is_filled F ≡ b
    → HasFile w all F tail → HoldsFile w all (cond b (front_is F tail) (no_contours F tail))
at_end_holds w all true F tail e h = (h, e)
at_end_holds w all false F tail e h = (h, e)

pub lines_of-push : (seen : List Kept) (k : Kept) → lines_of (seen ++ k ∷ []) ≡ lines_of seen ++ k.1 ∷ []
lines_of-push seen k = map-append (λ (k : Kept). k.1) seen (k ∷ [])

-- The state is not the end.
abbrev pub IsOpen : State → Type 0
IsOpen (ended S) = ⊥
IsOpen state = Unit {0}

open_not_end : (next : State) (S : FileParts) → IsOpen next → next ≡ ended S → ⊥
open_not_end next S o e = subst IsOpen e o

regroup : (seen kept : List Kept) (k : Kept) → seen ++ k ∷ kept ≡ (seen ++ k ∷ []) ++ kept
regroup seen kept k = sym (append_assoc seen (k ∷ []) kept)

leads_on : (w : Version) (seen : List Kept) (k : Kept) (state next : State)
    → take_lines w at_version (lines_of seen) ≡ Some state → take_line w state k.1 ≡ Some next
    → take_lines w at_version (lines_of (seen ++ k ∷ [])) ≡ Some next
leads_on w seen k state next leads here = ap (take_lines w at_version) (lines_of-push seen k)
    ∙ take_lines-more w at_version (lines_of seen) k.1 state next leads here

-- a step that leads on
open_step : (w : Version) (seen kept : List Kept) (k : Kept) (state next : State) → IsOpen next
    → take_lines w at_version (lines_of seen) ≡ Some state → HasNoEnd (lines_of seen)
    → Steps w (lines_of seen) state k.1 (Ok next)
    → (take_lines w at_version (lines_of (seen ++ k ∷ [])) ≡ Some next → HasNoEnd (lines_of (seen ++ k ∷ []))
    → KeepsAll law_order (facts (parts_of next)) → HoldsFile w ((seen ++ k ∷ []) ++ kept) (read_file w next kept))
    → HoldsFile w (seen ++ k ∷ kept) (read_file w next kept)
open_step w seen kept k state next o leads no-end step more =
    let not-end : k.1 ≡ codes "END" ∷ [] → ⊥ = λ e. let s = end_line_ends w state next k.1 e step.0 in
    open_not_end next s.0 o s.1 in
    let none : HasNoEnd (lines_of (seen ++ k ∷ [])) =
    subst HasNoEnd (sym (lines_of-push seen k))
    (all_join (λ line. line ≡ codes "END" ∷ [] → ⊥) (lines_of seen) (k.1 ∷ []) no-end (not-end, tt)) in
    subst (λ (all : List Kept). HoldsFile w all (read_file w next kept)) (sym (regroup seen kept k))
    (more (leads_on w seen k state next leads step.0) none step.1)

after_step : (w : Version) (seen kept : List Kept) (k : Kept) (state : State) (r : Result State Breach)
    → take_lines w at_version (lines_of seen) ≡ Some state → HasNoEnd (lines_of seen)
    → KeepsAll law_order (facts (parts_of state)) → Steps w (lines_of seen) state k.1 r
    → ((next : State) → take_lines w at_version (lines_of (seen ++ k ∷ [])) ≡ Some next
    → HasNoEnd (lines_of (seen ++ k ∷ [])) → KeepsAll law_order (facts (parts_of next))
    → HoldsFile w ((seen ++ k ∷ []) ++ kept) (read_file w next kept))
    → HoldsFile w (seen ++ k ∷ kept) (goes_on r k.0 kept (λ next. read_file w next kept))
after_step w seen kept k state (Err breach) leads no-end keeps step more =
    record {
      before = seen;
      line = k.1;
      after = kept;
      split = refl;
      no_end = no-end;
      lawful_before =
          begins-of_state w law_order (lines_of seen) state leads keeps;
      breaks = step;
    }
after_step w seen kept k state (Ok (ended F)) leads no-end keeps step more =
    let whole = whole_front w (lines_of (seen ++ k ∷ [])) F (leads_on w seen k state (ended F) leads step.0) in
    at_end_holds w (seen ++ k ∷ kept) (is_filled F) F kept refl
    (record {
      front = seen ++ k ∷ [];
      split = regroup seen kept k;
      match = whole.0;
      is_file = whole.1;
      known = whole.2;
      lawful = step.1;
    })
after_step w seen kept k state (Ok at_version) leads no-end keeps step more =
    open_step w seen kept k state at_version tt leads no-end step (more at_version)
after_step w seen kept k state (Ok (at_cost v)) leads no-end keeps step more =
    open_step w seen kept k state (at_cost v) tt leads no-end step (more (at_cost v))
after_step w seen kept k state (Ok (at_rule v cost)) leads no-end keeps step more =
    open_step w seen kept k state (at_rule v cost) tt leads no-end step (more (at_rule v cost))
after_step w seen kept k state (Ok (no_object cost rule)) leads no-end keeps step more =
    open_step w seen kept k state (no_object cost rule) tt leads no-end step (more (no_object cost rule))
after_step w seen kept k state (Ok (in_object v cost rule front name body)) leads no-end keeps step more =
    open_step w seen kept k state (in_object v cost rule front name body) tt leads no-end step
    (more (in_object v cost rule front name body))

-- from a state that earlier lines led to, the result holds of all lines
reads : (w : Version) (seen kept : List Kept) (state : State) → take_lines w at_version (lines_of seen) ≡ Some state
    → HasNoEnd (lines_of seen) → KeepsAll law_order (facts (parts_of state))
    → HoldsFile w (seen ++ kept) (read_file w state kept)
reads w seen [] state leads no-end keeps =
    let P : List Kept → Type 0 = EndsTooSoon w in
    subst P (sym (append-nil seen)) (no-end, begins-of_state w law_order (lines_of seen) state leads keeps)
reads w seen (k ∷ kept) state leads no-end keeps =
    after_step w seen kept k state (judge w state k.1) leads no-end keeps
    (judge_steps w (lines_of seen) state k.1 leads keeps)
    (λ next l n h. reads w (seen ++ k ∷ []) kept next l n h)

-- nothing is read yet
start_keeps : KeepsAll law_order (facts (parts_of at_version))
start_keeps = (
  (tt, tt, tt),
  (
    (tt, tt),
    (tt, (tt, (tt, (omega arith, (omega arith, (omega arith, (omega arith, (omega arith, tt)))))))),
  ),
)

-- the plain reader returns what the definition says of the kept lines
pub file_holds : (w : Version) (kept : List Kept) → HoldsFile w kept (read_file w at_version kept)
file_holds w kept = reads w [] kept at_version refl tt start_keeps

-- the one object of version 1
pub one_file : (F : FileParts) → IsFile F → is_read One F.version ≡ true → F ≡ as_file (first_object F.objects F)
one_file F f r = one_by F.version F.objects f.objects r refl refl
  where
    one_by : (v : Version) (os : List ObjectParts) → AreObjects v os → is_read One v ≡ true → F.version ≡ v
        → F.objects ≡ os → F ≡ as_file (first_object F.objects F)
    one_by Two os h r e k = absurd (cc)
    one_by One os h r e k =
        let o : ObjectParts = h.0 in
        let all : F.objects ≡ o ∷ [] = k ∙ h.1 in
        let named : o ≡ record { name = only_name; sections = o.sections; links = o.links } =
        λ i. record { name = h.2 i; sections = o.sections; links = o.links } in
        (λ i. record { version = e i; cost = F.cost; rule = F.rule; objects = all i })
        ∙ ap (λ (p : ObjectParts). let G : FileParts =
        record { version = One; cost = F.cost; rule = F.rule; objects = p ∷ [] } in G) named
        ∙ ap (λ (os : List ObjectParts). as_file (first_object os F)) (sym all)

-- an object is filled if it has a contour
pub filled_one : (S : Parts) → is_filled (as_file S) ≡ true → HasContour S
filled_one S e = let p = and_parts (nat_lt 0 (length (contours_of S.sections))) true e in
    let t : nat_lt 0 (length (contours_of S.sections)) ≡ true = p.0 in grind (arith, nat_tests)

pub unfilled_one : (S : Parts) → is_filled (as_file S) ≡ false → contours_of S.sections ≡ []
unfilled_one S e = none (contours_of S.sections) e
  where
    none : (cs : List ContourParts) → (nat_lt 0 (length cs) && true) ≡ false → cs ≡ []
    none [] e = refl
    none (c ∷ cs) e = let t : nat_lt 0 (length (c ∷ cs)) ≡ true = grind (arith, nat_tests) in
        absurd (false≢true (sym e ∙ ap (λ (b : Bool). b && true) t))

one_holds : (kept : List Kept) (a : AnswerOf FileParts) → HoldsFile One kept a → HoldsAnswer kept (one_object a)
one_holds kept (front_is F tail) h =
    let is = one_file F h.0.is_file h.0.known in (
      subst (λ (G : FileParts). HasFile One kept G tail) is h.0,
      filled_one (first_object F.objects F) (ap is_filled (sym is) ∙ h.1),
    )
one_holds kept (no_contours F tail) h =
    let is = one_file F h.0.is_file h.0.known in (
      subst (λ (G : FileParts). HasFile One kept G tail) is h.0,
      unfilled_one (first_object F.objects F) (ap is_filled (sym is) ∙ h.1),
    )
one_holds kept (at_fault breach n) h = h
one_holds kept too_soon h = h

-- the same where only version 1 is read
pub read_holds : (kept : List Kept) → HoldsAnswer kept (read_from at_version kept)
read_holds kept = one_holds kept (read_file One at_version kept) (file_holds One kept)
