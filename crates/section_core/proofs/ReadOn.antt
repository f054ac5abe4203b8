-- The reader goes on after lines that lead lawfully to a state.
use Rattle.std.proofs.Common.{◌≡◌, ◌⊎◌, inl, inr, ℕ, List, [], ◌∷◌, ◌++◌, Option, None, Some, Result, Ok, refl, ap, sym, ◌∙◌, subst}
use Rattle.std.specs.Prelude.{codes}
use Rattle.fku_types.specs.declared.rules.PairRule.{PairRule}
use Rattle.section_core.specs.declared.parts.Version.{Version}
use Rattle.section_core.specs.declared.parts.Version.TheVariants.{One, Two}
use Rattle.section_core.specs.Parts.{CostParts, ObjectParts, FileParts, is_read}
use Rattle.text_io.specs.WordLists.{Matches, Line, Kept, lines_of}
use Rattle.section_core.specs.Laws.{Law, Facts, facts, KeepsAll, law_order}
use Rattle.section_core.specs.Reading.{Breach, HasNoEnd}
use Rattle.section_core.specs.Machine.{Item, version, cost_is, rule_is, object, finish, item_line, item_of, Body, State, at_version, at_cost, at_rule, no_object, in_object, ended, begun, inside, advance, run, parts_of}
use Rattle.section_core.specs.Steps.{first_broken}
use Rattle.section_core.specs.Reader.{checked, judged, take_item, judge, AnswerOf, goes_on, read_file}
use Rattle.section_core.proofs.SoFar.{and_then_some, some_is, if_some, inside_cases}
use Rattle.section_core.proofs.Lines.{item_of-says}
use Rattle.section_core.proofs.Decides.{take_line, take_lines, and_then-at, keeps_all-run}
use Rattle.section_core.proofs.FactSteps.{facts-advance}
use Rattle.section_core.proofs.Verdicts.{Verdict, verdict}
use Rattle.section_core.proofs.FirstBreach.{breaks_none}
use Rattle.section_core.proofs.Answers.{IsOpen}

-- the laws hold along lines
pub keeps-lines : (laws : List Law) (w : Version) (state : State) (lines : List Line) (end : State)
    → take_lines w state lines ≡ Some end → KeepsAll laws (facts (parts_of end))
    → KeepsAll laws (facts (parts_of state))
keeps-lines laws w state [] end e k = subst (λ (s : State). KeepsAll laws (facts (parts_of s))) (some_is (sym e)) k
keeps-lines laws w state (line ∷ lines) end e k =
    let mid = and_then_some (λ next. take_lines w next lines) (take_line w state line) end e in
    let item = and_then_some (advance w state) (item_of line) mid.0 mid.1 in
    let here : run w state (item.0 ∷ []) ≡ Some mid.0 =
    and_then-at (λ (next : State). Some next) (advance w state item.0) mid.0 item.2 in
    keeps_all-run laws w state (item.0 ∷ []) mid.0 here (keeps-lines laws w mid.0 lines end mid.2 k)

checked_ok : (o : Option Law) (next : State) → Verdict (facts (parts_of next)) o
    → KeepsAll law_order (facts (parts_of next)) → checked o next ≡ Ok next
checked_ok None next v k = refl
checked_ok (Some law) next v k = absurd (breaks_none law (facts (parts_of next)) k v)

-- a line that leads on lawfully is judged so
pub judge_ok : (w : Version) (state next : State) (line : Line) → take_line w state line ≡ Some next
    → KeepsAll law_order (facts (parts_of state)) → KeepsAll law_order (facts (parts_of next))
    → judge w state line ≡ Ok next
judge_ok w state next line e k n =
    let item = and_then_some (advance w state) (item_of line) next e in
    ap (take_item w state) item.1
    ∙ ap (λ (o : Option State). judged o (first_broken (facts (parts_of state)) item.0)) item.2
    ∙ checked_ok (first_broken (facts (parts_of state)) item.0) next
    (subst (λ (f : Facts). Verdict f (first_broken (facts (parts_of state)) item.0))
    (sym (facts-advance w state item.0 next item.2)) (verdict (facts (parts_of state)) item.0 k))
    n

pub goes_on-open : (next : State) (n : ℕ) (tail : List Kept) (more : State → AnswerOf FileParts) → IsOpen next
    → goes_on (Ok next) n tail more ≡ more next
goes_on-open at_version n tail more o = refl
goes_on-open (at_cost v) n tail more o = refl
goes_on-open (at_rule v cost) n tail more o = refl
goes_on-open (no_object cost rule) n tail more o = refl
goes_on-open (in_object v cost rule front name body) n tail more o = refl
goes_on-open (ended F) n tail more o = absurd o

begun_open : (v : Version) (cost : CostParts) (rule : PairRule) → IsOpen (begun v cost rule)
begun_open One cost rule = tt
begun_open Two cost rule = tt

inside_open : (v : Version) (cost : CostParts) (rule : PairRule) (front : List ObjectParts) (name : List ℕ)
    (body : Body) (item : Item) (next : State) → inside v cost rule front name body item ≡ Some next → IsOpen next
    ⊎ (item ≡ finish)
inside_open v cost rule front name body item next e =
    elim (inside_cases v cost rule front name body item next e) [
      | inl h ↦ inl (subst IsOpen (sym h.4) tt)
      | inr k ↦ elim k [
        | inl h ↦ inr h.0
        | inr h ↦ inl (subst IsOpen (sym h.2) tt)
      ]
    ]

-- only END leads to the end
pub ends_by_finish : (w : Version) (state : State) (item : Item) (next : State) → advance w state item ≡ Some next
    → IsOpen next ⊎ (item ≡ finish)
ends_by_finish w at_version (version v) next e =
    inl (subst IsOpen (some_is (if_some (is_read w v) (Some (at_cost v)) next e).1) tt)
ends_by_finish w (at_cost v) (cost_is cost) next e = inl (subst IsOpen (some_is e) tt)
ends_by_finish w (at_rule v cost) (rule_is rule) next e = inl (subst IsOpen (some_is e) (begun_open v cost rule))
ends_by_finish w (no_object cost rule) (object name) next e = inl (subst IsOpen (some_is e) tt)
ends_by_finish w (in_object v cost rule front name body) item next e =
    inside_open v cost rule front name body item next e
ends_by_finish w state finish next e = inr refl
ends_by_finish w state item next e = absurd (cc)

pub end_matches : (line : Line) → Matches line (item_line finish) → line ≡ codes "END" ∷ []
end_matches [] m = absurd m
end_matches (a ∷ []) m = ap (λ (w : List ℕ). w ∷ []) m.0
end_matches (a ∷ b ∷ more) m = absurd m.1

open_after : (w : Version) (state next : State) (line : Line) → take_line w state line ≡ Some next
    → (line ≡ codes "END" ∷ [] → ⊥) → IsOpen next
open_after w state next line e not-end =
    let item = and_then_some (advance w state) (item_of line) next e in
    elim (ends_by_finish w state item.0 next item.2) [
      | inl o ↦ o
      | inr f ↦ absurd (not-end (end_matches line
          (subst (λ (i : Item). Matches line (item_line i)) f (item_of-says line item.0 item.1).0)))
    ]

-- the reader goes on after lines that lead lawfully to a state
pub seen_reads : (w : Version) (state end : State) (before rest : List Kept)
    → take_lines w state (lines_of before) ≡ Some end → KeepsAll law_order (facts (parts_of end))
    → HasNoEnd (lines_of before) → read_file w state (before ++ rest) ≡ read_file w end rest
seen_reads w state end [] rest e k no-end = ap (λ (s : State). read_file w s rest) (some_is e)
seen_reads w state end (line ∷ before) rest e k no-end =
    let mid = and_then_some (λ next. take_lines w next (lines_of before)) (take_line w state line.1) end e in
    let mid-keeps = keeps-lines law_order w mid.0 (lines_of before) end mid.2 k in
    let here = judge_ok w state mid.0 line.1 mid.1 (keeps-lines law_order w state (lines_of (line ∷ before)) end e k)
    mid-keeps in
    ap (λ (r : Result State Breach). goes_on r line.0 (before ++ rest) (λ next. read_file w next (before ++ rest))) here
    ∙ goes_on-open mid.0 line.0 (before ++ rest) (λ next. read_file w next (before ++ rest))
    (open_after w state mid.0 line.1 mid.1 no-end.0)
    ∙ seen_reads w mid.0 end before rest mid.2 k no-end.1
