-- The definition leaves one result: what holds of the kept lines is what the plain reader returns.
use Rattle.std.proofs.Common.{◌≡◌, ℕ, true, false, ◌&&◌, List, [], ◌∷◌, ◌++◌, map, length, Some, Result, Ok, Err, refl, ap, sym, ◌∙◌, subst, append_assoc, append-nil}
use Rattle.std.specs.Prelude.{nat_lt}
use Rattle.std.specs.List.{AllByRecursion, AllZip}
use Rattle.std.proofs.lemmas.Bool.{cond-true, cond-false}
use Rattle.section_core.specs.declared.parts.Version.{Version}
use Rattle.section_core.specs.declared.parts.Version.TheVariants.{One}
use Rattle.section_core.specs.Parts.{Parts, ContourParts, FileParts, IsFile, is_read, as_file, file_lines, contours_of}
use Rattle.text_io.specs.WordLists.{Matches, Line, Kept, lines_of}
use Rattle.section_core.specs.Laws.{facts, KeepsAll, law_order}
use Rattle.section_core.specs.Reading.{Breach, Breaks, HasBreach, EndsTooSoon, HasNoEnd, is_filled}
use Rattle.section_core.specs.Machine.{Item, IsItem, item_line, item_of, file_items, State, at_version, ended, advance, run, parts_of}
use Rattle.section_core.specs.Reader.{judge, AnswerOf, Answer, front_is, no_contours, at_fault, too_soon, at_end, goes_on, read_file, HoldsFile, one_object, read_from, HoldsAnswer}
use Rattle.section_core.proofs.SoFar.{and_then_some}
use Rattle.section_core.proofs.Whole.{run_whole}
use Rattle.section_core.proofs.Lines.{items-lines, item_of-matches}
use Rattle.section_core.proofs.Decides.{take_line, take_lines, and_then-at, state-of_begins, begins-of_state, file_items-are}
use Rattle.section_core.proofs.Breach.{take_lines-more}
use Rattle.section_core.proofs.Answers.{Steps, judge_steps, end_line_ends, lines_of-push}
use Rattle.section_core.proofs.OneBreach.{breach_unique, breaks_not}
use Rattle.section_core.proofs.ReadOn.{keeps-lines, judge_ok, seen_reads}
use Rattle.section_core.proofs.OneObject.{filled-to}

fault_only : (w : Version) (lines : List Line) (state : State) (line : Line) (b : Breach) (n : ℕ) (tail : List Kept)
    (more : State → AnswerOf FileParts) (r : Result State Breach) → take_lines w at_version lines ≡ Some state
    → Steps w lines state line r → Breaks w (lines ++ line ∷ []) b → goes_on r n tail more ≡ at_fault b n
fault_only w lines state line b n tail more (Err a) leads s h =
    ap (λ (x : Breach). let y : AnswerOf FileParts = at_fault x n in y) (breach_unique w (lines ++ line ∷ []) a b s h)
fault_only w lines state line b n tail more (Ok next) leads s h =
    absurd (breaks_not w (lines ++ line ∷ []) b
    (begins-of_state w law_order (lines ++ line ∷ []) next
    (take_lines-more w at_version lines line state next leads s.0) s.1) h)

-- the plain reader returns a breach that the definition sees
only_breach : (w : Version) (kept : List Kept) (n : ℕ) (b : Breach) → HasBreach w kept n b
    → read_file w at_version kept ≡ at_fault b n
only_breach w kept n b h =
    let at = state-of_begins w law_order (lines_of h.before) h.lawful_before in
    ap (read_file w at_version) h.split
    ∙ seen_reads w at_version at.0 h.before ((n, h.line) ∷ h.after) at.1 at.2 h.no_end
    ∙ fault_only w (lines_of h.before) at.0 h.line b n h.after (λ next. read_file w next h.after) (judge w at.0 h.line)
    at.1 (judge_steps w (lines_of h.before) at.0 h.line at.1 at.2) h.breaks

only_soon : (w : Version) (kept : List Kept) → EndsTooSoon w kept → read_file w at_version kept ≡ too_soon
only_soon w kept h =
    let at = state-of_begins w law_order (lines_of kept) h.1 in
    ap (read_file w at_version) (sym (append-nil kept)) ∙ seen_reads w at_version at.0 kept [] at.1 at.2 h.0

-- lines that match all items lead where the items lead
matched_lead : (w : Version) (state end : State) (items : List Item) (lines : List Line) → AllByRecursion IsItem items
    → AllZip Matches lines (map item_line items) → run w state items ≡ Some end → take_lines w state lines ≡ Some end
matched_lead w state end [] [] i m r = r
matched_lead w state end [] (line ∷ lines) i m r = absurd m
matched_lead w state end (item ∷ items) [] i m r = absurd m
matched_lead w state end (item ∷ items) (line ∷ lines) i m r =
    let s = and_then_some (λ next. run w next items) (advance w state item) end r in
    and_then-at (λ (next : State). take_lines w next lines) (take_line w state line) s.0
    (and_then-at (advance w state) (item_of line) item (item_of-matches line item m.0 i.0) ∙ s.1)
    ∙ matched_lead w s.0 end items lines i.1 m.1 s.2

ended_stuck : (w : Version) (S : FileParts) (item : Item) (next : State) → advance w (ended S) item ≡ Some next → ⊥
ended_stuck w S item next e = cc

line_stuck : (w : Version) (S : FileParts) (line : Line) (next : State) → take_line w (ended S) line ≡ Some next → ⊥
line_stuck w S line next e = let i = and_then_some (advance w (ended S)) (item_of line) next e in
    ended_stuck w S i.0 next i.2

-- the last line of lines, and those before it
record LastOf (kept : List Kept) : Type 0 where
  before : List Kept
  last : Kept
  split : kept ≡ before ++ last ∷ []

last_of : (k : Kept) (kept : List Kept) → LastOf (k ∷ kept)
last_of k [] = record { before = []; last = k; split = refl }
last_of k (l ∷ kept) = let m = last_of l kept in
    record { before = k ∷ m.before; last = m.last; split = ap (λ (ks : List Kept). k ∷ ks) m.split }

-- no line but the last of lines that are read is END
no_end_before : (w : Version) (state end : State) (before : List Line) (line : Line)
    → take_lines w state (before ++ line ∷ []) ≡ Some end → HasNoEnd before
no_end_before w state end [] line e = tt
no_end_before w state end (first ∷ []) line e =
    let mid = and_then_some (λ next. take_lines w next (line ∷ [])) (take_line w state first) end e in (
      (λ f. let s = end_line_ends w state mid.0 first f mid.1 in
          let stuck = subst (λ (st : State). take_lines w st (line ∷ []) ≡ Some end) s.1 mid.2 in
          let next = and_then_some (λ next. take_lines w next []) (take_line w (ended s.0) line) end stuck in
          line_stuck w s.0 line next.0 next.1),
      tt,
    )
no_end_before w state end (first ∷ second ∷ before) line e =
    let mid = and_then_some (λ next. take_lines w next (second ∷ before ++ line ∷ [])) (take_line w state first) end e
    in (
      (λ f. let s = end_line_ends w state mid.0 first f mid.1 in
          let stuck = subst (λ (st : State). take_lines w st (second ∷ before ++ line ∷ []) ≡ Some end) s.1 mid.2 in
          let next = and_then_some (λ next. take_lines w next (before ++ line ∷ [])) (take_line w (ended s.0) second)
          end stuck in
          line_stuck w s.0 second next.0 next.1),
      no_end_before w mid.0 end (second ∷ before) line mid.2,
    )

-- lines and one more, taken apart
record Parted (w : Version) (state end : State) (lines : List Line) (line : Line) : Type 0 where
  mid : State
  leads : take_lines w state lines ≡ Some mid
  ends : take_line w mid line ≡ Some end

parted : (w : Version) (state end : State) (lines : List Line) (line : Line)
    → take_lines w state (lines ++ line ∷ []) ≡ Some end → Parted w state end lines line
parted w state end [] line e =
    let mid = and_then_some (λ next. take_lines w next []) (take_line w state line) end e in
    record { mid = state; leads = refl; ends = mid.1 ∙ mid.2 }
parted w state end (first ∷ lines) line e =
    let mid = and_then_some (λ next. take_lines w next (lines ++ line ∷ [])) (take_line w state first) end e in
    let more = parted w mid.0 end lines line mid.2 in
    record {
      mid = more.mid;
      leads = and_then-at (λ (next : State). take_lines w next lines) (take_line w state first)
          mid.0 mid.1 ∙ more.leads;
      ends = more.ends;
    }

front_leads : (w : Version) (front : List Kept) (F : FileParts) → AllZip Matches (lines_of front) (file_lines F)
    → IsFile F → is_read w F.version ≡ true → take_lines w at_version (lines_of front) ≡ Some (ended F)
front_leads w front F m p r =
    matched_lead w at_version (ended F) (file_items F) (lines_of front) (file_items-are F p)
    (subst (AllZip Matches (lines_of front)) (sym (items-lines F)) m) (run_whole w F p r)

front_read : (w : Version) (k : Kept) (kept tail : List Kept) (F : FileParts)
    → take_lines w at_version (lines_of (k ∷ kept)) ≡ Some (ended F) → KeepsAll law_order (facts F)
    → read_file w at_version ((k ∷ kept) ++ tail) ≡ at_end F tail
front_read w k kept tail F leads lawful =
    let l = last_of k kept in
    let leads-split : take_lines w at_version (lines_of l.before ++ l.last.1 ∷ []) ≡ Some (ended F) =
    ap (take_lines w at_version) (sym (lines_of-push l.before l.last))
    ∙ ap (λ (ks : List Kept). take_lines w at_version (lines_of ks)) (sym l.split) ∙ leads in
    let p = parted w at_version (ended F) (lines_of l.before) l.last.1 leads-split in
    let one : take_lines w p.mid (l.last.1 ∷ []) ≡ Some (ended F) =
    and_then-at (λ (next : State). take_lines w next []) (take_line w p.mid l.last.1) (ended F) p.ends in
    let mid-keeps : KeepsAll law_order (facts (parts_of p.mid)) =
    keeps-lines law_order w p.mid (l.last.1 ∷ []) (ended F) one lawful in
    ap (λ (ks : List Kept). read_file w at_version (ks ++ tail)) l.split
    ∙ ap (read_file w at_version) (append_assoc l.before (l.last ∷ []) tail)
    ∙ seen_reads w at_version p.mid l.before (l.last ∷ tail) p.leads mid-keeps
    (no_end_before w at_version (ended F) (lines_of l.before) l.last.1 leads-split)
    ∙ ap (λ (r : Result State Breach). goes_on r l.last.0 tail (λ next. read_file w next tail))
    (judge_ok w p.mid (ended F) l.last.1 p.ends mid-keeps lawful)

only_front : (w : Version) (kept front tail : List Kept) (F : FileParts) → kept ≡ front ++ tail
    → AllZip Matches (lines_of front) (file_lines F) → IsFile F → is_read w F.version ≡ true
    → KeepsAll law_order (facts F) → read_file w at_version kept ≡ at_end F tail
only_front w kept [] tail F e m p r l = absurd m
only_front w kept (k ∷ front) tail F e m p r l = ap (read_file w at_version) e
    ∙ front_read w k front tail F (front_leads w (k ∷ front) F m p r) l

-- what holds of the kept lines is what the plain reader returns
pub file_only : (w : Version) (kept : List Kept) (a : AnswerOf FileParts) → HoldsFile w kept a
    → read_file w at_version kept ≡ a
file_only w kept (front_is F tail) h =
    only_front w kept h.0.front tail F h.0.split h.0.match h.0.is_file h.0.known h.0.lawful
    ∙ cond-true (is_filled F) _ _ h.1
file_only w kept (no_contours F tail) h =
    only_front w kept h.0.front tail F h.0.split h.0.match h.0.is_file h.0.known h.0.lawful
    ∙ cond-false (is_filled F) _ _ h.1
file_only w kept (at_fault b n) h = only_breach w kept n b h
file_only w kept too_soon h = only_soon w kept h

one_empty : (S : Parts) → contours_of S.sections ≡ [] → is_filled (as_file S) ≡ false
one_empty S e = ap (λ (cs : List ContourParts). nat_lt 0 (length cs) && true) e

-- the same where only version 1 is read
pub read_only : (kept : List Kept) (a : Answer) → HoldsAnswer kept a → read_from at_version kept ≡ a
read_only kept (front_is S tail) h =
    ap one_object (file_only One kept (front_is (as_file S) tail) (h.0, filled-to S h.1))
read_only kept (no_contours S tail) h =
    ap one_object (file_only One kept (no_contours (as_file S) tail) (h.0, one_empty S h.1))
read_only kept (at_fault b n) h = ap one_object (file_only One kept (at_fault b n) h)
read_only kept too_soon h = ap one_object (file_only One kept too_soon h)
