-- Answers to edits, line by line.
use Rattle.std.proofs.Common.{◌≡◌, ◌⊎◌, ◌<◌, ◌≤◌, inl, inr, ℕ, zero, suc, ◌+◌, ◌-◌, List, [], ◌∷◌, ◌++◌, length, drop, Option, None, Some, Result, Ok, Err, Vec, refl, sym, subst, ap, ap₂, ◌∙◌, arith, append_assoc}
use Rattle.std.specs.Prelude.{sum_by, IfOk, IfErr, OnOk, OnErr, codes, decimal}
use Rattle.std.specs.Global.{Global}
use Rattle.std.proofs.lemmas.List.{append-nil, drop-drop, drop_all, length-drop}
use Rattle.std.proofs.lemmas.List.Sums.{sum_by-cons}
use Rattle.text_io.specs.WordLists.{Kept, Line, lines_of, first_number}
use Rattle.fku_types.specs.declared.limits.TheConstants.{MAX_EDITS}
use Rattle.fku_types.specs.declared.fault.Fault.{Fault}
use Rattle.fku_types.specs.declared.fault.Fault.TheVariants.{NoMemory, Limit}
use Rattle.fku_types.specs.declared.fault.LimitName.TheVariants.{Edits}
use Rattle.section_core.specs.Parts.{Parts}
use Rattle.pair_pool.specs.Solvers.{raised_by}
use Rattle.section_pairs.specs.SectionFaults.{ArePairs, OrNoMemory}
use Rattle.section_pairs.specs.Pairs.{PairParts}
use Rattle.surface_core.specs.declared.surfaces.Built.{Built}
use Rattle.triangle_meshes.specs.Meshes.{Surface, surface_of}
use Rattle.section_edits.specs.declared.edit.Edit.{Edit}
use Rattle.section_edits.specs.declared.edit.EditFault.{EditFault}
use Rattle.section_edits.specs.declared.edit.EditFault.TheVariants.{NoMemory as WantingMemory}
use Rattle.section_edits.specs.Changes.{changed}
use Rattle.section_edits.specs.Lines.{ReadsAsEdit}
use Rattle.section_edits.specs.Edits.{AreApplied, IsApplyFault, IsEdited, IsRefused}
use Rattle.section_edits.specs.Sessions.{CountsNew, FaultCount, Held, IsSolved}
use Rattle.command_replies.specs.Reply.{Reply, told, refused, fails, goes_on, Replies, counted}
use Rattle.surface_commands.specs.Edit.{LineAnswer, Editing, IsLineAnswer, IsEditing, answer_text, answers_text, edit_sections, edits_in, edits_text, solved_for}
use Rattle.surface_commands.specs.EditSteps.{HasAnswered, HasEdited, IsApplied, IsTextOfEdits}
use Rattle.command_replies.proofs.ReplyLemmas.{counted_raised}

counted_some : (n count : ℕ) → 0 < n → counted n count ≡ raised_by n count
counted_some zero count h = omega (arith, h)
counted_some (suc n) count h = refl

-- a count after some pairs, and after some more
pub counted_twice : (m n a b c : ℕ) → b ≡ counted m a → c ≡ counted n b → c ≡ counted (m + n) a
counted_twice zero n a b c d e =
    let sum : n ≡ zero + n = omega arith in
    e ∙ ap (counted n) d ∙ ap (λ (k : ℕ). counted k a) sum
counted_twice (suc m) zero a b c d e =
    let sum : suc m ≡ suc m + zero = omega arith in
    e ∙ d ∙ ap (λ (k : ℕ). counted k a) sum
counted_twice (suc m) (suc n) a b c d e =
    let sum : raised_by (suc n) b ≡ raised_by (suc m + suc n) a = omega (arith, d) in
    e ∙ sum ∙ sym (counted_some (suc m + suc n) a (omega arith))

-- an edit with an answer is applied, if it is not refused
applied_more : (S T U : Parts) (e : Option Edit) (es : List (Option Edit)) (a : LineAnswer) → IsLineAnswer S e a T
    → AreApplied T (edits_in es) U → AreApplied S (edits_in (e ∷ es)) U
applied_more S T U None es (Ok done) h more = absurd h
applied_more S T U None es (Err fault) h more = subst (λ (V : Parts). AreApplied V (edits_in es) U) h.1 more
applied_more S T U (Some e) es (Ok done) h more = (T, inl h.0, more)
applied_more S T U (Some e) es (Err fault) h more = (T, inr (h.1, fault, h.0), more)

-- some lines are answered: answers to the others after them complete those to all
pub record SoFar (S : Parts) (lines rest : List Line) (count : ℕ) (old text : List ℕ) (T : Parts) (before now : ℕ) :
    Type 0 where
  pub whole : (x : Editing) → IsEditing T rest x
      → HasEdited S lines (count + length x.answers) old (text ++ answers_text (count + 1) x.answers) x.sections before
      (counted (sum_by solved_for x.answers) now)

pub none_yet : (S : Parts) (lines : List Line) (old : List ℕ) (before : ℕ)
    → SoFar S lines lines 0 old old S before before
none_yet S lines old before = record {
  whole = λ x is. record {
    editing = x;
    is_editing = is;
    text = refl;
    number = omega arith;
    sections = refl;
    raised = refl;
  };
}

pub one_more : (S T U : Parts) (lines all rest : List Line) (line : Line) (count : ℕ) (old text new : List ℕ)
    (before now after : ℕ) → SoFar S lines all count old text T before now → all ≡ line ∷ rest
    → HasAnswered T line (count + 1) text new U now after → SoFar S lines rest (count + 1) old new U before after
one_more S T U lines all rest line count old text new before now after given e h =
    let so = subst (λ (ls : List Line). SoFar S lines ls count old text T before now) e given in
    record {
      whole = λ x is.
          let a = h.answer in
          let e = h.applied.0 in
          let y : Editing = record { edits = e ∷ x.edits; answers = a ∷ x.answers; sections = x.sections } in
          let more = so.whole y
          (record {
            read = (h.applied.1, is.read);
            answered = (U, h.applied.2, is.answered);
            applied = applied_more T U x.sections e x.edits a h.applied.2 is.applied;
          }) in
          let rest_text = answers_text (count + 1 + 1) x.answers in
          let sum : sum_by solved_for (a ∷ x.answers) ≡ solved_for a + sum_by solved_for x.answers =
          sum_by-cons solved_for a x.answers in
          record {
            editing = more.editing;
            is_editing = more.is_editing;
            text = ap (λ (t : List ℕ). t ++ rest_text) h.text ∙ append_assoc text _ rest_text ∙ more.text;
            number = omega (arith, more.number);
            sections = more.sections;
            raised = counted_twice (solved_for a) (sum_by solved_for x.answers) now after
                (counted (sum_by solved_for x.answers) after) h.applied.3 refl ∙ ap (λ (k : ℕ). counted k now) (sym sum)
                ∙ more.raised;
          };
    }

pub all_answered : (S T : Parts) (lines all : List Line) (count : ℕ) (old text : List ℕ) (before now : ℕ)
    → SoFar S lines all count old text T before now → all ≡ [] → HasEdited S lines count old text T before now
all_answered S T lines all count old text before now given e =
    let so = subst (λ (ls : List Line). SoFar S lines ls count old text T before now) e given in
    let more = so.whole (record { edits = []; answers = []; sections = T })
    (record { read = tt; answered = refl; applied = refl }) in
    record {
      editing = more.editing;
      is_editing = more.is_editing;
      text = sym (append-nil text) ∙ more.text;
      number = omega (arith, more.number);
      sections = more.sections;
      raised = more.raised;
    }

-- the lines after some lines, and after one more
pub behind_more : (kept rest : List Kept) (i : ℕ) (k : Kept) → drop i kept ≡ k ∷ rest → drop (i + 1) kept ≡ rest
behind_more kept rest i k e = sym (drop-drop 1 i kept) ∙ ap (drop 1) e

pub behind_all : (kept : List Kept) (i n : ℕ) → i ≤ n → drop i kept ≡ [] → drop n kept ≡ []
behind_all kept i n l e =
    let whole : i + (n - i) ≡ n = omega (arith, l) in
    subst (λ (m : ℕ). drop m kept ≡ []) whole
    (sym (drop-drop (n - i) i kept) ∙ drop_all (n - i) (drop i kept) (omega (arith, ap length e)))

-- a session that was not opened left the solver's count, or memory ran out
pub left_count : (S : Parts) (ps : List PairParts) (old new : ℕ) (fault : Fault)
    → FaultCount S ps old new (fault ≡ NoMemory) → OrNoMemory (λ f. new ≡ old) fault
left_count S ps old new fault (inl same) = inr same
left_count S ps old new fault (inr wanting) = inl wanting.0

-- an answer for which memory ran out
abbrev err : EditFault → LineAnswer
err fault = Err fault

abbrev pub IsWanting : LineAnswer → Type 0
IsWanting a = a ≡ Err WantingMemory

refused_line : (words : Line) (e : Edit) (S T : Parts) (ps : List PairParts) (before after : ℕ) (fault : EditFault)
    → ReadsAsEdit words e → IsRefused S e fault → T ≡ S
    → FaultCount (changed S e) ps before after (fault ≡ WantingMemory)
    → IsWanting (Err fault) ⊎ IsApplied S words (Err fault) T before after
refused_line ws e S T ps before after fault reads by_fault same (inl count) =
    inr (Some e, reads, (by_fault, same), count)
refused_line ws e S T ps before after fault reads by_fault same (inr wanting) = inl (ap err wanting.0)

-- what a session returns for an edit of a line
pub session_answers : (ws : Line) (e : Edit) (s t : Held) (before after : ℕ) (r : LineAnswer) → ReadsAsEdit ws e
    → IsSolved s → before ≤ after → OnOk r (IsEdited s.sections e t.sections) → OnOk r (IsSolved t)
    → IfOk r (CountsNew s.pairs t.pairs) → IfOk r (λ d. after ≡ raised_by d.solved before)
    → IfErr r (IsApplyFault s.sections e) → OnErr r (t ≡ s)
    → IfErr r (λ f. FaultCount (changed s.sections e) s.pairs before after (f ≡ WantingMemory))
    → IsWanting r ⊎ IsApplied s.sections ws r t.sections before after
session_answers ws e s t before after (Ok d) reads was later edited solved counts raised fault same count =
    inr (
      Some e,
      reads,
      (
        edited,
        record {
          before = s.pairs;
          pairs_before = was.pairs;
          after = t.pairs;
          pairs_after = solved.pairs;
          counts =
              counts;
        },
      ),
      counted_raised d.solved before after raised later,
    )
session_answers ws e s t before after (Err f) reads was later edited solved counts raised (inl memory) same count =
    inl (ap err memory)
session_answers ws e s t before after (Err f) reads was later edited solved counts raised (inr by_fault) same count =
    refused_line ws e s.sections t.sections s.pairs before after f reads by_fault (ap (λ (h : Held). h.sections) same)
    count

-- a line is answered once its answer is written, since `NoMemory` has no words
pub answer_written : {U E : Type 0} (S T : Parts) (line : Line) (number : ℕ) (old new : List ℕ) (before after : ℕ)
    (a : LineAnswer) (r : Result U E) → IsWanting a ⊎ IsApplied S line a T before after
    → OnOk r (new ≡ old ++ answer_text number a) → OnOk r (IsWanting a → ⊥)
    → OnOk r (HasAnswered S line number old new T before after)
answer_written S T line number old new before after a (Ok u) (inl memory) text is_told = absurd (is_told memory)
answer_written S T line number old new before after a (Ok u) (inr is) text is_told =
    record { answer = a; applied = is; text = text }
answer_written S T line number old new before after a (Err f) is text is_told = tt

-- the whole text, piece by piece
pub text_is : (format : Surface → List ℕ) (answers : List LineAnswer) (b : Built) (count : ℕ) (t u x : List ℕ)
    → t ≡ answers_text 1 answers → count ≡ length answers → u ≡ t ++ (codes "EDITS " ++ (decimal count ++ codes "\n"))
    → x ≡ u ++ format (surface_of b.mesh) → x ≡ edits_text format answers b
text_is format answers b count t u x first number eu ex =
    let last = format (surface_of b.mesh) in
    let total : ℕ → List ℕ = λ n. codes "EDITS " ++ (decimal n ++ codes "\n") in
    ex
    ∙ ap (λ (s : List ℕ). s ++ last) (eu ∙ ap₂ (λ (s : List ℕ) (n : ℕ). s ++ total n) first number)
    ∙ append_assoc (answers_text 1 answers) (total (length answers)) last
    ∙ ap (λ (s : List ℕ). answers_text 1 answers ++ (codes "EDITS " ++ s))
    (append_assoc (decimal (length answers)) (codes "\n") last)

-- a tail has no line after its first 1,000 lines
none_behind : (kept : List Kept) → None ≡ first_number kept → length kept ≡ 0
none_behind [] e = refl
none_behind (k ∷ more) e = absurd (cc)

pub few_lines : (tail : List Kept) → None ≡ first_number (drop MAX_EDITS tail) → length tail ≤ MAX_EDITS
few_lines tail e = let none = none_behind (drop MAX_EDITS tail) e in omega (arith, none, length-drop MAX_EDITS tail)

-- too many lines are refused, if the sections have pairs
pub many_refused : (format : Surface → List ℕ) (S : Parts) (tail : List Kept) (ps : List PairParts) (n count : ℕ)
    → ArePairs S ps → Some n ≡ first_number (drop MAX_EDITS tail)
    → Replies (edit_sections format tail S) count count (Err (Limit Edits n))
many_refused format S tail ps n count are e = record {
  text = tt;
  fault = inr (goes_on ps (refused (Limit Edits n)) are (fails (Limit Edits n) (n, sym e, refl)), refl);
  later = omega arith;
}

-- the text of the edits is the reply; the pairs of the sections were counted, and then those of the edits
pub edits_told : (format : Surface → List ℕ) (S : Parts) (tail : List Kept) (ps : List PairParts)
    (before middle after : ℕ) (v : Vec ℕ Global) → ArePairs S ps → length tail ≤ MAX_EDITS
    → middle ≡ raised_by (length ps) before → before ≤ middle → middle ≤ after
    → IsTextOfEdits format S (lines_of tail) v.items middle after
    → Replies (edit_sections format tail S) before after (Ok v)
edits_told format S tail ps before middle after v are few raised later still is =
    let answers = is.editing.answers in
    let n = length ps + sum_by solved_for answers in
    let reply : Reply = told v.items n in
    record {
      text = (
        n,
        goes_on ps reply are (goes_on (lines_of tail) reply (few, refl)
            (goes_on is.editing reply is.is_editing
            (goes_on is.built reply is.surface (ap (λ (t : List ℕ). told t n) is.text)))),
        counted_twice (length ps) (sum_by solved_for answers) before middle after
            (counted_raised (length ps) before middle raised later) is.raised,
      );
      fault = tt;
      later = omega (arith, later, still);
    }
