-- A text of parts that a caller passes in has their fault.
use Rattle.std.proofs.Common.{◌≡◌, ℕ, List, [], ◌∷◌, ◌++◌, map, Option, None, Some, Result, Err, refl, ap, sym, ◌∙◌, subst, append-nil, inl, inr}
use Rattle.std.specs.List.{flat_map, AllByRecursion, AllZip}
use Rattle.std.proofs.lemmas.List.{map-append}
use Rattle.fku_types.specs.declared.rules.PairRule.TheVariants.{Overlap}
use Rattle.fku_types.specs.declared.fault.Fault.{Fault}
use Rattle.fku_types.specs.declared.fault.Fault.TheVariants.{NoMemory, NoContours}
use Rattle.section_core.specs.declared.parts.Section.{Section}
use Rattle.section_core.specs.declared.parts.Link.{Link}
use Rattle.fku_types.specs.declared.rules.PairRule.{PairRule}
use Rattle.section_core.specs.Parts.{CostParts, FileParts, as_file, IsParts, part_lines}
use Rattle.text_io.specs.WordLists.{Matches, Kept, lines_of}
use Rattle.section_core.specs.Laws.{Facts, facts, Law, in_range, name_once, rising, within}
use Rattle.section_core.specs.Reading.{Breach, broken, fault_at, HasBreach, HasFault}
use Rattle.section_core.specs.Machine.{Item, cost_is, finish, IsItem, item_line, file_items, section_items, link_items, body_items, State, at_version, ended, advance, run, parts_of}
use Rattle.section_core.specs.Steps.{after, first_broken}
use Rattle.section_core.specs.Reader.{AnswerOf, at_fault, judge, judged, take_item, goes_on, read_file, HoldsFile}
use Rattle.section_core.specs.Views.{section_parts, link_parts}
use Rattle.section_core.specs.Flat.{AreFlat}
use Rattle.section_core.specs.Finished.{ended_parts}
use Rattle.section_core.specs.Made.{Piece, whole, askew, link_piece, pieces_of, nothing, HasPieceFault, walked, walk}
use Rattle.section_core.specs.MadeTexts.{without_line, HasFaultBut, TextsTellPartsFault}
use Rattle.section_core.specs.declared.parts.Version.TheVariants.{One}
use Rattle.section_core.proofs.OneObject.{file-to, lawful-to}
use Rattle.section_core.proofs.SoFar.{and_then_some}
use Rattle.section_core.proofs.Whole.{run_whole}
use Rattle.section_core.proofs.Lines.{items-lines, item_of-matches}
use Rattle.section_core.proofs.Decides.{file_items-are}
use Rattle.section_core.proofs.FactSteps.{facts-advance}
use Rattle.section_core.proofs.Answers.{finish_ends, file_holds}
use Rattle.section_core.proofs.ReadOn.{goes_on-open, ends_by_finish}
use Rattle.section_core.proofs.Pieces.{unlinked, linked_items, parts_lawful}
use Rattle.section_core.proofs.WholePieces.{section_level, link_level}
use Rattle.section_core.proofs.MakeFaults.{walk-fault, PieceCause, NoneCause, Cause, cause, not_empty}

-- The reader reports this breach at some line.
record Tells (r : AnswerOf FileParts) (b : Breach) : Type 0 where
  line : ℕ
  answer : r ≡ at_fault b line

judged_item : (state next : State) (k : Kept) (item : Item) (o : Option Law) → Matches k.1 (item_line item)
    → IsItem item → advance One state item ≡ Some next
    → first_broken (facts (parts_of state)) item ≡ o → judge One state k.1 ≡ judged (Some next) o
judged_item state next k item o m i a b =
    ap (take_item One state) (item_of-matches k.1 item m i)
    ∙ ap (λ (s : Option State). judged s (first_broken (facts (parts_of state)) item)) a
    ∙ ap (judged (Some next)) b

walked_some : (r : Result Facts Law) (l law : Law) → walked (Some l) r ≡ Err law → l ≡ law
walked_some r l law w = cc

stuck : (S : FileParts) (item : Item) (next : State) → advance One (ended S) item ≡ Some next → ⊥
stuck S item next e = cc

-- END breaks no law, and nothing is read after it
end_tells_none : (state end : State) (f : Facts) (items : List Item) (law : Law) → (S : FileParts) × (state ≡ ended S)
    → run One state items ≡ Some end → walk f (map whole items) ≡ Err law → ⊥
end_tells_none state end f [] law s r w = absurd (cc)
end_tells_none state end f (item ∷ items) law s r w =
    let next = and_then_some (λ next. run One next items) (advance One state item) end r in
    stuck s.0 item next.0 (ap (λ (t : State). advance One t item) (sym s.1) ∙ next.1)

-- one more item, if the reader goes on correctly after it
reads_item : (item : Item) (items : List Item) (state next end : State) (k : Kept) (kept : List Kept) (law : Law)
    (o : Option Law) → Matches k.1 (item_line item) → IsItem item → advance One state item ≡ Some next
    → run One next items ≡ Some end
    → first_broken (facts (parts_of state)) item ≡ o
    → walked o (walk (after (facts (parts_of state)) item) (map whole items)) ≡ Err law
    → (walk (facts (parts_of next)) (map whole items) ≡ Err law → Tells (read_file One next kept) (broken law))
    → Tells (read_file One state (k ∷ kept)) (broken law)
reads_item item items state next end k kept law (Some l) m i a r b w goes = record {
  line = k.0;
  answer =
      ap (λ (j : Result State Breach). goes_on j k.0 kept (λ next. read_file One next kept))
      (judged_item state next k item (Some l) m i a b)
      ∙ ap (λ (x : Law). let y : AnswerOf FileParts = at_fault (broken x) k.0 in y)
      (walked_some (walk (after (facts (parts_of state)) item) (map whole items)) l law w);
}
reads_item item items state next end k kept law None m i a r b w goes =
    elim (ends_by_finish One state item next a) [
      | inl going ↦
          let t = goes (ap (λ (f : Facts). walk f (map whole items)) (facts-advance One state item next a) ∙ w) in
          record {
            line = t.line;
            answer =
                ap (λ (j : Result State Breach). goes_on j k.0 kept (λ next. read_file One next kept))
                (judged_item state next k item None m i a b)
                ∙ goes_on-open next k.0 kept (λ next. read_file One next kept) going ∙ t.answer;
          }
      | inr f ↦ absurd (end_tells_none next end (after (facts (parts_of state)) item) items law
          (finish_ends One state next (ap (advance One state) (sym f) ∙ a)) r w)
    ]

-- items that break a law first at one place, read from their lines
reads_fault : (items : List Item) (state end : State) (kept : List Kept) (law : Law) → run One state items ≡ Some end
    → AllByRecursion IsItem items → AllZip Matches (lines_of kept) (map item_line items)
    → walk (facts (parts_of state)) (map whole items) ≡ Err law → Tells (read_file One state kept) (broken law)
reads_fault [] state end kept law r i m w = absurd (cc)
reads_fault (item ∷ items) state end [] law r i m w = absurd m
reads_fault (item ∷ items) state end (k ∷ kept) law r i m w =
    let s = and_then_some (λ next. run One next items) (advance One state item) end r in
    reads_item item items state s.0 end k kept law (first_broken (facts (parts_of state)) item) m.0 i.0 s.1 s.2 refl w
    (λ v. reads_fault items s.0 end kept law s.2 i.1 m.1 v)

walk_front : (f : Facts) (ps qs : List Piece) (law : Law) → walk f ps ≡ Err law → walk f (ps ++ qs) ≡ Err law
walk_front f [] qs law e = absurd (cc)
walk_front f (askew ∷ ps) qs law e = e
walk_front f (whole item ∷ ps) qs law e =
    walked_front (first_broken f item) (walk (after f item) ps) (walk (after f item) (ps ++ qs)) law
    (walk_front (after f item) ps qs law) e
  where
    walked_front : (o : Option Law) (r s : Result Facts Law) (law : Law) → (r ≡ Err law → s ≡ Err law)
        → walked o r ≡ Err law → walked o s ≡ Err law
    walked_front None r s law more w = more w
    walked_front (Some l) r s law more w = w

-- flat parts as whole pieces
flat_pieces : (cost : CostParts) (rule : PairRule) (ss : List Section) (ls : List Link) → AreFlat ss
    → (rule ≡ Overlap → ls ≡ [])
    → pieces_of cost ss ls ≡ map whole
    (cost_is cost ∷ flat_map section_items (map section_parts ss) ++ link_items rule (map link_parts ls))
flat_pieces cost rule ss ls flat e =
    let one = flat_map section_items (map section_parts ss) in
    ap (λ (qs : List Piece). whole (cost_is cost) ∷ qs)
    (ap (λ (qs : List Piece). qs ++ map link_piece ls) (section_level ss flat)
    ∙ ap (λ (qs : List Piece). map whole one ++ qs) (link_level ls ∙ ap (map whole) (sym (linked_items rule ls e)))
    ∙ sym (map-append whole one (link_items rule (map link_parts ls))))

parts_tell : (cost : CostParts) (rule : PairRule) (ss : List Section) (ls : List Link) (kept : List Kept) (law : Law)
    → IsParts (ended_parts cost rule ss ls) → AreFlat ss
    → AllZip Matches (lines_of kept) (part_lines (ended_parts cost rule ss ls))
    → HasPieceFault (pieces_of cost ss ls) law → Tells (read_file One at_version kept) (broken law)
parts_tell cost rule ss ls kept law p flat m has =
    let S = ended_parts cost rule ss ls in
    let F = as_file S in
    let body = body_items S.rule S.sections S.links in
    let mine = cost_is cost ∷ body in
    let walks : walk nothing (map whole mine) ≡ Err law =
    ap (walk nothing) (sym (flat_pieces cost rule ss ls flat (unlinked rule ls p.links)))
    ∙ walk-fault (pieces_of cost ss ls) law has in
    let all : walk nothing (map whole (cost_is cost ∷ ((body ++ []) ++ finish ∷ []))) ≡ Err law =
    ap (λ (is : List Item). walk nothing (map whole (cost_is cost ∷ (is ++ finish ∷ [])))) (append-nil body)
    ∙ ap (walk nothing) (map-append whole mine (finish ∷ []))
    ∙ walk_front nothing (map whole mine) (whole finish ∷ []) law walks in
    reads_fault (file_items F) at_version (ended F) kept law (run_whole One F (file-to S p) refl)
    (file_items-are F (file-to S p))
    (subst (AllZip Matches (lines_of kept)) (sym (items-lines F)) m) all

has_fault : (kept : List Kept) (n : ℕ) (law : Law) → HasBreach One kept n (broken law)
    → HasFault kept (fault_at (broken law) n)
has_fault kept n in_range h = (n, broken in_range, h, refl)
has_fault kept n name_once h = (n, broken name_once, h, refl)
has_fault kept n rising h = (n, broken rising, h, refl)
has_fault kept n (within limit) h = (n, broken (within limit), h, refl)

at_line_0 : (law : Law) (n : ℕ) → without_line (fault_at (broken law) n) ≡ fault_at (broken law) 0
at_line_0 in_range n = refl
at_line_0 name_once n = refl
at_line_0 rising n = refl
at_line_0 (within limit) n = refl

piece_tells : (cost : CostParts) (rule : PairRule) (ss : List Section) (ls : List Link) (kept : List Kept)
    (fault : Fault) → IsParts (ended_parts cost rule ss ls) → AreFlat ss
    → AllZip Matches (lines_of kept) (part_lines (ended_parts cost rule ss ls))
    → PieceCause cost ss ls fault → HasFaultBut kept fault
piece_tells cost rule ss ls kept fault p flat m c =
    let t = parts_tell cost rule ss ls kept c.0 p flat m c.1 in
    let breach : HasBreach One kept t.line (broken c.0) = subst (HoldsFile One kept) t.answer (file_holds One kept) in
    record {
      told = fault_at (broken c.0) t.line;
      has = has_fault kept t.line c.0 breach;
      same = at_line_0 c.0 t.line
          ∙ sym c.2;
    }

none_tells : (cost : CostParts) (rule : PairRule) (ss : List Section) (ls : List Link) (kept : List Kept)
    (fault : Fault) → IsParts (ended_parts cost rule ss ls)
    → AllZip Matches (lines_of kept) (part_lines (ended_parts cost rule ss ls))
    → NoneCause cost rule ss ls fault → HasFaultBut kept fault
none_tells cost rule ss ls kept fault p m c = record {
  told = NoContours;
  has = (
    ended_parts cost rule ss ls,
    [],
    record {
      front = kept;
      split = sym (append-nil kept);
      match = m;
      is_file =
          file-to (ended_parts cost rule ss ls) p;
      known = refl;
      lawful =
          lawful-to (ended_parts cost rule ss ls) (parts_lawful cost rule ss ls c.3 p);
    },
    c.1,
  );
  same = sym c.0;
}

tells : (cost : CostParts) (rule : PairRule) (ss : List Section) (ls : List Link) (fault : Fault) (kept : List Kept)
    → IsParts (ended_parts cost rule ss ls) → AreFlat ss
    → AllZip Matches (lines_of kept) (part_lines (ended_parts cost rule ss ls))
    → Cause cost rule ss ls fault → (fault ≡ NoMemory → ⊥) → HasFaultBut kept fault
tells cost rule ss ls fault kept p flat m (inl e) n = absurd (n e)
tells cost rule ss ls fault kept p flat m (inr (inl c)) n = piece_tells cost rule ss ls kept fault p flat m c
tells cost rule ss ls fault kept p flat m (inr (inr (inl c))) n =
    absurd (not_empty ls c.2 (unlinked rule ls p.links c.1))
tells cost rule ss ls fault kept p flat m (inr (inr (inr c))) n = none_tells cost rule ss ls kept fault p m c

pub texts_tell : TextsTellPartsFault
texts_tell cost rule ss ls fault kept p flat m made n =
    tells cost rule ss ls fault kept p flat m (cause cost rule ss ls fault made) n
