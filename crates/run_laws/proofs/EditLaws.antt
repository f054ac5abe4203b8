-- `edit` leaves one reply.
use Rattle.std.proofs.Common.{◌≡◌, ℕ, List, [], ◌∷◌, ◌++◌, ◌+◌, length, drop, Option, None, Some, Ok, Err, refl, sym, subst, ap, ap₂, ◌∙◌, arith}
use Rattle.std.specs.Prelude.{sum_by, codes, decimal}
use Rattle.std.specs.List.{AllZip}
use Rattle.std.proofs.lemmas.List.{length-drop}
use Rattle.text_io.specs.WordLists.{Kept, Line, first_number}
use Rattle.fku_types.specs.declared.limits.TheConstants.{MAX_EDITS}
use Rattle.fku_types.specs.declared.fault.Fault.{Fault}
use Rattle.fku_types.specs.declared.fault.Fault.TheVariants.{Limit}
use Rattle.fku_types.specs.declared.fault.LimitName.TheVariants.{Edits}
use Rattle.section_core.specs.Parts.{Parts, FileParts}
use Rattle.triangle_meshes.specs.Meshes.{Surface}
use Rattle.byu_text.specs.Byu.{byu_of}
use Rattle.section_pairs.specs.Pairs.{PairParts}
use Rattle.surface_core.specs.Surfaces.{strips_in}
use Rattle.section_pairs.proofs.PairLaws.{one_pairs}
use Rattle.surface_core.proofs.SurfaceLaws.{one_surface}
use Rattle.section_edits.specs.declared.edit.Edit.{Edit}
use Rattle.section_edits.specs.declared.session.Done.{Done}
use Rattle.section_edits.specs.Fresh.{fresh}
use Rattle.section_edits.proofs.LineLaws.{one_edit}
use Rattle.section_edits.proofs.EditLaws.{not_both, one_refusal}
use Rattle.command_replies.specs.Reply.{Reply, Then, NoFault, Tells}
use Rattle.command_replies.specs.Stages.{on_surface_of}
use Rattle.surface_commands.specs.Edit.{LineAnswer, Editing, IsLineAnswer, IsPairCount, IsEditing, IsTooMany, AreFew, AreAnswers, StandsFor, answers_text, edit, edit_sections, edits_text, on_edits, solved_for}
use Rattle.run_laws.proofs.ReplyLaws.{Agree, IsOne, agree_tells, one_only, one_pairs_of, one_stage, one_surface_of_one, one_then}

-- a line stands for one edit, or for none
one_meaning : (line : Line) (e f : Option Edit) → StandsFor line e → StandsFor line f → e ≡ f
one_meaning line None None h k = refl
one_meaning line None (Some f) h k = absurd (h f k)
one_meaning line (Some e) None h k = absurd (k e h)
one_meaning line (Some e) (Some f) h k = ap (λ (x : Edit). Some x) (one_edit line e f h.0 k.0)

one_reading : (lines : List Line) (es fs : List (Option Edit)) → AllZip StandsFor lines es → AllZip StandsFor lines fs
    → es ≡ fs
one_reading [] [] [] h k = refl
one_reading [] [] (f ∷ fs) h k = absurd k
one_reading [] (e ∷ es) fs h k = absurd h
one_reading (line ∷ lines) [] fs h k = absurd h
one_reading (line ∷ lines) (e ∷ es) [] h k = absurd k
one_reading (line ∷ lines) (e ∷ es) (f ∷ fs) h k =
    ap₂ (λ (x : Option Edit) (xs : List (Option Edit)). x ∷ xs) (one_meaning line e f h.0 k.0)
    (one_reading lines es fs h.1 k.1)

same_done : (c d : Done) → c.solved ≡ d.solved → c.reused ≡ d.reused → c ≡ d
same_done c d s r = ap₂ (λ (m n : ℕ). let done : Done = record { solved = m; reused = n } in done) s r

-- the counts of pairs are determined by the sections before and after
one_count : (S T : Parts) (c d : Done) → IsPairCount S T c → IsPairCount S T d → c ≡ d
one_count S T c d h k =
    let before = one_pairs S h.before k.before h.pairs_before k.pairs_before in
    let after = one_pairs T h.after k.after h.pairs_after k.pairs_after in
    let solved : c.solved ≡ d.solved = h.counts.solved
    ∙ ap₂ (λ (ps qs : List PairParts). fresh (strips_in ps) (strips_in qs)) before after ∙ sym k.counts.solved in
    same_done c d solved (omega (arith, solved, h.counts.reused, k.counts.reused, ap length after))

-- an answer is unique, and so are the sections after it
one_answer : (S : Parts) (e : Option Edit) (a b : LineAnswer) (T U : Parts) → IsLineAnswer S e a T
    → IsLineAnswer S e b U → (a ≡ b) × (T ≡ U)
one_answer S None (Ok c) b T U h k = absurd h
one_answer S None (Err f) (Ok d) T U h k = absurd k
one_answer S None (Err f) (Err g) T U h k = (ap Err (h.0 ∙ sym k.0), h.1 ∙ sym k.1)
one_answer S (Some e) (Ok c) (Ok d) T U h k =
    let same = h.0.parts ∙ sym k.0.parts in
    (ap Ok (one_count S U c d (subst (λ (V : Parts). IsPairCount S V c) same h.1) k.1), same)
one_answer S (Some e) (Ok c) (Err g) T U h k = absurd (not_both S T e g h.0 k.0)
one_answer S (Some e) (Err f) (Ok d) T U h k = absurd (not_both S U e f k.0 h.0)
one_answer S (Some e) (Err f) (Err g) T U h k = (ap Err (one_refusal S e f g h.0 k.0), h.1 ∙ sym k.1)

one_answers : (S : Parts) (es : List (Option Edit)) (ss ts : List LineAnswer) (T U : Parts) → AreAnswers S es ss T
    → AreAnswers S es ts U → (ss ≡ ts) × (T ≡ U)
one_answers S [] [] [] T U h k = (refl, h ∙ sym k)
one_answers S [] [] (b ∷ ts) T U h k = absurd k
one_answers S [] (a ∷ ss) ts T U h k = absurd h
one_answers S (e ∷ es) [] ts T U h k = absurd h
one_answers S (e ∷ es) (a ∷ ss) [] T U h k = absurd k
one_answers S (e ∷ es) (a ∷ ss) (b ∷ ts) T U h k =
    let first = one_answer S e a b h.0 k.0 h.1 k.1 in
    let more = one_answers h.0 es ss ts T U h.2 (subst (λ (V : Parts). AreAnswers V es ts U) (sym first.1) k.2) in
    (ap₂ (λ (x : LineAnswer) (xs : List LineAnswer). x ∷ xs) first.0 more.0, more.1)

one_editing : (S : Parts) (lines : List Line) (x y : Editing) → IsEditing S lines x → IsEditing S lines y
    → (x.answers ≡ y.answers) × (x.sections ≡ y.sections)
one_editing S lines x y h k =
    let same = one_reading lines x.edits y.edits h.read k.read in
    one_answers S x.edits x.answers y.answers x.sections y.sections h.answered
    (subst (λ (es : List (Option Edit)). AreAnswers S es y.answers y.sections) (sym same) k.answered)

-- the text is determined
abbrev text_with : List LineAnswer → Surface → List ℕ
text_with answers m = answers_text 1 answers
    ++ (codes "EDITS " ++ (decimal (length answers) ++ (codes "\n" ++ byu_of m)))

abbrev ending : ℕ → List LineAnswer → Parts → Reply → Type 0
ending solved answers T = on_surface_of T
    (λ b. Tells (edits_text byu_of answers b) (solved + sum_by solved_for answers))

one_ending : (solved : ℕ) (answers : List LineAnswer) (T : Parts) → IsOne (ending solved answers T)
one_ending solved answers T =
    let n = solved + sum_by solved_for answers in
    one_surface_of_one T (λ b. Tells (edits_text byu_of answers b) n)
    (λ b c is has. agree_tells (edits_text byu_of answers b) (edits_text byu_of answers c) n n
    (ap (text_with answers) (one_surface T b c is has).0) refl)

agree_endings : (solved : ℕ) (S : Parts) (lines : List Line) (x y : Editing) → IsEditing S lines x → IsEditing S lines y
    → Agree (ending solved x.answers x.sections) (ending solved y.answers y.sections)
agree_endings solved S lines x y is has =
    let same = one_editing S lines x y is has in
    subst (λ (T : Parts). Agree (ending solved x.answers x.sections) (ending solved y.answers T)) same.1
    (subst (λ (ss : List LineAnswer). Agree (ending solved x.answers x.sections) (ending solved ss x.sections)) same.0
    (one_ending solved x.answers x.sections))

one_edits : (S : Parts) (solved : ℕ) (lines : List Line) → IsOne (on_edits byu_of S solved lines)
one_edits S solved lines =
    one_then NoFault (IsEditing S lines) (λ x. ending solved x.answers x.sections) (λ f g t u h k. absurd h)
    (λ x f t is h. h) (λ x y is has. agree_endings solved S lines x y is has)

one_many : (tail : List Kept) (f g : Fault) → IsTooMany tail f → IsTooMany tail g → f ≡ g
one_many tail f g h k =
    let lines : Some h.0 ≡ Some k.0 = sym h.1 ∙ k.1 in
    let same : h.0 ≡ k.0 = cc in
    h.2 ∙ ap (λ (n : ℕ). Limit Edits n) same ∙ sym k.2

-- a list of at most 1,000 has nothing after its first 1,000
none_behind : (kept : List Kept) (n : ℕ) → length kept ≡ 0 → first_number kept ≡ Some n → ⊥
none_behind [] n l e = absurd (cc)
none_behind (k ∷ more) n l e = omega (arith, l)

few_or_many : (tail : List Kept) (lines : List Line) (f : Fault) → AreFew tail lines → IsTooMany tail f → ⊥
few_or_many tail lines f few many =
    none_behind (drop MAX_EDITS tail) many.0 (omega (arith, few.0, length-drop MAX_EDITS tail)) many.1

one_edit_sections : (tail : List Kept) (S : Parts) → IsOne (edit_sections byu_of tail S)
one_edit_sections tail S =
    one_pairs_of S (λ pairs. Then (IsTooMany tail) (AreFew tail) (on_edits byu_of S (length pairs)))
    (λ ps. one_stage (IsTooMany tail) (AreFew tail) (on_edits byu_of S (length ps))
    (λ f g t u h k. one_many tail f g h k) (λ lines f t few many. few_or_many tail lines f few many)
    (λ x y few also. few.1 ∙ sym also.1) (λ lines few. one_edits S (length ps) lines))

pub one_edit_reply : (F : FileParts) (tail : List Kept) → IsOne (edit byu_of F tail)
one_edit_reply F tail = one_only F (edit_sections byu_of tail) (one_edit_sections tail)
