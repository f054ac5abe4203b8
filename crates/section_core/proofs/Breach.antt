-- What one more line does: it is at fault, by some breach, or it is not.
use Rattle.std.proofs.Common.{◌≡◌, ℕ, suc, List, [], ◌∷◌, ◌++◌, take, None, Some, ap, sym, ◌∙◌, subst, arith}
use Rattle.std.specs.Prelude.{slice_get}
use Rattle.std.specs.Option.{option_and_then}
use Rattle.section_core.specs.declared.parts.Version.{Version}
use Rattle.section_core.specs.Laws.{Law, facts, Keeps, KeepsAll, law_order}
use Rattle.section_core.specs.Reading.{form, broken, Breaks}
use Rattle.text_io.specs.WordLists.{Line}
use Rattle.section_core.specs.Machine.{State, at_version, parts_of}
use Rattle.section_core.proofs.SoFar.{and_then_some, some_is}
use Rattle.section_core.proofs.Decides.{take_line, take_lines, state-of_begins, begins-of_state, and_then-at}
use Rattle.section_core.proofs.FirstBreach.{keeps-at, get-take}
use Rattle.std.proofs.lemmas.Option.{none-some}

pub take_lines-append : (w : Version) (state : State) (lines : List Line) (line : Line) (mid : State)
    → take_lines w state lines ≡ Some mid
    → take_lines w state (lines ++ line ∷ []) ≡ option_and_then (λ next. Some next) (take_line w mid line)
take_lines-append w state [] line mid e =
    ap (λ (s : State). option_and_then (λ (next : State). take_lines w next []) (take_line w s line)) (some_is e)
take_lines-append w state (first ∷ lines) line mid e =
    let s = and_then_some (λ next. take_lines w next lines) (take_line w state first) mid e in
    and_then-at (λ (next : State). take_lines w next (lines ++ line ∷ [])) (take_line w state first) s.0 s.1
    ∙ take_lines-append w s.0 lines line mid s.2

pub take_lines-more : (w : Version) (state : State) (lines : List Line) (line : Line) (mid next : State)
    → take_lines w state lines ≡ Some mid → take_line w mid line ≡ Some next
    → take_lines w state (lines ++ line ∷ []) ≡ Some next
take_lines-more w state lines line mid next e f = take_lines-append w state lines line mid e
    ∙ and_then-at (λ (next : State). Some next) (take_line w mid line) next f

-- a line that leads nowhere cannot be read at its place
pub breaks-form : (w : Version) (lines : List Line) (line : Line) (state : State)
    → take_lines w at_version lines ≡ Some state → take_line w state line ≡ None → Breaks w (lines ++ line ∷ []) form
breaks-form w lines line state e f b =
    let end = state-of_begins w [] (lines ++ line ∷ []) b in
    let none : take_lines w at_version (lines ++ line ∷ []) ≡ None = take_lines-append w at_version lines line state e
    ∙ ap (option_and_then (λ (next : State). Some next)) f in
    absurd (none-some end.0 (sym none ∙ end.1))

-- if the parts after a line keep the laws up to one, and not that one, the line breaks that one
pub breaks-law : (w : Version) (lines : List Line) (line : Line) (state next : State) (k : ℕ) (law : Law)
    → take_lines w at_version lines ≡ Some state → take_line w state line ≡ Some next → slice_get law_order k ≡ Some law
    → KeepsAll (take k law_order) (facts (parts_of next)) → (Keeps law (facts (parts_of next)) → ⊥)
    → Breaks w (lines ++ line ∷ []) (broken law)
breaks-law w lines line state next k law e f at keeps breaks =
    let leads = take_lines-more w at_version lines line state next e f in (
      k,
      at,
      begins-of_state w (take k law_order) (lines ++ line ∷ []) next leads keeps,
      λ b.
          let end = state-of_begins w (take (suc k) law_order) (lines ++ line ∷ []) b in
          let same : end.0 ≡ next = some_is (sym end.1 ∙ leads) in
          breaks (keeps-at (take (suc k) law_order) k law (facts (parts_of next))
          (get-take law_order k (suc k) law (omega arith) at)
          (subst (λ (s : State). KeepsAll (take (suc k) law_order) (facts (parts_of s))) same end.2)),
    )
