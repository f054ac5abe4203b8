use Rattle.std.proofs.Common.{◌≡◌, ◌+◌, ℕ, List, [], ◌∷◌, drop, Err, refl, sym, subst}
use Rattle.text_io.specs.Text.{lines, kept_from, kept_lines}
use Rattle.fku_types.specs.declared.fault.Fault.{Fault}
use Rattle.fku_types.specs.declared.fault.Fault.TheVariants.{NoMemory}
use Rattle.section_core.specs.Parts.{Parts}
use Rattle.section_core.specs.Accepted.{IsAccepted}
use Rattle.section_core.specs.Canonical.{text_of}
use Rattle.section_text.specs.Fronts.{Parses}
use Rattle.text_io.specs.WordLists.{Kept}
use Rattle.section_core.specs.Reader.{HoldsAnswer, front_is}
use Rattle.section_core.specs.Texts.{IsTextOf}
use Rattle.section_core.proofs.Canon.{text_reads}
use Rattle.section_text.proofs.front.parse.Goals as goal

-- a front is refused only if memory runs out
memory_alone : (text : List ℕ) (S : Parts) (fault : Fault) → Parses text (front_is S []) (Err fault) → fault ≡ NoMemory
memory_alone text S NoMemory h = refl
memory_alone text S fault h = absurd h

reads : (text : List ℕ) (S : Parts) → IsAccepted S → text ≡ text_of S → HoldsAnswer (kept_lines text) (front_is S [])
reads text S a e = subst (λ (t : List ℕ). IsTextOf t S) (sym e) (text_reads S a)

no_tail : (tail more : List Kept) (line : Kept) → [] ≡ tail → tail ≡ line ∷ more → ⊥
no_tail tail more line e f = cc (e, f)

pub returns-in-Err-clause-printed : goal.returns-in-Err-clause-printed
returns-in-Err-clause-printed c S a e =
    memory_alone c.args.bytes.now S c.in-Err.fault
    (c.in-Err.ensures.exact (front_is S []) (reads c.args.bytes.now S a e))

pub returns-in-Some-clause-printed : goal.returns-in-Some-clause-printed
returns-in-Some-clause-printed c S a e =
    let h = c.in-Ok.ensures.exact (front_is S []) (reads c.args.bytes.now S a e) in
    absurd (no_tail (kept_from (c.in-Ok.front.lines + 1) (lines (drop c.in-Ok.front.used c.args.bytes.now))) _ _ h.2
    c.in-Some.ensures.found.kept)

pub returns-in-None-clause-printed : goal.returns-in-None-clause-printed
returns-in-None-clause-printed c S a e = (c.in-Ok.ensures.exact (front_is S []) (reads c.args.bytes.now S a e)).0
