use Rattle.std.proofs.Common.{List, [], ◌∷◌, ◌++◌, ◌≡◌, Result, Ok, Err}
use Rattle.std.specs.Prelude.{IfErr}
use Rattle.std.specs.List.{AllZip}
use Rattle.text_io.specs.WordLists.{Kept, Matches, lines_of}
use Rattle.fku_types.specs.declared.fault.Fault.{Fault}
use Rattle.cert_checker.specs.CertTexts.{CertHead, IsHead, head_line}
use Rattle.text_io.specs.Formats.{kept_behind}
use Rattle.cert_checker.specs.CertReading.{HasFirstLine, IsCertMemory}
use Rattle.cert_checker.specs.LineSteps.{head_parts}
use Rattle.cert_checker.proofs.Fronts.{begins_head}
use Rattle.cert_checker.proofs.parsing.parse_text.Goals as goal

first_line : (kept before rest : List Kept) (h : CertHead) → IsHead h → kept ≡ before ++ rest
    → AllZip Matches (lines_of before) (head_line h ∷ []) → HasFirstLine kept
first_line kept [] rest h i e m = absurd m
first_line kept (k ∷ []) rest h i e m =
    record { first = k; more = rest; split = e; begins = begins_head h i (k.1 ∷ []) m }
first_line kept (k ∷ l ∷ ks) rest h i e m = absurd m.1

late : {T : Type 0} (kept : List Kept) (r : Result T Fault) → HasFirstLine kept → IfErr r (IsCertMemory kept)
late kept (Ok v) h = tt
late kept (Err fault) h = λ _. h

pub returns-in_err-word-clause-memory : goal.returns-in_err-word-clause-memory
returns-in_err-word-clause-memory c =
    let kept = kept_behind c.args.lines_before c.args.bytes.now in
    let read = c.in_ok-head.ensures.ok.1 in
    late kept c.from_residual-in_err-word.result
    (first_line kept read.before _ (head_parts c.in_ok-head.head) c.in_ok-head.ensures.ok.0 read.split read.match)

pub returns-in_err-pi-clause-memory : goal.returns-in_err-pi-clause-memory
returns-in_err-pi-clause-memory c =
    let kept = kept_behind c.args.lines_before c.args.bytes.now in
    let read = c.in_ok-head.ensures.ok.1 in
    late kept c.from_residual-in_err-pi.result
    (first_line kept read.before _ (head_parts c.in_ok-head.head) c.in_ok-head.ensures.ok.0 read.split read.match)
