use Rattle.std.proofs.Common.{◌+◌, inr, List, map, drop, refl, subst₂, arith}
use Rattle.text_io.specs.Text.{lines, kept_from, kept_lines}
use Rattle.section_core.specs.Reading.{HasFileFault}
use Rattle.section_core.specs.declared.parts.Version.TheVariants.{Two}
use Rattle.section_pairs.specs.SectionFaults.{OrNoMemory}
use Rattle.surface_core.specs.Objects.{IsFoundIn}
use Rattle.section_pairs.specs.Pairs.{pair_parts}
use Rattle.section_pairs.specs.declared.gap_pairs.GapPair.{GapPair}
use Rattle.pair_commands.specs.declared.mark_lines.PairMark.{PairMark}
use Rattle.command_replies.specs.Reply.{Tells, Then}
use Rattle.command_replies.specs.Stages.{AreNumbered, IsFront}
use Rattle.pair_commands.specs.Landmarks.{AreMarks, AreSolved, IsFormFault, IsMarkFault, landmarks, landmarks_text, marked_from, on_marks}
use Rattle.pair_commands.specs.MarkReading.{IsLandmarksText}
use Rattle.command_replies.proofs.ReplyLemmas.{failed, went_on}
use Rattle.pair_commands.proofs.MarkTexts.{text_told}
use Rattle.command_replies.proofs.TailLemmas.{front_fault, with_front}
use Rattle.fku_types.proofs.AnswerLaws.{err_is}
use Rattle.section_text.specs.Fronts.{IsReadMemory}
use Rattle.command_replies.proofs.FourFirst.{at_front}
use Rattle.pair_commands.proofs.marks.landmarks.Goals as goal

pub returns-in_err-front-clause-reply : goal.returns-in_err-front-clause-reply
returns-in_err-front-clause-reply c count =
    let bytes = c.args.input.now in
    failed (HasFileFault Two (kept_lines bytes)) (IsFront bytes) (λ f. landmarks f.0 f.1) count count
    c.from_residual.result c.in_err-front.field-0.0 c.from_residual.ensures.1
    (front_fault bytes c.in_err-front.field-0.0 c.in_err-front.ensures.fault) (inr refl)
    (omega arith)

pub returns-in_err-pairs-clause-reply : goal.returns-in_err-pairs-clause-reply
returns-in_err-pairs-clause-reply c count =
    let bytes = c.args.input.now in
    let f = c.in_ok-front.front in
    let tail = kept_from (f.lines + 1) (lines (drop f.used bytes)) in
    let F = f.objects in
    let out = c.from_residual-in_err-pairs in
    with_front landmarks bytes count count out.result f c.in_ok-front.ensures.found
    (failed (IsFoundIn F) (AreNumbered F) (λ ps. Then (IsFormFault tail) (AreMarks tail) (on_marks ps)) count count
    out.result c.in_err-pairs.field-0.0 out.ensures.1 c.in_err-pairs.ensures.fault (inr refl) (omega arith))

pub returns-in_err-marks-clause-reply : goal.returns-in_err-marks-clause-reply
returns-in_err-marks-clause-reply c count =
    let bytes = c.args.input.now in
    let f = c.in_ok-front.front in
    let tail = kept_from (f.lines + 1) (lines (drop f.used bytes)) in
    let F = f.objects in
    let ps = map pair_parts c.in_ok-pairs.pairs.items in
    let out = c.from_residual-in_err-marks in
    with_front landmarks bytes count count out.result f c.in_ok-front.ensures.found
    (went_on (IsFoundIn F) (AreNumbered F) (λ ps. Then (IsFormFault tail) (AreMarks tail) (on_marks ps)) count count
    out.result ps c.in_ok-pairs.ensures.pairs
    (failed (IsFormFault tail) (AreMarks tail) (on_marks ps) count count out.result c.in_err-marks.field-0.0
    out.ensures.1 c.in_err-marks.ensures.fault (inr refl) (omega arith)))

pub returns-in_err-groups-clause-reply : goal.returns-in_err-groups-clause-reply
returns-in_err-groups-clause-reply c count =
    let bytes = c.args.input.now in
    let f = c.in_ok-front.front in
    let tail = kept_from (f.lines + 1) (lines (drop f.used bytes)) in
    let F = f.objects in
    let ps = map pair_parts c.in_ok-pairs.pairs.items in
    let xs = c.in_ok-marks.marks.items in
    let out = c.from_residual-in_err-groups in
    let fault = c.in_err-groups.field-0.0 in
    let told : OrNoMemory (IsMarkFault ps xs) fault =
    subst₂ (λ (gs : List GapPair) (ms : List PairMark). OrNoMemory (IsMarkFault (map pair_parts gs) ms) fault)
    c.deref.ensures.value c.deref-2.ensures.value c.in_err-groups.ensures.fault in
    with_front landmarks bytes count count out.result f c.in_ok-front.ensures.found
    (went_on (IsFoundIn F) (AreNumbered F) (λ ps. Then (IsFormFault tail) (AreMarks tail) (on_marks ps)) count count
    out.result ps c.in_ok-pairs.ensures.pairs
    (went_on (IsFormFault tail) (AreMarks tail) (on_marks ps) count count out.result xs c.in_ok-marks.ensures.marks
    (failed (IsMarkFault ps xs) (AreSolved ps xs) (λ ms. Tells (landmarks_text (marked_from 1 ps xs) ms) 0) count count
    out.result fault out.ensures.1 told (inr refl) (omega arith))))

pub returns-clause-reply : goal.returns-clause-reply
returns-clause-reply c count =
    let bytes = c.args.input.now in
    let f = c.in_ok-front.front in
    let tail = kept_from (f.lines + 1) (lines (drop f.used bytes)) in
    let F = f.objects in
    let ps = map pair_parts c.in_ok-pairs.pairs.items in
    let xs = c.in_ok-marks.marks.items in
    let text = c.in_ok-text.text in
    let is : IsLandmarksText ps xs text.items =
    subst₂ (λ (gs : List GapPair) (ms : List PairMark). IsLandmarksText (map pair_parts gs) ms text.items)
    c.deref-3.ensures.value c.deref-4.ensures.value c.in_ok-text.ensures in
    with_front landmarks bytes count count _ f c.in_ok-front.ensures.found
    (went_on (IsFoundIn F) (AreNumbered F) (λ ps. Then (IsFormFault tail) (AreMarks tail) (on_marks ps)) count count _
    ps c.in_ok-pairs.ensures.pairs
    (went_on (IsFormFault tail) (AreMarks tail) (on_marks ps) count count _ xs c.in_ok-marks.ensures.marks
    (text_told ps xs count text is)))

pub returns-in_err-front-clause-memory : goal.returns-in_err-front-clause-memory
returns-in_err-front-clause-memory c =
    err_is (IsReadMemory Two c.args.input.now) c.from_residual.result c.in_err-front.field-0.0 c.from_residual.ensures.1
    c.in_err-front.ensures.memory

pub returns-in_err-pairs-clause-memory : goal.returns-in_err-pairs-clause-memory
returns-in_err-pairs-clause-memory c =
    at_front c.args.input.now c.in_ok-front.front c.from_residual-in_err-pairs.result c.in_ok-front.ensures.found

pub returns-in_err-marks-clause-memory : goal.returns-in_err-marks-clause-memory
returns-in_err-marks-clause-memory c =
    at_front c.args.input.now c.in_ok-front.front c.from_residual-in_err-marks.result c.in_ok-front.ensures.found

pub returns-in_err-groups-clause-memory : goal.returns-in_err-groups-clause-memory
returns-in_err-groups-clause-memory c =
    at_front c.args.input.now c.in_ok-front.front c.from_residual-in_err-groups.result c.in_ok-front.ensures.found

pub returns-in_err-text-clause-memory : goal.returns-in_err-text-clause-memory
returns-in_err-text-clause-memory c =
    at_front c.args.input.now c.in_ok-front.front c.from_residual-in_err-text.result c.in_ok-front.ensures.found
