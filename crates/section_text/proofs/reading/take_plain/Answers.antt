use Rattle.std.proofs.Common.{◌≡◌, true, Bool, Ok, Err, w32, to_z, of_z}
use Rattle.std.proofs.lemmas.Result.{IfOk-weaker, IfErr-weaker}
use Rattle.fku_types.specs.declared.fault.Fault.{Fault}
use Rattle.text_io.specs.Text.{words}
use Rattle.section_core.specs.Laws.{facts}
use Rattle.section_core.specs.Machine.{point, advance, parts_of}
use Rattle.section_core.specs.Steps.{after, first_broken}
use Rattle.section_core.specs.Reader.{judge, judged}
use Rattle.section_text.specs.States.{TakesItem, TakesLine, state_of}
use Rattle.section_text.proofs.PlainLines.{coordinates_held}
use Rattle.section_text.proofs.LineTakes.{said_takes}
use Rattle.section_text.proofs.reading.take_plain.Goals as goal

pub returns-in-Some-clause-takes : goal.returns-in-Some-clause-takes
returns-in-Some-clause-takes c t tallies latest line =
    let st = state_of c.args.state.now in
    let f = facts (parts_of st) in
    let x = to_z w32 (of_z w32 c.in-Some.x) in
    let y = to_z w32 (of_z w32 c.in-Some.y) in
    let it = point (x, y) in
    let plain = coordinates_held c.args.bytes.now c.in-Some.x c.in-Some.y c.in-Some.ensures.point in
    IfOk-weaker c.add_in_place.result
    (λ (b : Bool). b ≡ true → TakesItem state_of line (judged (advance latest st it) (first_broken f it))
    (Ok c.add_in_place.new.state) t (after f it))
    (λ (b : Bool). b ≡ true → TakesLine line (judge latest st (words c.args.bytes.now)) (Ok c.add_in_place.new.state) t)
    (λ b h e. said_takes line latest st (words c.args.bytes.now) it (Ok c.add_in_place.new.state) t plain.said (h e))
    (c.add_in_place.ensures.takes f t tallies latest line)

pub returns-in-Some-clause-err : goal.returns-in-Some-clause-err
returns-in-Some-clause-err c t latest line =
    let st = state_of c.args.state.now in
    let f = facts (parts_of st) in
    let x = to_z w32 (of_z w32 c.in-Some.x) in
    let y = to_z w32 (of_z w32 c.in-Some.y) in
    let it = point (x, y) in
    let plain = coordinates_held c.args.bytes.now c.in-Some.x c.in-Some.y c.in-Some.ensures.point in
    IfErr-weaker c.add_in_place.result
    (λ (e : Fault). TakesItem state_of line (judged (advance latest st it) (first_broken f it)) (Err e) t (after f it))
    (λ (e : Fault). TakesLine line (judge latest st (words c.args.bytes.now)) (Err e) t)
    (λ e h. said_takes line latest st (words c.args.bytes.now) it (Err e) t plain.said h)
    (c.add_in_place.ensures.err f t latest line)
