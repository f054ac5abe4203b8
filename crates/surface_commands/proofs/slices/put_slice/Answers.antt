use Rattle.std.proofs.Common.{◌≡◌, ◌++◌, ◌∙◌, ℤ, length, ap₂, rules, w32, SFits}
use Rattle.std.proofs.Math.Facts.{to_z-of_z}
use Rattle.fku_types.proofs.AnswerLaws.{on_ok}
use Rattle.surface_commands.specs.Slice.{height_text, slice_text}
use Rattle.surface_commands.proofs.SliceTexts.{slice_written, loops_text}
use Rattle.surface_commands.proofs.slices.put_slice.Goals as goal

pub returns : goal.returns
returns c =
    let now = c.put_loops.new.out.items in
    let mid = c.put.new.out.items in
    let den : SFits w32 c.args.slice.now.den = search rules in
    let count : c.len.result ≡ length c.args.slice.now.loops.items = search rules in
    let bytes : c.as_bytes.result.now ≡ height_text c.args.z c.args.slice.now.den c.len.result =
    c.as_bytes.ensures.value ∙ c.in_ok-line.ensures
    ∙ ap₂ (λ (a b : ℤ). height_text a b c.len.result) (to_z-of_z c.ranges.z) (to_z-of_z den) in
    on_ok (now ≡ mid ++ loops_text c.deref.result.now)
    (now ≡ c.args.out.now.items ++ slice_text c.args.z c.args.slice.now) c.put_loops.result
    (slice_written c.args.z c.args.slice.now c.len.result c.deref.result.now c.args.out.now.items c.as_bytes.result.now
    mid now bytes count c.deref.ensures.value c.in_ok-put.ensures) c.put_loops.ensures
