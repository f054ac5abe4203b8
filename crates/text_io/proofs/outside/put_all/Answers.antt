use Rattle.std.proofs.Common.{◌≡◌, ◌+◌, ◌≤◌, ◌++◌, length, take, drop, sym, ap, subst, ◌∙◌, arith, length-drop}
use Rattle.std.specs.Io.KnownBytes.{Appends}
use Rattle.std.proofs.lemmas.List.{drop-drop}
use Rattle.text_io.proofs.OutsideLemmas.{Appends-more, take_both}
use Rattle.text_io.proofs.outside.put_all.Goals as goal

pub loop-rest-preserved : goal.loop-rest-preserved
loop-rest-preserved g c =
    let bytes = c.args.bytes.now in
    let done = c.loop-rest.invariant.done in
    let wrote = c.in-Bytes.ensures.bytes in
    let n = done.0 in
    let m = c.in-Bytes.n in
    let rest-is : c.loop-rest.rest.now ≡ drop n bytes = done.2 in
    let short : m ≤ length (drop n bytes) = subst (λ r. m ≤ length r) rest-is wrote.1 in
    record {
      later = omega (arith, c.loop-rest.invariant.later, c.write.ensures.later);
      done = (
        n + m,
        omega (arith, length-drop n bytes),
        c.split_at.ensures.back ∙ ap (drop m) rest-is ∙ drop-drop m n bytes,
        subst (Appends (g.K.Sink.held c.args.sink.now) (g.K.Sink.held c.write.new.self))
            (ap (λ r. take n bytes ++ take m r) rest-is ∙ sym (take_both n m bytes))
            (Appends-more _ _ _ _ _ done.3 wrote.2),
      );
    }
