use Rattle.std.proofs.Common.{arith, ◌≡◌, ◌+◌, ◌-◌, ◌++◌, ◌∷◌, [], ℕ, true, false, length, take, drop, sym, subst}
use Rattle.std.proofs.lemmas.List.{length-take-le, length-drop}
use Rattle.byu_text.proofs.LineFields.{no_line, no_feed, line_there}
use Rattle.byu_text.proofs.read_fields.line_at.Goals as goal

pub returns-then-text-at : goal.returns-then-text-at
returns-then-text-at c body more l e = no_line c.args.text.now body more c.args.at c.args.count c.if-text-at.true l e

pub returns-then-not-is_feed : goal.returns-then-not-is_feed
returns-then-not-is_feed c body more l e =
    no_feed c.args.text.now body more c.args.at c.args.count (λ f.
    absurd (
    let t : c.is_feed.result ≡ true = c.is_feed.ensures.1 f in
    let n : c.is_feed.result ≡ false = c.if-not-is_feed.true in cc)) l e

pub returns : goal.returns
returns c =
    let text = c.args.text.now in
    let at : ℕ = c.args.at in
    let count : ℕ = c.args.count in
    let k : at + count - at ≡ count = omega arith in
    subst (λ (n : ℕ). (length (take n (drop at text)) ≡ count)
    × (drop at text ≡ (take n (drop at text) ++ 10 ∷ []) ++ drop (at + (count + 1)) text)) (sym k) (
      length-take-le count (drop at text) (omega (arith, length-drop at text, c.if-text-at.false)),
      line_there text at count c.if-text-at.false (c.is_feed.ensures.0 c.if-not-is_feed.false),
    )
