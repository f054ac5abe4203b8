use Rattle.std.proofs.Common.{◌≡◌, true, arith, sym, ◌∙◌, get_or}
use Rattle.text_io.specs.Text.{is_digit}
use Rattle.std.proofs.lemmas.List.{get_or_default}
use Rattle.std.proofs.lemmas.List.Folds.{list_all_more}
use Rattle.std.proofs.lemmas.Bool.{and_from}
use Rattle.text_io.proofs.NumberLemmas.{digit_range}
use Rattle.section_text.proofs.PlainLines.{pow_next, value_next}
use Rattle.section_text.proofs.plain.short_digits.Goals as goal

pub loop-count-preserved : goal.loop-count-preserved
loop-count-preserved c =
    let text = c.args.text.now in
    let k = c.loop-count.count in
    let b = get_or text k 0 in
    let at : b ≡ get_or text k b = get_or_default text k 0 b c.if-count-text.true in
    let digit : is_digit b ≡ true = sym c.is_digit.ensures ∙ c.if-is_digit.true in
    record {
      there = omega (arith, c.if-count-text.true);
      few = omega (arith, c.loop-count-test.true);
      digits = list_all_more is_digit text k 0 c.if-count-text.true ∙ and_from _ _ c.loop-count.invariant.digits digit;
      value = omega (arith, value_next text k b c.if-count-text.true at, c.loop-count.invariant.value, c.from.ensures);
      small = omega (arith, c.loop-count.invariant.small, c.from.ensures, digit_range b digit, pow_next k);
    }
