use Rattle.std.proofs.Common.{◌≡◌, ◌-◌, ◌<◌, ◌≤◌, ◌^◌, true, take, length}
use Rattle.std.specs.List.{list_all}
use Rattle.text_io.specs.Text.{is_digit, value_after}
use Rattle.section_text.proofs.plain.short_digits.Given as goal

abbrev pub invariant-loop-count : goal.invariant-loop-count
invariant-loop-count l = record {
  there : l.count ≤ length l.text;
  few : l.count ≤ 6;
  digits : list_all is_digit (take l.count l.text) ≡ true;
  value : l.value ≡ value_after 0 (take l.count l.text);
  small : l.value < 10 ^ l.count;
}

abbrev pub decreases-loop-count : goal.decreases-loop-count
decreases-loop-count l = 6 - l.count
