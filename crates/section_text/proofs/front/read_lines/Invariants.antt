use Rattle.std.proofs.Common.{◌≡◌, ◌+◌, ◌-◌, ◌≤◌, length, drop}
use Rattle.text_io.specs.Text.{lines, kept_from, kept_lines}
use Rattle.section_core.specs.Machine.{at_version, parts_of}
use Rattle.section_core.specs.Laws.{facts}
use Rattle.section_core.specs.Reader.{read_file}
use Rattle.section_core.specs.Tallies.{Tallies}
use Rattle.section_text.specs.States.{state_of}
use Rattle.section_text.specs.States.{IsFlatState}
use Rattle.section_text.specs.Fronts.{after_lines}
use Rattle.section_text.proofs.FrontLemmas.{Passed}
use Rattle.section_text.proofs.front.read_lines.Given as goal

abbrev pub invariant-loop-span : goal.invariant-loop-span
invariant-loop-span l = record {
  within : l.at ≤ length l.bytes;
  counted : l.count ≤ l.at;
  behind : drop l.at l.bytes ≡ after_lines l.count l.bytes;
  passed : Passed l.latest (kept_lines l.bytes) (kept_from (l.count + 1) (lines (drop l.at l.bytes)))
      (state_of l.state);
  flat : IsFlatState l.state;
  tallied : Tallies l.tally (facts (parts_of (state_of l.state)));
  same : read_file l.latest (state_of l.state) (kept_from (l.count + 1) (lines (drop l.at l.bytes)))
      ≡ read_file l.latest at_version (kept_lines l.bytes);
}

abbrev pub decreases-loop-span : goal.decreases-loop-span
decreases-loop-span l = length l.bytes - l.at
