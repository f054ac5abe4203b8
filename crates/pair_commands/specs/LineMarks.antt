-- A mark as a line says it, by a name that laws of other crates may use.
use Rattle.pair_commands.specs.declared.mark_lines.PairMark.{PairMark}

-- the number of a pair, and a marked span of it
abbrev pub LineMark : Type 0
LineMark = PairMark
