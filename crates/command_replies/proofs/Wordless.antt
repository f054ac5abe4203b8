-- Out of memory alone has no words.
use Rattle.std.proofs.Common.{◌≡◌, None, refl}
use Rattle.fku_types.specs.Fault.{fault_words}
use Rattle.fku_types.specs.declared.fault.Fault.{Fault}
use Rattle.fku_types.specs.declared.fault.Fault.TheVariants.{Form, Range, NameTwice, NotRising, Limit, EndMissing, NoContours, SelfCrossing, Crossing, Link, Composite, CertForm, Outside, OnSection, NoPair, OneObject, MarkForm, NoSpan, MarkRepeated, MarksCross, CapLimit, ByuForm, NoMemory}

pub no_words : (fault : Fault) → fault_words fault ≡ None → fault ≡ NoMemory
no_words (Form n) h = absurd (cc h)
no_words (Range n) h = absurd (cc h)
no_words (NameTwice n) h = absurd (cc h)
no_words (NotRising n) h = absurd (cc h)
no_words (Limit limit n) h = absurd (cc h)
no_words EndMissing h = absurd (cc h)
no_words NoContours h = absurd (cc h)
no_words (SelfCrossing name e f) h = absurd (cc h)
no_words (Crossing a b) h = absurd (cc h)
no_words (Link a b cause) h = absurd (cc h)
no_words (Composite section count) h = absurd (cc h)
no_words (CertForm n) h = absurd (cc h)
no_words (Outside z) h = absurd (cc h)
no_words (OnSection z) h = absurd (cc h)
no_words (NoPair k) h = absurd (cc h)
no_words (OneObject n) h = absurd (cc h)
no_words (MarkForm n) h = absurd (cc h)
no_words (NoSpan k row col) h = absurd (cc h)
no_words (MarkRepeated k row col) h = absurd (cc h)
no_words (MarksCross k row col) h = absurd (cc h)
no_words (CapLimit section count) h = absurd (cc h)
no_words (ByuForm n) h = absurd (cc h)
no_words NoMemory h = refl
