use Rattle.std.proofs.Common.{arith, inl, inr, refl}
use Rattle.std.proofs.lemmas.Bool.{cases_lt}
use Rattle.ring_polygons.proofs.ears.hindrance.Goals as goal

pub returns-in-None-clause-free : goal.returns-in-None-clause-free
returns-in-None-clause-free c none k b = elim (cases_lt k c.if-from-points.begin) [
  | inl l ↦ c.hindrance_between-in-None.ensures.free none k (omega arith) l
  | inr g ↦ c.in-None.ensures.free refl k g b
]
