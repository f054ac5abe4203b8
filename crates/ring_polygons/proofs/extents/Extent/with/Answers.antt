use Rattle.ring_polygons.proofs.extents.Extent.with.Goals as goal

pub returns-clause-kept : goal.returns-clause-kept
returns-clause-kept c q h = record { x = c.with.ensures.kept q.x h.x; y = c.with-2.ensures.kept q.y h.y }
