use Rattle.std.proofs.Common.{◌≡◌, ℕ, ◌<◌, take, get_or, length, sum_by, All, Vec}
use Rattle.std.specs.Global.{Global}
use Rattle.plane_geom.specs.RingViews.{ring_views}
use Rattle.plane_geom.specs.declared.ring.Ring.{Ring}
use Rattle.section_pairs.specs.Rings.{rings_at, AreSectionRings}
use Rattle.section_pairs.proofs.SectionRings.{section_vertices}
use Rattle.section_pairs.proofs.rings.all_rings.Given as goal

abbrev pub invariant-loop-section : goal.invariant-loop-section
invariant-loop-section l = record {
  count : length l.rings.items ≡ l.section-index;
  first : l.first_id ≡ sum_by section_vertices (take l.section-index l.all);
  views : (s : ℕ) (d : Vec Ring Global) → s < length l.rings.items
      → ring_views (get_or l.rings.items s d).items ≡ rings_at l.sections s;
  limits : All (λ v. AreSectionRings v.items) l.rings.items;
}
