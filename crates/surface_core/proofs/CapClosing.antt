-- Caps of contours close what the pairs leave open.
use Rattle.std.proofs.Common.{ℕ, List, sym, arith, subst, All}
use Rattle.section_core.specs.Parts.{Parts}
use Rattle.section_pairs.specs.Pairs.{PairParts}
use Rattle.section_pairs.specs.SectionFaults.{ArePairs}
use Rattle.section_pairs.proofs.RingIds.{Known}
use Rattle.surface_core.specs.Surfaces.{by_contour, surface_triangles}
use Rattle.surface_core.specs.Caps.{DoClose}
use Rattle.surface_core.proofs.KnownIds.{surface_known}
use Rattle.surface_core.proofs.SectionFacts.{AreFew, whole_size, all_counts, points_count, same_counts}
use Rattle.surface_core.proofs.StripSums.{AreRingViews}
use Rattle.surface_core.proofs.SurfaceSums.{stack, surface_closed, surface_length, surface_some}
use Rattle.surface_core.proofs.Totals.{folded_within}

pub contours_close : (S : Parts) (ps : List PairParts) → AreRingViews S → AreFew S → ArePairs S ps
    → DoClose by_contour S ps
contours_close S ps views few pairs xs solved =
    let h = stack S ps xs views pairs solved in
    record {
      closed = surface_closed S ps xs h;
      known = subst (λ (n : ℕ). All (Known n) (surface_triangles S ps xs)) (sym (points_count S))
          (surface_known S ps xs h);
      some = omega (arith, surface_some S ps xs h, all_counts S, few.some);
      few = omega (arith, surface_length S ps xs h, whole_size S, same_counts S.sections);
      few_folded = omega (arith, folded_within S ps xs h, same_counts S.sections);
    }
