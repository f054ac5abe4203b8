-- How many pairs go to the solver for a surface, for any list of pairs of the sections.
use Rattle.std.proofs.Common.{◌≡◌, Bor, List, length, sym, ap, ◌∙◌}
use Rattle.std.proofs.lemmas.List.{length-map}
use Rattle.section_core.specs.Parts.{Parts}
use Rattle.strip_graph.specs.Strips.{Strip}
use Rattle.section_pairs.specs.Pairs.{PairParts}
use Rattle.section_pairs.specs.SectionFaults.{ArePairs}
use Rattle.pair_pool.specs.Solvers.{referents}
use Rattle.pair_pool.proofs.Referents.{count_referents}
use Rattle.surface_core.specs.Surfaces.{strips_in}
use Rattle.section_pairs.proofs.PairLaws.{one_pairs}

pub handed_over : (S : Parts) (ps qs : List PairParts) (strips : List (Bor Strip)) → ArePairs S ps → ArePairs S qs
    → referents strips ≡ strips_in qs → length ps ≡ length strips
handed_over S ps qs strips a b s = ap length (one_pairs S ps qs a b) ∙ sym (length-map qs (λ (p : PairParts). p.strip))
    ∙ sym (count_referents strips (strips_in qs) s)
