-- How many pairs go to the solver for a slice: those of the one gap.
use Rattle.std.proofs.Common.{◌≡◌, ℕ, Bor, List, length, sym, ap, ◌∙◌}
use Rattle.std.proofs.lemmas.List.{length-map}
use Rattle.strip_graph.specs.Strips.{Strip}
use Rattle.section_pairs.specs.Pairs.{PairParts}
use Rattle.pair_pool.specs.Solvers.{referents}
use Rattle.pair_pool.proofs.Referents.{count_referents}
use Rattle.surface_core.specs.Surfaces.{strips_in}
use Rattle.section_slices.specs.Slices.{pairs_in_gap}

pub handed_over : (g h : ℕ) (ps : List PairParts) (strips : List (Bor Strip)) → g ≡ h
    → referents strips ≡ strips_in (pairs_in_gap h ps) → length (pairs_in_gap g ps) ≡ length strips
handed_over g h ps strips e s =
    ap (λ (k : ℕ). length (pairs_in_gap k ps)) e ∙ sym (length-map (pairs_in_gap h ps) (λ (p : PairParts). p.strip))
    ∙ sym (count_referents strips (strips_in (pairs_in_gap h ps)) s)
