-- Counts of solvers at faults.
use Rattle.std.proofs.Common.{◌≡◌, inr, cond, ℕ, ◌+◌, ◌≤◌, List, [], ◌∷◌, length, refl, arith}
use Rattle.std.proofs.lemmas.List.{length-map}
use Rattle.std.proofs.lemmas.List.Sums.{sum_by-cons}
use Rattle.strip_graph.specs.Strips.{Strip}
use Rattle.section_core.specs.Parts.{Parts}
use Rattle.section_pairs.specs.Pairs.{PairParts}
use Rattle.section_pairs.specs.SectionFaults.{ArePairs}
use Rattle.surface_core.specs.Surfaces.{strips_in}
use Rattle.section_edits.specs.Fresh.{is_fresh, fresh}
use Rattle.section_edits.specs.Sessions.{FaultCount}

-- without pairs before, all are new
all_fresh : (strips : List Strip) → fresh [] strips ≡ length strips
all_fresh [] = refl
all_fresh (p ∷ ps) =
    let more : fresh [] (p ∷ ps) ≡ 1 + fresh [] ps = sum_by-cons (λ (q : Strip). cond (is_fresh [] q) 1 0) p ps in
    omega (arith, more, all_fresh ps)

pub counted_some : (S : Parts) (before ps : List PairParts) (old new : ℕ) (Wanting : Type 0) → ArePairs S ps → old ≤ new
    → new ≤ old + fresh (strips_in before) (strips_in ps) → Wanting → FaultCount S before old new Wanting
counted_some S before ps old new Wanting pairs less more w =
    inr (w, record { pairs = ps; are_pairs = pairs; not_less = less; not_more = more })

pub counted_first : (S : Parts) (ps : List PairParts) (old new : ℕ) (Wanting : Type 0) → ArePairs S ps → old ≤ new
    → new ≤ old + length ps → Wanting → FaultCount S [] old new Wanting
counted_first S ps old new Wanting pairs less more w =
    let strip : PairParts → Strip = λ p. p.strip in
    counted_some S [] ps old new Wanting pairs less (omega (arith, more, all_fresh (strips_in ps), length-map ps strip))
    w
