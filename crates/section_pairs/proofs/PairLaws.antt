-- Sections have one list of components for each gap, and only one list of pairs.
use Rattle.std.proofs.Common.{◌≡◌, List, [], length, get_or, sym, ap, ◌∙◌, arith}
use Rattle.std.proofs.lemmas.List.{ext_get_or}
use Rattle.section_core.specs.Parts.{Parts}
use Rattle.correspondence.specs.Components.{Members}
use Rattle.correspondence.proofs.Determined.{gap_members_same}
use Rattle.section_pairs.specs.Pairs.{PairParts, AreGaps, pairs_from}
use Rattle.section_pairs.specs.SectionFaults.{ArePairs}

-- as many gaps, and the same components in each
pub one_gaps : (S : Parts) (gs hs : List (List Members)) → AreGaps S gs → AreGaps S hs → gs ≡ hs
one_gaps S gs hs a b =
    let size : length gs ≡ length hs = omega (arith, a.count, b.count) in
    ext_get_or [] gs hs size (λ g l. gap_members_same S g (get_or gs g []) (get_or hs g []) (a.components g l)
    (b.components g (omega (arith, size, l))))

pub one_pairs : (S : Parts) (ps qs : List PairParts) → ArePairs S ps → ArePairs S qs → ps ≡ qs
one_pairs S ps qs a b = a.pairs ∙ ap (pairs_from S 0) (one_gaps S a.gaps b.gaps a.are_gaps b.are_gaps) ∙ sym b.pairs
