use Rattle.std.proofs.Common.{◌≡◌, ◌∙◌, ◌+◌, ◌≤◌, ℕ, Bor, List, length, map, ap, sym, subst, arith, Err}
use Rattle.std.specs.Prelude.{All}
use Rattle.std.proofs.lemmas.Result.{err_from_is_err_and}
use Rattle.fku_types.specs.declared.fault.Fault.{Fault}
use Rattle.section_core.specs.Parts.{Parts}
use Rattle.strip_graph.specs.Strips.{Strip}
use Rattle.section_pairs.specs.declared.gap_pairs.GapPair.{GapPair}
use Rattle.section_pairs.specs.Pairs.{PairParts, pair_parts, IsShort}
use Rattle.section_pairs.specs.SectionFaults.{ArePairs}
use Rattle.pair_pool.specs.Solvers.{referents}
use Rattle.surface_core.specs.Surfaces.{strips_in}
use Rattle.surface_core.proofs.PairSolves.{handed_over}
use Rattle.surface_core.proofs.SectionFacts.{are_views}
use Rattle.section_pairs.proofs.Sides.{err_told}
use Rattle.ring_caps.specs.RingSurfaces.{group_sizes, IsRingFault, IsRingFound}
use Rattle.ring_caps.proofs.RingFaults.{found_told, groups_told}
use Rattle.ring_caps.proofs.RingLaws.{ring_built, short_or_found}
use Rattle.ring_caps.proofs.RingVolumes.{built_volumes}
use Rattle.ring_caps.proofs.surfaces.ring_surface.Goals as goal

pub returns-in_err-found-clause-fault : goal.returns-in_err-found-clause-fault
returns-in_err-found-clause-fault g c =
    let fault = c.in_err-found.field-0.0 in
    let exit = err_from_is_err_and c.from_residual.result c.from_residual.ensures.1 in
    err_told c.from_residual.result fault (IsRingFault c.args.sections.now) (exit.1 ∙ ap (λ (e : Fault). Err e) exit.2)
    (found_told c.args.sections.now fault c.in_err-found.ensures.fault)

pub returns-in_err-caps-clause-fault : goal.returns-in_err-caps-clause-fault
returns-in_err-caps-clause-fault g c =
    let S = c.args.sections.now in
    let fault = c.in_err-caps.field-0.0 in
    let exit = err_from_is_err_and c.from_residual-in_err-caps.result c.from_residual-in_err-caps.ensures.1 in
    let ps = map pair_parts c.deref.result.now in
    let pairs = subst (λ (l : List GapPair). ArePairs S (map pair_parts l)) (sym c.deref.ensures.value)
    c.in_ok-found.ensures.pairs in
    err_told c.from_residual-in_err-caps.result fault (IsRingFault S) (exit.1 ∙ ap (λ (e : Fault). Err e) exit.2)
    (groups_told S ps fault pairs c.in_err-caps.ensures.fault)

-- each pair is solved at most once, for any list of pairs
not_more : (S : Parts) (ps : List PairParts) (found given : List GapPair) (made handed : List (Bor Strip)) (old new : ℕ)
    → ArePairs S ps → ArePairs S (map pair_parts found) → given ≡ found
    → referents made ≡ strips_in (map pair_parts given) → handed ≡ made → new ≤ old + length handed
    → new ≤ old + length ps
not_more S ps found given made handed old new are pairs same strips e few =
    let all = ap referents e ∙ strips ∙ ap (λ (l : List GapPair). strips_in (map pair_parts l)) same in
    omega (arith, few, handed_over S ps (map pair_parts found) handed are pairs all)

-- sections whose groups are short have no fault
no_fault : (S : Parts) (found given : List GapPair) (fault : Fault) → ArePairs S (map pair_parts found) → given ≡ found
    → All IsShort (group_sizes S (map pair_parts given)) → IsRingFound S fault → ⊥
no_fault S found given fault pairs same short h =
    short_or_found S (map pair_parts found) fault pairs
    (subst (λ (l : List GapPair). All IsShort (group_sizes S (map pair_parts l))) same short) h

pub returns-in_err-solved-clause-not_more : goal.returns-in_err-solved-clause-not_more
returns-in_err-solved-clause-not_more g c ps are =
    not_more c.args.sections.now ps c.in_ok-found.found.items c.deref-2.result.now c.in_ok-strips.strips.items
    c.deref-3.result.now _ _ are c.in_ok-found.ensures.pairs c.deref-2.ensures.value c.in_ok-strips.ensures
    c.deref-3.ensures.value c.solve_each.ensures.not_more

pub returns-in_err-built-clause-not_more : goal.returns-in_err-built-clause-not_more
returns-in_err-built-clause-not_more g c ps are =
    not_more c.args.sections.now ps c.in_ok-found.found.items c.deref-2.result.now c.in_ok-strips.strips.items
    c.deref-3.result.now _ _ are c.in_ok-found.ensures.pairs c.deref-2.ensures.value c.in_ok-strips.ensures
    c.deref-3.ensures.value c.solve_each.ensures.not_more

pub returns-clause-not_more : goal.returns-clause-not_more
returns-clause-not_more g c ps are =
    not_more c.args.sections.now ps c.in_ok-found.found.items c.deref-2.result.now c.in_ok-strips.strips.items
    c.deref-3.result.now _ _ are c.in_ok-found.ensures.pairs c.deref-2.ensures.value c.in_ok-strips.ensures
    c.deref-3.ensures.value c.solve_each.ensures.not_more

pub returns-in_err-solved-clause-unsolved : goal.returns-in_err-solved-clause-unsolved
returns-in_err-solved-clause-unsolved g c fault h =
    absurd (no_fault c.args.sections.now c.in_ok-found.found.items c.deref.result.now fault c.in_ok-found.ensures.pairs
    c.deref.ensures.value c.in_ok-caps.ensures.short h)

pub returns-in_err-built-clause-unsolved : goal.returns-in_err-built-clause-unsolved
returns-in_err-built-clause-unsolved g c fault h =
    absurd (no_fault c.args.sections.now c.in_ok-found.found.items c.deref.result.now fault c.in_ok-found.ensures.pairs
    c.deref.ensures.value c.in_ok-caps.ensures.short h)

pub returns-clause-unsolved : goal.returns-clause-unsolved
returns-clause-unsolved g c fault h =
    absurd (no_fault c.args.sections.now c.in_ok-found.found.items c.deref.result.now fault c.in_ok-found.ensures.pairs
    c.deref.ensures.value c.in_ok-caps.ensures.short h)

-- ---- the surface
pub returns-clause-built : goal.returns-clause-built
returns-clause-built g c =
    let S = c.args.sections.now in
    let short = subst (λ (l : List GapPair). All IsShort (group_sizes S (map pair_parts l))) c.deref.ensures.value
    c.in_ok-caps.ensures.short in
    ring_built S (map pair_parts c.in_ok-found.found.items) c.in_ok-built.built c.in_ok-built.ensures.built
    c.in_ok-found.ensures.pairs short

pub returns-clause-volumes : goal.returns-clause-volumes
returns-clause-volumes g c plain k o =
    let S = c.args.sections.now in
    let caps = c.in_ok-caps.ensures.caps in
    built_volumes S c.in_ok-built.built plain o (are_views S caps.rings caps.are_rings) c.in_ok-built.ensures.built k
