use Rattle.std.proofs.Common.{◌≡◌, ◌∙◌, ◌+◌, ◌≤◌, ℕ, Bor, List, length, sym, ap, subst, arith, Err, Vec}
use Rattle.std.specs.Global.{Global}
use Rattle.std.specs.Prelude.{All}
use Rattle.std.proofs.lemmas.Result.{err_from_is_err_and}
use Rattle.std.proofs.lemmas.List.{length-map}
use Rattle.std.proofs.lemmas.List.Elements.{recursion_from_All}
use Rattle.fku_types.specs.declared.fault.Fault.{Fault}
use Rattle.pair_pool.proofs.Referents.{count_referents}
use Rattle.pair_pool.specs.Solvers.{raised_by, referents}
use Rattle.section_core.specs.Parts.{FileParts}
use Rattle.strip_graph.specs.Strips.{Strip}
use Rattle.ring_polygons.specs.declared.capping.CapList.{CapList}
use Rattle.section_pairs.specs.declared.gap_pairs.GapPair.{GapPair}
use Rattle.section_pairs.specs.Pairs.{PairParts, IsShort}
use Rattle.surface_core.specs.Surfaces.{strips_in}
use Rattle.surface_core.specs.Objects.{objects_in, pair_lists, numbered, AreAllPairs}
use Rattle.surface_core.specs.Caps.{AreCapLists}
use Rattle.surface_core.proofs.ObjectLaws.{handed_over_in}
use Rattle.section_pairs.proofs.Sides.{err_told}
use Rattle.ring_caps.specs.RingSurfaces.{by_group, all_group_sizes, IsAllRingFault, IsRingFoundIn}
use Rattle.ring_caps.proofs.RingObjects.{found_in_told, groups_in_told, rings_built, short_or_found_in}
use Rattle.ring_caps.proofs.ObjectVolumes.{caps_in, views_in, volumes_in}
use Rattle.ring_caps.proofs.objects.ring_surface_all.Goals as goal

pub returns-in_err-found-clause-fault : goal.returns-in_err-found-clause-fault
returns-in_err-found-clause-fault g c =
    let F = c.args.objects.now in
    let fault = c.in_err-found.field-0.0 in
    let exit = err_from_is_err_and c.from_residual.result c.from_residual.ensures.1 in
    err_told c.from_residual.result fault (IsAllRingFault F) (exit.1 ∙ ap (λ (e : Fault). Err e) exit.2)
    (found_in_told F fault c.in_err-found.ensures.fault)

pub returns-in_err-caps-clause-fault : goal.returns-in_err-caps-clause-fault
returns-in_err-caps-clause-fault g c =
    let F = c.args.objects.now in
    let fault = c.in_err-caps.field-0.0 in
    let exit = err_from_is_err_and c.from_residual-in_err-caps.result c.from_residual-in_err-caps.ensures.1 in
    let pairs = subst (λ (lists : List (Vec GapPair Global)). AreAllPairs F (pair_lists lists))
    (sym c.deref.ensures.value) c.in_ok-found.ensures.pairs in
    err_told c.from_residual-in_err-caps.result fault (IsAllRingFault F) (exit.1 ∙ ap (λ (e : Fault). Err e) exit.2)
    (groups_in_told F (pair_lists c.deref.result.now) fault pairs c.in_err-caps.ensures.fault)

-- the strips that the solver takes are those of all pairs
strips : (found given : List (Vec GapPair Global)) (made handed : List (Bor Strip)) → given ≡ found
    → referents made ≡ strips_in (numbered (pair_lists given)) → handed ≡ made
    → referents handed ≡ strips_in (numbered (pair_lists found))
strips found given made handed same all e = ap referents e ∙ all
    ∙ ap (λ (l : List (Vec GapPair Global)). strips_in (numbered (pair_lists l))) same

-- each pair is solved at most once, for any lists of pairs
not_more : (F : FileParts) (pss : List (List PairParts)) (found given : List (Vec GapPair Global))
    (made handed : List (Bor Strip)) (old new : ℕ) → AreAllPairs F pss → AreAllPairs F (pair_lists found)
    → given ≡ found
    → referents made ≡ strips_in (numbered (pair_lists given)) → handed ≡ made → new ≤ old + length handed
    → new ≤ old + length (numbered pss)
not_more F pss found given made handed old new are pairs same all e few =
    omega (
      arith,
      few,
      handed_over_in F pss (pair_lists found) handed are pairs
          (strips found given made handed same all e),
    )

-- objects whose groups are short have no fault
no_fault : (F : FileParts) (found given : List (Vec GapPair Global)) (fault : Fault) → AreAllPairs F (pair_lists found)
    → given ≡ found → All IsShort (all_group_sizes (objects_in F) (pair_lists given)) → IsRingFoundIn F fault → ⊥
no_fault F found given fault pairs same short h =
    short_or_found_in F (pair_lists found) fault pairs
    (subst (λ (l : List (Vec GapPair Global)). All IsShort (all_group_sizes (objects_in F) (pair_lists l))) same short)
    h

pub returns-in_err-solved-clause-not_more : goal.returns-in_err-solved-clause-not_more
returns-in_err-solved-clause-not_more g c pss are =
    not_more c.args.objects.now pss c.in_ok-found.found.items c.deref-2.result.now c.in_ok-strips.strips.items
    c.deref-3.result.now _ _ are c.in_ok-found.ensures.pairs c.deref-2.ensures.value c.in_ok-strips.ensures
    c.deref-3.ensures.value c.solve_each.ensures.not_more

pub returns-in_err-built-clause-not_more : goal.returns-in_err-built-clause-not_more
returns-in_err-built-clause-not_more g c pss are =
    not_more c.args.objects.now pss c.in_ok-found.found.items c.deref-2.result.now c.in_ok-strips.strips.items
    c.deref-3.result.now _ _ are c.in_ok-found.ensures.pairs c.deref-2.ensures.value c.in_ok-strips.ensures
    c.deref-3.ensures.value c.solve_each.ensures.not_more

pub returns-clause-not_more : goal.returns-clause-not_more
returns-clause-not_more g c pss are =
    not_more c.args.objects.now pss c.in_ok-found.found.items c.deref-2.result.now c.in_ok-strips.strips.items
    c.deref-3.result.now _ _ are c.in_ok-found.ensures.pairs c.deref-2.ensures.value c.in_ok-strips.ensures
    c.deref-3.ensures.value c.solve_each.ensures.not_more

pub returns-in_err-solved-clause-unsolved : goal.returns-in_err-solved-clause-unsolved
returns-in_err-solved-clause-unsolved g c fault h =
    absurd (no_fault c.args.objects.now c.in_ok-found.found.items c.deref.result.now fault c.in_ok-found.ensures.pairs
    c.deref.ensures.value c.in_ok-caps.ensures.short h)

pub returns-in_err-built-clause-unsolved : goal.returns-in_err-built-clause-unsolved
returns-in_err-built-clause-unsolved g c fault h =
    absurd (no_fault c.args.objects.now c.in_ok-found.found.items c.deref.result.now fault c.in_ok-found.ensures.pairs
    c.deref.ensures.value c.in_ok-caps.ensures.short h)

pub returns-clause-unsolved : goal.returns-clause-unsolved
returns-clause-unsolved g c fault h =
    absurd (no_fault c.args.objects.now c.in_ok-found.found.items c.deref.result.now fault c.in_ok-found.ensures.pairs
    c.deref.ensures.value c.in_ok-caps.ensures.short h)

-- ---- the surface
pub assemble_all-requires-clause-caps : goal.assemble_all-requires-clause-caps
assemble_all-requires-clause-caps g c =
    let made = caps_in (objects_in c.args.objects.now) (pair_lists c.deref.result.now) c.in_ok-caps.caps.items
    c.in_ok-caps.ensures.caps in
    let lists = subst (λ (l : List (Vec GapPair Global)).
    AreCapLists by_group (objects_in c.args.objects.now) (pair_lists l) c.in_ok-caps.caps.items)
    (c.deref.ensures.value ∙ sym c.deref-4.ensures.value) made in
    subst (λ (each : List (Vec CapList Global)).
    AreCapLists by_group (objects_in c.args.objects.now) (pair_lists c.deref-4.result.now) each)
    (sym c.deref-6.ensures.value) lists

pub returns-clause-built : goal.returns-clause-built
returns-clause-built g c =
    let made = c.in_ok-built.ensures.built in
    let objects = objects_in c.args.objects.now in
    let found = pair_lists c.in_ok-found.found.items in
    let short = subst (λ (l : List (Vec GapPair Global)). All IsShort (all_group_sizes objects (pair_lists l)))
    c.deref.ensures.value c.in_ok-caps.ensures.short in
    record {
      each = made.each;
      built = rings_built objects found made.each made.built c.in_ok-found.ensures.pairs
          (recursion_from_All IsShort (all_group_sizes objects found) short);
      whole = made.whole;
    }

pub returns-clause-counted : goal.returns-clause-counted
returns-clause-counted g c =
    let all : List PairParts = numbered (pair_lists c.in_ok-found.found.items) in
    let made : c.in_ok-built.built.pairs ≡ length all = c.in_ok-built.ensures.pairs
    ∙ ap (λ (l : List (Vec GapPair Global)). length (numbered (pair_lists l))) c.deref-4.ensures.value in
    let taken = strips c.in_ok-found.found.items c.deref-2.result.now c.in_ok-strips.strips.items c.deref-3.result.now
    c.deref-2.ensures.value c.in_ok-strips.ensures c.deref-3.ensures.value in
    let count : length c.deref-3.result.now ≡ c.in_ok-built.built.pairs =
    count_referents c.deref-3.result.now (strips_in all) taken ∙ length-map all (λ (p : PairParts). p.strip)
    ∙ sym made in
    c.in_ok-solved.ensures.counted ∙ ap (λ (n : ℕ). raised_by n (g.P.PairSolver.solved_pairs c.args.solver.now)) count

pub returns-clause-volumes : goal.returns-clause-volumes
returns-clause-volumes g c plain k o =
    let views = views_in (objects_in c.args.objects.now) (pair_lists c.deref.result.now) c.in_ok-caps.caps.items
    c.in_ok-caps.ensures.caps in
    volumes_in c.args.objects.now c.in_ok-built.built plain o views (returns-clause-built g c) k
