use Rattle.std.proofs.Common.{ℕ, ◌+◌, ◌<◌, ◌≤◌, List, length, map, take, drop, sym, ap, ◌∙◌, arith, subst, All, Vec}
use Rattle.std.specs.Global.{Global}
use Rattle.std.proofs.lemmas.List.{length-map, take_all}
use Rattle.plane_geom.specs.Rings.{IsClosed}
use Rattle.row_paths.specs.Solutions.{Solution}
use Rattle.section_core.specs.Parts.{Parts}
use Rattle.section_core.specs.declared.objects.Object.{Object}
use Rattle.ring_polygons.specs.declared.capping.CapList.{CapList}
use Rattle.triangle_meshes.specs.Meshes.{Surface, surface_of, IsValid}
use Rattle.pair_pool.specs.Solvers.{SolvesEach}
use Rattle.section_pairs.specs.declared.gap_pairs.GapPair.{GapPair}
use Rattle.surface_core.specs.declared.surfaces.Built.{Built}
use Rattle.section_pairs.specs.Pairs.{pair_parts}
use Rattle.surface_core.specs.Surfaces.{strips_in, IsBuiltWith}
use Rattle.surface_core.specs.Objects.{sections_in, pair_lists, numbered, IsBounded}
use Rattle.surface_core.specs.Caps.{AreCaps}
use Rattle.surface_core.proofs.ObjectSteps.{zip_next, pairs_at, as_many, parted, lists_count, lists_at, all_push, counts_more}
use Rattle.surface_core.proofs.objects.assemble_each.Goals as goal

pub bounds-lists-place : goal.bounds-lists-place
bounds-lists-place g c = omega (
  arith,
  c.loop-place-test.true,
  as_many c.args.items.now c.args.lists.now c.requires.pairs,
)

pub split_at-requires : goal.split_at-requires
split_at-requires g c =
    let here = parted c.args.items.now c.args.lists.now c.loop-place.place c.index-lists-place.result
    c.loop-place.rest.now c.requires.pairs c.loop-place-test.true c.index-lists-place.is
    c.loop-place.invariant.solved in
    omega (arith, here.enough, ap length c.as_slice-pairs.ensures.value)

pub assemble_capped-requires-clause-pairs : goal.assemble_capped-requires-clause-pairs
assemble_capped-requires-clause-pairs g c =
    pairs_at c.args.items.now c.args.lists.now c.requires.pairs c.loop-place.place c.index-items-place.result
    c.index-lists-place.result c.as_slice-pairs.result.now c.loop-place-test.true c.index-items-place.is
    c.index-lists-place.is c.as_slice-pairs.ensures.value

pub assemble_capped-requires-clause-solved : goal.assemble_capped-requires-clause-solved
assemble_capped-requires-clause-solved g c =
    let here = parted c.args.items.now c.args.lists.now c.loop-place.place c.index-lists-place.result
    c.loop-place.rest.now c.requires.pairs c.loop-place-test.true c.index-lists-place.is
    c.loop-place.invariant.solved in
    subst (λ (xs : List Solution). SolvesEach (strips_in (map pair_parts c.as_slice-pairs.result.now)) xs)
    (sym c.split_at.ensures.front)
    (subst (λ (ps : List GapPair). SolvesEach (strips_in (map pair_parts ps)) (take (length ps) c.loop-place.rest.now))
    (sym c.as_slice-pairs.ensures.value) here.here)

pub loop-place-preserved : goal.loop-place-preserved
loop-place-preserved g c =
    let items = c.args.items.now in
    let lists = c.args.lists.now in
    let i = c.loop-place.place in
    let o = c.index-items-place.result in
    let v = c.index-lists-place.result in
    let old = c.loop-place.each.items in
    let new = c.push.new.self.items in
    let b = c.in_ok-assemble_capped.field-0 in
    let n = c.in_ok-push.ensures.items in
    let made = c.in_ok-assemble_capped.ensures in
    let inv = c.loop-place.invariant in
    let here = parted items lists i v c.loop-place.rest.now c.requires.pairs c.loop-place-test.true
    c.index-lists-place.is inv.solved in
    let l : i < length lists = omega (arith, c.loop-place-test.true, as_many items lists c.requires.pairs) in
    let own : Object → Parts = λ x. x.sections in
    let mesh : Built → Surface = λ x. surface_of x.mesh in
    record {
      built = zip_next own (IsBuiltWith g.C.CapRule.capping) items i o old new b c.loop-place-test.true
          c.index-items-place.is n inv.built
          (subst (λ (x : Object). IsBuiltWith g.C.CapRule.capping x.sections b) (sym c.index-items-place.is)
          made.built);
      bounded = zip_next own IsBounded items i o old new b c.loop-place-test.true c.index-items-place.is n inv.bounded
          (subst (λ (x : Object). IsBounded x.sections b) (sym c.index-items-place.is) made.bounded);
      valid = all_push mesh IsValid old new b n inv.valid made.valid;
      closed = all_push mesh (λ s. All IsClosed s.parts) old new b n inv.closed made.closed;
      pairs = counts_more lists i v old new b l c.index-lists-place.is n
          (made.pairs ∙ ap length c.as_slice-pairs.ensures.value) inv.pairs;
      solved = subst (λ (xs : List Solution). SolvesEach (strips_in (numbered (pair_lists (drop (i + 1) lists)))) xs)
          (sym (c.split_at.ensures.back ∙ ap (λ (k : ℕ). drop k c.loop-place.rest.now)
          (ap length c.as_slice-pairs.ensures.value))) here.others;
    }

pub returns-clause-pairs : goal.returns-clause-pairs
returns-clause-pairs g c =
    let lists = c.args.lists.now in
    let end : length lists ≤ c.loop-place.place =
    omega (arith, c.loop-place-test.false, as_many c.args.items.now lists c.requires.pairs) in
    c.loop-place.invariant.pairs ∙ ap (λ (vs : List (Vec GapPair Global)). map length (pair_lists vs))
    (take_all c.loop-place.place lists end)

pub bounds-caps-place : goal.bounds-caps-place
bounds-caps-place g c =
    omega (
      arith,
      c.loop-place-test.true,
      lists_count (AreCaps g.C.CapRule.capping) (sections_in c.args.items.now) (pair_lists c.args.lists.now)
          c.args.caps.now c.requires.caps,
      length-map c.args.items.now (λ (o : Object). o.sections),
    )

pub assemble_capped-requires-clause-caps : goal.assemble_capped-requires-clause-caps
assemble_capped-requires-clause-caps g c =
    let o = c.index-items-place.result in
    let w = c.index-caps-place.result in
    let held = lists_at (AreCaps g.C.CapRule.capping) c.args.items.now c.args.lists.now c.args.caps.now c.requires.caps
    c.loop-place.place o c.index-lists-place.result w c.loop-place-test.true c.index-items-place.is
    c.index-lists-place.is c.index-caps-place.is in
    subst (λ (x : Object). AreCaps g.C.CapRule.capping x.sections (map pair_parts c.as_slice-pairs.result.now)
    c.deref.result.now) c.index-items-place.is
    (subst (λ (ds : List CapList). AreCaps g.C.CapRule.capping o.sections (map pair_parts c.as_slice-pairs.result.now)
    ds) (sym c.deref.ensures.value)
    (subst (λ (ps : List GapPair). AreCaps g.C.CapRule.capping o.sections (map pair_parts ps) w.items)
    (sym c.as_slice-pairs.ensures.value) held))
