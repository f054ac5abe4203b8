use Rattle.std.proofs.Common.{◌≡◌, ◌∙◌, ◌<◌, ◌≤◌, ◌+◌, ℕ, ℤ, List, Vec, Bor, [], ◌∷◌, ◌++◌, length, map, flat_map, take, drop, get_or, w32, to_z, of_z, to_z-of_z, ap, sym, subst, arith}
use Rattle.std.specs.Prelude.{sum_by}
use Rattle.std.specs.Global.{Global}
use Rattle.std.specs.List.{AllZip}
use Rattle.std.proofs.lemmas.List.{length-map, length-drop, drop_all}
use Rattle.std.proofs.lemmas.List.Sums.{sum_by-append}
use Rattle.section_core.specs.declared.objects.Object.{Object}
use Rattle.strip_graph.specs.Strips.{Strip}
use Rattle.row_paths.specs.Solutions.{Solution}
use Rattle.pair_pool.specs.Solvers.{SolvesEach, referents}
use Rattle.surface_core.specs.Objects.{sections_in}
use Rattle.surface_core.proofs.ObjectSteps.{zip_at, zip_length, zip_next}
use Rattle.section_slices.specs.Slices.{AreStripsAt, IsCut, IsOnSection, loop_count}
use Rattle.section_slices.proofs.ObjectSlices.{held, lies_on_none, split_here}
use Rattle.section_slices.proofs.objects.cuts_of_each.Goals as goal

-- there are strips for each object
as_many : (z : ℤ) (items : List Object) (each : List (Vec (Bor Strip) Global))
    → AllZip (AreStripsAt z) (sections_in items) (map held each) → length items ≡ length each
as_many z items each h = sym (length-map items (λ (o : Object). o.sections))
    ∙ zip_length (AreStripsAt z) (sections_in items) (map held each) h ∙ length-map each held

pub bounds-each-place : goal.bounds-each-place
bounds-each-place c = omega (
  arith,
  c.loop-place-test.true,
  as_many c.args.z c.args.items.now c.args.each.now c.requires.strips,
)

pub split_at-requires : goal.split_at-requires
split_at-requires c =
    let v = c.index-each-place.result in
    let l : c.loop-place.place < length c.args.each.now =
    omega (arith, c.loop-place-test.true, as_many c.args.z c.args.items.now c.args.each.now c.requires.strips) in
    let here = split_here c.args.each.now c.loop-place.place v c.loop-place.rest.now l c.index-each-place.is
    c.loop-place.invariant.solved in
    omega (arith, here.enough, length-map v.items (λ (p : Bor Strip). p.now), ap length c.as_slice-strips.ensures.value)

pub cut_at-requires-clause-height : goal.cut_at-requires-clause-height
cut_at-requires-clause-height c =
    let o = c.index-items-place.result in
    subst (λ (z : ℤ). IsOnSection (get_or c.args.items.now c.loop-place.place o).sections z → ⊥)
    (sym (to_z-of_z c.ranges.z))
    (subst (λ (x : Object). IsOnSection x.sections c.args.z → ⊥) c.index-items-place.is
    (lies_on_none c.args.z c.args.items.now c.loop-place.place o c.loop-place-test.true c.index-items-place.is
    c.requires.height))

pub cut_at-requires-clause-strips : goal.cut_at-requires-clause-strips
cut_at-requires-clause-strips c =
    let o = c.index-items-place.result in
    let v = c.index-each-place.result in
    let here = zip_at (λ (x : Object). x.sections) held (AreStripsAt c.args.z) c.args.items.now c.args.each.now
    c.requires.strips c.loop-place.place o v c.loop-place-test.true c.index-items-place.is c.index-each-place.is in
    subst (λ (z : ℤ). AreStripsAt z (get_or c.args.items.now c.loop-place.place o).sections
    (referents c.as_slice-strips.result.now)) (sym (to_z-of_z c.ranges.z))
    (subst (λ (x : Object). AreStripsAt c.args.z x.sections (referents c.as_slice-strips.result.now))
    c.index-items-place.is
    (subst (λ (ps : List (Bor Strip)). AreStripsAt c.args.z o.sections (referents ps))
    (sym c.as_slice-strips.ensures.value) here))

pub cut_at-requires-clause-solved : goal.cut_at-requires-clause-solved
cut_at-requires-clause-solved c =
    let v = c.index-each-place.result in
    let rest = c.loop-place.rest.now in
    let l : c.loop-place.place < length c.args.each.now =
    omega (arith, c.loop-place-test.true, as_many c.args.z c.args.items.now c.args.each.now c.requires.strips) in
    let here = split_here c.args.each.now c.loop-place.place v rest l c.index-each-place.is
    c.loop-place.invariant.solved in
    let count : length (held v) ≡ length c.as_slice-strips.result.now = length-map v.items (λ (p : Bor Strip). p.now)
    ∙ sym (ap length c.as_slice-strips.ensures.value) in
    subst (λ (xs : List Solution). SolvesEach (referents c.as_slice-strips.result.now) xs)
    (sym c.split_at.ensures.front)
    (subst (λ (ps : List (Bor Strip)). SolvesEach (referents ps) (take (length c.as_slice-strips.result.now) rest))
    (sym c.as_slice-strips.ensures.value)
    (subst (λ (n : ℕ). SolvesEach (held v) (take n rest)) count here.front))

pub loop-place-preserved : goal.loop-place-preserved
loop-place-preserved c =
    let z = to_z w32 (of_z w32 c.args.z) in
    let i = c.loop-place.place in
    let o = c.index-items-place.result in
    let v = c.index-each-place.result in
    let rest = c.loop-place.rest.now in
    let old = c.loop-place.cuts.items in
    let new = c.push.new.self.items in
    let one = c.in_ok-cut_at.field-0 in
    let n : new ≡ old ++ one ∷ [] = c.in_ok-push.ensures.items in
    let inv = c.loop-place.invariant in
    let l : i < length c.args.each.now =
    omega (arith, c.loop-place-test.true, as_many c.args.z c.args.items.now c.args.each.now c.requires.strips) in
    let here = split_here c.args.each.now i v rest l c.index-each-place.is inv.solved in
    let count : length (held v) ≡ length c.as_slice-strips.result.now = length-map v.items (λ (p : Bor Strip). p.now)
    ∙ sym (ap length c.as_slice-strips.ensures.value) in
    let back : c.split_at.result.1.now ≡ drop (length (held v)) rest = c.split_at.ensures.back
    ∙ ap (λ (k : ℕ). drop k rest) (sym count) in
    let sum : sum_by loop_count new ≡ sum_by loop_count old + loop_count one =
    omega (arith, ap (sum_by loop_count) n, sum_by-append loop_count old (one ∷ [])) in
    record {
      cuts = zip_next (λ (x : Object). x.sections) (IsCut z) c.args.items.now i o old new one c.loop-place-test.true
          c.index-items-place.is n inv.cuts (subst (λ (x : Object). IsCut z x.sections one) (sym c.index-items-place.is)
          c.in_ok-cut_at.ensures.cut);
      solved = subst (λ (xs : List Solution). SolvesEach (flat_map held (drop (i + 1) c.args.each.now)) xs) (sym back)
          here.back;
      count = omega (
        arith,
        sum,
        c.in_ok-cut_at.ensures.count,
        count,
        inv.count,
        ap length back,
        length-drop (length (held v)) rest,
        here.enough,
      );
    }

pub returns-clause-count : goal.returns-clause-count
returns-clause-count c =
    let end : length c.args.each.now ≤ c.loop-place.place =
    omega (arith, c.loop-place-test.false, as_many c.args.z c.args.items.now c.args.each.now c.requires.strips) in
    let none : length c.loop-place.rest.now ≡ 0 = c.loop-place.invariant.solved.count
    ∙ ap (λ (vs : List (Vec (Bor Strip) Global)). length (flat_map held vs))
    (drop_all c.loop-place.place c.args.each.now end) in
    omega (arith, none, c.loop-place.invariant.count)
