use Rattle.std.proofs.Common.{◌≡◌, ◌++◌, ◌∷◌, [], ◌+◌, ◌≤◌, ◌<◌, ℕ, List, Vec, length, get_or, ap, ◌∙◌, sym, subst, arith}
use Rattle.std.specs.Global.{Global}
use Rattle.std.specs.Prelude.{All}
use Rattle.std.proofs.lemmas.List.{length-append}
use Rattle.std.proofs.lemmas.List.Elements.{All-append}
use Rattle.fku_types.specs.declared.limits.TheConstants.{MAX_VERTICES}
use Rattle.plane_geom.specs.RingViews.{ring_views}
use Rattle.plane_geom.specs.declared.ring.Ring.{Ring}
use Rattle.section_pairs.specs.Rings.{rings_at, AreSectionRings}
use Rattle.section_pairs.proofs.Firsts.{all_one}
use Rattle.section_pairs.proofs.SectionRings.{section_vertices, few_ids, ids_more, kept_outlines, limits_kept, rings_are, each_more}
use Rattle.section_pairs.proofs.rings.all_rings.Goals as goal

pub oriented-requires-clause-ids : goal.oriented-requires-clause-ids
oriented-requires-clause-ids c =
    let s = c.section-item.result in
    subst (λ (n : ℕ). n + section_vertices s ≤ MAX_VERTICES) (sym c.loop-section.invariant.first)
    (few_ids c.sections-all.result.now c.loop-section.section-index s c.sections-all.ensures.kept
    c.loop-section-test.true c.section-item.is)

pub overflow_add-first_id : goal.overflow_add-first_id
overflow_add-first_id c =
    let s = c.section-item.result in
    let size : c.count_vertices.result ≡ section_vertices s = c.count_vertices.ensures in
    omega (
      arith,
      size,
      c.loop-section.invariant.first,
      few_ids c.sections-all.result.now c.loop-section.section-index s c.sections-all.ensures.kept
          c.loop-section-test.true c.section-item.is,
    )

pub loop-section-preserved : goal.loop-section-preserved
loop-section-preserved c =
    let S = c.args.sections.now in
    let all = c.sections-all.result.now in
    let i = c.loop-section.section-index in
    let s = c.section-item.result in
    let inv = c.loop-section.invariant in
    let old = c.loop-section.rings.items in
    let new = c.push.new.self.items in
    let rings = c.in_ok-oriented.field-0 in
    let more : new ≡ old ++ rings ∷ [] = c.in_ok-push.ensures.items in
    let count : length new ≡ i + 1 = omega (arith, ap length more, length-append old (rings ∷ []), inv.count) in
    let size : c.count_vertices.result ≡ section_vertices s = c.count_vertices.ensures in
    let ids = ids_more all i s c.loop-section-test.true c.section-item.is in
    let here : ring_views rings.items ≡ rings_at S i =
    rings_are all S i c.loop-section.first_id s rings.items c.sections-all.ensures.«data» c.loop-section-test.true
    c.section-item.is inv.first c.in_ok-oriented.ensures.rings in
    let kept = limits_kept c.loop-section.first_id s rings.items
    (kept_outlines all i s c.sections-all.ensures.kept c.loop-section-test.true c.section-item.is)
    c.in_ok-oriented.ensures.rings c.in_ok-oriented.ensures.contours in
    let limits : Vec Ring Global → Type 0 = λ v. AreSectionRings v.items in
    record {
      count = count;
      first = omega (arith, size, inv.first, ids);
      views = subst (λ (vs : List (Vec Ring Global)). (k : ℕ) (d : Vec Ring Global) → k < length vs
          → ring_views (get_or vs k d).items ≡ rings_at S k) (sym more)
          (each_more (λ (k : ℕ) (v : Vec Ring Global). ring_views v.items ≡ rings_at S k) old rings inv.views
          (here ∙ ap (rings_at S) (sym inv.count)));
      limits = subst (λ (vs : List (Vec Ring Global)). All limits vs) (sym more)
          (All-append limits old (rings ∷ []) inv.limits (all_one limits rings kept));
    }
