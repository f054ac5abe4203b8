use Rattle.std.proofs.Common.{◌≡◌, ◌<◌, ◌%◌, ℕ, ℤ, List, ◌∷◌, length, get_or, sym, ap₂, ◌∙◌, subst, All}
use Rattle.std.proofs.Math.Nat.{mod-eq_of_lt}
use Rattle.std.proofs.lemmas.List.Elements.{All-nil, All-head, All-rest}
use Rattle.fku_types.specs.declared.points.Point.{Point}
use Rattle.fku_types.proofs.ListLaws.{all_pushed}
use Rattle.plane_geom.specs.Rings.{around, origin}
use Rattle.plane_geom.specs.Segments.{scaled}
use Rattle.strip_graph.specs.declared.slices.Cut.{Cut}
use Rattle.strip_graph.specs.declared.spans.SpanStep.{SpanStep}
use Rattle.strip_graph.specs.Slices.{IsOver, span_cut}
use Rattle.strip_graph.specs.Spans.{IsOf, spans}
use Rattle.strip_graph.specs.Strips.{Strip, rows, cols}
use Rattle.strip_graph.proofs.Around.{around-mod}
use Rattle.strip_graph.proofs.SpanLaws.{map-start, map-next}
use Rattle.strip_graph.proofs.slices.slice_points.Goals as goal

abbrev between : ℕ → ℕ → Point → Point → Cut
between d t p q = record { x = scaled d t p.x q.x; y = scaled d t p.y q.y }

cut-round : (s : Strip) (d t i j : ℕ) → span_cut s d t (i % rows s) (j % cols s) ≡ span_cut s d t i j
cut-round s d t i j = ap₂ (between d t) (around-mod s.low i) (around-mod s.high j)

read : (ring points : List Point) (i : ℕ) → points ≡ ring → i < length ring → get_or points i origin ≡ around ring i
unfolding around
read ring points i e l = ap₂ (λ (ps : List Point) (k : ℕ). get_or ps k origin) e (sym (mod-eq_of_lt l))

cut-is : (d t : ℕ) (c : Cut) (p q p' q' : Point) → c.x ≡ scaled d t p.x q.x → c.y ≡ scaled d t p.y q.y → p ≡ p' → q ≡ q'
    → c ≡ between d t p' q'
cut-is d t c p q p' q' x y e f =
    let make : ℤ → ℤ → Cut = λ x y. record { x = x; y = y } in
    ap₂ make x y ∙ ap₂ (between d t) e f

pub loop-span-init : goal.loop-span-init
loop-span-init c =
    let s = c.args.pair.now in
    let d = c.args.den in
    let t = c.args.part in
    let left = c.into_iter-span-iterator.result in
    let is = c.into_iter-span-iterator.ensures.into_iter_gives in
    let passed = c.spans-span-items.ensures in
    record {
      can = tt;
      finite = tt;
      points = map-start (rows s) (cols s) (λ (x : SpanStep). span_cut s d t x.row x.col) c.in_ok-points.points.items
          left (spans c.args.tiling.now.row 0 c.args.tiling.now.word.items) (λ x. cut-round s d t x.row x.col)
          c.in_ok-points.ensures.items (is ∙ passed.spans);
      range = subst (All (IsOver d)) (sym c.in_ok-points.ensures.items) (All-nil (IsOver d));
      spans = subst (All (IsOf (rows s) (cols s))) (sym is) passed.range;
    }

pub loop-span-preserved : goal.loop-span-preserved
loop-span-preserved c =
    let s = c.args.pair.now in
    let d = c.args.den in
    let t = c.args.part in
    let inv = c.loop-span.invariant in
    let span = c.in-Some.span in
    let rest = c.next.new.self in
    let step : c.loop-span.span-iterator ≡ span ∷ rest = c.in-Some.ensures.steps in
    let made = c.push.new.self.items in
    let more = c.in_ok-push.ensures.items in
    let here : IsOf (rows s) (cols s) span =
    All-head (IsOf (rows s) (cols s)) span rest (subst (All (IsOf (rows s) (cols s))) step inv.spans) in
    let p = read s.low c.as_slice-low.result.now span.row (c.as_slice-low.ensures.value ∙ c.low.ensures.points) here.row
    in
    let q = read s.high c.as_slice-high.result.now span.col (c.as_slice-high.ensures.value ∙ c.high.ensures.points)
    here.col in
    let is : c.cut_at.result ≡ span_cut s d t span.row span.col =
    cut-is d t c.cut_at.result _ _ _ _ c.cut_at.ensures.x c.cut_at.ensures.y p q in
    record {
      can = tt;
      finite = tt;
      points = map-next (λ (x : SpanStep). span_cut s d t x.row x.col) c.loop-span.points.items made _
          c.loop-span.span-iterator rest span c.cut_at.result more is step inv.points;
      range = all_pushed (IsOver d) c.loop-span.points.items made c.cut_at.result more inv.range c.cut_at.ensures.range;
      spans = All-rest (IsOf (rows s) (cols s)) span rest c.loop-span.span-iterator step inv.spans;
    }
