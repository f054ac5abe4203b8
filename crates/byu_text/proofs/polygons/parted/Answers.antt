use Rattle.std.proofs.Common.{arith, ◌≡◌, ◌≤◌, ◌<◌, ◌+◌, ℕ, List, [], ◌∷◌, ◌++◌, length, drop, take, get_or, sym, ap, ap₂, ◌∙◌, append_assoc, subst}
use Rattle.std.specs.Prelude.{sum}
use Rattle.std.proofs.lemmas.List.{map_push, drop_more, length-drop}
use Rattle.std.proofs.lemmas.List.Sums.{sum_by-cons}
use Rattle.triangle_meshes.specs.Meshes.{triangle_lists}
use Rattle.triangle_meshes.proofs.Parts.{Part}
use Rattle.byu_text.specs.Stages.{parts_in}
use Rattle.byu_text.proofs.polygons.parted.Goals as goal

step : (old new : List Part) (part : Part) (sizes : List ℕ) (i : ℕ) (rest later : List (List ℕ))
    (whole : List (List (List ℕ))) → i < length sizes → new ≡ old ++ part ∷ []
    → part.items ≡ take (get_or sizes i 0) rest → later ≡ drop (get_or sizes i 0) rest →
    triangle_lists old ++ parts_in (drop i sizes) rest ≡ whole
    → triangle_lists new ++ parts_in (drop (i + 1) sizes) later ≡ whole
step old new part sizes i rest later whole l n p r e =
    let size : ℕ = get_or sizes i 0 in
    let behind : List (List (List ℕ)) = parts_in (drop (i + 1) sizes) (drop size rest) in
    ap₂ (λ (x : List Part) (y : List (List ℕ)). triangle_lists x ++ parts_in (drop (i + 1) sizes) y) n r
    ∙ ap (λ (x : List (List (List ℕ))). x ++ behind)
    (map_push (λ (x : Part). x.items) old part ∙ ap (λ (x : List (List ℕ)). triangle_lists old ++ x ∷ []) p)
    ∙ append_assoc (triangle_lists old) (take size rest ∷ []) behind
    ∙ ap (λ (ns : List ℕ). triangle_lists old ++ parts_in ns rest) (sym (drop_more sizes i 0 l)) ∙ e

enough : (sizes : List ℕ) (i : ℕ) (rest : List (List ℕ)) → i < length sizes → sum (drop i sizes) ≤ length rest
    → sum (drop (i + 1) sizes) ≤ length (drop (get_or sizes i 0) rest)
enough sizes i rest l s = omega (
  arith,
  s,
  length-drop (get_or sizes i 0) rest,
  ap sum (drop_more sizes i 0 l),
  sum_by-cons (λ (x : ℕ). x) (get_or sizes i 0) (drop (i + 1) sizes),
)

pub loop-size-preserved : goal.loop-size-preserved
loop-size-preserved c =
    let sizes = c.args.sizes.now in
    let i : ℕ = c.loop-size.size-index in
    let inv = c.loop-size.invariant in
    let rest = c.loop-size.rest.now in
    let part = c.in_ok-from_slice.field-0 in
    let whole = parts_in sizes c.args.triangles.now in
    record {
      parts = step c.loop-size.parts.items c.push.new.self.items part sizes i rest c.split_at.result.1.now whole
          c.loop-size-test.true c.in_ok-push.ensures.items (c.in_ok-from_slice.ensures.items ∙ c.split_at.ensures.front)
          c.split_at.ensures.back inv.parts;
      enough = subst (λ (l : List (List ℕ)). sum (drop (i + 1) sizes) ≤ length l) (sym c.split_at.ensures.back)
          (enough sizes i rest c.loop-size-test.true inv.enough);
    }
