-- Which test decides the rule for two edges.
use Rattle.std.proofs.Common.{◌≡◌, ℕ, suc, ◌+◌, ◌<◌, ◌≤◌, List, length, slice_index_or, Bool, false, IsTrue, ◌↔◌, add-one, arith, ap, subst, sym, refl, ◌∙◌}
use Rattle.fku_types.specs.declared.points.Point.{Point}
use Rattle.plane_geom.specs.Rings.{around, origin}
use Rattle.plane_geom.specs.Segments.{SharePoint, ShareMore}
use Rattle.plane_geom.proofs.Insides.{around-below}
use Rattle.correspondence.specs.Simple.{Closes, EdgesMeet, AgainstRule}
use Rattle.correspondence.specs.Apart.{SegmentTouches, Touch}
use Rattle.correspondence.specs.Simple.AgainstRule.{following, closing, distant}

-- the test of more common points, at equal points
more_at : (r : Bool) (a b d a' b' d' : Point) → a ≡ a' → b ≡ b' → d ≡ d' → IsTrue r ↔ ShareMore a b d
    → IsTrue r ↔ ShareMore a' b' d'
more_at r a b d a' b' d' e f g t =
    let A : Point → Type 0 = λ z. IsTrue r ↔ ShareMore z b d in
    let B : Point → Type 0 = λ z. IsTrue r ↔ ShareMore a' z d in
    let D : Point → Type 0 = λ z. IsTrue r ↔ ShareMore a' b' z in
    subst D g (subst B f (subst A e t))

share_at : (r : Bool) (a b c d a' b' c' d' : Point) → a ≡ a' → b ≡ b' → c ≡ c' → d ≡ d' → IsTrue r ↔ SharePoint a b c d
    → IsTrue r ↔ SharePoint a' b' c' d'
share_at r a b c d a' b' c' d' e f g h t =
    let A : Point → Type 0 = λ z. IsTrue r ↔ SharePoint z b c d in
    let B : Point → Type 0 = λ z. IsTrue r ↔ SharePoint a' z c d in
    let C : Point → Type 0 = λ z. IsTrue r ↔ SharePoint a' b' z d in
    let D : Point → Type 0 = λ z. IsTrue r ↔ SharePoint a' b' c' z in
    subst D h (subst C g (subst B f (subst A e t)))

-- an edge's begin and end, as they are read
pub begin_at : (ring : List Point) (k : ℕ) → k < length ring → slice_index_or ring k origin ≡ around ring k
begin_at ring k h = sym (around-below ring k h)

pub end_at : (ring : List Point) (k : ℕ) (end : Point) → end ≡ around ring (k + 1) → end ≡ around ring (suc k)
end_at ring k end h = h ∙ ap (around ring) (add-one k)

only_following : (ring : List Point) (e f : ℕ) → 3 ≤ length ring → f ≡ suc e → AgainstRule ring e f
    → ShareMore (around ring e) (around ring f) (around ring (suc f))
only_following ring e f enough next (following _ s) = s
only_following ring e f enough next (closing c _) = absurd (omega (arith, c.0, c.1))
only_following ring e f enough next (distant n _ _) = absurd (n next)

pub following_decides : (ring : List Point) (e f : ℕ) (r : Bool) (end : Point) → 3 ≤ length ring → e < f
    → f < length ring → f ≡ e + 1 → end ≡ around ring (f + 1)
    → IsTrue r ↔ ShareMore (slice_index_or ring e origin) (slice_index_or ring f origin) end
    → IsTrue r ↔ AgainstRule ring e f
following_decides ring e f r end enough ordered within next h t =
    let w : IsTrue r ↔ ShareMore (around ring e) (around ring f) (around ring (suc f)) =
    more_at r _ _ _ (around ring e) (around ring f) (around ring (suc f)) (begin_at ring e (omega arith))
    (begin_at ring f within) (end_at ring f end h) t in
    (λ p. following (omega arith) (w.0 p), λ a. w.1 (only_following ring e f enough (omega arith) a))

only_closing : (ring : List Point) (e f : ℕ) → 3 ≤ length ring → e ≡ 0 → suc f ≡ length ring → AgainstRule ring e f
    → ShareMore (around ring f) (around ring 0) (around ring 1)
only_closing ring e f enough zero_e last (following n _) = absurd (omega arith)
only_closing ring e f enough zero_e last (closing _ s) = s
only_closing ring e f enough zero_e last (distant _ n _) = absurd (n (zero_e, last))

pub closing_decides : (ring : List Point) (e f : ℕ) (r : Bool) (end : Point) → 3 ≤ length ring → f < length ring → e ≡ 0
    → f + 1 ≡ length ring → end ≡ around ring (0 + 1)
    → IsTrue r ↔ ShareMore (slice_index_or ring f origin) (slice_index_or ring 0 origin) end
    → IsTrue r ↔ AgainstRule ring e f
closing_decides ring e f r end enough within zero_e last h t =
    let w : IsTrue r ↔ ShareMore (around ring f) (around ring 0) (around ring 1) =
    more_at r _ _ _ (around ring f) (around ring 0) (around ring 1) (begin_at ring f within)
    (begin_at ring 0 (omega arith)) (end_at ring 0 end h) t in
    (λ p. closing (zero_e, omega arith) (w.0 p), λ a. w.1 (only_closing ring e f enough zero_e (omega arith) a))

only_distant : (ring : List Point) (e f : ℕ) → (f ≡ suc e → ⊥) → (Closes ring e f → ⊥) → AgainstRule ring e f
    → EdgesMeet ring e ring f
only_distant ring e f n m (following k _) = absurd (n k)
only_distant ring e f n m (closing k _) = absurd (m k)
only_distant ring e f n m (distant _ _ s) = s

pub distant_decides : (ring : List Point) (e f : ℕ) (r : Bool) (end end' : Point) → e < f → f < length ring
    → (f ≡ suc e → ⊥) → (Closes ring e f → ⊥)
    → end ≡ around ring (e + 1) → end' ≡ around ring (f + 1)
    → IsTrue r ↔ SharePoint (slice_index_or ring e origin) end (slice_index_or ring f origin) end'
    → IsTrue r ↔ AgainstRule ring e f
distant_decides ring e f r end end' ordered within n m h k t =
    let w : IsTrue r ↔ EdgesMeet ring e ring f =
    share_at r _ _ _ _ (around ring e) (around ring (suc e)) (around ring f) (around ring (suc f))
    (begin_at ring e (omega arith)) (end_at ring e end h) (begin_at ring f within) (end_at ring f end' k) t in
    (λ p. distant n m (w.0 p), λ a. w.1 (only_distant ring e f n m a))

-- the test of a segment and an edge, as it is read
pub segment_decides : (a b : Point) (ring : List Point) (f : ℕ) (r : Bool) (end : Point) → f < length ring
    → end ≡ around ring (f + 1)
    → IsTrue r ↔ SharePoint a b (slice_index_or ring f origin) end
    → IsTrue r ↔ SharePoint a b (around ring f) (around ring (suc f))
segment_decides a b ring f r end within h t =
    share_at r a b _ _ a b (around ring f) (around ring (suc f)) refl refl (begin_at ring f within)
    (end_at ring f end h) t

-- an edge of one ring that touches another ring, as it is read
pub edge_touches : (one other : List Point) (e : ℕ) (end : Point) → e < length one → end ≡ around one (e + 1)
    → SegmentTouches (slice_index_or one e origin) end other → Touch one other
edge_touches one other e end within h t =
    let begin = subst (λ (z : Point). SegmentTouches z end other) (begin_at one e within) t in
    record {
      e = e;
      within = within;
      edge =
          subst (λ (z : Point). SegmentTouches (around one e) z other) (end_at one e end h) begin;
    }

-- edges of two rings that meet, one of them as it is read
pub edges_meet : (one other : List Point) (e f : ℕ) (end : Point) → e < length one → end ≡ around one (e + 1)
    → EdgesMeet one e other f → SharePoint (slice_index_or one e origin) end (around other f) (around other (suc f))
edges_meet one other e f end within h s =
    let begin = subst (λ (z : Point). SharePoint z (around one (suc e)) (around other f) (around other (suc f)))
    (sym (begin_at one e within)) s in
    subst (λ (z : Point). SharePoint (slice_index_or one e origin) z (around other f) (around other (suc f)))
    (sym (end_at one e end h)) begin

pub untrue : (b : Bool) → b ≡ false → IsTrue b → ⊥
untrue b e f = cc
