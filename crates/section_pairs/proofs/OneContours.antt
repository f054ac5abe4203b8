-- Sections of one contour each, for worked examples: no contour crosses another, and a gap whose two contours
-- correspond has one component.
use Rattle.std.proofs.Common.{◌≡◌, ℕ, ℤ, ◌+◌, ◌<◌, ◌≤◌, zero, suc, Bool, true, false, ◌||◌, ◌==◌, List, [], ◌∷◌, length, refl, ap, sym, ◌∙◌, inl, inr, arith, eqb-true}
use Rattle.std.specs.Prelude.{All, slice_index_or}
use Rattle.std.proofs.lemmas.Bool.{cases_Bool, false≢true}
use Rattle.std.proofs.lemmas.List.Elements.{All-cons, All-nil}
use Rattle.fku_types.specs.declared.limits.TheConstants.{MAX_COMPOSITE_VERTICES}
use Rattle.fku_types.specs.declared.points.Point.{Point}
use Rattle.section_core.specs.Parts.{Parts}
use Rattle.correspondence.specs.Simple.{IsSimple}
use Rattle.correspondence.specs.Outlines.{layer_at}
use Rattle.correspondence.specs.Places.{has}
use Rattle.correspondence.specs.Correspondences.{Correspond}
use Rattle.correspondence.specs.Components.{Member, Below, Above, Members, IsMember, AreConnected, Leads}
use Rattle.correspondence.specs.Gaps.{AreGapMembers}
use Rattle.section_pairs.specs.Pairs.{AreGaps, IsShort}
use Rattle.section_pairs.specs.SectionFaults.{IsSimpleContour, IsApartSection, AreSound}

pub alone : (name : List ℕ) (z : ℤ) (outline : List Point) → IsApartSection (z, (name, outline) ∷ [])
alone name z outline e f l k t = omega (arith, l, k)

pub two_sound : (name above : List ℕ) (z y : ℤ) (outline other : List Point) → IsSimple outline → IsSimple other
    → AreSound ((z, (name, outline) ∷ []) ∷ (y, (above, other) ∷ []) ∷ [])
two_sound name above z y outline other s t = record {
  simple = All-cons IsSimpleContour (name, outline) ((above, other) ∷ []) s
      (All-cons IsSimpleContour (above, other) [] t (All-nil IsSimpleContour));
  apart = All-cons IsApartSection (z, (name, outline) ∷ []) ((y, (above, other) ∷ []) ∷ []) (alone name z outline)
      (All-cons IsApartSection (y, (above, other) ∷ []) [] (alone above y other) (All-nil IsApartSection));
}

pub two_short : (n m : ℕ) → n ≤ MAX_COMPOSITE_VERTICES → m ≤ MAX_COMPOSITE_VERTICES → All IsShort ((1, n) ∷ (2, m) ∷ [])
two_short n m h k = All-cons IsShort (1, n) ((2, m) ∷ []) h (All-cons IsShort (2, m) [] k (All-nil IsShort))

abbrev pub both : Members
both = record { below = 0 ∷ []; above = 0 ∷ [] }

zero_only : (k : ℕ) → has k (0 ∷ []) ≡ true → k ≡ 0
zero_only k e = elim (cases_Bool (0 == k))
    [ inl t ↦ sym (eqb-true 0 k t) | inr f ↦ absurd (false≢true (sym (ap (λ (b : Bool). b || false) f) ∙ e)) ]

module _ (T : Parts) (g : ℕ) (one_below : length (layer_at T g).outlines ≡ 1)
    (one_above : length (layer_at T (g + 1)).outlines ≡ 1) (joined : Correspond T g 0 0) where
  is_zero : (i j : ℕ) → Correspond T g i j → (i ≡ 0) × (j ≡ 0)
  is_zero i j h = (omega (arith, h.below, one_below), omega (arith, h.above, one_above))

  -- a contour leads only to members
  led : (x y : Member) (via : List Member) → IsMember x both → Leads (Correspond T g) x via y → IsMember y both
  led x y [] m e = rw (sym e) m
  led (Below i) y (Above j ∷ via) m h = led (Above j) y via (rw (is_zero i j h.0).1 refl) h.1
  led (Above j) y (Below i ∷ via) m h = led (Below i) y via (rw (is_zero i j h.0).0 refl) h.1
  led (Below i) y (Below j ∷ via) m h = absurd h.0
  led (Above i) y (Above j ∷ via) m h = absurd h.0

  connected : (x y : Member) → IsMember x both → IsMember y both → AreConnected (Correspond T g) x y
  connected (Below i) (Below j) m n = rw (zero_only i m, zero_only j n) ([], refl)
  connected (Below i) (Above j) m n = rw (zero_only i m, zero_only j n) (Above 0 ∷ [], (joined, refl))
  connected (Above i) (Below j) m n = rw (zero_only i m, zero_only j n) (Below 0 ∷ [], (joined, refl))
  connected (Above i) (Above j) m n = rw (zero_only i m, zero_only j n) ([], refl)

  pub one_component : AreGapMembers T g (both ∷ [])
  one_component = record {
    components = (
      record {
        whole = λ x y m. ((λ n. connected x y m n), λ p. led x y p.0 m p.1);
        below_in_order = (tt, tt);
        above_in_order = (tt, tt);
        below_there = (omega (arith, one_below), tt);
        above_there = (omega (arith, one_above), tt);
        some_below = omega arith;
        some_above = omega arith;
      },
      tt,
    );
    in_order = (tt, tt);
    every = λ i j l k h. rw (is_zero i j h).0 refl;
  }

pub one_gap : (S : Parts) → length S.sections ≡ 2 → length (layer_at S 0).outlines ≡ 1
    → length (layer_at S 1).outlines ≡ 1 → Correspond S 0 0 0 → AreGaps S ((both ∷ []) ∷ [])
one_gap S two one_below one_above joined = record { count = sym two; components = at_gap }
  where
    at_gap : (g : ℕ) → g < 1 → AreGapMembers S g (slice_index_or ((both ∷ []) ∷ []) g [])
    at_gap zero l = one_component S 0 one_below one_above joined
    at_gap (suc g) l = absurd (omega (arith, l))
