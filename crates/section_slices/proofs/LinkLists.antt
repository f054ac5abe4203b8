-- The links of the gaps up to one.
use Rattle.std.proofs.Common.{◌≡◌, ℕ, ◌+◌, ◌<◌, List, [], ◌∷◌, ◌++◌, length, flat_map, get_or, refl, sym, ap, ◌∙◌, arith, append-nil, subst}
use Rattle.std.proofs.lemmas.Grind.{flat_map-append}
use Rattle.std.proofs.Math.ListN.{length-append}
use Rattle.section_core.specs.Parts.{Parts, LinkParts}
use Rattle.section_pairs.specs.Pairs.{PairParts}
use Rattle.section_pairs.proofs.SectionRings.{each_more}
use Rattle.section_slices.specs.Densified.{AreLinksOf}
use Rattle.section_slices.specs.Marks.{AreAllLinks}

-- the links are those of the first n gaps, gap by gap
pub record AreFrontLinks (S : Parts) (pairs : List PairParts) (n : ℕ) (links : List LinkParts) : Type 0 where
  pub gaps : List (List LinkParts)
  pub count : length gaps ≡ n
  pub each : (g : ℕ) (d : List LinkParts) → g < length gaps → AreLinksOf S pairs g (get_or gaps g d)
  pub all : links ≡ flat_map (λ (ls : List LinkParts). ls) gaps

pub no_gap : (S : Parts) (pairs : List PairParts) → AreFrontLinks S pairs 0 []
no_gap S pairs = record { gaps = []; count = refl; each = λ g d l. absurd (omega arith); all = refl }

pub one_gap : (S : Parts) (pairs : List PairParts) (n m : ℕ) (old more new : List LinkParts)
    → AreFrontLinks S pairs n old → AreLinksOf S pairs n more → new ≡ old ++ more → m ≡ n + 1
    → AreFrontLinks S pairs m new
one_gap S pairs n m old more new h k e em = record {
  gaps = h.gaps ++ more ∷ [];
  count = omega (arith, length-append h.gaps (more ∷ []), h.count, em);
  each = each_more (AreLinksOf S pairs) h.gaps more h.each
      (subst (λ (g : ℕ). AreLinksOf S pairs g more) (sym h.count) k);
  all = e ∙ ap (λ (ls : List LinkParts). ls ++ more) h.all
      ∙ sym (flat_map-append (λ (ls : List LinkParts). ls) h.gaps (more ∷ [])
      ∙ ap (λ (ls : List LinkParts). flat_map (λ (l : List LinkParts). l) h.gaps ++ ls) (append-nil more));
}

pub all_gaps : (S : Parts) (pairs : List PairParts) (n : ℕ) (links : List LinkParts) → n + 1 ≡ length S.sections
    → AreFrontLinks S pairs n links → AreAllLinks S pairs links
all_gaps S pairs n links e h = record {
  gaps = h.gaps;
  are = record { count = omega (arith, e, h.count); each = λ g l. h.each g [] l };
  all = h.all;
}
