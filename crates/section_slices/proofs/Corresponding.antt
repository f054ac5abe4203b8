-- Which contours a table of the code marks.
use Rattle.std.proofs.Common.{◌≡◌, ◌↔◌, ℕ, ◌+◌, ◌<◌, Bool, true, List, length, map, sym, ap, ◌∙◌, arith, subst₂}
use Rattle.std.proofs.lemmas.List.{length-map}
use Rattle.fku_types.specs.declared.rules.PairRule.{PairRule}
use Rattle.section_core.specs.Parts.{ContourParts, SectionParts, LinkParts, Parts}
use Rattle.correspondence.specs.Outlines.{Layer, layer, layer_at, section_at, spot_point}
use Rattle.correspondence.specs.Correspondences.{Agree, Correspond}
use Rattle.correspondence.specs.Graphs.{AreRows, cell}
use Rattle.section_slices.specs.Densified.{MarksCorresponding}

-- a section has as many outlines as names
as_many : (s : SectionParts) → length (layer s).outlines ≡ length (layer s).names
as_many s = length-map s.contours (λ (c : ContourParts). map (spot_point s.z) c.points)
    ∙ sym (length-map s.contours (λ (c : ContourParts). c.name))

-- what agrees corresponds
pub corresponding : (S : Parts) (g i j : ℕ) → i < length (layer_at S g).names → j < length (layer_at S (g + 1)).names
    → Agree S.rule S.links (layer_at S g) (layer_at S (g + 1)) i j ↔ Correspond S g i j
corresponding S g i j l m = (
  λ h. record {
    below = omega (arith, l, as_many (section_at S g));
    above =
        omega (arith, m, as_many (section_at S (g + 1)));
    agree = h;
  },
  λ h. h.agree,
)

pub marks : (S : Parts) (g n m : ℕ) (rule : PairRule) (links : List LinkParts) (low high : Layer)
    (table : List (List Bool)) → layer_at S g ≡ low → layer_at S (g + 1) ≡ high → rule ≡ S.rule → links ≡ S.links
    → n ≡ length low.names → m ≡ length high.names → AreRows table n m (Agree rule links low high)
    → MarksCorresponding S g (cell table)
marks S g n m rule links low high table el eh er es en em h i j l k =
    let here = h.cells i j (omega (arith, l, en, ap (λ (x : Layer). length x.names) el))
    (omega (arith, k, em, ap (λ (x : Layer). length x.names) eh)) in
    let Same : Type 0 = (cell table i j ≡ true) ↔ Agree S.rule S.links (layer_at S g) (layer_at S (g + 1)) i j in
    let there : Same = subst₂ (λ (x y : Layer). (cell table i j ≡ true) ↔ Agree S.rule S.links x y i j) (sym el)
    (sym eh) (subst₂ (λ (r : PairRule) (ls : List LinkParts). (cell table i j ≡ true) ↔ Agree r ls low high i j) er
    es here) in
    let same = corresponding S g i j l k in
    (λ t. same.0 (there.0 t), λ t. there.1 (same.1 t))
