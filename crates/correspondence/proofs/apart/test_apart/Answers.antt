use Rattle.std.proofs.Common.{◌≡◌, ◌∙◌, ◌<◌, ℕ, List, [], map, length, get_or, subst, sym, arith}
use Rattle.std.proofs.lemmas.Grind.{common_steps}
use Rattle.std.proofs.lemmas.List.{length-map}
use Rattle.section_core.specs.declared.parts.Contour.{Contour}
use Rattle.correspondence.specs.Contours.{points_of}
use Rattle.correspondence.specs.Apart.{ContoursTouch, AreCrossing}
use Rattle.correspondence.specs.Pairs.{FirstPair}
use Rattle.correspondence.proofs.apart.test_apart.Goals as goal

name_at : (cs : List Contour) (i : ℕ) (d : Contour) → i < length cs
    → (get_or cs i d).name ≡ get_or (map (λ (c : Contour). c.name) cs) i []
name_at cs i d l = grind (arith, common_steps)

-- the fault names the contours at the two places
crossing_of : (cs : List Contour) (i j : ℕ) (d e : Contour) (one other : List ℕ)
    → FirstPair (ContoursTouch (map points_of cs)) (length cs) i j → one ≡ (get_or cs i d).name
    → other ≡ (get_or cs j e).name
    → AreCrossing (map (λ (c : Contour). c.name) cs) (map points_of cs) one other
crossing_of cs i j d e one other p first second = record {
  i = i;
  j = j;
  pair = subst (λ (n : ℕ). FirstPair (ContoursTouch (map points_of cs)) n i j) (sym (length-map cs points_of)) p;
  first = first ∙ name_at cs i d (omega (arith, p.ordered, p.within));
  second = second ∙ name_at cs j e p.within;
}

pub returns-in-None : goal.returns-in-None
returns-in-None c = rw c.as_slice-contours.ensures.value at c.in-None.ensures

pub returns-in-Some : goal.returns-in-Some
returns-in-Some c =
    rw c.as_slice-contours.ensures.value at (crossing_of c.as_slice-contours.result.now c.in-Some.pair.first
    c.in-Some.pair.second c.index-contours-pair.result c.index-contours-pair-in-Some.result c.copy.result
    c.copy-in-Some.result c.in-Some.ensures
    c.copy.ensures c.copy-in-Some.ensures)
