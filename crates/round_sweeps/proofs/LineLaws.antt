-- Coordinates of points, one more at a time.
use Rattle.std.proofs.Common.{◌≡◌, ℕ, ◌+◌, ◌<◌, ℤ, pos, List, [], ◌∷◌, ◌++◌, length, get_or, inl, inr, sym, ap, ◌∙◌, subst, arith}
use Rattle.std.proofs.lemmas.Bool.{cases_lt}
use Rattle.std.proofs.lemmas.List.{get_or_append_left, get_or_push}
use Rattle.fku_types.specs.declared.points.Point.{Point}
use Rattle.fku_types.specs.Points.{IsCoordinate}
use Rattle.plane_geom.specs.Rings.{IsRing}
use Rattle.strip_graph.proofs.Bounds.{around-in_range}
use Rattle.round_sweeps.specs.Planes.{ArePlanar, IsLine}

-- one more number at the end of the first values of a function
pub values_more : (f : ℕ → ℤ) (xs ys : List ℤ) (x : ℤ) (k : ℕ) → length xs ≡ k → ys ≡ xs ++ x ∷ [] → x ≡ f k
    → ((c : ℕ) (d : ℤ) → c < k → get_or xs c d ≡ f c) → (c : ℕ) (d : ℤ) → c < k + 1 → get_or ys c d ≡ f c
values_more f xs ys x k len e last all c d lt = elim (cases_lt c k) [
  | inl less ↦ ap (λ (l : List ℤ). get_or l c d) e ∙ get_or_append_left xs (x ∷ []) d c (omega (arith, len, less))
      ∙ all c d less
  | inr ge ↦ (let here : k ≡ c = omega (arith, lt, ge) in
      subst (λ (j : ℕ). get_or ys j d ≡ f j) here
      (ap (λ (l : List ℤ). get_or l k d) e ∙ get_or_push xs x d k len ∙ last))
]

-- the coordinates of points of a ring are in range
pub planar_line : (ring : List Point) (k : ℕ) (xs ys : List ℤ) → IsRing ring → ArePlanar ring k xs ys → IsLine xs ys
planar_line ring k xs ys g h = record {
  same = omega (arith, h.x_count, h.y_count);
  xs_fit = λ r lt. subst IsCoordinate (sym (h.x_are r (pos 0) (omega (arith, lt, h.x_count))))
      (around-in_range ring r g).x;
  ys_fit = λ r lt. subst IsCoordinate (sym (h.y_are r (pos 0) (omega (arith, lt, h.y_count))))
      (around-in_range ring r g).y;
}
