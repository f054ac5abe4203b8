-- The rule cuts a ring into only one list of triangles.
use Rattle.std.proofs.Common.{◌≡◌, ℕ, ℤ, inl, inr, List, ◌∷◌, remove, refl, ap, sym, subst, arith, ◌∙◌}
use Rattle.std.proofs.lemmas.Bool.{cases_order}
use Rattle.fku_types.specs.declared.points.Point.{Point}
use Rattle.ring_polygons.specs.declared.twins.Twins.{Twins}
use Rattle.ring_polygons.specs.Caps.{corner}
use Rattle.ring_polygons.specs.Ears.{IsCutNext, IsCutBy}
use Rattle.ring_polygons.specs.Ears.IsCutNext.{first_ear, no_ear}
use Rattle.ring_polygons.specs.Ears.IsCutBy.{last, next}

-- the place that is cut next is unique
one_next : (twins : Twins) (sign : ℤ) (ring : List Point) (t u : ℕ) → IsCutNext twins sign ring t
    → IsCutNext twins sign ring u → t ≡ u
one_next twins sign ring _ _ (first_ear t e before) (first_ear u f earlier) =
    elim (cases_order t u) [
      | inl s ↦ s
      | inr c ↦ elim c [ inl lt ↦ absurd (earlier t lt e) | inr gt ↦ absurd (before u gt f) ]
    ]
one_next twins sign ring _ _ (first_ear t e before) (no_ear none) = absurd (none t e)
one_next twins sign ring _ _ (no_ear none) (first_ear u f earlier) = absurd (none u f)
one_next twins sign ring _ _ (no_ear none) (no_ear other) = refl

pub one_cut : (twins : Twins) (sign : ℤ) (ring : List Point) (ids : List ℕ) (one other : List (List ℕ))
    → IsCutBy twins sign ring ids one → IsCutBy twins sign ring ids other → one ≡ other
one_cut twins sign _ _ _ _ (last ring ids n) (last _ _ m) = refl
one_cut twins sign _ _ _ _ (last ring ids n) (next _ _ t more m c h) = absurd (omega (arith, n, m))
one_cut twins sign _ _ _ _ (next ring ids t more n c h) (last _ _ m) = absurd (omega (arith, n, m))
one_cut twins sign _ _ _ _ (next ring ids t more n c h) (next _ _ u others m d k) =
    let same : u ≡ t = one_next twins sign ring u t d c in
    let rest : more ≡ others = one_cut twins sign (remove ring t) (remove ids t) more others h
    (subst (λ (v : ℕ). IsCutBy twins sign (remove ring v) (remove ids v) others) same k) in
    ap (λ (ts : List (List ℕ)). corner 0 ids t ∷ ts) rest ∙ ap (λ (v : ℕ). corner 0 ids v ∷ others) (sym same)
