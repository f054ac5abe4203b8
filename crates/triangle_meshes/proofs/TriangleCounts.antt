-- Counts of directed edges, with one more triangle.
use Rattle.std.proofs.Common.{◌≡◌, ℕ, ◌+◌, ◌<◌, List, [], ◌∷◌, ◌++◌, length, take, get_or, refl, sym, ap, ap₂, ◌∙◌, arith}
use Rattle.std.proofs.lemmas.List.{take_more}
use Rattle.plane_geom.specs.Rings.{edge_count}
use Rattle.plane_geom.proofs.Sums.{total-append}
use Rattle.plane_geom.proofs.Counts.{one_edge, count_total}

-- a list of three is its first three
pub three_is : (t : List ℕ) → length t ≡ 3 → get_or t 0 0 ∷ get_or t 1 0 ∷ get_or t 2 0 ∷ [] ≡ t
three_is [] h = absurd (omega (arith, h))
three_is (a ∷ []) h = absurd (omega (arith, h))
three_is (a ∷ b ∷ []) h = absurd (omega (arith, h))
three_is (a ∷ b ∷ c ∷ []) h = refl
three_is (a ∷ b ∷ c ∷ e ∷ t) h = absurd (omega (arith, h))

count_append : (ts us : List (List ℕ)) (u v : ℕ) → edge_count (ts ++ us) u v ≡ edge_count ts u v + edge_count us u v
count_append ts us u v = count_total (ts ++ us) u v ∙ total-append (one_edge u v) ts us
    ∙ sym (ap₂ (λ (m n : ℕ). m + n) (count_total ts u v) (count_total us u v))

-- the triangle at a place
abbrev pub triangle_at : List (List ℕ) → ℕ → List ℕ
triangle_at ts i = let t = get_or ts i [] in get_or t 0 0 ∷ get_or t 1 0 ∷ get_or t 2 0 ∷ []

pub count_more : (ts : List (List ℕ)) (i u v : ℕ) → i < length ts → length (get_or ts i []) ≡ 3
    → edge_count (take (i + 1) ts) u v ≡ edge_count (take i ts) u v + edge_count (triangle_at ts i ∷ []) u v
count_more ts i u v l h =
    let t : List ℕ = get_or ts i [] in
    ap (λ (l : List (List ℕ)). edge_count l u v)
    (take_more ts i [] l ∙ ap (λ (x : List ℕ). take i ts ++ x ∷ []) (sym (three_is t h)))
    ∙ count_append (take i ts) (triangle_at ts i ∷ []) u v
