-- The costs of the places of a region from one place, by the steps that lead to them.
use Rattle.std.proofs.Common.{◌≡◌, ℕ, ◌+◌, ◌-◌, ◌*◌, ◌<◌, ◌≤◌, min, refl, ap, ap₂, sym, subst, subst₂, ◌∙◌, arith, ◌⊎◌, inl, inr}
use Rattle.strip_graph.specs.declared.tilings.Step.TheVariants.{V, H}
use Rattle.strip_graph.specs.Words.{Arcs}
use Rattle.strip_graph.specs.Regions.{IsRegional}
use Rattle.strip_graph.proofs.Regional.{regional_end}
use Rattle.strip_graph.proofs.RegionalEnds.{regional_last_v, regional_last_h, regional_last_both}
use Rattle.row_paths.specs.Searches.{IsPlaceCost}

regional_is : (a : Arcs) (lo hi : ℕ → ℕ) (i j r r' c c' x x' : ℕ) → r ≡ r' → c ≡ c' → x ≡ x'
    → IsRegional a lo hi i j r c x → IsRegional a lo hi i j r' c' x'
regional_is a lo hi i j r r' c c' x x' e f g p =
    subst (IsRegional a lo hi i j r' c') g (subst₂ (λ (k l : ℕ). IsRegional a lo hi i j k l x) e f p)

pub reach_start : (b : ℕ) (a : Arcs) (lo hi : ℕ → ℕ) (i j : ℕ) → IsPlaceCost b a lo hi i j i j 0
reach_start b a lo hi i j = record {
  regional = regional_is a lo hi i j 0 (i - i) 0 (j - j) 0 0 (omega arith) (omega arith) refl
      (regional_end a lo hi i j);
  small = omega arith;
}

pub reach_down : (b : ℕ) (a : Arcs) (lo hi : ℕ → ℕ) (i j x c u v : ℕ) → i ≤ x → j ≤ c → (c ≡ j) ⊎ (c ≤ lo (x + 1))
    → v ≡ a x c V → v ≤ b → IsPlaceCost b a lo hi x c i j u → IsPlaceCost b a lo hi (x + 1) c i j (u + v)
reach_down b a lo hi i j x c u v le le' shut is small p = record {
  regional = regional_is a lo hi i j (x - i + 1) (x + 1 - i) (c - j) (c - j) (u + a (i + (x - i)) (j + (c - j)) V)
      (u + v) (omega arith) refl
      (ap (λ (k : ℕ). u + k) (ap₂ (λ (k l : ℕ). a k l V) e f ∙ sym is))
      (regional_last_v a lo hi i j (x - i) (c - j) u p.regional (by shut));
  small = omega (arith, p.small, small, ap (λ (k : ℕ). (k + (c - j)) * b) g);
}
  where
    e : i + (x - i) ≡ x
    e = omega arith

    f : j + (c - j) ≡ c
    f = omega arith

    g : x + 1 - i ≡ x - i + 1
    g = omega arith

    by : (c ≡ j) ⊎ (c ≤ lo (x + 1)) → (c - j ≡ 0) ⊎ (j + (c - j) ≤ lo (i + (x - i + 1)))
    by (inl d) = inl (omega arith)
    by (inr d) = let h : i + (x - i + 1) ≡ x + 1 = omega arith in inr (omega (arith, d, ap lo h))

pub reach_right : (b : ℕ) (a : Arcs) (lo hi : ℕ → ℕ) (i j x c u v : ℕ) → i ≤ x → j ≤ c
    → ((k : ℕ) → x ≡ k + 1 → i < x → hi k ≤ c) → v ≡ a x c H → v ≤ b → IsPlaceCost b a lo hi x c i j u
    → IsPlaceCost b a lo hi x (c + 1) i j (u + v)
reach_right b a lo hi i j x c u v le le' shut is small p = record {
  regional = regional_is a lo hi i j (x - i) (x - i) (c - j + 1) (c + 1 - j) (u + a (i + (x - i)) (j + (c - j)) H)
      (u + v) refl (omega arith)
      (ap (λ (k : ℕ). u + k) (ap₂ (λ (k l : ℕ). a k l H) e f ∙ sym is))
      (regional_last_h a lo hi i j (x - i) (c - j) u p.regional
      (λ k d. omega (arith, shut (i + k) (omega arith) (omega arith))));
  small = omega (arith, p.small, small, ap (λ (k : ℕ). (x - i + k) * b) g);
}
  where
    e : i + (x - i) ≡ x
    e = omega arith

    f : j + (c - j) ≡ c
    f = omega arith

    g : c + 1 - j ≡ c - j + 1
    g = omega arith

pub reach_both : (b : ℕ) (a : Arcs) (lo hi : ℕ → ℕ) (i j x c u v y z : ℕ) → i ≤ x → j ≤ c → y ≡ a x (c + 1) V → y ≤ b
    → z ≡ a (x + 1) c H → z ≤ b → IsPlaceCost b a lo hi x (c + 1) i j u → IsPlaceCost b a lo hi (x + 1) c i j v
    → IsPlaceCost b a lo hi (x + 1) (c + 1) i j (min (u + y) (v + z))
reach_both b a lo hi i j x c u v y z le le' is small is' small' p q = record {
  regional = regional_is a lo hi i j (x - i + 1) (x + 1 - i) (c - j + 1) (c + 1 - j)
      (min (u + a (i + (x - i)) (j + (c - j + 1)) V) (v + a (i + (x - i + 1)) (j + (c - j)) H)) (min (u + y) (v + z))
      (sym g) (sym h)
      (ap₂ (λ (k l : ℕ). min (u + k) (v + l)) (ap₂ (λ (k l : ℕ). a k l V) e f' ∙ sym is)
      (ap₂ (λ (k l : ℕ). a k l H) e' f ∙ sym is'))
      (regional_last_both a lo hi i j (x - i) (c - j) u v
      (regional_is a lo hi i j (x - i) (x - i) (c + 1 - j) (c - j + 1) u u refl h refl p.regional)
      (regional_is a lo hi i j (x + 1 - i) (x - i + 1) (c - j) (c - j) v v g refl refl q.regional));
  small = omega (arith, q.small, small', ap (λ (k : ℕ). (x + 1 - i + k) * b) h);
}
  where
    e : i + (x - i) ≡ x
    e = omega arith

    e' : i + (x - i + 1) ≡ x + 1
    e' = omega arith

    f : j + (c - j) ≡ c
    f = omega arith

    f' : j + (c - j + 1) ≡ c + 1
    f' = omega arith

    g : x + 1 - i ≡ x - i + 1
    g = omega arith

    h : c + 1 - j ≡ c - j + 1
    h = omega arith
