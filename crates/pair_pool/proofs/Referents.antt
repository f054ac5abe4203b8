-- What references refer to.
use Rattle.std.proofs.Common.{◌≡◌, ℕ, ◌<◌, List, [], ◌∷◌, ◌++◌, length, get_or, sym, ap, ◌∙◌, Bor}
use Rattle.std.proofs.lemmas.List.{length-map, get_or-map, map-append}
use Rattle.strip_graph.specs.Strips.{Strip}
use Rattle.pair_pool.specs.Solvers.{referents}

pub count_referents : (each : List (Bor Strip)) (strips : List Strip) → referents each ≡ strips
    → length each ≡ length strips
count_referents each strips are = sym (length-map each (λ (p : Bor Strip). p.now)) ∙ ap length are

pub referent_at : (each : List (Bor Strip)) (i : ℕ) (b : Bor Strip) (p : Strip) → i < length each → b ≡ get_or each i b
    → get_or (referents each) i p ≡ b.now
referent_at each i b p l e = get_or-map (λ (p : Bor Strip). p.now) each i b p l ∙ ap (λ (p : Bor Strip). p.now) (sym e)

-- one more reference
pub referents_more : (each all : List (Bor Strip)) (b : Bor Strip) → all ≡ each ++ b ∷ []
    → referents all ≡ referents each ++ b.now ∷ []
referents_more each all b is = ap referents is ∙ map-append (λ (p : Bor Strip). p.now) each (b ∷ [])
