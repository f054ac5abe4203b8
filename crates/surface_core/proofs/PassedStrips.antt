-- The strips of the pairs that pass a test, with one more pair.
use Rattle.std.proofs.Common.{◌≡◌, ℕ, ◌+◌, ◌<◌, Bool, true, false, cond, List, [], ◌∷◌, ◌++◌, length, take, get_or, map, filter, refl, ap, ◌∙◌}
use Rattle.std.proofs.lemmas.List.{map-append}
use Rattle.std.proofs.lemmas.List.Elements.{filter-append}
use Rattle.strip_graph.specs.Strips.{Strip}
use Rattle.section_pairs.specs.declared.gap_pairs.GapPair.{GapPair}
use Rattle.section_pairs.specs.Pairs.{PairParts, pair_parts}
use Rattle.surface_core.specs.Surfaces.{strips_in}
use Rattle.section_pairs.proofs.Firsts.{front_more}

one : (b : Bool) (p : PairParts) → strips_in (cond b (p ∷ []) []) ≡ cond b (p.strip ∷ []) []
one true p = refl
one false p = refl

pub passed_more : (test : PairParts → Bool) (ps : List GapPair) (i : ℕ) (p : GapPair) → i < length ps
    → p ≡ get_or ps i p
    → strips_in (filter test (map pair_parts (take (i + 1) ps))) ≡ strips_in (filter test (map pair_parts (take i ps)))
    ++ cond (test (pair_parts p)) (p.pair ∷ []) []
passed_more test ps i p l e =
    let before : List PairParts = map pair_parts (take i ps) in
    ap (λ (xs : List PairParts). strips_in (filter test xs)) (front_more pair_parts ps i p l e)
    ∙ ap strips_in (filter-append test before (pair_parts p ∷ []))
    ∙ map-append (λ (q : PairParts). q.strip) (filter test before) (filter test (pair_parts p ∷ []))
    ∙ ap (λ (xs : List Strip). strips_in (filter test before) ++ xs) (one (test (pair_parts p)) (pair_parts p))
