-- The upper names of each name, with one more link.
use Rattle.std.proofs.Common.{◌≡◌, ℕ, ◌&&◌, ◌||◌, Bool, true, false, cond, List, [], ◌∷◌, ◌++◌, Option, Some, None, Vec, refl, sym, ap, ap₂, ◌∙◌, bytes_eq}
use Rattle.std.specs.Global.{Global}
use Rattle.std.specs.List.{list_any}
use Rattle.std.proofs.lemmas.List.Folds.{list_any-append}
use Rattle.std.proofs.lemmas.Slice.Eq.{bytes_eq-Decides}
use Rattle.section_core.specs.Parts.{LinkParts}
use Rattle.correspondence.specs.Correspondences.{links_names}
use Rattle.correspondence.specs.Named.{names_above, AreNamedAbove}
use Rattle.correspondence.proofs.ContourPlaceSteps.{bytes_flip}
use Rattle.correspondence.proofs.LinkedNameSteps.{added}
use Rattle.fku_types.proofs.TruthLaws.{or_false}

abbrev Names : Type 0
Names = Option (Vec (List ℕ) Global)

-- the first value is that of another key
abbrev value_after : (List ℕ → Names) → List ℕ → Vec (List ℕ) Global → List ℕ → Names
value_after old below names q = cond (bytes_eq below q) (Some names) (cond (bytes_eq below q) None (old q))

same_value : (old : List ℕ → Names) (below : List ℕ) (names : Vec (List ℕ) Global) (q : List ℕ) (b : Bool)
    → bytes_eq below q ≡ b → value_after old below names q ≡ cond b (Some names) (old q)
same_value old below names q true e = ap (λ (b : Bool). cond b (Some names) (cond b None (old q))) e
same_value old below names q false e = ap (λ (b : Bool). cond b (Some names) (cond b None (old q))) e

pub named_more : (old new : List ℕ → Names) (l : LinkParts) (names : Vec (List ℕ) Global) (links : List LinkParts)
    → ((q : List ℕ) → new q ≡ value_after old l.below names q)
    → names.items ≡ names_above (old l.below) ++ l.above ∷ [] → AreNamedAbove (λ q. names_above (old q)) links
    → AreNamedAbove (λ q. names_above (new q)) (links ++ l ∷ [])
named_more old new l names links updates items h one other = by_case (bytes_eq l.below one) refl
  where
    goal : Type 0
    goal = list_any (bytes_eq other) (names_above (new one)) ≡ list_any (links_names one other) (links ++ l ∷ [])

    by_case : (b : Bool) → bytes_eq l.below one ≡ b → goal
    by_case true e =
        let same : one ≡ l.below = sym ((bytes_eq-Decides l.below one).0 e) in
        let now : names_above (new one) ≡ names_above (old one) ++ l.above ∷ [] =
        ap names_above (updates one ∙ same_value old l.below names one true e) ∙ items
        ∙ ap (λ (q : List ℕ). names_above (old q) ++ l.above ∷ []) (sym same) in
        let last : links_names one other l ≡ bytes_eq other l.above =
        ap (λ (b : Bool). b && bytes_eq other l.above) (bytes_flip one l.below ∙ e) in
        ap (list_any (bytes_eq other)) now ∙ list_any-append (bytes_eq other) (names_above (old one)) (l.above ∷ [])
        ∙ ap₂ (λ (a b : Bool). a || b) (h one other) (or_false (bytes_eq other l.above) ∙ sym last)
        ∙ sym (added links l one other)
    by_case false e =
        let now : names_above (new one) ≡ names_above (old one) =
        ap names_above (updates one ∙ same_value old l.below names one false e) in
        let last : links_names one other l ≡ false =
        ap (λ (b : Bool). b && bytes_eq other l.above) (bytes_flip one l.below ∙ e) in
        ap (list_any (bytes_eq other)) now ∙ h one other
        ∙ sym (added links l one other ∙ ap (λ (b : Bool). list_any (links_names one other) links || b) last
        ∙ or_false (list_any (links_names one other) links))
