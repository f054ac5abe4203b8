-- The first pair in a relation, and the first item that is not good, are determined.
use Rattle.std.proofs.Common.{◌≡◌, inl, inr, ℕ, List, [], ◌∷◌, ◌++◌, sym, ◌∙◌, subst}
use Rattle.std.specs.Prelude.{All}
use Rattle.std.specs.List.{AllByRecursion}
use Rattle.std.proofs.lemmas.Bool.{cases_order}
use Rattle.std.proofs.lemmas.List.Elements.{recursion_from_All}
use Rattle.fku_types.specs.declared.fault.Fault.{Fault}
use Rattle.fku_types.proofs.ListLaws.{all_amid}
use Rattle.correspondence.specs.Pairs.{NonePair, FirstPair}
use Rattle.section_pairs.specs.SectionFaults.{IsFirstFault}

-- if there is a first pair, there is a pair
pub pair_not_none : (R : ℕ → ℕ → Type 0) (n e f : ℕ) → NonePair R n → FirstPair R n e f → ⊥
pair_not_none R n e f none p = none e f p.ordered p.within p.related

-- no pair before the first one is in the relation
pub pair_one : (R : ℕ → ℕ → Type 0) (n e f g h : ℕ) → FirstPair R n e f → FirstPair R n g h → (e ≡ g) × (f ≡ h)
pair_one R n e f g h p q =
    elim (cases_order e g) [
      | inl same ↦ elim (cases_order f h) [
        | inl alike ↦ (same, alike)
        | inr (inl less) ↦ absurd (q.first e f p.ordered p.within (inr (same, less)) p.related)
        | inr (inr more) ↦ absurd (p.first g h q.ordered q.within (inr (sym same, more)) q.related)
      ]
      | inr (inl less) ↦ absurd (q.first e f p.ordered p.within (inl less) p.related)
      | inr (inr more) ↦ absurd (p.first g h q.ordered q.within (inl more) q.related)
    ]

-- no good item has a fault
abbrev pub Excludes : {X : Type 0} → (X → Type 0) → (X → Fault → Type 0) → Type 0
Excludes {X = X} Good Has = (x : X) (f : Fault) → Good x → Has x f → ⊥

-- an item has one fault
abbrev pub HasOne : {X : Type 0} → (X → Fault → Type 0) → Type 0
HasOne {X = X} Has = (x : X) (f g : Fault) → Has x f → Has x g → f ≡ g

-- if an item has a fault, not all are good
pub first_not_all : {X : Type 0} (Good : X → Type 0) (Has : X → Fault → Type 0) → Excludes Good Has
    → (xs : List X) (f : Fault) → All Good xs → IsFirstFault Good Has xs f → ⊥
first_not_all {X = X} Good Has none xs f all h =
    let P : List X → Type 0 = λ ys. AllByRecursion Good ys in
    none h.item f (all_amid Good h.before h.item h.after (subst P h.split (recursion_from_All Good xs all))) h.has

same_item : {X : Type 0} (Good : X → Type 0) (Has : X → Fault → Type 0) → Excludes Good Has
    → (bs cs : List X) (x y : X) (us vs : List X) (f g : Fault)
    → bs ++ x ∷ us ≡ cs ++ y ∷ vs → AllByRecursion Good bs → AllByRecursion Good cs → Has x f → Has y g → x ≡ y
same_item Good Has none [] [] x y us vs f g e a b h k = cc
same_item Good Has none [] (c ∷ cs) x y us vs f g e a b h k =
    absurd (none c f b.0 (let e : x ≡ c = cc in subst (λ z. Has z f) e h))
same_item Good Has none (c ∷ bs) [] x y us vs f g e a b h k =
    absurd (none c g a.0 (let e : y ≡ c = cc in subst (λ z. Has z g) e k))
same_item Good Has none (c ∷ bs) (d ∷ cs) x y us vs f g e a b h k =
    let rest : bs ++ x ∷ us ≡ cs ++ y ∷ vs = cc in
    same_item Good Has none bs cs x y us vs f g rest a.1 b.1 h k

-- the fault of the first item that is not good is determined
pub first_one : {X : Type 0} (Good : X → Type 0) (Has : X → Fault → Type 0) → Excludes Good Has → HasOne Has
    → (xs : List X) (f g : Fault) → IsFirstFault Good Has xs f → IsFirstFault Good Has xs g → f ≡ g
first_one {X = X} Good Has none one xs f g h k =
    let same = same_item Good Has none h.before k.before h.item k.item h.after k.after f g (sym h.split ∙ k.split)
    (recursion_from_All Good h.before h.good_before) (recursion_from_All Good k.before k.good_before) h.has k.has in
    let P : X → Type 0 = λ x. Has x f in
    one k.item f g (subst P same h.has) k.has
