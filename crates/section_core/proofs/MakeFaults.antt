-- Parts have one fault, or none where they are accepted.
use Rattle.std.proofs.Common.{◌≡◌, ℕ, ◌<◌, ◌⊎◌, inl, inr, append-nil, List, [], ◌∷◌, ◌++◌, map, length, Result, Ok, Err, refl, ap, sym, ◌∙◌, subst, arith}
use Rattle.std.specs.Prelude.{IfOk, IfErr}
use Rattle.std.proofs.lemmas.List.{length-map}
use Rattle.fku_types.specs.declared.rules.PairRule.{PairRule}
use Rattle.fku_types.specs.declared.rules.PairRule.TheVariants.{Overlap, Links}
use Rattle.fku_types.specs.declared.fault.Fault.{Fault}
use Rattle.fku_types.specs.declared.fault.Fault.TheVariants.{NoMemory, Form, NoContours}
use Rattle.section_core.specs.declared.parts.Section.{Section}
use Rattle.section_core.specs.declared.parts.Link.{Link}
use Rattle.section_core.specs.Parts.{CostParts, Parts, IsLinked, contours_of}
use Rattle.section_core.specs.Laws.{Facts, Law, law_order, KeepsAll}
use Rattle.section_core.specs.Reading.{broken, fault_at}
use Rattle.section_core.specs.Machine.{Item}
use Rattle.section_core.specs.Steps.{after, first_broken}
use Rattle.section_core.specs.Views.{section_parts, link_parts}
use Rattle.section_core.specs.Flat.{AreFlat}
use Rattle.section_core.specs.Accepted.{IsAccepted}
use Rattle.section_core.specs.Finished.{ended_parts}
use Rattle.section_core.specs.Made.{Piece, whole, askew, pieces_of, nothing, facts_after, PieceBreaks, HasPieceFault, ArePiecesLawful, IsMakeFault, Refuses, Accepts, walk, walked}
use Rattle.section_core.proofs.FactsBefore.{lawful-before}
use Rattle.section_core.proofs.Verdicts.{verdict}
use Rattle.section_core.proofs.FirstBreach.{verdict_none, verdict_some}
use Rattle.section_core.proofs.PieceWalks.{nothing_keeps}
use Rattle.section_core.proofs.Pieces.{accepted_pieces}

-- pieces that break no law are walked to their end
walk-whole : (f : Facts) (items : List Item) (rest : List Piece) → KeepsAll law_order f
    → KeepsAll law_order (facts_after f items) → walk f (map whole items ++ rest) ≡ walk (facts_after f items) rest
walk-whole f [] rest k e = refl
walk-whole f (item ∷ items) rest k e =
    let here = lawful-before (after f item) items e in
    let none = verdict_none (after f item) (first_broken f item) (verdict f item k) here in
    ap (λ o. walked o (walk (after f item) (map whole items ++ rest))) none
    ∙ walk-whole (after f item) items rest here e

walk-breaks : (f : Facts) (piece : Piece) (rest : List Piece) (law : Law) → KeepsAll law_order f
    → PieceBreaks f piece law → walk f (piece ∷ rest) ≡ Err law
walk-breaks f askew rest law k b = ap (λ (l : Law). Err l) (sym b)
walk-breaks f (whole item) rest law k b =
    ap (λ o. walked o (walk (after f item) rest))
    (verdict_some (after f item) (first_broken f item) law (verdict f item k) b)

pub walk-fault : (ps : List Piece) (law : Law) → HasPieceFault ps law → walk nothing ps ≡ Err law
walk-fault ps law h =
    ap (walk nothing) h.split ∙ walk-whole nothing h.before (h.piece ∷ h.rest) nothing_keeps h.lawful_before
    ∙ walk-breaks (facts_after nothing h.before) h.piece h.rest law h.lawful_before h.breaks

walk-lawful : (ps : List Piece) → ArePiecesLawful ps → (g : Facts) × (walk nothing ps ≡ Ok g)
walk-lawful ps h =
    let all : map whole h.items ++ [] ≡ map whole h.items = append-nil (map whole h.items) in (
      facts_after nothing h.items,
      ap (walk nothing) (h.split ∙ sym all)
          ∙ walk-whole nothing h.items [] nothing_keeps h.lawful,
    )

err_is : (a b : Law) (r : Result Facts Law) → r ≡ Err a → r ≡ Err b → a ≡ b
err_is a b r e f = cc

apart : (g : Facts) (a : Law) (r : Result Facts Law) → r ≡ Ok g → r ≡ Err a → ⊥
apart g a r e f = cc

law_once : (ps : List Piece) (a b : Law) → HasPieceFault ps a → HasPieceFault ps b → a ≡ b
law_once ps a b h k = err_is a b (walk nothing ps) (walk-fault ps a h) (walk-fault ps b k)

never_both : (ps : List Piece) (law : Law) → HasPieceFault ps law → ArePiecesLawful ps → ⊥
never_both ps law h k = let g = walk-lawful ps k in apart g.0 law (walk nothing ps) g.1 (walk-fault ps law h)

-- the causes of a fault of parts
abbrev pub PieceCause : CostParts → List Section → List Link → Fault → Type 0
PieceCause cost ss ls fault = (law : Law) × HasPieceFault (pieces_of cost ss ls) law × (fault ≡ fault_at (broken law) 0)

abbrev pub FormCause : CostParts → PairRule → List Section → List Link → Fault → Type 0
FormCause cost rule ss ls fault = (fault ≡ Form 0) × (rule ≡ Overlap) × (0 < length ls)
    × ArePiecesLawful (pieces_of cost ss ls)

abbrev pub NoneCause : CostParts → PairRule → List Section → List Link → Fault → Type 0
NoneCause cost rule ss ls fault = (fault ≡ NoContours) × (contours_of (map section_parts ss) ≡ [])
    × (rule ≡ Overlap → ls ≡ []) × ArePiecesLawful (pieces_of cost ss ls)

abbrev pub Cause : CostParts → PairRule → List Section → List Link → Fault → Type 0
Cause cost rule ss ls fault = (fault ≡ NoMemory)
    ⊎ (PieceCause cost ss ls fault ⊎ (FormCause cost rule ss ls fault ⊎ NoneCause cost rule ss ls fault))

pub cause : (cost : CostParts) (rule : PairRule) (ss : List Section) (ls : List Link) (fault : Fault)
    → IsMakeFault cost rule ss ls fault → Cause cost rule ss ls fault
cause cost rule ss ls NoMemory h = inl refl
cause cost rule ss ls (Form n) h = inr (inr (inl (ap (λ (k : ℕ). Form k) h.0, h.1, h.2, h.3)))
cause cost rule ss ls NoContours h = inr (inr (inr (refl, h.0, h.1, h.2)))
cause cost rule ss ls fault h = inr (inl h)

refuses_same : (a : Fault) → Refuses {T = Parts} a (Err a)
refuses_same NoMemory = tt
refuses_same a = refl

refuses_memory : (a : Fault) → Refuses {T = Parts} a (Err NoMemory)
refuses_memory NoMemory = tt
refuses_memory a = tt

pub not_empty : (ls : List Link) → 0 < length ls → ls ≡ [] → ⊥
not_empty ls h e = omega (arith, h, ap length e)

-- two faults of the same parts are equal
same_cause : (cost : CostParts) (rule : PairRule) (ss : List Section) (ls : List Link) (a b : Fault)
    → Cause cost rule ss ls a → Cause cost rule ss ls b → (a ≡ NoMemory) ⊎ ((b ≡ NoMemory) ⊎ (a ≡ b))
same_cause cost rule ss ls a b (inl e) k = inl e
same_cause cost rule ss ls a b h (inl e) = inr (inl e)
same_cause cost rule ss ls a b (inr (inl h)) (inr (inl k)) =
    inr (inr (h.2 ∙ ap (λ (l : Law). fault_at (broken l) 0) (law_once (pieces_of cost ss ls) h.0 k.0 h.1 k.1)
    ∙ sym k.2))
same_cause cost rule ss ls a b (inr (inl h)) (inr (inr (inl k))) =
    absurd (never_both (pieces_of cost ss ls) h.0 h.1 k.3)
same_cause cost rule ss ls a b (inr (inl h)) (inr (inr (inr k))) =
    absurd (never_both (pieces_of cost ss ls) h.0 h.1 k.3)
same_cause cost rule ss ls a b (inr (inr (inl h))) (inr (inl k)) =
    absurd (never_both (pieces_of cost ss ls) k.0 k.1 h.3)
same_cause cost rule ss ls a b (inr (inr (inr h))) (inr (inl k)) =
    absurd (never_both (pieces_of cost ss ls) k.0 k.1 h.3)
same_cause cost rule ss ls a b (inr (inr (inl h))) (inr (inr (inl k))) = inr (inr (h.0 ∙ sym k.0))
same_cause cost rule ss ls a b (inr (inr (inl h))) (inr (inr (inr k))) = absurd (not_empty ls h.2 (k.2 h.1))
same_cause cost rule ss ls a b (inr (inr (inr h))) (inr (inr (inl k))) = absurd (not_empty ls k.2 (h.2 k.1))
same_cause cost rule ss ls a b (inr (inr (inr h))) (inr (inr (inr k))) = inr (inr (h.0 ∙ sym k.0))

linked_not : (rule : PairRule) (ls : List Link) → IsLinked rule (map link_parts ls) → rule ≡ Overlap → 0 < length ls → ⊥
linked_not Overlap ls h e lt = omega (arith, lt, length-map ls link_parts, ap length h)
linked_not Links ls h e lt = absurd (cc)

-- accepted parts have none
fine_not : (cost : CostParts) (rule : PairRule) (ss : List Section) (ls : List Link) (fault : Fault)
    → IsAccepted (ended_parts cost rule ss ls) → AreFlat ss → Cause cost rule ss ls fault → fault ≡ NoMemory
fine_not cost rule ss ls fault a flat (inl e) = e
fine_not cost rule ss ls fault a flat (inr (inl k)) =
    absurd (never_both (pieces_of cost ss ls) k.0 k.1 (accepted_pieces cost rule ss ls a flat))
fine_not cost rule ss ls fault a flat (inr (inr (inl k))) = absurd (linked_not rule ls a.are_parts.links k.1 k.2)
fine_not cost rule ss ls fault a flat (inr (inr (inr k))) = absurd (omega (arith, a.contour, ap length k.1))

pub refuses : (cost : CostParts) (rule : PairRule) (ss : List Section) (ls : List Link) (r : Result Parts Fault)
    (fault : Fault) → IfOk r (λ _. IsAccepted (ended_parts cost rule ss ls) × AreFlat ss)
    → IfErr r (IsMakeFault cost rule ss ls) → IsMakeFault cost rule ss ls fault → Refuses fault r
refuses cost rule ss ls (Ok v) fault fine told has =
    subst (λ (f : Fault). Refuses f (Ok v))
    (sym (fine_not cost rule ss ls fault fine.0 fine.1 (cause cost rule ss ls fault has))) tt
refuses cost rule ss ls (Err a) fault fine told has =
    elim (same_cause cost rule ss ls a fault (cause cost rule ss ls a told) (cause cost rule ss ls fault has)) [
      | inl e ↦ subst (λ (f : Fault). Refuses {T = Parts} fault (Err f)) (sym e) (refuses_memory fault)
      | inr c ↦ elim c [
        | inl e ↦ subst (λ (f : Fault). Refuses {T = Parts} f (Err a)) (sym e) tt
        | inr e ↦ subst (λ (f : Fault). Refuses {T = Parts} fault (Err f)) (sym e) (refuses_same fault)
      ]
    ]

pub accepts : (cost : CostParts) (rule : PairRule) (ss : List Section) (ls : List Link) (r : Result Parts Fault)
    → IfErr r (IsMakeFault cost rule ss ls) → IsAccepted (ended_parts cost rule ss ls) → AreFlat ss → Accepts r
accepts cost rule ss ls (Ok v) told a flat = tt
accepts cost rule ss ls (Err fault) told a flat =
    fine_not cost rule ss ls fault a flat (cause cost rule ss ls fault told)
