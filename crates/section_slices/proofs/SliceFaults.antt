-- What a slice refuses, from what its parts refuse.
use Rattle.std.proofs.Common.{◌≡◌, inl, inr, refl, List, Result, Ok, Err, IfErr, IsErrAnd, ℤ}
use Rattle.fku_types.specs.declared.fault.Fault.{Fault}
use Rattle.fku_types.specs.declared.fault.Fault.TheVariants.{NoMemory}
use Rattle.fku_types.proofs.AnswerLaws.{err_is}
use Rattle.section_core.specs.Parts.{Parts}
use Rattle.section_pairs.specs.Pairs.{PairParts}
use Rattle.section_pairs.specs.SectionFaults.{IsPairsFault, OrNoMemory, ArePairs}
use Rattle.section_pairs.proofs.FoundLaws.{paired_or_found}
use Rattle.section_slices.specs.Slices.{IsHeightFault, outside, on_section, IsSliceFault, found, at_height}

-- memory ran out
pub memory : {X : Type 0} (P : Fault → Type 0) (r : Result X Fault) → IsErrAnd r (λ e. e ≡ NoMemory)
    → IfErr r (OrNoMemory P)
memory P r h = err_is (OrNoMemory P) r NoMemory h (inl refl)

-- the fault of the sections
pub of_pairs : (S : Parts) (z : ℤ) (fault : Fault) → IsPairsFault S fault → OrNoMemory (IsSliceFault S z) fault
of_pairs S z fault (inl e) = inl e
of_pairs S z fault (inr h) = inr (found fault h)

-- the fault of the height, for sections whose pairs are known
pub of_height : {X : Type 0} (S : Parts) (z : ℤ) (ps : List PairParts) → ArePairs S ps → (r : Result X Fault)
    → IfErr r (OrNoMemory (IsHeightFault S z)) → IfErr r (OrNoMemory (IsSliceFault S z))
of_height S z ps a (Ok x) h = tt
of_height S z ps a (Err fault) (inl e) = inl e
of_height S z ps a (Err fault) (inr h) = inr (at_height fault ps a h)

-- `NoMemory` is not a fault of a height
pub not_memory : (S : Parts) (z : ℤ) (fault : Fault) → IsHeightFault S z fault → fault ≡ NoMemory → ⊥
not_memory S z fault (outside h) e = absurd (cc)
not_memory S z fault (on_section h) e = absurd (cc)

-- what holds of every error
pub late : {X : Type 0} (P : Type 0) (r : Result X Fault) → P → IfErr r (λ e. e ≡ NoMemory → P)
late P (Ok x) h = tt
late P (Err fault) h = λ e. h

-- what holds at each fault of the height holds at each fault of a slice, if the sections have pairs
pub unsolved : (S : Parts) (z : ℤ) (ps : List PairParts) (fault : Fault) (P : Type 0) → ArePairs S ps
    → ((f : Fault) → IsHeightFault S z f → P) → IsSliceFault S z fault → P
unsolved S z ps _ P a h (found fault k) = absurd (paired_or_found S ps fault a k)
unsolved S z ps _ P a h (at_height fault qs b k) = h fault k
