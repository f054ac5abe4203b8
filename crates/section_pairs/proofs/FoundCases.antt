-- The fault of sections, by the test that finds it.
use Rattle.std.proofs.Common.{◌≡◌, ℕ, List, inl, inr, refl, sym, map, subst}
use Rattle.std.specs.Prelude.{Result, Ok, Err, IfErr, MatchResult}
use Rattle.fku_types.specs.declared.fault.Fault.{Fault}
use Rattle.fku_types.specs.declared.fault.Fault.TheVariants as fault
use Rattle.section_core.specs.Parts.{Parts}
use Rattle.section_core.specs.ValidSections.{section_of}
use Rattle.section_core.specs.Flat.{SectionData}
use Rattle.correspondence.specs.Links.{IsLinkFault}
use Rattle.section_pairs.specs.SectionFaults.{OrNoMemory, IsContourFault, AreSound, HasLongSide, IsFound, IsPairsFault, IsComposeFault, IsLateMemory}

pub found_in_contours : (S : Parts) (f : Fault) → IsContourFault (map section_of S.sections) f → IsPairsFault S f
found_in_contours S f h = inr (IsFound.in_contours f h)

pub found_in_links : (S : Parts) (f : Fault) → AreSound (map section_of S.sections) → IsLinkFault S f → IsPairsFault S f
found_in_links S (fault.Link below above cause) s h = inr (IsFound.in_links below above cause h.0 s h.1)
found_in_links S fault.NoMemory s h = inl refl
found_in_links S _ s h = absurd h

-- the fault of a contour or of a section is not `NoMemory`
contour_fault_told : (sections : List SectionData) → IsContourFault sections fault.NoMemory → ⊥
contour_fault_told sections (inl h) = h.has
contour_fault_told sections (inr h) = h.first.has

pub late_in_contours : (S : Parts) (f : Fault) → IsContourFault (map section_of S.sections) f → IsLateMemory S f
late_in_contours S f h e = absurd (contour_fault_told (map section_of S.sections)
    (subst (IsContourFault (map section_of S.sections)) e h))

-- what holds of every fault
pub always : {X : Type 0} (r : Result X Fault) (Q : Fault → Type 0) → ((f : Fault) → Q f) → IfErr r Q
always (Ok v) Q h = tt
always (Err f) Q h = h f

-- what a composite refuses, for an equal side
pub compose_told : {X : Type 0} (r : Result X Fault) (side other : ℕ × ℕ) → side ≡ other → IfErr r (IsComposeFault side)
    → IfErr r (OrNoMemory (HasLongSide other))
compose_told (Ok v) side other e h = tt
compose_told (Err f) side other e (inl h) = inr (subst (λ (s : ℕ × ℕ). HasLongSide s f) e h)
compose_told (Err f) side other e (inr h) = inl h.0

-- ---- what holds of a result whose value or fault is known
pub of_ok : {X : Type 0} (r : Result X Fault) (x : X) (P : X → Type 0) (Q : Fault → Type 0) → r ≡ Ok x
    → MatchResult r P Q → P x
of_ok {X = X} r x P Q e h = subst (λ (s : Result X Fault). MatchResult s P Q) e h

pub of_err : {X : Type 0} (r : Result X Fault) (f : Fault) (P : X → Type 0) (Q : Fault → Type 0) → r ≡ Err f
    → MatchResult r P Q → Q f
of_err {X = X} r f P Q e h = subst (λ (s : Result X Fault). MatchResult s P Q) e h

pub of_err_back : {X : Type 0} (r : Result X Fault) (f : Fault) (P : X → Type 0) (Q : Fault → Type 0) → r ≡ Err f → Q f
    → MatchResult r P Q
of_err_back {X = X} r f P Q e h = subst (λ (s : Result X Fault). MatchResult s P Q) (sym e) h
