-- The result for sections to be densified.
use Rattle.std.proofs.Common.{◌≡◌, ◌∙◌, ℕ, List, map, filter, length, ap, sym, refl, subst, Result, Ok, Err}
use Rattle.std.specs.Prelude.{IfOk, IfErr, IsErrAnd}
use Rattle.fku_types.specs.declared.fault.Fault.{Fault}
use Rattle.fku_types.specs.declared.fault.Fault.TheVariants as faults
use Rattle.fku_types.specs.declared.rules.PairRule.TheVariants.{Links}
use Rattle.section_core.specs.declared.parts.Section.{Section}
use Rattle.section_core.specs.declared.parts.Link.{Link}
use Rattle.section_core.specs.Parts.{Parts}
use Rattle.section_core.specs.Flat.{AreFlat}
use Rattle.section_core.specs.Finished.{ended_parts}
use Rattle.section_core.specs.Views.{section_parts}
use Rattle.pair_pool.specs.Solvers.{raised_by}
use Rattle.section_pairs.specs.Pairs.{PairParts}
use Rattle.section_pairs.specs.SectionFaults.{ArePairs, IsFound}
use Rattle.section_pairs.proofs.PairLaws.{one_pairs}
use Rattle.section_pairs.proofs.FoundLaws.{paired_or_found}
use Rattle.section_slices.specs.declared.sections.DensifyFault.{DensifyFault}
use Rattle.section_slices.specs.declared.sections.DensifyFault.TheVariants.{Found, Mid, NoMemory}
use Rattle.section_slices.specs.Densified.{IsDensified, dense_pairs, is_at_height_of}
use Rattle.section_slices.specs.Faults.{IsMiddleFault, in_parts, in_sections, IsDensifyFault, IsMid, IsFaultOfPairs, IsToldFault, IsMadeFault, of_parts, of_sections, IsRemakeFault}
use Rattle.section_slices.proofs.Told.{not_memory}

pub same_count : (S : Parts) (ps qs : List PairParts) → ArePairs S ps → ArePairs S qs
    → length (dense_pairs S ps) ≡ length (dense_pairs S qs)
same_count S ps qs h k = ap (λ (xs : List PairParts). length (dense_pairs S xs)) (one_pairs S ps qs h k)

abbrev made : Parts → List Section → List Link → Parts
made S sections links = ended_parts S.cost Links sections links

of_middle : (S : Parts) (sections : List Section) (links : List Link) (fault : Fault)
    → IsDensified S (made S sections links) → AreFlat sections → IsMadeFault S.cost Links sections links fault
    → IsMiddleFault S fault
of_middle S sections links fault d f (of_parts g k n) =
    in_parts (made S sections links) g d
    (record { sections = sections; links = links; parts = refl; flat = f; has = k }) n
of_middle S sections links fault d f (of_sections g a k) = in_sections (made S sections links) g d a k

-- why the parts are refused is why the sections are not densified
pub of_remade : (S : Parts) (sections : List Section) (links : List Link) (r : Result Parts DensifyFault)
    → IsDensified S (made S sections links) → AreFlat sections → IfErr r (IsRemakeFault S.cost Links sections links)
    → IfErr r (IsDensifyFault S)
of_remade S sections links (Ok T) d f k = tt
of_remade S sections links (Err NoMemory) d f k = tt
of_remade S sections links (Err (Found fault)) d f k = absurd k
of_remade S sections links (Err (Mid fault)) d f k = of_middle S sections links fault d f k

told_middle : (S : Parts) (fault : Fault) → IsMiddleFault S fault → fault ≡ faults.NoMemory → ⊥
told_middle S fault (in_parts T g d h n) e = n e
told_middle S fault (in_sections T g d a h) e = not_memory T g h e

pub told : (S : Parts) (r : Result Parts DensifyFault) → IfErr r (IsDensifyFault S) → IfErr r IsToldFault
told S (Ok T) k = tt
told S (Err NoMemory) k = tt
told S (Err (Found fault)) k = not_memory S fault k
told S (Err (Mid fault)) k = told_middle S fault k

pub is_densified : (S : Parts) (sections : List Section) (links : List Link) (r : Result Parts DensifyFault)
    → IsDensified S (made S sections links) → IfOk r (λ T. T ≡ made S sections links) → IfOk r (IsDensified S)
is_densified S sections links (Ok T) d e = subst (IsDensified S) (sym e) d
is_densified S sections links (Err f) d e = tt

pub faultless : (r : Result Parts DensifyFault) → IfOk r (λ T. (ps : List PairParts) × ArePairs T ps)
    → IfOk r (λ T. (fault : Fault) → IsFound T fault → ⊥)
faultless (Ok T) h = λ fault k. paired_or_found T h.0 fault h.1 k
faultless (Err f) h = tt

pub old_is : (S : Parts) (sections : List Section) (links : List Link) (r : Result Parts DensifyFault)
    → filter (is_at_height_of S) (map section_parts sections) ≡ S.sections → IfOk r (λ T. T ≡ made S sections links)
    → IfOk r (λ T. filter (is_at_height_of S) T.sections ≡ S.sections)
old_is S sections links (Ok T) h e = ap (λ (U : Parts). filter (is_at_height_of S) U.sections) e ∙ h
old_is S sections links (Err f) h e = tt

-- the same count if the sections to be made have a fault
pub counted_mid : (S : Parts) (found : List PairParts) (n old new : ℕ) (r : Result Parts DensifyFault)
    → ArePairs S found → n ≡ length (dense_pairs S found) → new ≡ raised_by n old
    → IfErr r (λ fault. IsMid fault → (ps : List PairParts) → ArePairs S ps
    → new ≡ raised_by (length (dense_pairs S ps)) old)
counted_mid S found n old new (Ok T) h e k = tt
counted_mid S found n old new (Err f) h e k = λ mid ps p. k
    ∙ ap (λ (m : ℕ). raised_by m old) (e ∙ same_count S found ps h p)

never_mid : (S : Parts) (fault : DensifyFault) → IsFaultOfPairs S fault → IsMid fault → ⊥
never_mid S NoMemory h mid = mid
never_mid S (Found fault) h mid = mid
never_mid S (Mid fault) h mid = h

-- a fault of the given sections is none of those to be made
pub no_mid : (S : Parts) (given : DensifyFault) (r : Result Parts DensifyFault) (X : Type 0)
    → IsErrAnd r (λ e. e ≡ given) → IsFaultOfPairs S given → IfErr r (λ fault. IsMid fault → X)
no_mid S given (Ok T) X exit h = tt
no_mid S given (Err f) X exit h = λ mid. absurd (never_mid S f (subst (IsFaultOfPairs S) (sym exit) h) mid)

pub counted_is : (S : Parts) (found : List PairParts) (n old new : ℕ) (r : Result Parts DensifyFault) → ArePairs S found
    → n ≡ length (dense_pairs S found) → new ≡ raised_by n old
    → IfOk r (λ _. (ps : List PairParts) → ArePairs S ps → new ≡ raised_by (length (dense_pairs S ps)) old)
counted_is S found n old new (Ok T) h e k = λ ps p. k ∙ ap (λ (m : ℕ). raised_by m old) (e ∙ same_count S found ps h p)
counted_is S found n old new (Err f) h e k = tt
