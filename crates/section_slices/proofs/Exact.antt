-- The fault that is returned is the one that there is.
use Rattle.std.proofs.Common.{◌∷◌, ◌≡◌, ◌++◌, List, [], map, length, ap, ap₂, sym, ◌∙◌, subst, refl, arith, Result, Ok, Err}
use Rattle.std.specs.Prelude.{IfOk, IfErr, IsErrAnd}
use Rattle.std.specs.List.{flat_map}
use Rattle.std.proofs.lemmas.List.{length-map}
use Rattle.fku_types.specs.declared.rules.PairRule.{PairRule}
use Rattle.fku_types.specs.declared.fault.Fault.{Fault}
use Rattle.fku_types.specs.declared.fault.Fault.TheVariants as faults
use Rattle.section_core.specs.declared.parts.Section.{Section}
use Rattle.section_core.specs.declared.parts.Link.{Link}
use Rattle.section_core.specs.Parts.{CostParts, Parts, SectionParts, LinkParts, contours_of}
use Rattle.section_core.specs.Machine.{cost_is, section_items, link}
use Rattle.section_core.specs.Flat.{AreFlat}
use Rattle.section_core.specs.Views.{section_parts, link_parts}
use Rattle.section_core.specs.Accepted.{IsAccepted}
use Rattle.section_core.specs.Made.{Piece, whole, pieces_of, IsPieceFault, ArePiecesLawful, IsMakeFault, Refuses}
use Rattle.section_core.proofs.WholePieces.{section_level, link_level, none_left}
use Rattle.section_core.proofs.MakeFaults.{refuses, accepts, not_empty}
use Rattle.section_pairs.specs.Pairs.{PairParts}
use Rattle.section_pairs.specs.SectionFaults.{ArePairs, IsFound}
use Rattle.section_pairs.proofs.FoundLaws.{paired_or_found, one_found}
use Rattle.section_slices.specs.declared.sections.DensifyFault.{DensifyFault}
use Rattle.section_slices.specs.declared.sections.DensifyFault.TheVariants.{Found, Mid, NoMemory}
use Rattle.section_slices.specs.Densified.{IsDensified}
use Rattle.section_slices.specs.Faults.{HaveMakeFault, IsMiddleFault, in_parts, in_sections, IsDensifyFault, IsDensifyMemory, TellsDensifyFault, IsFaultOfPairs}
use Rattle.section_slices.proofs.OneDensified.{one_densified}

-- the pieces of parts, for equal parts
same_pieces : (cost : CostParts) (ss ts : List Section) (ls ms : List Link) → AreFlat ss → AreFlat ts
    → map section_parts ss ≡ map section_parts ts → map link_parts ls ≡ map link_parts ms
    → pieces_of cost ss ls ≡ pieces_of cost ts ms
same_pieces cost ss ts ls ms f h e k =
    ap₂ (λ (a b : List Piece). whole (cost_is cost) ∷ (a ++ b))
    (section_level ss f ∙ ap (λ (xs : List SectionParts). map whole (flat_map section_items xs)) e
    ∙ sym (section_level ts h))
    (link_level ls ∙ ap (λ (xs : List LinkParts). map whole (map link xs)) k ∙ sym (link_level ms))

same_length : (ls ms : List Link) → map link_parts ls ≡ map link_parts ms → length ls ≡ length ms
same_length ls ms e = sym (length-map ls link_parts) ∙ ap length e ∙ length-map ms link_parts

-- a fault of parts is the same for equal parts
moved : (cost : CostParts) (rule : PairRule) (ss ts : List Section) (ls ms : List Link) (fault : Fault)
    → pieces_of cost ss ls ≡ pieces_of cost ts ms → map section_parts ss ≡ map section_parts ts → length ls ≡ length ms
    → IsMakeFault cost rule ss ls fault → IsMakeFault cost rule ts ms fault
moved cost rule ss ts ls ms faults.NoMemory p e n h = tt
moved cost rule ss ts ls ms (faults.Form k) p e n h = (h.0, h.1, omega (arith, h.2, n), subst ArePiecesLawful p h.3)
moved cost rule ss ts ls ms faults.NoContours p e n h = (
  subst (λ (xs : List SectionParts). contours_of xs ≡ []) e h.0,
  λ o. none_left ms (λ l. not_empty ls (omega (arith, l, n)) (h.1 o)),
  subst ArePiecesLawful p h.2,
)
moved cost rule ss ts ls ms fault p e n h = subst (λ (ps : List Piece). IsPieceFault ps fault) p h

refused : (f g : Fault) → Refuses {T = Parts} g (Err f) → (f ≡ faults.NoMemory → ⊥) → (g ≡ faults.NoMemory → ⊥) → f ≡ g
refused f faults.NoMemory r m n = absurd (n refl)
refused faults.NoMemory g r m n = absurd (m refl)
refused f g r m n = r

abbrev sections_of : Parts → List SectionParts
sections_of T = T.sections

abbrev links_of : Parts → List LinkParts
links_of T = T.links

pub one_make_fault : (T : Parts) (f g : Fault) → HaveMakeFault T f → HaveMakeFault T g → (f ≡ faults.NoMemory → ⊥)
    → (g ≡ faults.NoMemory → ⊥) → f ≡ g
one_make_fault T f g h k m n =
    let es : map section_parts k.sections ≡ map section_parts h.sections = ap sections_of (k.parts ∙ sym h.parts) in
    let el : map link_parts k.links ≡ map link_parts h.links = ap links_of (k.parts ∙ sym h.parts) in
    let here = moved T.cost T.rule k.sections h.sections k.links h.links g
    (same_pieces T.cost k.sections h.sections k.links h.links k.flat h.flat es el) es
    (same_length k.links h.links el) k.has in
    refused f g (refuses T.cost T.rule h.sections h.links (Err f) g tt h.has here) m n

pub not_accepted : (T : Parts) (f : Fault) → HaveMakeFault T f → (f ≡ faults.NoMemory → ⊥) → IsAccepted T → ⊥
not_accepted T f h n a = n (accepts T.cost T.rule h.sections h.links (Err f) h.has (subst IsAccepted (sym h.parts) a)
    h.flat)

-- accepted sections with pairs have no fault
pub no_middle : (S T : Parts) (f : Fault) → IsDensified S T → IsAccepted T → (ps : List PairParts) × ArePairs T ps
    → IsMiddleFault S f → ⊥
no_middle S T f d a p (in_parts U g e h n) = not_accepted U g h n (subst IsAccepted (one_densified S T U d e) a)
no_middle S T f d a p (in_sections U g e b h) =
    paired_or_found T p.0 g p.1 (subst (λ (V : Parts). IsFound V g) (one_densified S U T e d) h)

pub one_middle_fault : (S : Parts) (f g : Fault) → IsMiddleFault S f → IsMiddleFault S g → f ≡ g
one_middle_fault S f g (in_parts T f' d h m) (in_parts U g' e k n) =
    one_make_fault T f g h (subst (λ (V : Parts). HaveMakeFault V g) (one_densified S U T e d) k) m n
one_middle_fault S f g (in_parts T f' d h m) (in_sections U g' e a k) =
    absurd (not_accepted T f h m (subst IsAccepted (one_densified S U T e d) a))
one_middle_fault S f g (in_sections T f' d a h) (in_parts U g' e k n) =
    absurd (not_accepted U g k n (subst IsAccepted (one_densified S T U d e) a))
one_middle_fault S f g (in_sections T f' d a h) (in_sections U g' e b k) =
    one_found T f g h (subst (λ (V : Parts). IsFound V g) (one_densified S U T e d) k)

-- only sections with pairs have densified sections
with_pairs : (S : Parts) (f g : Fault) → IsMiddleFault S f → IsFound S g → ⊥
with_pairs S f g (in_parts T f' d h m) k = paired_or_found S d.pairs g d.are_pairs k
with_pairs S f g (in_sections T f' d a h) k = paired_or_found S d.pairs g d.are_pairs k

pub exact : (S : Parts) (fault : DensifyFault) (r : Result Parts DensifyFault) → IfOk r (IsDensified S)
    → IfOk r IsAccepted → IfOk r (λ T. (ps : List PairParts) × ArePairs T ps) → IfErr r (IsDensifyFault S)
    → IsDensifyFault S fault → TellsDensifyFault fault r
exact S NoMemory r d a p e h = tt
exact S (Found f) (Ok T) d a p e h = paired_or_found S d.pairs f d.are_pairs h
exact S (Found f) (Err NoMemory) d a p e h = tt
exact S (Found f) (Err (Found g)) d a p e h = ap (λ (x : Fault). Found x) (one_found S g f e h)
exact S (Found f) (Err (Mid g)) d a p e h = absurd (with_pairs S g f e h)
exact S (Mid f) (Ok T) d a p e h = no_middle S T f d a p h
exact S (Mid f) (Err NoMemory) d a p e h = tt
exact S (Mid f) (Err (Found g)) d a p e h = absurd (with_pairs S f g h e)
exact S (Mid f) (Err (Mid g)) d a p e h = ap (λ (x : Fault). Mid x) (one_middle_fault S g f e h)

of_given : (S : Parts) (fault : DensifyFault) → IsFaultOfPairs S fault → IsDensifyFault S fault
of_given S NoMemory h = tt
of_given S (Found fault) h = h
of_given S (Mid fault) h = absurd h

-- the fault of the given sections
pub early : (S : Parts) (fault given : DensifyFault) (r : Result Parts DensifyFault) → IsErrAnd r (λ e. e ≡ given)
    → IsFaultOfPairs S given → IsDensifyFault S fault → TellsDensifyFault fault r
early S fault given (Ok T) e k h = absurd e
early S fault given (Err told) e k h =
    exact S fault (Err told) tt tt tt (subst (IsDensifyFault S) (sym e) (of_given S given k)) h

-- where the sections have pairs, memory may run out
pub late : {T : Type 0} (S : Parts) (ps : List PairParts) (r : Result T DensifyFault) → ArePairs S ps
    → IfErr r (IsDensifyMemory S)
late S ps (Ok v) h = tt
late S ps (Err fault) h = λ _. h.linked.sound
