-- `densify`: the text of sections with rounded sections between those that are far apart.
use Rattle.std.specs.Prelude.{ℕ, ◌≡◌, ◌≤◌, List, ◌++◌, Some, Vec, Result, Ok, Err, codes, filter, length}
use Rattle.std.specs.Global.{Global}
use Rattle.fku_types.specs.declared.limits.TheConstants.{MAX_INPUT_BYTES}
use Rattle.fku_types.specs.Fault.{fault_words}
use Rattle.fku_types.specs.declared.fault.Fault.{Fault}
use Rattle.fku_types.specs.declared.fault.Fault.TheVariants.{NoMemory as WantOfMemory}
use Rattle.section_core.specs.Parts.{Parts, FileParts}
use Rattle.section_core.specs.Canonical.{text_of}
use Rattle.section_core.specs.Texts.{IsTextOf}
use Rattle.section_pairs.specs.SectionFaults.{ArePairs, IsFound}
use Rattle.section_pairs.specs.Pairs.{PairParts}
use Rattle.section_slices.specs.Densified.{IsDensified, dense_pairs, is_at_height_of}
use Rattle.section_slices.specs.Faults.{IsMiddleFault}
use Rattle.section_slices.specs.declared.sections.DensifyFault.{DensifyFault}
use Rattle.section_slices.specs.declared.sections.DensifyFault.TheVariants.{Found, Mid, NoMemory}
use Rattle.command_replies.specs.Reply.{Reply, told, refused, refused_after, counted}
use Rattle.command_replies.specs.Stages.{on_only, on_pairs_of}

-- The text is the canonical one of the densified sections, reads as these, and is short enough to be read. They have no
-- fault, so `reconstruct` takes the text. Those at the heights of the given sections are the given sections.
pub record IsDensifiedText (S : Parts) (text : List ℕ) : Type 0 where
  pub made : Parts
  pub densified : IsDensified S made
  pub canonical : text ≡ text_of made
  pub reads : IsTextOf text made
  pub short : length text ≤ MAX_INPUT_BYTES
  pub pairs : (ps : List PairParts) × ArePairs made ps
  pub faultless : (fault : Fault) → IsFound made fault → ⊥
  pub old : filter (is_at_height_of S) made.sections ≡ S.sections

-- the words of the refusal of sections to be made, if they have a fault of these words
abbrev pub middle_words : List ℕ → List ℕ
middle_words words = codes "28 MID " ++ words

-- the words are those of a fault of the densified sections
pub record AreMiddleWords (S : Parts) (words : List ℕ) : Type 0 where
  pub fault : Fault
  pub has : IsMiddleFault S fault
  pub line : List ℕ
  pub says : fault_words fault ≡ Some line
  pub are : words ≡ middle_words line

-- the reply for sections with these pairs: the text of the densified sections, or their fault; the pairs of dense gaps
-- are counted
abbrev pub Densifies : Parts → List PairParts → Reply → Type 0
Densifies S pairs (told text solved) = IsDensifiedText S text × (solved ≡ length (dense_pairs S pairs))
Densifies S pairs (refused fault) = ⊥
Densifies S pairs (refused_after words solved) = AreMiddleWords S words × (solved ≡ length (dense_pairs S pairs))

abbrev pub densify_sections : Parts → Reply → Type 0
densify_sections S = on_pairs_of S (Densifies S)

-- the reply for objects: only a single object is densified
abbrev pub densify : FileParts → Reply → Type 0
densify F = on_only F densify_sections

-- a function returns what a rule replies, and the count of the solver before and after is that of the reply; if memory
-- runs out, it may have risen
abbrev pub Densified : (Reply → Type 0) → ℕ → ℕ → Result (Vec ℕ Global) DensifyFault → Type 0
Densified rule before after (Ok v) = (n : ℕ) × rule (told v.items n) × (after ≡ counted n before)
Densified rule before after (Err (Found fault)) = rule (refused fault) × (after ≡ before)
Densified rule before after (Err (Mid fault)) =
    (line : List ℕ) → fault_words fault ≡ Some line
    → (n : ℕ) × rule (refused_after (middle_words line) n) × (after ≡ counted n before)
Densified rule before after (Err NoMemory) = Unit {0}

-- a stage refuses what is read with this fault, or memory ran out
abbrev pub IsFoundBy : (Fault → Type 0) → DensifyFault → Type 0
IsFoundBy IsFault (Found fault) = IsFault fault
IsFoundBy IsFault (Mid fault) = ⊥
IsFoundBy IsFault NoMemory = Unit {0}

-- a fault of the sections, or `NoMemory`
abbrev pub IsSameFault : Fault → DensifyFault → Type 0
IsSameFault fault (Found same) = (same ≡ fault) × (fault ≡ WantOfMemory → ⊥)
IsSameFault fault (Mid other) = ⊥
IsSameFault fault NoMemory = fault ≡ WantOfMemory
