-- The reply of `densify`.
use Rattle.std.proofs.Common.{◌≡◌, ℕ, ◌≤◌, List, length, Result, Ok, Err, Vec, Some, refl, sym, subst}
use Rattle.std.specs.Prelude.{IfOk, IsErrAnd}
use Rattle.std.specs.Global.{Global}
use Rattle.fku_types.specs.Fault.{fault_words}
use Rattle.fku_types.specs.declared.fault.Fault.{Fault}
use Rattle.pair_pool.specs.Solvers.{raised_by}
use Rattle.section_core.specs.Parts.{Parts}
use Rattle.section_pairs.specs.SectionFaults.{ArePairs, IsFound}
use Rattle.section_pairs.specs.Pairs.{PairParts}
use Rattle.section_slices.specs.Densified.{IsDensified, dense_pairs}
use Rattle.section_slices.specs.Faults.{IsDensifyFault, IsMiddleFault, IsMid, in_parts, in_sections}
use Rattle.section_slices.specs.declared.sections.DensifyFault.{DensifyFault}
use Rattle.section_slices.specs.declared.sections.DensifyFault.TheVariants.{Found, Mid, NoMemory}
use Rattle.command_replies.specs.Reply.{Reply, told, refused, refused_after, Then, fails, goes_on, refusal_text, text_bytes, IsWritten}
use Rattle.surface_commands.specs.Densify.{Densified, IsDensifiedText, IsFoundBy, densify_sections, middle_words}
use Rattle.command_replies.specs.declared.answers.Answer.{Answer}
use Rattle.command_replies.specs.declared.status.Status.TheVariants.{Refused}
use Rattle.command_replies.proofs.ReplyLemmas.{counted_raised}
use Rattle.command_replies.proofs.AnswerLemmas.{Written}

-- a stage gives a value, and the rule after it determines the result
pub went_to : {X : Type 0} (IsFault : Fault → Type 0) (Is : X → Type 0) (rule : X → Reply → Type 0) (before after : ℕ)
    (r : Result (Vec ℕ Global) DensifyFault) (x : X)
    → Is x → Densified (rule x) before after r → Densified (Then IsFault Is rule) before after r
went_to IsFault Is rule before after (Ok v) x is h = (h.0, goes_on x (told v.items h.0) is h.1, h.2)
went_to IsFault Is rule before after (Err (Found fault)) x is h = (goes_on x (refused fault) is h.0, h.1)
went_to IsFault Is rule before after (Err (Mid fault)) x is h = λ line says. let g = h line says in
    (g.0, goes_on x (refused_after (middle_words line) g.0) is g.1, g.2)
went_to IsFault Is rule before after (Err NoMemory) x is h = tt

stops_is : {X : Type 0} (IsFault : Fault → Type 0) (Is : X → Type 0) (rule : X → Reply → Type 0) (count : ℕ)
    (fault : DensifyFault) → IsFoundBy IsFault fault → Densified (Then IsFault Is rule) count count (Err fault)
stops_is IsFault Is rule count (Found fault) h = (fails fault h, refl)
stops_is IsFault Is rule count (Mid fault) h = absurd h
stops_is IsFault Is rule count NoMemory h = tt

-- a stage fails, before any pair is counted
pub stops : {X : Type 0} (IsFault : Fault → Type 0) (Is : X → Type 0) (rule : X → Reply → Type 0) (count : ℕ)
    (r : Result (Vec ℕ Global) DensifyFault) (fault : DensifyFault)
    → IsErrAnd r (λ e. e ≡ fault) → IsFoundBy IsFault fault → Densified (Then IsFault Is rule) count count r
stops IsFault Is rule count (Ok v) fault exit h = absurd exit
stops IsFault Is rule count (Err f) fault exit h =
    stops_is IsFault Is rule count f (subst (IsFoundBy IsFault) (sym exit) h)

-- the pairs of sections with a middle fault
pairs_of : (S : Parts) (fault : Fault) → IsMiddleFault S fault → (ps : List PairParts) × ArePairs S ps
pairs_of S fault (in_parts T f d h n) = (d.pairs, d.are_pairs)
pairs_of S fault (in_sections T f d a h) = (d.pairs, d.are_pairs)

-- so many pairs were counted
abbrev pub IsRaised : Parts → ℕ → ℕ → Type 0
IsRaised S before after = (ps : List PairParts) → ArePairs S ps → after ≡ raised_by (length (dense_pairs S ps)) before

not_is : (S : Parts) (before after : ℕ) (fault : DensifyFault) → IsDensifyFault S fault
    → ((f : Fault) → IsFound S f → after ≡ before) → (IsMid fault → IsRaised S before after) → before ≤ after
    → Densified (densify_sections S) before after (Err fault)
not_is S before after (Found fault) h same raised later = (fails fault h, same fault h)
not_is S before after (Mid fault) h same raised later = λ line says.
    let ps = pairs_of S fault h in
    let n : ℕ = length (dense_pairs S ps.0) in (
      n,
      goes_on ps.0 (refused_after (middle_words line) n) ps.1
          (record { fault = fault; has = h; line = line; says = says; are = refl }, refl),
      counted_raised n before after (raised tt ps.0 ps.1) later,
    )
not_is S before after NoMemory h same raised later = tt

-- the sections have a fault, or those to be made have one
pub not_densified : (S : Parts) (before after : ℕ) (r : Result (Vec ℕ Global) DensifyFault) (fault : DensifyFault)
    → IsErrAnd r (λ e. e ≡ fault) → IsDensifyFault S fault → ((f : Fault) → IsFound S f → after ≡ before)
    → (IsMid fault → IsRaised S before after) → before ≤ after → Densified (densify_sections S) before after r
not_densified S before after (Ok v) fault exit h same raised later = absurd exit
not_densified S before after (Err f) fault exit h same raised later =
    not_is S before after f (subst (IsDensifyFault S) (sym exit) h) same
    (subst (λ (g : DensifyFault). IsMid g → IsRaised S before after) (sym exit) raised) later

-- the text of the densified sections
pub gives_densified : (S made : Parts) (before after : ℕ) (v : Vec ℕ Global) → IsDensified S made
    → IsDensifiedText S v.items → IsRaised S before after → before ≤ after
    → Densified (densify_sections S) before after (Ok v)
gives_densified S made before after v d text raised later =
    let n : ℕ = length (dense_pairs S d.pairs) in (
      n,
      goes_on d.pairs (told v.items n) d.are_pairs (text, refl),
      counted_raised n before after (raised d.pairs d.are_pairs) later,
    )

-- the answer for a fault of the sections to be made
pub middle_written : {E : Type 0} (rule : Reply → Type 0) (before after : ℕ) (fault : Fault) (r : Result Answer E)
    → Densified rule before after (Err (Mid fault))
    → IfOk r (λ a. a.status ≡ Refused)
    → IfOk r (λ a. (line : List ℕ) × (fault_words fault ≡ Some line)
    × (text_bytes a.text ≡ refusal_text (middle_words line))) → IfOk r (Written rule before after)
middle_written rule before after fault (Err e) h status text = tt
middle_written rule before after fault (Ok a) h status text =
    let g = h text.0 text.1 in
    (refused_after (middle_words text.0) g.0, g.0, g.1, (status, text.2, refl), g.2)

-- the answer for a fault of the given sections
pub found_written : {E : Type 0} (rule : Reply → Type 0) (before after : ℕ) (fault : Fault) (r : Result Answer E)
    → Densified rule before after (Err (Found fault))
    → IfOk r (λ a. IsWritten (refused fault) a.status (text_bytes a.text) 0) → IfOk r (Written rule before after)
found_written rule before after fault (Err e) h is = tt
found_written rule before after fault (Ok a) h is = (refused fault, 0, h.0, is, h.1)
