-- Replies from the stages of a command.
use Rattle.std.proofs.Common.{◌≡◌, ℕ, zero, suc, ◌≤◌, inl, inr, List, Result, Ok, Err, Vec, refl, sym, subst, ap, ◌∙◌, arith}
use Rattle.std.specs.Prelude.{IsErrAnd}
use Rattle.std.specs.Global.{Global}
use Rattle.fku_types.specs.declared.fault.Fault.{Fault}
use Rattle.pair_pool.specs.Solvers.{raised_by}
use Rattle.section_pairs.specs.SectionFaults.{OrNoMemory}
use Rattle.section_core.specs.Parts.{FileParts}
use Rattle.section_core.specs.Texts.{IsTextOfFile}
use Rattle.command_replies.specs.Reply.{Reply, told, refused, refused_after, Then, fails, goes_on, Tells, Replies, IsWritten, counted}
use Rattle.command_replies.specs.Stages.{IsTextFault, on_objects}
use Rattle.command_replies.specs.declared.status.Status.TheVariants.{Done}

-- a count that rose by a number, or ended at its last value
pub counted_raised : (n before after : ℕ) → after ≡ raised_by n before → before ≤ after → after ≡ counted n before
counted_raised zero before after e later = omega (arith, e, later)
counted_raised (suc n) before after e later = e

-- a fault of a stage is the reply, and the count stays; or memory ran out
abbrev Fails : (Reply → Type 0) → ℕ → ℕ → Fault → Type 0
Fails rule before after fault = OrNoMemory (λ f. rule (refused f) × (after ≡ before)) fault

both_fail : {X : Type 0} (IsFault : Fault → Type 0) (Is : X → Type 0) (rule : X → Reply → Type 0) (before after : ℕ)
    (fault : Fault)
    → OrNoMemory IsFault fault → OrNoMemory (λ f. after ≡ before) fault
    → Fails (Then IsFault Is rule) before after fault
both_fail IsFault Is rule before after fault (inl e) same = inl e
both_fail IsFault Is rule before after fault (inr h) (inl e) = inl e
both_fail IsFault Is rule before after fault (inr h) (inr same) = inr (fails fault h, same)

pub failed : {X : Type 0} (IsFault : Fault → Type 0) (Is : X → Type 0) (rule : X → Reply → Type 0) (before after : ℕ)
    (r : Result (Vec ℕ Global) Fault) (fault : Fault)
    → IsErrAnd r (λ e. e ≡ fault) → OrNoMemory IsFault fault → OrNoMemory (λ f. after ≡ before) fault → before ≤ after
    → Replies (Then IsFault Is rule) before after r
failed IsFault Is rule before after (Ok v) fault exit h same later = absurd exit
failed IsFault Is rule before after (Err f) fault exit h same later = record {
  text = tt;
  fault = both_fail IsFault Is rule before after f (subst (OrNoMemory IsFault) (sym exit) h)
      (subst (OrNoMemory (λ g. after ≡ before)) (sym exit) same);
  later = later;
}

-- the text of objects has a fault, before any pair is counted
pub no_text : (rule : FileParts → Reply → Type 0) (bytes : List ℕ) (count : ℕ) (r : Result (Vec ℕ Global) Fault)
    (fault : Fault)
    → IsErrAnd r (λ e. e ≡ fault) → OrNoMemory (IsTextFault bytes) fault → Replies (on_objects rule bytes) count count r
no_text rule bytes count r fault exit h =
    failed (IsTextFault bytes) (IsTextOfFile bytes) rule count count r fault exit h (inr refl) (omega arith)

fails_on : {X : Type 0} (IsFault : Fault → Type 0) (Is : X → Type 0) (rule : X → Reply → Type 0) (before after : ℕ)
    (fault : Fault) (x : X)
    → Is x → Fails (rule x) before after fault → Fails (Then IsFault Is rule) before after fault
fails_on IsFault Is rule before after fault x is (inl e) = inl e
fails_on IsFault Is rule before after fault x is (inr h) = inr (goes_on x (refused fault) is h.0, h.1)

-- a stage gives a value, and the rule goes on with that
pub went_on : {X : Type 0} (IsFault : Fault → Type 0) (Is : X → Type 0) (rule : X → Reply → Type 0) (before after : ℕ)
    (r : Result (Vec ℕ Global) Fault) (x : X)
    → Is x → Replies (rule x) before after r → Replies (Then IsFault Is rule) before after r
went_on IsFault Is rule before after (Ok v) x is h =
    record { text = (h.text.0, goes_on x (told v.items h.text.0) is h.text.1, h.text.2); fault = tt; later = h.later }
went_on IsFault Is rule before after (Err f) x is h =
    record { text = tt; fault = fails_on IsFault Is rule before after f x is h.fault; later = h.later }

-- the text reads as objects
pub with_text : (rule : FileParts → Reply → Type 0) (bytes : List ℕ) (before after : ℕ)
    (r : Result (Vec ℕ Global) Fault) (F : FileParts) → IsTextOfFile bytes F → Replies (rule F) before after r
    → Replies (on_objects rule bytes) before after r
with_text rule bytes before after r F is h = went_on (IsTextFault bytes) (IsTextOfFile bytes) rule before after r F is h

-- a text is returned, with this count of pairs
pub gives : (rule : Reply → Type 0) (before after n : ℕ) (v : Vec ℕ Global) → rule (told v.items n)
    → after ≡ raised_by n before → before ≤ after → Replies rule before after (Ok v)
gives rule before after n v is raised later =
    record { text = (n, is, counted_raised n before after raised later); fault = tt; later = later }

-- a text is returned, with a count of 0 pairs
pub gives_unsolved : (rule : Reply → Type 0) (count : ℕ) (v : Vec ℕ Global) → rule (told v.items 0)
    → Replies rule count count (Ok v)
gives_unsolved rule count v is = record { text = (0, is, refl); fault = tt; later = omega arith }

-- the text and the number of pairs, if the rule's reply is this text
pub tells : (text : List ℕ) (before after n : ℕ) (v : Vec ℕ Global) → v.items ≡ text → after ≡ raised_by n before
    → before ≤ after → Replies (Tells text n) before after (Ok v)
tells text before after n v is raised later = gives (Tells text n) before after n v (ap (λ t. told t n) is) raised later

-- the same if the count is that after so many pairs
pub tells_counted : (text : List ℕ) (before after n : ℕ) (v : Vec ℕ Global) → v.items ≡ text → after ≡ counted n before
    → before ≤ after → Replies (Tells text n) before after (Ok v)
tells_counted text before after n v is raised later =
    record { text = (n, ap (λ t. told t n) is, raised); fault = tt; later = later }

-- the reply that a stage went on to is not a refusal by it
abbrev pub IsTold : Reply → Type 0
IsTold (told text solved) = Unit {0}
IsTold (refused fault) = ⊥
IsTold (refused_after words solved) = ⊥

pub went : {X : Type 0} (IsFault : Fault → Type 0) (Is : X → Type 0) (rule : X → Reply → Type 0) (reply : Reply)
    → Then IsFault Is rule reply → IsTold reply → (x : X) × Is x × rule x reply
went IsFault Is rule reply (fails fault h) is = absurd is
went IsFault Is rule reply (goes_on x r has h) is = (x, has, h)

-- what is written for such a reply is its text
pub written_done : (reply : Reply) (text : List ℕ) (n : ℕ) → IsWritten reply Done text n → IsTold reply
    × (reply ≡ told text n)
written_done (told t m) text n w = (tt, ap (λ s. told s m) (sym w.1) ∙ ap (λ k. told text k) (sym w.2))
written_done (refused f) text n w = absurd (cc (w.0))
written_done (refused_after words solved) text n w = absurd (cc (w.0))
