-- The status of a run after its write.
use Rattle.std.proofs.Common.{◌≡◌, ◌≢◌, ℕ, ◌<◌, ◌≤◌, List, length, Option, None, Some, inl, inr, refl, ap, sym, subst, arith, length-append, ◌∙◌}
use Rattle.std.specs.Prelude.{IfSome, IsSome}
use Rattle.std.specs.Io.KnownBytes.{Appends, Keeps}
use Rattle.text_io.specs.Outside.{Rose, AppendsFront, TakesSome}
use Rattle.fku_types.specs.declared.fault.Fault.TheVariants.{Limit}
use Rattle.fku_types.specs.declared.fault.LimitName.TheVariants.{Bytes}
use Rattle.pair_pool.specs.Solvers.{Solver}
use Rattle.command_replies.specs.declared.status.Status.{Status}
use Rattle.command_replies.specs.declared.status.Status.TheVariants.{Done, Refused, BadWords, ReadFault, WriteFault, NoMemory}
use Rattle.surface_cli.specs.declared.commands.Command.{Command}
use Rattle.surface_cli.specs.declared.words.Task.{Task}
use Rattle.surface_cli.specs.Commands.{usage, input_limit, rule_of}
use Rattle.surface_cli.specs.Words.{meaning}
use Rattle.surface_cli.specs.Out.{IsOut, IsOutOf, Answers}
use Rattle.command_replies.specs.Reply.{Reply, told, refused, fails, goes_on, IsWritten, counted}
use Rattle.command_replies.specs.Stages.{on_input}
use Rattle.surface_cli.specs.Run.{Outside, Runs, IsComplete, IsRun, IsReply, ReadsInput, HasMeaning, HasReadingMeaning, IsInput, IsGiven, WritesFront, WritesWhole, EndsReading, ReadsToEnd, CountsPairs, IsToDensify, IsWork, SetsWorkers, workers_of}

-- what the contract of the writing function says
pub record Wrote (o : Outside) (s r : Status) (text : List ℕ) : Type 0 where
  pub whole : r ≢ WriteFault → (r ≡ s) × Appends o.held o.held_after text
  pub front : r ≡ WriteFault → s ≢ WriteFault → Rose o.write_faults o.write_faults_after
      × AppendsFront o.held o.held_after text

-- the text to be written for a known input is that of the definition, and the solver's count rose accordingly
abbrev pub Answered : List (List ℕ) → Option (List ℕ) → ℕ → ℕ → Status → List ℕ → Type 0
Answered words left before after s text = (input : List ℕ) → IsInput words left input → (n : ℕ)
    × IsOut words input s text n × (after ≡ counted n before)

told_front : (words : List (List ℕ)) (o : Outside) (before after : ℕ) (s : Status) (text : List ℕ)
    → AppendsFront o.held o.held_after text → Answered words o.left before after s text → WritesFront words o
told_front words o before after s text f is input h = let out = is input h in (s, text, out.0, f.0, out.1, f.1, f.2)

keeps_same : (x : Option (List ℕ)) → Keeps x x
keeps_same None = tt
keeps_same (Some xs) = refl

-- the definition, for the known meaning of the words
out_of : (words : List (List ℕ)) (m : Option Task) (input : List ℕ) (s : Status) (text : List ℕ) (n : ℕ)
    → meaning words ≡ m → IsOutOf m input s text n → IsOut words input s text n
out_of words m input s text n e is = subst (λ (o : Option Task). IsOutOf o input s text n) (sym e) is

out_bad : (words : List (List ℕ)) (left : Option (List ℕ)) (count : ℕ) → meaning words ≡ None
    → Answered words left count count BadWords usage
out_bad words left count m input h = (0, out_of words None input BadWords usage 0 m (refl, refl, refl), refl)

-- a usage error reads nothing
none_reads : (words : List (List ℕ)) (o : Outside) → meaning words ≡ None → ReadsToEnd words o
none_reads words o m task n = let e : None ≡ Some task = sym m ∙ n in absurd (cc e)

-- a usage error: the usage line was to be written
pub runs_bad : (words : List (List ℕ)) (o : Outside) (r : Status) → meaning words ≡ None → o.left ≡ o.left_after
    → Wrote o BadWords r usage → Runs words o r
runs_bad words o BadWords m same w = (m, subst (Keeps o.left) same (keeps_same o.left), (w.whole (λ e. cc)).1)
runs_bad words o WriteFault m same w =
    let f = w.front refl (λ e. cc) in
    (f.0, told_front words o 0 0 BadWords usage f.1 (out_bad words o.left 0 m), none_reads words o m)
runs_bad words o Done m same w = absurd (cc ((w.whole (λ e. cc)).0))
runs_bad words o Refused m same w = absurd (cc ((w.whole (λ e. cc)).0))
runs_bad words o ReadFault m same w = absurd (cc ((w.whole (λ e. cc)).0))
runs_bad words o NoMemory m same w = absurd (cc ((w.whole (λ e. cc)).0))

reply_not_write : (s : Status) → IsReply s → s ≢ WriteFault
reply_not_write s a e = subst IsReply e a

told_whole : (words : List (List ℕ)) (o : Outside) (before after : ℕ) (s r : Status) (text : List ℕ)
    → Answered words o.left before after s text → (r ≡ s) × Appends o.held o.held_after text → WritesWhole words o r
told_whole words o before after s r text is h input given = let out = is input given in
    (text, out.0, subst (λ s. IsOut words input s text out.0) (sym h.0) out.1, h.1)

-- a command answered, and its text was to be written
pub runs_reply : (words : List (List ℕ)) (o : Outside) (before after : ℕ) (s r : Status) (text : List ℕ) → IsReply s
    → HasMeaning words → ReadsToEnd words o → Answered words o.left before after s text → Wrote o s r text
    → Runs words o r
runs_reply words o before after s Done text a m end is w =
    (m, told_whole words o before after s Done text is (w.whole (λ e. cc)), end)
runs_reply words o before after s Refused text a m end is w =
    (m, told_whole words o before after s Refused text is (w.whole (λ e. cc)), end)
runs_reply words o before after s WriteFault text a m end is w = let f = w.front refl (reply_not_write s a) in
    (f.0, told_front words o before after s text f.1 is, end)
runs_reply words o before after s BadWords text a m end is w = absurd (subst IsReply (sym ((w.whole (λ e. cc)).0)) a)
runs_reply words o before after s ReadFault text a m end is w = absurd (subst IsReply (sym ((w.whole (λ e. cc)).0)) a)
runs_reply words o before after s NoMemory text a m end is w = absurd (subst IsReply (sym ((w.whole (λ e. cc)).0)) a)

-- so without a fault of the outside the whole text was written, or memory ran out
complete : (words : List (List ℕ)) (o : Outside) (r : Status) → Runs words o r → IsComplete words o r
complete words o Done runs reads writes = inr runs.1
complete words o Refused runs reads writes = inr runs.1
complete words o BadWords runs reads writes =
    inr (λ input h. let out = out_bad words o.left 0 runs.0 input h in (usage, out.0, out.1, runs.2))
complete words o ReadFault runs reads writes = absurd (reads runs.1)
complete words o WriteFault runs reads writes = absurd (writes runs.0)
complete words o NoMemory runs reads writes = inl refl

pub is_run : (words : List (List ℕ)) (o : Outside) (r : Status) → Runs words o r → IsRun words o r
is_run words o r runs = record { runs = runs; complete = complete words o r runs }

-- the count of the solver after a usage error: it stays
bad_counts : (words : List (List ℕ)) (o : Outside) (count : ℕ) (r : Status) → meaning words ≡ None
    → Wrote o BadWords r usage → CountsPairs words o.left count count r
bad_counts words o count Done m w = absurd (cc ((w.whole (λ e. cc)).0))
bad_counts words o count Refused m w = absurd (cc ((w.whole (λ e. cc)).0))
bad_counts words o count BadWords m w = refl
bad_counts words o count ReadFault m w = refl
bad_counts words o count WriteFault m w = λ input h. let out = out_bad words o.left count m input h in
    (BadWords, (usage, out.0, out.1, out.2))
bad_counts words o count NoMemory m w = omega arith

-- the workers are those of the task of the words, for any status
pub sets_workers : (words : List (List ℕ)) (t : Option Task) (before after : ℕ) (r : Status) → meaning words ≡ t
    → after ≡ workers_of t before → SetsWorkers words before after r
sets_workers words t before after Done m e = e ∙ ap (λ (o : Option Task). workers_of o before) (sym m)
sets_workers words t before after Refused m e = e ∙ ap (λ (o : Option Task). workers_of o before) (sym m)
sets_workers words t before after BadWords m e = e ∙ ap (λ (o : Option Task). workers_of o before) (sym m)
sets_workers words t before after ReadFault m e = e ∙ ap (λ (o : Option Task). workers_of o before) (sym m)
sets_workers words t before after WriteFault m e = e ∙ ap (λ (o : Option Task). workers_of o before) (sym m)
sets_workers words t before after NoMemory m e = inr (e ∙ ap (λ (o : Option Task). workers_of o before) (sym m))

pub work_bad : (words : List (List ℕ)) (o : Outside) (s : Solver) (r : Status) → meaning words ≡ None
    → Wrote o BadWords r usage → IsWork words o.left s s r
work_bad words o s r m w = record {
  counts = bad_counts words o s.solved_pairs r m w;
  later = omega arith;
  workers = sets_workers words None s.worker_count s.worker_count r m refl;
}

-- the count of the solver after an answer
reply_counts : (words : List (List ℕ)) (o : Outside) (before after : ℕ) (s r : Status) (text : List ℕ) → IsReply s
    → ((IsToDensify (meaning words) → ⊥) → s ≡ Refused → after ≡ before) → before ≤ after
    → Answered words o.left before after s text
    → Wrote o s r text → CountsPairs words o.left before after r
reply_counts words o before after s Done text a stays later is w =
    let same = (w.whole (λ e. cc)).0 in
    λ input h. let out = is input h in
    (text, out.0, subst (λ s. IsOut words input s text out.0) (sym same) out.1, out.2)
reply_counts words o before after s Refused text a stays later is w =
    let same = (w.whole (λ e. cc)).0 in (
      λ input h. let out = is input h in
          (text, out.0, subst (λ s. IsOut words input s text out.0) (sym same) out.1, out.2),
      λ other. stays other (sym same),
    )
reply_counts words o before after s WriteFault text a stays later is w = λ input h. let out = is input h in
    (s, (text, out.0, out.1, out.2))
reply_counts words o before after s NoMemory text a stays later is w = later
reply_counts words o before after s BadWords text a stays later is w =
    absurd (subst IsReply (sym ((w.whole (λ e. cc)).0)) a)
reply_counts words o before after s ReadFault text a stays later is w =
    absurd (subst IsReply (sym ((w.whole (λ e. cc)).0)) a)

pub work_reply : (words : List (List ℕ)) (o : Outside) (task : Task) (u v : Solver) (s r : Status) (text : List ℕ)
    → meaning words ≡ Some task → IsReply s
    → ((IsToDensify (meaning words) → ⊥) → s ≡ Refused → v.solved_pairs ≡ u.solved_pairs)
    → u.solved_pairs ≤ v.solved_pairs
    → Answered words o.left u.solved_pairs v.solved_pairs s text
    → v.worker_count ≡ workers_of (Some task) u.worker_count → Wrote o s r text → IsWork words o.left u v r
work_reply words o task u v s r text m a stays later is set w = record {
  counts = reply_counts words o u.solved_pairs v.solved_pairs s r text a stays later is w;
  later = later;
  workers = sets_workers words (Some task) u.worker_count v.worker_count r m set;
}

-- the words have this meaning
pub has_meaning : (words : List (List ℕ)) (task : Task) → meaning words ≡ Some task → HasMeaning words
has_meaning words task m = subst IsSome (sym m) refl

pub reading : (words : List (List ℕ)) (task : Task) → meaning words ≡ Some task → IsSome (input_limit task.command)
    → HasReadingMeaning words
reading words task m reads = subst ReadsInput (sym m) reads

same_task : (words : List (List ℕ)) (task other : Task) → meaning words ≡ Some task → meaning words ≡ Some other
    → task ≡ other
same_task words task other m n = let e : Some task ≡ Some other = sym m ∙ n in cc

-- a command that reads so is that of the words
pub ends_reading : (words : List (List ℕ)) (o : Outside) (task : Task) → meaning words ≡ Some task
    → EndsReading task.command o.left o.left_after → ReadsToEnd words o
ends_reading words o task m end other n =
    subst (λ (t : Task). EndsReading t.command o.left o.left_after) (same_task words task other m n) end

-- the answer of a command to what it was given, with the count of the solver
abbrev pub AnswersGiven : Command → Option (List ℕ) → ℕ → ℕ → Status → List ℕ → Type 0
AnswersGiven command left before after s text = (input : List ℕ) → IsGiven command left input → (n : ℕ)
    × Answers command input s text n × (after ≡ counted n before)

-- it is that of the definition for its words
pub answers_out : (words : List (List ℕ)) (left : Option (List ℕ)) (before after : ℕ) (task : Task) (s : Status)
    (text : List ℕ) → meaning words ≡ Some task → AnswersGiven task.command left before after s text
    → Answered words left before after s text
answers_out words left before after task s text m is input given =
    let out = is input (λ reads. given (reading words task m reads)) in
    (out.0, out_of words (Some task) input s text out.0 m out.1, out.2)

-- the answer of a command to the bytes that it has read, with the count of the solver
abbrev pub AnswersRead : Command → List ℕ → ℕ → ℕ → Status → List ℕ → Type 0
AnswersRead command bytes before after s text = (reply : Reply) × (n : ℕ) × rule_of command bytes reply
    × IsWritten reply s text n × (after ≡ counted n before)

pub limited_reads : (command : Command) (limit : ℕ) → input_limit command ≡ Some limit → IsSome (input_limit command)
limited_reads command limit is = subst IsSome (sym is) refl

told_all : (left : Option (List ℕ)) (bytes input : List ℕ) → IfSome left (λ all. bytes ≡ all) → left ≡ Some input
    → bytes ≡ input
told_all None bytes input all e = absurd (cc e)
told_all (Some xs) bytes input all e = let same : xs ≡ input = cc in all ∙ same

-- a command that reads answers so to what the source has
pub read_given : (command : Command) (limit before after : ℕ) (s : Status) (text bytes : List ℕ)
    (left : Option (List ℕ)) → input_limit command ≡ Some limit → IfSome left (λ all. bytes ≡ all)
    → length bytes ≤ limit
    → AnswersRead command bytes before after s text → AnswersGiven command left before after s text
read_given command limit before after s text bytes left is all small a input given =
    let same = told_all left bytes input all (given (limited_reads command limit is)) in
    let within : length input ≤ limit = subst (λ (xs : List ℕ). length xs ≤ limit) same small in (
      a.1,
      (
        a.0,
        subst (λ (l : Option ℕ). on_input l (rule_of command) input a.0) (sym is)
            (goes_on bytes a.0 (within, same) a.2),
        a.3,
      ),
      a.4,
    )

-- more bytes were taken than the limit allows
long : (limit most : ℕ) (input : List ℕ) (left_after : Option (List ℕ))
    → TakesSome (Some input) left_after (λ bytes. (limit < length bytes) × (length bytes ≤ most)) → limit < length input
long limit most input None t = absurd t.1
long limit most input (Some rest) t = let e = ap length t.1 in omega (arith, e, length-append t.0 rest, t.2.0)

-- so the command refuses them
pub too_long_given : (command : Command) (limit most count : ℕ) (left left_after : Option (List ℕ)) (s : Status)
    (text : List ℕ) → input_limit command ≡ Some limit
    → TakesSome left left_after (λ bytes. (limit < length bytes) × (length bytes ≤ most))
    → IsWritten (refused (Limit Bytes 0)) s text 0 → AnswersGiven command left count count s text
too_long_given command limit most count left left_after s text is t w input given =
    let told = given (limited_reads command limit is) in
    let over = long limit most input left_after
    (subst (λ (l : Option (List ℕ)). TakesSome l left_after
    (λ bytes. (limit < length bytes) × (length bytes ≤ most))) told t) in (
      0,
      (
        refused (Limit Bytes 0),
        subst (λ (l : Option ℕ). on_input l (rule_of command) input (refused (Limit Bytes 0)))
            (sym is) (fails (Limit Bytes 0) (over, refl)),
        w,
      ),
      refl,
    )
