-- A valid input has an answer: its status is Done.
use Rattle.std.proofs.Common.{◌≡◌, ◌⊎◌, inl, inr, ℕ, ◌≤◌, ℤ, List, [], length, Option, Some, arith, sym, subst, ap, ◌∙◌}
use Rattle.std.specs.Prelude.{sum_by}
use Rattle.text_io.specs.Outside.{Rose}
use Rattle.fku_types.specs.declared.limits.TheConstants.{MAX_INPUT_BYTES}
use Rattle.fku_types.specs.declared.fault.Fault.{Fault}
use Rattle.section_core.specs.Parts.{FileParts, all_sections}
use Rattle.section_core.specs.Texts.{IsTextOfFile}
use Rattle.row_paths.specs.Solutions.{Solves}
use Rattle.pair_pool.specs.Solvers.{SolvesEach}
use Rattle.triangle_meshes.specs.Meshes.{surface_of}
use Rattle.byu_text.specs.Byu.{byu_of}
use Rattle.section_pairs.specs.Pairs.{PairParts}
use Rattle.surface_core.specs.Surfaces.{strips_in}
use Rattle.surface_core.specs.Objects.{AreAllPairs, IsFoundIn, numbered}
use Rattle.surface_core.proofs.ObjectLaws.{one_pair_lists}
use Rattle.ring_caps.specs.RingSurfaces.{IsRingFoundIn}
use Rattle.section_slices.specs.Slices.{loop_count}
use Rattle.section_slices.specs.declared.slices.SliceLoops.{SliceLoops}
use Rattle.surface_cli.specs.declared.commands.Command.{Command}
use Rattle.command_replies.specs.declared.status.Status.{Status}
use Rattle.command_replies.specs.declared.status.Status.TheVariants.{Done, NoMemory}
use Rattle.command_replies.specs.Reply.{Reply, told, refused, refused_after, Then, fails, goes_on, NoFault, Tells, IsWritten}
use Rattle.command_replies.specs.Stages.{AreNumbered, IsSurfaceOf, IsTextFault, IsTooLong, IsWhole, on_input, on_objects, on_solutions}
use Rattle.command_replies.proofs.ReplyLemmas.{IsTold}
use Rattle.pair_commands.specs.OnePair.{IsNoPair, IsPairOf, on_pair}
use Rattle.pair_commands.specs.Certify.{TellsCert, certify, on_solution}
use Rattle.pair_commands.specs.Tilings.{tilings, tilings_text}
use Rattle.surface_commands.specs.Reconstruct.{reconstruct}
use Rattle.surface_commands.specs.Report.{Reports, report}
use Rattle.surface_commands.specs.RingCaps.{IsRingSurfaceOf, ring_caps}
use Rattle.surface_commands.specs.Slice.{AreCuts, IsHeightFaultOfAll, cuts_text, slice}
use Rattle.surface_cli.specs.Out.{IsOut, IsOutOf, reply_of}
use Rattle.surface_cli.specs.Run.{IsRun, IsInputWithin, Outside}
use Rattle.surface_cli.specs.Headline.{AsksFor}
use Rattle.run_laws.specs.Laws.{Fits, IsValidInput, certify_fits, reconstruct_fits, report_fits, ring_caps_fit, slice_fits, tilings_fit}
use Rattle.run_laws.proofs.TextLaws.{one_reading, read_or_refused}
use Rattle.run_laws.proofs.ReplyLaws.{IsTelling}
use Rattle.run_laws.proofs.RunLaws.{telling}

-- each reply of a rule that can be written is a text
abbrev AlwaysTells : (Reply → Type 0) → Type 0
AlwaysTells rule = (reply : Reply) → IsTelling reply → rule reply → IsTold reply

-- a stage without a fault is passed
passed : {X : Type 0} (IsFault : Fault → Type 0) (Is : X → Type 0) (rule : X → Reply → Type 0)
    → ((f : Fault) → IsFault f → ⊥) → ((x : X) → Is x → AlwaysTells (rule x)) → AlwaysTells (Then IsFault Is rule)
passed IsFault Is rule never inner reply t (fails f h) = absurd (never f h)
passed IsFault Is rule never inner reply t (goes_on x r is h) = inner x is r t h

-- the last stage
tells : (text : List ℕ) (n : ℕ) → AlwaysTells (Tells text n)
tells text n reply t h = subst IsTold (sym h) tt

-- a text of such objects
objects_told : (rule : FileParts → Reply → Type 0) (limit : ℕ) (input : List ℕ) (F : FileParts) → length input ≤ limit
    → IsTextOfFile input F → AlwaysTells (rule F) → AlwaysTells (on_input (Some limit) (on_objects rule) input)
objects_told rule limit input F short reads inner =
    passed (IsTooLong limit input) (IsWhole limit input) (on_objects rule) (λ f k. omega (arith, short, k.0))
    (λ bytes whole.
    let same : IsTextOfFile bytes F = subst (λ (b : List ℕ). IsTextOfFile b F) (sym whole.1) reads in
    passed (IsTextFault bytes) (IsTextOfFile bytes) rule (λ f k. read_or_refused bytes F f same k)
    (λ G is. subst (λ (H : FileParts). AlwaysTells (rule H)) (one_reading bytes F G same is) inner))

-- the replies of each command for objects without a fault are texts
tilings_told : (F : FileParts) → ((f : Fault) → IsFoundIn F f → ⊥) → AlwaysTells (tilings F)
tilings_told F never =
    passed (IsFoundIn F) (AreAllPairs F)
    (λ pss. on_solutions (numbered pss) (λ xs. Tells (tilings_text F pss xs) (length (numbered pss)))) never
    (λ pss is. passed NoFault (SolvesEach (strips_in (numbered pss)))
    (λ xs. Tells (tilings_text F pss xs) (length (numbered pss))) (λ f k. k)
    (λ xs has. tells (tilings_text F pss xs) (length (numbered pss))))

reconstruct_told : (F : FileParts) → ((f : Fault) → IsFoundIn F f → ⊥) → AlwaysTells (reconstruct byu_of F)
reconstruct_told F never = passed (IsFoundIn F) (IsSurfaceOf F) (λ b. Tells (byu_of (surface_of b.mesh)) b.pairs) never
    (λ b is. tells (byu_of (surface_of b.mesh)) b.pairs)

report_told : (F : FileParts) → ((f : Fault) → IsFoundIn F f → ⊥) → AlwaysTells (report F)
report_told F never = passed (IsFoundIn F) (IsSurfaceOf F) (Reports [] (all_sections F.objects)) never
    (λ b is reply t h. subst IsTold (sym h.tells) tt)

rings_told : (F : FileParts) → ((f : Fault) → IsRingFoundIn F f → ⊥) → AlwaysTells (ring_caps byu_of F)
rings_told F never = passed (IsRingFoundIn F) (IsRingSurfaceOf F) (λ b. Tells (byu_of (surface_of b.mesh)) b.pairs)
    never (λ b is. tells (byu_of (surface_of b.mesh)) b.pairs)

slice_told : (z : ℤ) (F : FileParts) → ((f : Fault) → IsFoundIn F f → ⊥) → ((f : Fault) → IsHeightFaultOfAll F z f → ⊥)
    → AlwaysTells (slice z F)
slice_told z F never good =
    let told : List (Option SliceLoops) → Reply → Type 0 =
    λ cuts. Tells (cuts_text F.version z F.objects cuts) (sum_by loop_count cuts) in
    passed (IsFoundIn F) (AreAllPairs F) (λ pss. Then (IsHeightFaultOfAll F z) (AreCuts F z) told) never
    (λ pss is. passed (IsHeightFaultOfAll F z) (AreCuts F z) told good
    (λ cuts are. tells (cuts_text F.version z F.objects cuts) (sum_by loop_count cuts)))

-- all counts of pairs are equal
pub as_many : (F : FileParts) (ps qs : List PairParts) → AreNumbered F ps → AreNumbered F qs → ps ≡ qs
as_many F ps qs is has = is.2 ∙ ap numbered (one_pair_lists F is.0 has.0 is.1 has.1) ∙ sym has.2

certify_told : (k : ℕ) (F : FileParts) (ps : List PairParts) → ((f : Fault) → IsFoundIn F f → ⊥) → AreNumbered F ps
    → k ≤ length ps → AlwaysTells (certify k F)
certify_told k F ps never are few =
    passed (IsFoundIn F) (AreNumbered F) (λ qs. on_pair qs k (λ p. on_solution p.strip (TellsCert k p.strip))) never
    (λ qs is.
    passed (IsNoPair qs k) (IsPairOf qs k) (λ p. on_solution p.strip (TellsCert k p.strip))
    (λ f none. omega (arith, none.0, few, ap length (as_many F ps qs are is)))
    (λ p has. passed NoFault (Solves p.strip) (TellsCert k p.strip) (λ f l. l)
    (λ s solves reply t h. subst IsTold (sym h.tells) tt)))

-- the reply for a valid input is a text
valid_told : (command : Command) (input : List ℕ) (F : FileParts) → IsInputWithin command input → IsTextOfFile input F
    → ((f : Fault) → IsFoundIn F f → ⊥) → Fits F command
    → AlwaysTells (reply_of command input)
valid_told command input F within read never tilings_fit =
    objects_told tilings MAX_INPUT_BYTES input F within read (tilings_told F never)
valid_told command input F within read never reconstruct_fits =
    objects_told (reconstruct byu_of) MAX_INPUT_BYTES input F within read (reconstruct_told F never)
valid_told command input F within read never report_fits =
    objects_told report MAX_INPUT_BYTES input F within read (report_told F never)
valid_told command input F within read never (slice_fits z fits) =
    objects_told (slice z) MAX_INPUT_BYTES input F within read (slice_told z F never fits)
valid_told command input F within read never (certify_fits k pairs are few) =
    objects_told (certify k) MAX_INPUT_BYTES input F within read (certify_told k F pairs never are few)
valid_told command input F within read never (ring_caps_fit fits) =
    objects_told (ring_caps byu_of) MAX_INPUT_BYTES input F within read (rings_told F fits)

pub is_done : (reply : Reply) (s : Status) (text : List ℕ) (n : ℕ) → IsTold reply → IsWritten reply s text n → s ≡ Done
is_done (told t m) s text n is w = w.0
is_done (refused f) s text n is w = absurd is
is_done (refused_after words m) s text n is w = absurd is

pub valid_done : (words : List (List ℕ)) (input text : List ℕ) (command : Command) (status : Status) (n : ℕ)
    → AsksFor command words → IsValidInput command input → IsOut words input status text n → status ≡ Done
valid_done words input text command status n asks v out =
    let is = subst (λ o. IsOutOf o input status text n) asks.1 out in
    is_done is.0 status text n (valid_told command input v.objects v.within v.read v.faultless v.fits is.0
    (telling is.0 status text n is.2) is.1) is.2

-- a run of such words, if nothing outside fails
pub valid_run : (words : List (List ℕ)) (input : List ℕ) (command : Command) (o : Outside) (status : Status)
    → AsksFor command words → IsValidInput command input → o.left ≡ Some input
    → (Rose o.read_faults o.read_faults_after → ⊥) → (Rose o.write_faults o.write_faults_after → ⊥)
    → IsRun words o status → (status ≡ Done) ⊎ (status ≡ NoMemory)
valid_run words input command o status asks v left read write run =
    elim (run.complete read write) [
      | inl none ↦ inr none
      | inr whole ↦ let w = whole input (λ h. left) in inl (valid_done words input w.0 command status w.1 asks v w.2)
    ]
