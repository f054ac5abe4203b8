-- Runs of `reconstruct` and `ringcaps` write a closed surface of their input; runs of `measure` and `crossings` write
-- the measures and the crossings of the mesh of their input; runs of `tilings` write least tilings of the pairs of
-- their input; and runs of `check` accept only a least tiling.
use Rattle.std.proofs.Common.{◌≡◌, ℕ, List, [], ◌∷◌, length, Option, None, Some, refl, sym, subst, ap, ◌∙◌, All}
use Rattle.std.specs.Prelude.{IfSome}
use Rattle.std.specs.List.{AllZip}
use Rattle.std.specs.Io.KnownBytes.{Appends}
use Rattle.text_io.specs.Text.{kept_lines, lines}
use Rattle.section_core.specs.declared.parts.Version.TheVariants.{Two}
use Rattle.fku_types.specs.declared.limits.TheConstants.{MAX_CHECK_BYTES, MAX_INPUT_BYTES, MAX_MESH_BYTES}
use Rattle.section_core.specs.Parts.{Parts}
use Rattle.section_core.specs.Reading.{HasFileFault}
use Rattle.section_core.specs.Texts.{IsTextOfFile}
use Rattle.strip_graph.specs.Strips.{Strip}
use Rattle.row_paths.specs.Solutions.{Solution}
use Rattle.pair_pool.specs.Solvers.{SolvesEach}
use Rattle.cert_checker.specs.CertTexts.{certificate_parts}
use Rattle.cert_checker.specs.CertReading.{ReadsAsCertificate as ReadsAsCert, IsCertFault}
use Rattle.plane_geom.specs.Rings.{IsClosed}
use Rattle.triangle_meshes.specs.Meshes.{Surface, surface_of}
use Rattle.byu_text.specs.Byu.{byu_of}
use Rattle.surface_core.specs.Objects.{AreAllPairs, IsFoundIn, numbered, objects_in, surfaces_of}
use Rattle.section_pairs.specs.Pairs.{PairParts}
use Rattle.surface_core.specs.Surfaces.{Capping, by_contour, IsBuilt, IsBuiltWith, IsSurface, IsSurfaceWith, strips_in}
use Rattle.surface_core.specs.declared.surfaces.Built.{Built}
use Rattle.ring_caps.specs.RingSurfaces.{by_group, IsRingBuilt, IsRingFoundIn, IsRingSurface}
use Rattle.surface_cli.specs.declared.commands.Command.{Command}
use Rattle.surface_cli.specs.declared.commands.Command.TheVariants.{Reconstruct, RingCaps, Measure, Crossings, Tilings, Check}
use Rattle.surface_cli.specs.declared.words.Task.{Task}
use Rattle.command_replies.specs.declared.status.Status.{Status}
use Rattle.command_replies.specs.declared.status.Status.TheVariants.{Done, Refused, BadWords, ReadFault, WriteFault, NoMemory}
use Rattle.command_replies.specs.Reply.{told, NoFault, Tells}
use Rattle.command_replies.specs.Stages.{AreNumbered, IsFront, IsTextFault, IsTooLong, IsWhole, IsSurfaceOf, on_solutions}
use Rattle.surface_core.proofs.StripSteps.{are_least}
use Rattle.pair_commands.specs.Tilings.{tilings, tilings_text}
use Rattle.pair_commands.specs.OnePair.{IsNoPair, IsPairOf, on_pair}
use Rattle.pair_commands.specs.Check.{TellsVerdict, on_cert, verdict}
use Rattle.surface_commands.specs.Reconstruct.{reconstruct}
use Rattle.surface_commands.specs.RingCaps.{IsRingSurfaceOf, ring_caps}
use Rattle.byu_text.specs.Answers.{IsByuFault}
use Rattle.byu_text.specs.Reading.{ReadsAsMesh}
use Rattle.surface_commands.specs.Measure.{TellsMeasures}
use Rattle.surface_commands.specs.Crossings.{crossings_text}
use Rattle.surface_cli.specs.Commands.{rule_of}
use Rattle.surface_cli.specs.Out.{Answers, IsOutOf}
use Rattle.surface_cli.specs.Run.{Outside, Runs, WritesWhole}
use Rattle.surface_cli.specs.Headline.{AreAcceptable, IsLeastMesh, AsksFor, AsksForCheck, AsksForCrossings, AsksForMeasures, AsksForRingSurface, AsksForSurface, AsksForTilings, IsCrossed, IsJudged, IsLeastClosedSurface, IsLeastListing, IsLeastRingSurface, IsMeasured}
use Rattle.command_replies.proofs.ReplyLemmas.{went, written_done}
use Rattle.surface_cli.proofs.VerdictLines.{accepted_line}

are_acceptable : (strips : List Strip) (solutions : List Solution) → SolvesEach strips solutions
    → AreAcceptable strips solutions
are_acceptable strips solutions solved = record {
  count = solved.count;
  acceptable = λ k p x inside. (solved.each k p x inside).chosen.least.acceptable;
  cost = λ k p x inside. (solved.each k p x inside).cost;
}

same_text : {s t : List ℕ} {m n : ℕ} → told s m ≡ told t n → s ≡ t
same_text e = cc

-- each object has its mesh
surface_is : (C : Capping) (S : Parts) (b : Built) → IsBuiltWith C S b
    → IsLeastMesh (IsSurfaceWith C) S (surface_of b.mesh)
surface_is C S b is = record {
  pairs = is.pairs;
  are_pairs = is.are_pairs;
  tilings = is.solutions;
  acceptable = are_acceptable (strips_in is.pairs) is.solutions is.chosen;
  least = is.least;
  surface = is.surface;
}

least_each : (Is : Parts → Built → Type 0) (IsMadeOf : Parts → List PairParts → List Solution → Surface → Type 0)
    → ((S : Parts) (b : Built) → Is S b → IsLeastMesh IsMadeOf S (surface_of b.mesh))
    → (objects : List Parts) (each : List Built) → AllZip Is objects each
    → AllZip (IsLeastMesh IsMadeOf) objects (surfaces_of each)
least_each Is IsMadeOf make [] [] h = tt
least_each Is IsMadeOf make [] (b ∷ each) h = absurd h
least_each Is IsMadeOf make (S ∷ objects) [] h = absurd h
least_each Is IsMadeOf make (S ∷ objects) (b ∷ each) h = (make S b h.0, least_each Is IsMadeOf make objects each h.1)

surface_answers : (input text : List ℕ) (n : ℕ) → Answers Reconstruct input Done text n
    → IsLeastClosedSurface input text
surface_answers input text n is =
    let done = written_done is.0 text n is.2 in
    let read = went (IsTooLong MAX_INPUT_BYTES input) (IsWhole MAX_INPUT_BYTES input) (rule_of Reconstruct) is.0 is.1
    done.0 in
    let objects = went (IsTextFault read.0) (IsTextOfFile read.0) (reconstruct byu_of) is.0 read.2 done.0 in
    let surface = went (IsFoundIn objects.0) (IsSurfaceOf objects.0) (λ b. Tells (byu_of (surface_of b.mesh)) b.pairs)
    is.0 objects.2 done.0 in
    let built = surface.1.is_built in
    record {
      objects = objects.0;
      read = subst (λ (bytes : List ℕ). IsTextOfFile bytes objects.0) read.1.1 objects.1;
      meshes = surfaces_of built.each;
      least = least_each IsBuilt IsSurface (surface_is by_contour) (objects_in objects.0) built.each built.built;
      closed = subst (λ (m : Surface). All IsClosed m.parts) built.whole.mesh surface.1.closed;
      written = same_text (sym done.1 ∙ surface.2) ∙ ap byu_of built.whole.mesh;
    }

ring_answers : (input text : List ℕ) (n : ℕ) → Answers RingCaps input Done text n → IsLeastRingSurface input text
ring_answers input text n is =
    let done = written_done is.0 text n is.2 in
    let read = went (IsTooLong MAX_INPUT_BYTES input) (IsWhole MAX_INPUT_BYTES input) (rule_of RingCaps) is.0 is.1
    done.0 in
    let objects = went (IsTextFault read.0) (IsTextOfFile read.0) (ring_caps byu_of) is.0 read.2 done.0 in
    let surface = went (IsRingFoundIn objects.0) (IsRingSurfaceOf objects.0)
    (λ b. Tells (byu_of (surface_of b.mesh)) b.pairs) is.0 objects.2 done.0 in
    let built = surface.1.is_built in
    record {
      objects = objects.0;
      read = subst (λ (bytes : List ℕ). IsTextOfFile bytes objects.0) read.1.1 objects.1;
      meshes = surfaces_of built.each;
      least = least_each IsRingBuilt IsRingSurface (λ S b is. surface_is by_group S b is.is_built)
          (objects_in objects.0) built.each built.built;
      closed = subst (λ (m : Surface). All IsClosed m.parts) built.whole.mesh surface.1.closed;
      written = same_text (sym done.1 ∙ surface.2) ∙ ap byu_of built.whole.mesh;
    }

measure_answers : (input text : List ℕ) (n : ℕ) → Answers Measure input Done text n → IsMeasured input text
measure_answers input text n is =
    let done = written_done is.0 text n is.2 in
    let read = went (IsTooLong MAX_MESH_BYTES input) (IsWhole MAX_MESH_BYTES input) (rule_of Measure) is.0 is.1 done.0
    in
    let mesh = went (IsByuFault read.0) (ReadsAsMesh read.0) TellsMeasures is.0 read.2 done.0 in
    record {
      mesh = mesh.0;
      read = subst (λ (bytes : List ℕ). ReadsAsMesh bytes mesh.0) read.1.1 mesh.1;
      measures = mesh.2.measures;
      are = mesh.2.are;
      written = same_text (sym done.1 ∙ mesh.2.tells);
    }

crossings_answers : (input text : List ℕ) (n : ℕ) → Answers Crossings input Done text n → IsCrossed input text
crossings_answers input text n is =
    let done = written_done is.0 text n is.2 in
    let read = went (IsTooLong MAX_MESH_BYTES input) (IsWhole MAX_MESH_BYTES input) (rule_of Crossings) is.0 is.1 done.0
    in
    let mesh = went (IsByuFault read.0) (ReadsAsMesh read.0) (λ (m : Surface). Tells (crossings_text m) 0) is.0 read.2
    done.0 in
    record {
      mesh = mesh.0;
      read = subst (λ (bytes : List ℕ). ReadsAsMesh bytes mesh.0) read.1.1 mesh.1;
      written = same_text (sym done.1 ∙ mesh.2);
    }

tilings_answers : (input text : List ℕ) (n : ℕ) → Answers Tilings input Done text n → IsLeastListing input text
tilings_answers input text n is =
    let done = written_done is.0 text n is.2 in
    let read = went (IsTooLong MAX_INPUT_BYTES input) (IsWhole MAX_INPUT_BYTES input) (rule_of Tilings) is.0 is.1 done.0
    in
    let objects = went (IsTextFault read.0) (IsTextOfFile read.0) tilings is.0 read.2 done.0 in
    let F = objects.0 in
    let pairs = went (IsFoundIn F) (AreAllPairs F)
    (λ pss. on_solutions (numbered pss) (λ xs. Tells (tilings_text F pss xs) (length (numbered pss)))) is.0
    objects.2 done.0 in
    let pss = pairs.0 in
    let solved = went NoFault (SolvesEach (strips_in (numbered pss)))
    (λ xs. Tells (tilings_text F pss xs) (length (numbered pss))) is.0 pairs.2 done.0 in
    record {
      objects = F;
      read = subst (λ (bytes : List ℕ). IsTextOfFile bytes F) read.1.1 objects.1;
      pairs = pss;
      are_pairs = pairs.1;
      tilings = solved.0;
      acceptable = are_acceptable (strips_in (numbered pss)) solved.0 solved.1;
      least = are_least (strips_in (numbered pss)) solved.0 solved.1;
      written = same_text {t = tilings_text F pss solved.0} {n = length (numbered pss)} (sym done.1 ∙ solved.2);
    }

check_answers : (input text : List ℕ) (n : ℕ) → Answers Check input Done text n → IsJudged input text
check_answers input text n is k c accepts =
    let done = written_done is.0 text n is.2 in
    let read = went (IsTooLong MAX_CHECK_BYTES input) (IsWhole MAX_CHECK_BYTES input) (rule_of Check) is.0 is.1 done.0
    in
    let last = length (lines read.0) in
    let front = went (HasFileFault Two (kept_lines read.0)) (IsFront read.0) (λ f. verdict last f.0 f.1) is.0 read.2
    done.0 in
    let F = front.0.0 in
    let tail = front.0.1 in
    let numbered = went (IsFoundIn F) (AreNumbered F)
    (λ ps. on_cert last tail (λ t. on_pair ps t.pair (λ p. TellsVerdict p.strip t))) is.0 front.2 done.0 in
    let ps = numbered.0 in
    let cert = went (IsCertFault tail last) (λ t. ReadsAsCert tail (certificate_parts t))
    (λ t. on_pair ps t.pair (λ p. TellsVerdict p.strip t)) is.0 numbered.2 done.0 in
    let t = cert.0 in
    let pair = went (IsNoPair ps t.pair) (IsPairOf ps t.pair) (λ p. TellsVerdict p.strip t) is.0 cert.2 done.0 in
    let says = pair.2 in
    let head = cert.1.lawful.head in
    let line = accepted_line k t.pair c t.cert.cost says.verdict head.pair.1 head.cost
    (sym accepts ∙ same_text (sym done.1 ∙ says.tells)) in
    record {
      objects = F;
      tail = tail;
      front = subst (λ (bytes : List ℕ). IsFront bytes (F, tail)) read.1.1 front.1;
      certificate = t;
      reads = cert.1;
      says = (sym line.1, sym line.2);
      pairs = ps;
      are_pairs = numbered.1;
      pair = pair.0;
      is_pair = subst (λ (m : ℕ). IsPairOf ps m pair.0) (sym line.1) pair.1;
      least = says.sound line.0;
    }

-- the answers of a command to inputs have a property, which the written text then has
abbrev Tell : Command → (List ℕ → List ℕ → Type 0) → Type 0
Tell command Is = (input text : List ℕ) (n : ℕ) → Answers command input Done text n → Is input text

abbrev Told : (List ℕ → List ℕ → Type 0) → Outside → Option (List ℕ) → Type 0
Told Is o left = IfSome left (λ input. (text : List ℕ) × Is input text × Appends o.held o.held_after text)

told_text : (command : Command) (Is : List ℕ → List ℕ → Type 0) → Tell command Is
    → (words : List (List ℕ)) (o : Outside) → WritesWhole words o Done → AsksFor command words
    → (left : Option (List ℕ)) → o.left ≡ left → Told Is o left
told_text command Is tell words o whole asks None e = tt
told_text command Is tell words o whole asks (Some input) e =
    let wrote = whole input (λ reads. e) in (
      wrote.0,
      tell input wrote.0 wrote.1
          (subst (λ (m : Option Task). IsOutOf m input Done wrote.0 wrote.1) asks.1 wrote.2),
      wrote.3,
    )

told_of : (command : Command) (Is : List ℕ → List ℕ → Type 0) → Tell command Is
    → (words : List (List ℕ)) (o : Outside) (r : Status) → Runs words o r → r ≡ Done → AsksFor command words
    → Told Is o o.left
told_of command Is tell words o Done runs e asks = told_text command Is tell words o runs.1 asks o.left refl
told_of command Is tell words o Refused runs e asks = absurd (cc e)
told_of command Is tell words o BadWords runs e asks = absurd (cc e)
told_of command Is tell words o ReadFault runs e asks = absurd (cc e)
told_of command Is tell words o WriteFault runs e asks = absurd (cc e)
told_of command Is tell words o NoMemory runs e asks = absurd (cc e)

pub headline : (words : List (List ℕ)) (o : Outside) (r : Status) → Runs words o r → r ≡ Done → AsksForSurface words
    → IfSome o.left (λ input. (text : List ℕ) × IsLeastClosedSurface input text × Appends o.held o.held_after text)
headline words o r runs e asks = told_of Reconstruct IsLeastClosedSurface surface_answers words o r runs e asks

pub ring_headline : (words : List (List ℕ)) (o : Outside) (r : Status) → Runs words o r → r ≡ Done
    → AsksForRingSurface words → IfSome o.left
    (λ input. (text : List ℕ) × IsLeastRingSurface input text × Appends o.held o.held_after text)
ring_headline words o r runs e asks = told_of RingCaps IsLeastRingSurface ring_answers words o r runs e asks

pub measure_headline : (words : List (List ℕ)) (o : Outside) (r : Status) → Runs words o r → r ≡ Done
    → AsksForMeasures words → IfSome o.left
    (λ input. (text : List ℕ) × IsMeasured input text × Appends o.held o.held_after text)
measure_headline words o r runs e asks = told_of Measure IsMeasured measure_answers words o r runs e asks

pub crossings_headline : (words : List (List ℕ)) (o : Outside) (r : Status) → Runs words o r → r ≡ Done
    → AsksForCrossings words → IfSome o.left
    (λ input. (text : List ℕ) × IsCrossed input text × Appends o.held o.held_after text)
crossings_headline words o r runs e asks = told_of Crossings IsCrossed crossings_answers words o r runs e asks

pub tilings_headline : (words : List (List ℕ)) (o : Outside) (r : Status) → Runs words o r → r ≡ Done
    → AsksForTilings words → IfSome o.left
    (λ input. (text : List ℕ) × IsLeastListing input text × Appends o.held o.held_after text)
tilings_headline words o r runs e asks = told_of Tilings IsLeastListing tilings_answers words o r runs e asks

pub check_headline : (words : List (List ℕ)) (o : Outside) (r : Status) → Runs words o r → r ≡ Done → AsksForCheck words
    → IfSome o.left (λ input. (text : List ℕ) × IsJudged input text × Appends o.held o.held_after text)
check_headline words o r runs e asks = told_of Check IsJudged check_answers words o r runs e asks
