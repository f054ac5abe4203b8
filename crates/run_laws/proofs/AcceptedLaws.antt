-- `check` accepts what `certify` writes, after the text that it was written for.
use Rattle.std.proofs.Common.{◌≡◌, ℕ, ◌<◌, ◌≤◌, ℤ, List, ◌++◌, length, Some, refl, sym, subst, ap, ◌∙◌, arith, length-append}
use Rattle.std.specs.Prelude.{slice_get, slice_index_or}
use Rattle.std.proofs.lemmas.List.{get_or-map, length-map}
use Rattle.std.proofs.lemmas.Option.{get_or_from_slice_get, slice_get-get_or, slice_get_within}
use Rattle.fku_types.specs.declared.limits.TheConstants.{MAX_CHECK_BYTES, MAX_INPUT_BYTES}
use Rattle.text_io.specs.Text.{kept_lines, lines}
use Rattle.text_io.specs.WordLists.{Kept}
use Rattle.fku_types.specs.declared.fault.Fault.{Fault}
use Rattle.section_core.specs.declared.parts.Version.TheVariants.{Two}
use Rattle.section_core.specs.Parts.{FileParts}
use Rattle.section_core.specs.Reading.{HasFileFault}
use Rattle.section_core.specs.Texts.{IsTextOfFile}
use Rattle.strip_graph.specs.Certificates.{Certifies}
use Rattle.strip_graph.specs.Strips.{Strip, arcs, cols, rows}
use Rattle.row_paths.specs.Solutions.{Solution, Solves}
use Rattle.row_paths.proofs.SolutionLaws.{solves_unique}
use Rattle.pair_pool.specs.Solvers.{SolvesEach}
use Rattle.cert_checker.specs.declared.certs.CertText.{CertText}
use Rattle.cert_checker.specs.declared.certs.Verdict.TheVariants.{Accept}
use Rattle.cert_checker.specs.CertTexts.{CertParts, cert_text, certificate_parts}
use Rattle.text_io.specs.Formats.{kept_behind}
use Rattle.cert_checker.specs.CertReading.{IsCertFault, ReadsAsCertificate}
use Rattle.cert_checker.specs.Verdicts.{IsVerdict}
use Rattle.cert_checker.proofs.TextLaws.{reads_one}
use Rattle.cert_checker.proofs.PrintedSizes.{text_size}
use Rattle.section_pairs.specs.Pairs.{PairParts}
use Rattle.surface_core.specs.Objects.{AreAllPairs, IsFoundIn, numbered}
use Rattle.surface_core.specs.Surfaces.{strips_in}
use Rattle.surface_core.proofs.ObjectLaws.{objects_paired_or_found}
use Rattle.surface_cli.specs.declared.commands.Command.TheVariants.{Certify, Check, Tilings}
use Rattle.command_replies.specs.declared.status.Status.{Status}
use Rattle.command_replies.specs.declared.status.Status.TheVariants.{Done}
use Rattle.command_replies.specs.Reply.{IsWritten, NoFault, Reply, Tells, Then, fails, goes_on, told}
use Rattle.command_replies.specs.Stages.{AreNumbered, IsFront, IsTooLong, IsWhole, on_input, on_objects, on_solutions}
use Rattle.command_replies.proofs.ReplyLemmas.{went}
use Rattle.pair_commands.specs.Certify.{TellsCert, certificate, certify, on_solution}
use Rattle.pair_commands.specs.Check.{TellsVerdict, check, on_cert, verdict, verdict_text}
use Rattle.pair_commands.specs.OnePair.{IsNoPair, IsPairOf, on_pair}
use Rattle.pair_commands.specs.Tilings.{tilings, tilings_text}
use Rattle.surface_cli.specs.Out.{Answers, IsOut}
use Rattle.surface_cli.specs.Headline.{AsksFor}
use Rattle.run_laws.specs.Laws.{EndsLine, IsListedCost}
use Rattle.run_laws.proofs.AfterFeed.{front_of}
use Rattle.run_laws.proofs.CertLaws.{cert_or_fault, no_such, same_pair}
use Rattle.run_laws.proofs.DoneLaws.{of_input, of_objects, of_words, same_text}
use Rattle.run_laws.proofs.ReplyLaws.{IsTelling, IsToldFault}
use Rattle.run_laws.proofs.RunLaws.{telling}
use Rattle.run_laws.proofs.TextLaws.{front_or_fault, one_front, one_reading}
use Rattle.run_laws.proofs.ValidLaws.{as_many}

-- ---- a stage that leaves one reply
abbrev Leaves : Reply → (Reply → Type 0) → Type 0
Leaves x rule = (reply : Reply) → IsTelling reply → rule reply → reply ≡ x

leaves : {X : Type 0} (x : Reply) (IsFault : Fault → Type 0) (Is : X → Type 0) (rule : X → Reply → Type 0)
    → ((f : Fault) → IsToldFault f → IsFault f → ⊥) → ((y : X) → Is y → Leaves x (rule y))
    → Leaves x (Then IsFault Is rule)
leaves x IsFault Is rule never inner reply t (fails f h) = absurd (never f t h)
leaves x IsFault Is rule never inner reply t (goes_on y r is h) = inner y is r t h

-- ---- the certificate of a pair
record IsCertified (k : ℕ) (input cert : List ℕ) : Type 0 where
  short : length input ≤ MAX_INPUT_BYTES
  objects : FileParts
  read : IsTextOfFile input objects
  pairs : List PairParts
  numbered_are : AreNumbered objects pairs
  pair : PairParts
  is_pair : IsPairOf pairs k pair
  solution : Solution
  solves : Solves pair.strip solution
  values : List ℤ
  holds : Certifies (arcs pair.strip) (rows pair.strip) (cols pair.strip) (rows pair.strip) (cols pair.strip)
      solution.cost solution.row solution.word values
  reads : (passed : ℕ) → ReadsAsCertificate (kept_behind passed cert) (certificate k pair.strip solution values)
  written : cert ≡ cert_text (certificate k pair.strip solution values)

certified : (k : ℕ) (input cert : List ℕ) (n : ℕ) → Answers (Certify k) input Done cert n → IsCertified k input cert
certified k input cert n is =
    let r : Reply = told cert n in
    let file = of_objects MAX_INPUT_BYTES (certify k) input is.0 cert n is.1 is.2 in
    let F = file.0 in
    let ps = went (IsFoundIn F) (AreNumbered F) (λ qs. on_pair qs k (λ p. on_solution p.strip (TellsCert k p.strip))) r
    file.2 tt in
    let p = went (IsNoPair ps.0 k) (IsPairOf ps.0 k) (λ p. on_solution p.strip (TellsCert k p.strip)) r ps.2 tt in
    let strip = p.0.strip in
    let s = went NoFault (Solves strip) (TellsCert k strip) r p.2 tt in
    let t = s.2 in
    let text : cert ≡ cert_text (certificate k strip s.0 t.values) =
    same_text cert (cert_text (certificate k strip s.0 t.values)) n 1 t.tells in
    record {
      short = (of_input MAX_INPUT_BYTES (on_objects (certify k)) input is.0 cert n is.1 is.2).0;
      objects = F;
      read = file.1;
      pairs = ps.0;
      numbered_are = ps.1;
      pair = p.0;
      is_pair = p.1;
      solution = s.0;
      solves = s.1;
      values = t.values;
      holds = t.holds;
      reads = λ passed. subst (λ (b : List ℕ).
          ReadsAsCertificate (kept_behind passed b) (certificate k strip s.0 t.values)) (sym text) (t.reads passed);
      written = text;
    }

-- ---- its cost is the one that is listed
listed_cost : (k : ℕ) (input cert listed : List ℕ) (n : ℕ) (c : IsCertified k input cert)
    → Answers Tilings input Done listed n → IsListedCost input listed k c.solution.cost
listed_cost k input cert listed n c is =
    let r : Reply = told listed n in
    let file = of_objects MAX_INPUT_BYTES tilings input is.0 listed n is.1 is.2 in
    let F = c.objects in
    let tells = subst (λ (G : FileParts). tilings G r) (one_reading input file.0 F file.1 c.read) file.2 in
    let pss = went (IsFoundIn F) (AreAllPairs F)
    (λ qss. on_solutions (numbered qss) (λ xs. Tells (tilings_text F qss xs) (length (numbered qss)))) r tells tt in
    let ps = numbered pss.0 in
    let xs = went NoFault (SolvesEach (strips_in ps)) (λ ys. Tells (tilings_text F pss.0 ys) (length ps)) r pss.2 tt in
    let solutions = xs.0 in
    let place = c.is_pair.place in
    let p = c.pair in
    let s = c.solution in
    let same : c.pairs ≡ ps = as_many F c.pairs ps c.numbered_are (pss.0, pss.1, refl) in
    let there : slice_get ps place ≡ Some p =
    subst (λ (qs : List PairParts). slice_get qs place ≡ Some p) same c.is_pair.there in
    let below : place < length ps = slice_get_within ps place p there in
    let strips : length (strips_in ps) ≡ length ps = length-map ps (λ (q : PairParts). q.strip) in
    let mine : Solution = slice_index_or solutions place s in
    let strip : slice_index_or (strips_in ps) place p.strip ≡ p.strip =
    get_or-map (λ (q : PairParts). q.strip) ps place p p.strip below
    ∙ ap (λ (q : PairParts). q.strip) (get_or_from_slice_get ps place p p there) in
    let solves : Solves p.strip mine =
    subst (λ (q : Strip). Solves q mine) strip (xs.1.each place p.strip s (omega (arith, below, strips))) in
    record {
      objects = F;
      read = c.read;
      pairs = pss.0;
      are_pairs = pss.1;
      solutions = solutions;
      solved = xs.1;
      written = same_text listed (tilings_text F pss.0 solutions) n (length ps) xs.2;
      place = place;
      counted = c.is_pair.counted;
      solution = mine;
      there = slice_get-get_or solutions place s (omega (arith, below, strips, xs.1.count));
      same = ap (λ (x : Solution). x.cost) (solves_unique p.strip s mine c.solves solves);
    }

-- ---- it is accepted
-- no other verdict
judged : (k : ℕ) (p : Strip) (s : Solution) (values : List ℤ) (t : CertText)
    → certificate_parts t ≡ certificate k p s values
    → Certifies (arcs p) (rows p) (cols p) (rows p) (cols p) s.cost s.row s.word values → IsVerdict p t.cert Accept
judged k p s values t e holds = subst
    (λ (C : CertParts). Certifies (arcs p) (rows p) (cols p) C.head.rows C.head.cols C.head.cost C.head.start C.word
    C.values) (sym e) holds

verdict_left : (k : ℕ) (p : Strip) (s : Solution) (values : List ℤ) (t : CertText)
    → certificate_parts t ≡ certificate k p s values
    → Certifies (arcs p) (rows p) (cols p) (rows p) (cols p) s.cost s.row s.word values
    → Leaves (told (verdict_text k s.cost Accept) 0) (TellsVerdict p t)
verdict_left k p s values t e holds reply u h =
    let accepts : Accept ≡ h.verdict = h.only Accept (judged k p s values t e holds) in
    h.tells ∙ ap (λ v. told (verdict_text t.pair t.cert.cost v) 0) (sym accepts)
    ∙ ap (λ (C : CertParts). told (verdict_text C.head.pair C.head.cost Accept) 0) e

check_left : (k : ℕ) (input cert : List ℕ) (c : IsCertified k input cert) → EndsLine input
    → Leaves (told (verdict_text k c.solution.cost Accept) 0) (check (input ++ cert))
check_left k input cert c ends =
    let whole = input ++ cert in
    let last = length (lines whole) in
    let passed = length (lines input) in
    let tail = kept_behind passed cert in
    let F = c.objects in
    let p = c.pair.strip in
    let C = certificate k p c.solution c.values in
    let x : Reply = told (verdict_text k c.solution.cost Accept) 0 in
    let front = front_of input cert F ends c.read in
    let reads : ReadsAsCertificate tail C = c.reads passed in
    let on_texts : List PairParts → CertText → Reply → Type 0 =
    λ ps t. on_pair ps t.pair (λ q. TellsVerdict q.strip t) in
    let of_pair : (t : CertText) → certificate_parts t ≡ C → Leaves x (on_texts c.pairs t) =
    λ t e. (let number : t.pair ≡ k = ap (λ (D : CertParts). D.head.pair) e in
    leaves x (IsNoPair c.pairs t.pair) (IsPairOf c.pairs t.pair) (λ q. TellsVerdict q.strip t)
    (λ f u none. no_such c.pairs t.pair k c.pair f number none c.is_pair)
    (λ q is. subst (λ (q : PairParts). Leaves x (TellsVerdict q.strip t))
    (same_pair c.pairs k t.pair c.pair q (sym number) c.is_pair is)
    (verdict_left k p c.solution c.values t e c.holds))) in
    let of_cert : Leaves x (on_cert last tail (on_texts c.pairs)) =
    leaves x (IsCertFault tail last) (λ t. ReadsAsCertificate tail (certificate_parts t)) (on_texts c.pairs)
    (λ f u h. cert_or_fault tail last C f u reads h)
    (λ t is. of_pair t (reads_one tail (certificate_parts t) C is reads)) in
    let of_file : Leaves x (verdict last F tail) =
    leaves x (IsFoundIn F) (AreNumbered F) (λ ps. on_cert last tail (on_texts ps))
    (λ f u h. objects_paired_or_found F c.numbered_are.0 f c.numbered_are.1 h)
    (λ ps is. subst (λ (qs : List PairParts). Leaves x (on_cert last tail (on_texts qs)))
    (as_many F c.pairs ps c.numbered_are is) of_cert) in
    leaves x (HasFileFault Two (kept_lines whole)) (IsFront whole) (λ f. verdict last f.0 f.1)
    (λ f u h. front_or_fault whole (F, tail) f front h)
    (λ f is. subst (λ (g : FileParts × List Kept). Leaves x (verdict last g.0 g.1))
    (one_front whole (F, tail) f front is) of_file)

accepted : (k : ℕ) (input cert shown : List ℕ) (status : Status) (n : ℕ) (c : IsCertified k input cert) → EndsLine input
    → Answers Check (input ++ cert) status shown n → (status ≡ Done) × (shown ≡ verdict_text k c.solution.cost Accept)
    × (n ≡ 0)
accepted k input cert shown status n c ends is =
    let whole = input ++ cert in
    let C = certificate k c.pair.strip c.solution c.values in
    let size : length whole ≤ MAX_CHECK_BYTES =
    omega (arith, length-append input cert, c.short, ap length c.written, text_size C (c.reads 0).lawful) in
    let x : Reply = told (verdict_text k c.solution.cost Accept) 0 in
    let left : Leaves x (on_input (Some MAX_CHECK_BYTES) check whole) =
    leaves x (IsTooLong MAX_CHECK_BYTES whole) (IsWhole MAX_CHECK_BYTES whole) check (λ f u h. omega (arith, size, h.0))
    (λ bytes h. subst (λ (b : List ℕ). Leaves x (check b)) (sym h.1) (check_left k input cert c ends)) in
    subst (λ (reply : Reply). IsWritten reply status shown n) (left is.0 (telling is.0 status shown n is.2) is.1) is.2

pub certificates_hold : (words lists checks : List (List ℕ)) (k : ℕ) (input cert listed shown : List ℕ)
    (status : Status) (l m n : ℕ) → AsksFor (Certify k) words → IsOut words input Done cert l → AsksFor Tilings lists
    → IsOut lists input Done listed m
    → AsksFor Check checks → EndsLine input → IsOut checks (input ++ cert) status shown n → (cost : ℤ)
    × IsListedCost input listed k cost × (status ≡ Done) × (shown ≡ verdict_text k cost Accept) × (n ≡ 0)
certificates_hold words lists checks k input cert listed shown status l m n asks out tilings_asked lists_out check_asked
    ends verdict_out =
    let c = certified k input cert l (of_words (Certify k) words input cert Done l asks out) in
    let cost = listed_cost k input cert listed m c (of_words Tilings lists input listed Done m tilings_asked lists_out)
    in
    let told = accepted k input cert shown status n c ends
    (of_words Check checks (input ++ cert) shown status n check_asked verdict_out) in
    (c.solution.cost, cost, told.0, told.1, told.2)
