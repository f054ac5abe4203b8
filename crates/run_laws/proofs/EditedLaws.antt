-- What `edit` writes ends with what `reconstruct` writes for the edited sections.
use Rattle.std.proofs.Common.{◌≡◌, ℕ, ◌+◌, ◌<◌, ◌≤◌, ℤ, true, false, List, [], ◌∷◌, length, map, Option, None, Some, Ok, Err, refl, sym, subst, arith, set}
use Rattle.std.specs.Prelude.{nat_le, nat_lt, not, sum_by}
use Rattle.std.specs.List.{AllByRecursion, AllZip, find, insert, list_any, remove}
use Rattle.std.specs.Option.{is_some}
use Rattle.std.proofs.lemmas.Int.{ints}
use Rattle.std.proofs.lemmas.Bool.{leb-false, ltb-false, not-false}
use Rattle.std.proofs.lemmas.List.{length-map}
use Rattle.std.proofs.Math.ListN.{length-set}
use Rattle.std.proofs.lemmas.List.Edits.{length-insert, length-remove}
use Rattle.fku_types.specs.declared.limits.TheConstants.{MAX_INPUT_BYTES}
use Rattle.text_io.specs.Text.{kept_lines}
use Rattle.text_io.specs.WordLists.{Kept, Line}
use Rattle.fku_types.proofs.ListLaws.{all_map}
use Rattle.section_core.specs.declared.parts.Version.TheVariants.{Two}
use Rattle.section_core.specs.Accepted.{IsAccepted}
use Rattle.section_core.specs.Canonical.{text_of}
use Rattle.section_core.specs.Laws.{IsSpot}
use Rattle.section_core.specs.Parts.{ContourParts, FileParts, Parts, as_file, contours_of}
use Rattle.section_core.specs.Reading.{HasFileFault}
use Rattle.section_core.proofs.Canon.{file_text_reads}
use Rattle.section_core.proofs.Length.{file_short}
use Rattle.section_core.proofs.OneObject.{accepted-to, objects_accepted}
use Rattle.section_edits.specs.declared.edit.Edit.{Edit}
use Rattle.section_edits.specs.declared.edit.Edit.TheVariants.{AddContour, Insert, Move, Remove, RemoveContour}
use Rattle.section_edits.specs.Changes.{changed}
use Rattle.section_core.specs.Views.{spot_at}
use Rattle.section_edits.specs.Contours.{contour_of, has_contour_named, has_name, has_section_at, spots_of}
use Rattle.section_edits.specs.Lines.{IsWritableEdit}
use Rattle.section_edits.specs.Ready.{IsReadyParts}
use Rattle.section_edits.specs.Refusals.{is_far, IsRefusal, vertex_count_of}
use Rattle.section_edits.proofs.AddedContours.{ready_added}
use Rattle.section_edits.proofs.Answering.{passed}
use Rattle.section_edits.proofs.ChangedPoints.{all_near, every_insert, every_remove, every_set, near}
use Rattle.section_edits.proofs.DroppedContours.{ready_dropped}
use Rattle.section_edits.proofs.Lawful.{accepted, passes, ready}
use Rattle.section_edits.proofs.Named.{its_spots, whole_named}
use Rattle.section_edits.proofs.ReshapedContours.{ready_reshaped}
use Rattle.section_edits.specs.Edits.{IsEdited}
use Rattle.triangle_meshes.specs.Meshes.{surface_of}
use Rattle.byu_text.specs.Byu.{byu_of}
use Rattle.section_pairs.specs.SectionFaults.{ArePairs, IsFound}
use Rattle.surface_core.specs.Objects.{IsJoined, alone, objects_in}
use Rattle.surface_core.specs.declared.surfaces.Built.{Built}
use Rattle.surface_cli.specs.declared.commands.Command.TheVariants.{Edit as EditCommand, Reconstruct}
use Rattle.command_replies.specs.declared.status.Status.TheVariants.{Done}
use Rattle.command_replies.specs.Reply.{NoFault, Reply, Tells, Then, goes_on, told}
use Rattle.command_replies.specs.Stages.{AreSeveral, IsFront, IsOnly, IsSurfaceOf, IsSurfaceOfOne, on_front, on_surface_of}
use Rattle.command_replies.proofs.ReplyLemmas.{went}
use Rattle.surface_commands.specs.Edit.{LineAnswer, AreAnswers, AreFew, Editing, IsEditing, IsTooMany, StandsFor, edit, edit_sections, edits_text, on_edits, solved_for}
use Rattle.surface_cli.specs.Out.{Answers, IsOut}
use Rattle.surface_cli.specs.Headline.{AsksFor}
use Rattle.run_laws.specs.Laws.{AreEditsOf}
use Rattle.run_laws.proofs.DoneLaws.{by_words, of_input, of_words, same_text}
use Rattle.run_laws.proofs.ThreeLaws.{enough}
use Rattle.triangle_meshes.proofs.JoinedMeshes.{one_joined}

-- ---- an edit of accepted sections leaves accepted ones
-- the points of a contour that exists
record AreEnough (spots : List (ℤ × ℤ)) : Type 0 where
  some : 3 ≤ length spots
  in_range : AllByRecursion IsSpot spots

named : (S : Parts) (name : List ℕ) (o : Option ContourParts) → IsReadyParts S → contour_of S.sections name ≡ o
    → is_some o ≡ true → AreEnough (spots_of S.sections name)
named S name None r e h = absurd (cc)
named S name (Some k) r e h =
    let whole = whole_named S name k e r in
    subst AreEnough (sym (its_spots S.sections name k e))
    (record { some = enough (length k.points) k.count whole.0.1 whole.1; in_range = whole.2 })

there : (S : Parts) (name : List ℕ) → IsReadyParts S → not (has_contour_named S.sections name) ≡ false
    → AreEnough (spots_of S.sections name)
there S name r h = named S name (contour_of S.sections name) r refl (not-false (has_contour_named S.sections name) h)

missing : (S : Parts) (name : List ℕ) (o : Option ContourParts) → contour_of S.sections name ≡ o → is_some o ≡ false
    → find (has_name name) (contours_of S.sections) ≡ None
missing S name None e h = e
missing S name (Some k) e h = absurd (cc)

changed_accepted : (S : Parts) (e : Edit) → IsAccepted S → IsWritableEdit e → IsRefusal S e None
    → IsAccepted (changed S e)
changed_accepted S (Move name i x y) a w h =
    let p = passed S (Move name i x y) h in
    let r = ready S a in
    let near_by = passes (is_far (record { x = x; y = y })) _ _ p.own in
    let has = passes (not (has_contour_named S.sections name)) _ _ near_by.1 in
    let within = passes (nat_le (vertex_count_of S name) i) _ _ has.1 in
    let old = there S name r has.0 in
    accepted (changed S (Move name i x y))
    (ready_reshaped S name (set (spots_of S.sections name) i (x, y)) r
    (omega (arith, old.some, length-set (spots_of S.sections name) i (x, y)))
    (every_set IsSpot (spots_of S.sections name) i (x, y) old.in_range (near (record { x = x; y = y }) near_by.0)))
    p.late
changed_accepted S (Insert name i x y) a w h =
    let p = passed S (Insert name i x y) h in
    let r = ready S a in
    let near_by = passes (is_far (record { x = x; y = y })) _ _ p.own in
    let has = passes (not (has_contour_named S.sections name)) _ _ near_by.1 in
    let within = passes (nat_lt (vertex_count_of S name) i) _ _ has.1 in
    let old = there S name r has.0 in
    accepted (changed S (Insert name i x y))
    (ready_reshaped S name (insert (spots_of S.sections name) i (x, y)) r
    (omega (
      arith,
      old.some,
      length-insert (spots_of S.sections name) i (x, y)
          (ltb-false (vertex_count_of S name) i within.0),
    ))
    (every_insert IsSpot (spots_of S.sections name) i (x, y) old.in_range (near (record { x = x; y = y }) near_by.0)))
    p.late
changed_accepted S (Remove name i) a w h =
    let p = passed S (Remove name i) h in
    let r = ready S a in
    let has = passes (not (has_contour_named S.sections name)) _ _ p.own in
    let within = passes (nat_le (vertex_count_of S name) i) _ _ has.1 in
    let many = passes (nat_le (vertex_count_of S name) 3) _ _ within.1 in
    let old = there S name r has.0 in
    let below : i < length (spots_of S.sections name) = leb-false (vertex_count_of S name) i within.0 in
    let four : 3 < length (spots_of S.sections name) = leb-false (vertex_count_of S name) 3 many.0 in
    accepted (changed S (Remove name i))
    (ready_reshaped S name (remove (spots_of S.sections name) i) r
    (omega (arith, four, length-remove (spots_of S.sections name) i below))
    (every_remove IsSpot (spots_of S.sections name) i old.in_range)) p.late
changed_accepted S (AddContour z name points) a w h =
    let p = passed S (AddContour z name points) h in
    let r = ready S a in
    let near_by = passes (list_any is_far points) _ _ p.own in
    let section = passes (not (has_section_at S.sections z)) _ _ near_by.1 in
    let many = passes (nat_lt (length points) 3) _ _ section.1 in
    let new = passes (has_contour_named S.sections name) _ _ many.1 in
    let three : 3 ≤ length points = ltb-false (length points) 3 many.0 in
    accepted (changed S (AddContour z name points))
    (ready_added S z name (map spot_at points) r w.1 (missing S name (contour_of S.sections name) refl new.0)
    (omega (arith, three, length-map points spot_at)) (all_near points near_by.0)) p.late
changed_accepted S (RemoveContour name) a w h =
    let p = passed S (RemoveContour name) h in
    accepted (changed S (RemoveContour name)) (ready_dropped S name (ready S a)) p.late

edited_accepted : (S T : Parts) (e : Edit) → IsAccepted S → IsWritableEdit e → IsEdited S e T → IsAccepted T
edited_accepted S T e a w d = subst IsAccepted (sym d.parts) (changed_accepted S e a w d.not_refused)

answers_accepted : (S : Parts) (lines : List Line) (es : List (Option Edit)) (answers : List LineAnswer) (U : Parts)
    → IsAccepted S → AllZip StandsFor lines es → AreAnswers S es answers U → IsAccepted U
answers_accepted S [] [] [] U a r h = subst IsAccepted (sym h) a
answers_accepted S [] [] (x ∷ answers) U a r h = absurd h
answers_accepted S [] (e ∷ es) answers U a r h = absurd r
answers_accepted S (line ∷ lines) [] answers U a r h = absurd r
answers_accepted S (line ∷ lines) (e ∷ es) [] U a r h = absurd h
answers_accepted S (line ∷ lines) (None ∷ es) (Ok d ∷ answers) U a r h = absurd h.1
answers_accepted S (line ∷ lines) (None ∷ es) (Err f ∷ answers) U a r h =
    answers_accepted h.0 lines es answers U (subst IsAccepted (sym h.1.1) a) r.1 h.2
answers_accepted S (line ∷ lines) (Some e ∷ es) (Ok d ∷ answers) U a r h =
    answers_accepted h.0 lines es answers U (edited_accepted S h.0 e a r.0.1 h.1.0) r.1 h.2
answers_accepted S (line ∷ lines) (Some e ∷ es) (Err f ∷ answers) U a r h =
    answers_accepted h.0 lines es answers U (subst IsAccepted (sym h.1.1) a) r.1 h.2

-- the only object of a front
only_accepted : (bytes : List ℕ) (F : FileParts) (tail : List Kept) (S : Parts) → IsFront bytes (F, tail) → IsOnly F S
    → IsAccepted S
only_accepted bytes F tail S front only =
    let each : AllByRecursion IsAccepted (objects_in F) =
    all_map IsAccepted (alone F) F.objects (objects_accepted F front.0.is_file front.0.lawful front.1) in
    (subst (AllByRecursion IsAccepted) only each).0

joined_alone : (b : Built) → IsJoined (b ∷ []) b
joined_alone b = record {
  mesh = sym (one_joined (surface_of b.mesh));
  pairs = omega arith;
  cost = omega (arith, ints);
  folded = omega arith;
}

as_objects : (S : Parts) (b : Built) → IsSurfaceOfOne S b → IsSurfaceOf (as_file S) b
as_objects S b is = record {
  is_built = record { each = b ∷ []; built = (is.is_built, tt); whole = joined_alone b };
  valid = is.valid;
  closed = is.closed;
}

reconstructed : (S : Parts) (b : Built) → IsAccepted S → IsSurfaceOfOne S b
    → Answers Reconstruct (text_of S) Done (byu_of (surface_of b.mesh)) b.pairs
reconstructed S b a is =
    let file = accepted-to S a in
    let reply : Reply = told (byu_of (surface_of b.mesh)) b.pairs in (
      reply,
      goes_on (text_of S) reply (file_short (as_file S) file, refl)
          (goes_on (as_file S) reply (file_text_reads (as_file S) file) (goes_on b reply (as_objects S b is) refl)),
      (refl, refl, refl),
    )

-- ---- a run of `edit`
abbrev Ends : List ℕ → List ℕ → Type 0
Ends input text = (x : Editing) × (surface : List ℕ) × (n : ℕ) × AreEditsOf input text surface x
    × Answers Reconstruct (text_of x.sections) Done surface n

ends : (input text : List ℕ) (n : ℕ) → Answers EditCommand input Done text n → Ends input text
ends input text n is =
    let r : Reply = told text n in
    let f = went (HasFileFault Two (kept_lines input)) (IsFront input) (λ f. edit byu_of f.0 f.1) r
    (of_input MAX_INPUT_BYTES (on_front (edit byu_of)) input is.0 text n is.1 is.2).1 tt in
    let F = f.0.0 in
    let tail = f.0.1 in
    let only = went (AreSeveral F) (IsOnly F) (edit_sections byu_of tail) r f.2 tt in
    let S = only.0 in
    let pairs = went (IsFound S) (ArePairs S)
    (λ ps. Then (IsTooMany tail) (AreFew tail) (on_edits byu_of S (length ps))) r only.2 tt in
    let few = went (IsTooMany tail) (AreFew tail) (on_edits byu_of S (length pairs.0)) r pairs.2 tt in
    let editing = went NoFault (IsEditing S few.0)
    (λ x. on_surface_of x.sections (λ b.
    Tells (edits_text byu_of x.answers b) (length pairs.0 + sum_by solved_for x.answers))) r few.2 tt in
    let x = editing.0 in
    let made = went (IsFound x.sections) (IsSurfaceOfOne x.sections)
    (λ b. Tells (edits_text byu_of x.answers b) (length pairs.0 + sum_by solved_for x.answers)) r editing.2 tt in
    let b = made.0 in
    let accepted_one = answers_accepted S few.0 x.edits x.answers x.sections (only_accepted input F tail S f.1 only.1)
    editing.1.read editing.1.answered in (
      x,
      byu_of (surface_of b.mesh),
      b.pairs,
      record {
        objects = F;
        tail = tail;
        front = f.1;
        before = S;
        only = only.1;
        edited = subst (λ (ls : List Line). IsEditing S ls x) few.1.1 editing.1;
        written = same_text text (edits_text byu_of x.answers b) n (length pairs.0 + sum_by solved_for x.answers)
            made.2;
      },
      reconstructed x.sections b accepted_one made.1,
    )

pub edits_end : (words other : List (List ℕ)) (input text : List ℕ) (n : ℕ) → AsksFor EditCommand words
    → IsOut words input Done text n → AsksFor Reconstruct other
    → (x : Editing) × (surface : List ℕ) × (m : ℕ) × AreEditsOf input text surface x
    × IsOut other (text_of x.sections) Done surface m
edits_end words other input text n asks out surfaces =
    let e = ends input text n (of_words EditCommand words input text Done n asks out) in
    (e.0, e.1, e.2, e.3, by_words Reconstruct other (text_of e.0.sections) e.1 Done e.2 surfaces e.4)
