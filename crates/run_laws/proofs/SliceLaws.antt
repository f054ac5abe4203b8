-- `slice` leaves one reply.
use Rattle.std.proofs.Common.{◌≡◌, ◌∙◌, ℕ, zero, suc, ◌+◌, ℤ, List, [], ◌∷◌, ◌++◌, Option, None, Some, length, map, sum_by, refl, sym, ap, ap₂, subst}
use Rattle.std.specs.Prelude.{All, slice_get}
use Rattle.std.specs.List.{AllByRecursion, AllZip, flat_map}
use Rattle.std.proofs.lemmas.List.{length-map}
use Rattle.std.proofs.lemmas.List.Folds.{flat_map-map}
use Rattle.std.proofs.lemmas.List.Sums.{sum_by-cons}
use Rattle.std.proofs.lemmas.Option.{get_or_from_slice_get, slice_get_within}
use Rattle.fku_types.specs.declared.fault.Fault.{Fault}
use Rattle.fku_types.specs.declared.fault.Fault.TheVariants.{OnSection, Outside}
use Rattle.section_core.specs.declared.parts.Version.{Version}
use Rattle.section_core.specs.Parts.{Parts, FileParts, ObjectParts}
use Rattle.section_core.specs.Laws.{AreRising, heights}
use Rattle.section_core.specs.Canonical.{name_text}
use Rattle.strip_graph.specs.declared.slices.Cut.{Cut}
use Rattle.surface_core.specs.Objects.{alone, objects_in}
use Rattle.section_slices.specs.Slices.{IsCut, IsOnSection, IsOutside, loop_count, outside as is_outside, on_section as is_on_section}
use Rattle.section_slices.specs.declared.slices.SliceLoops.{SliceLoops}
use Rattle.section_slices.proofs.SliceHeights.{no_fault}
use Rattle.section_slices.proofs.SliceLaws.{not_on_section, one_slice}
use Rattle.command_replies.specs.Reply.{Tells}
use Rattle.surface_commands.specs.Slice.{AreCuts, IsHeightFaultOfAll, outside, on_section, cuts_text, height_text, loop_text, object_cut, slice, slice_text}
use Rattle.run_laws.proofs.ReplyLaws.{IsOne, agree_tells, one_pair_lists_of, one_then}

-- the heights of each object rise
abbrev pub AllRise : List ObjectParts → Type 0
AllRise os = AllByRecursion AreRising (map (λ (o : ObjectParts). heights o.sections) os)

-- the text of a slice is that of its loops
abbrev told_loops : ℤ → ℤ → List (List Cut) → List ℕ
told_loops z den loops = height_text z den (length loops) ++ flat_map loop_text loops

abbrev loops_in : SliceLoops → List (List Cut)
loops_in s = map (λ v. v.items) s.loops.items

slice_told : (z : ℤ) (s : SliceLoops) → slice_text z s ≡ told_loops z s.den (loops_in s)
slice_told z s = ap₂ (λ (x y : List ℕ). x ++ y)
    (ap (height_text z s.den) (sym (length-map s.loops.items (λ v. v.items))))
    (sym (flat_map-map loop_text (λ v. v.items) s.loops.items))

-- the cut of an object has one text and one number of loops
one_cut : (v : Version) (z : ℤ) (o : ObjectParts) (S : Parts) → AreRising (heights S.sections)
    → (c d : Option SliceLoops) → IsCut z S c → IsCut z S d → (object_cut v z o c ≡ object_cut v z o d)
    × (loop_count c ≡ loop_count d)
one_cut v z o S r None None h k = (refl, refl)
one_cut v z o S r None (Some t) h k = absurd (no_fault S z k.gap (Outside z) r k.at (is_outside h))
one_cut v z o S r (Some s) None h k = absurd (no_fault S z h.gap (Outside z) r h.at (is_outside k))
one_cut v z o S r (Some s) (Some t) h k =
    let e = one_slice S r z s t h k in (
      ap (λ (text : List ℕ). name_text v o.name ++ text)
          (slice_told z s ∙ ap₂ (told_loops z) e.0 e.1 ∙ sym (slice_told z t)),
      sym (length-map s.loops.items (λ v. v.items)) ∙ ap length e.1 ∙ length-map t.loops.items (λ v. v.items),
    )

one_cuts : (F : FileParts) (z : ℤ) (os : List ObjectParts) → AllRise os → (cs ds : List (Option SliceLoops))
    → AllZip (IsCut z) (map (alone F) os) cs → AllZip (IsCut z) (map (alone F) os) ds
    → (cuts_text F.version z os cs ≡ cuts_text F.version z os ds) × (sum_by loop_count cs ≡ sum_by loop_count ds)
one_cuts F z [] r [] [] h k = (refl, refl)
one_cuts F z [] r [] (d ∷ ds) h k = absurd k
one_cuts F z [] r (c ∷ cs) ds h k = absurd h
one_cuts F z (o ∷ os) r [] ds h k = absurd h
one_cuts F z (o ∷ os) r (c ∷ cs) [] h k = absurd k
one_cuts F z (o ∷ os) r (c ∷ cs) (d ∷ ds) h k =
    let here = one_cut F.version z o (alone F o) r.0 c d h.0 k.0 in
    let more = one_cuts F z os r.1 cs ds h.1 k.1 in (
      ap₂ (λ (x y : List ℕ). x ++ y) here.0 more.0,
      sum_by-cons loop_count c cs ∙ ap₂ (λ (m n : ℕ). m + n) here.1 more.1 ∙ sym (sum_by-cons loop_count d ds),
    )

-- the height has one fault
outside_at : (F : FileParts) (z : ℤ) (k : ℕ) (S : Parts) → All (λ (T : Parts). IsOutside T z) (objects_in F)
    → slice_get (objects_in F) k ≡ Some S → IsOutside S z
outside_at F z k S all there = subst (λ (T : Parts). IsOutside T z) (get_or_from_slice_get (objects_in F) k S S there)
    (all k S (slice_get_within (objects_in F) k S there))

one_height_fault : (F : FileParts) (z : ℤ) (f g : Fault) → IsHeightFaultOfAll F z f → IsHeightFaultOfAll F z g → f ≡ g
one_height_fault F z _ _ (outside all) (outside every) = refl
one_height_fault F z _ _ (outside all) (on_section k S there on) =
    absurd (not_on_section S z (outside_at F z k S all there) on)
one_height_fault F z _ _ (on_section k S there on) (outside all) =
    absurd (not_on_section S z (outside_at F z k S all there) on)
one_height_fault F z _ _ (on_section j S there on) (on_section k T place at) = refl

-- and none if there are cuts
cut_misses : (z : ℤ) (S : Parts) → AreRising (heights S.sections) → (c : Option SliceLoops) → IsCut z S c
    → IsOnSection S z → ⊥
cut_misses z S r None h on = not_on_section S z h on
cut_misses z S r (Some s) h on = no_fault S z h.gap (OnSection z) r h.at (is_on_section on)

cuts_miss : (F : FileParts) (z : ℤ) (os : List ObjectParts) → AllRise os → (cs : List (Option SliceLoops))
    → AllZip (IsCut z) (map (alone F) os) cs → (k : ℕ) (S : Parts) → slice_get (map (alone F) os) k ≡ Some S
    → IsOnSection S z → ⊥
cuts_miss F z [] r cs h k S there on = absurd (cc)
cuts_miss F z (o ∷ os) r [] h k S there on = absurd h
cuts_miss F z (o ∷ os) r (c ∷ cs) h zero S there on = let same : S ≡ alone F o = cc in
    cut_misses z (alone F o) r.0 c h.0 (subst (λ (T : Parts). IsOnSection T z) same on)
cuts_miss F z (o ∷ os) r (c ∷ cs) h (suc k) S there on = cuts_miss F z os r.1 cs h.1 k S there on

cut_or_fault : (F : FileParts) (z : ℤ) → AllRise F.objects → (cuts : List (Option SliceLoops)) (f : Fault)
    → AreCuts F z cuts → IsHeightFaultOfAll F z f → ⊥
cut_or_fault F z r cuts _ is (outside all) = is.some all
cut_or_fault F z r cuts _ is (on_section k S there on) = cuts_miss F z F.objects r cuts is.each k S there on

pub one_slices : (z : ℤ) (F : FileParts) → AllRise F.objects → IsOne (slice z F)
one_slices z F r =
    one_pair_lists_of F _
    (λ pss.
    one_then (IsHeightFaultOfAll F z) (AreCuts F z)
    (λ cuts. Tells (cuts_text F.version z F.objects cuts) (sum_by loop_count cuts))
    (λ f g t u h k. one_height_fault F z f g h k) (λ cuts f t is h. cut_or_fault F z r cuts f is h)
    (λ cs ds is has.
    let e = one_cuts F z F.objects r cs ds is.each has.each in
    agree_tells (cuts_text F.version z F.objects cs) (cuts_text F.version z F.objects ds) (sum_by loop_count cs)
    (sum_by loop_count ds) e.0 e.1))
