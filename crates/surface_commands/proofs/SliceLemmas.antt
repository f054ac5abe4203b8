-- The slices of objects, in order.
use Rattle.std.proofs.Common.{◌≡◌, ℕ, ◌+◌, ◌<◌, ◌≤◌, ℤ, true, false, List, [], ◌∷◌, ◌++◌, length, map, take, get_or, Option, Some, refl, sym, subst, ap, ap₂, ◌∙◌, append_assoc, append-nil, arith, All}
use Rattle.std.specs.Prelude.{slice_get}
use Rattle.std.specs.Option.{option_map}
use Rattle.std.proofs.lemmas.Bool.{false≢true, true≢false}
use Rattle.std.proofs.lemmas.List.{get_or-map, length-map, length-take, map-append, take_all}
use Rattle.std.proofs.lemmas.Option.{slice_get-map, slice_get_read}
use Rattle.fku_types.specs.declared.fault.Fault.{Fault}
use Rattle.fku_types.specs.declared.fault.Fault.TheVariants.{Outside, OnSection}
use Rattle.fku_types.proofs.ListLaws.{take_next}
use Rattle.section_core.specs.declared.objects.Object.{Object}
use Rattle.section_core.specs.declared.parts.Version.{Version}
use Rattle.section_core.specs.Objects.{object_parts}
use Rattle.section_core.specs.Parts.{FileParts, ObjectParts, Parts}
use Rattle.surface_core.specs.Objects.{objects_in, sections_in}
use Rattle.surface_core.proofs.ObjectSteps.{all_push}
use Rattle.section_slices.specs.Slices.{IsHeightFault as IsFaultOfOne, IsOnSection, IsOutside, outside, on_section}
use Rattle.section_slices.specs.declared.slices.SliceLoops.{SliceLoops}
use Rattle.surface_commands.specs.Slice.{cuts_text, object_cut}
use Rattle.surface_commands.specs.SliceSteps.{is_outside}

-- the objects up to a place, and the one there
one_more : (P : Parts → Type 0) (items : List Object) (i : ℕ) (o : Object) → i < length items → o ≡ get_or items i o
    → All P (sections_in (take i items)) → P o.sections → All P (sections_in (take (i + 1) items))
one_more P items i o l e h k = all_push (λ (p : Object). p.sections) P (take i items) (take (i + 1) items) o
    (take_next items i o l e) h k

-- a height is on a section of none, or outside all
abbrev pub OnNone : ℤ → List Parts → Type 0
OnNone z objects = All (λ (S : Parts). IsOnSection S z → ⊥) objects

abbrev pub OutsideAll : ℤ → List Parts → Type 0
OutsideAll z objects = All (λ (S : Parts). IsOutside S z) objects

pub none_more : (z : ℤ) (items : List Object) (i : ℕ) (o : Object) → i < length items → o ≡ get_or items i o
    → OnNone z (sections_in (take i items)) → (IsOnSection o.sections z → ⊥)
    → OnNone z (sections_in (take (i + 1) items))
none_more z items i o l e h k = one_more (λ (S : Parts). IsOnSection S z → ⊥) items i o l e h k

pub outside_more : (z : ℤ) (items : List Object) (i : ℕ) (o : Object) → i < length items → o ≡ get_or items i o
    → OutsideAll z (sections_in (take i items)) → IsOutside o.sections z
    → OutsideAll z (sections_in (take (i + 1) items))
outside_more z items i o l e h k = one_more (λ (S : Parts). IsOutside S z) items i o l e h k

pub of_all : (P : Parts → Type 0) (F : FileParts) (items : List Object) (i : ℕ) → sections_in items ≡ objects_in F
    → length items ≤ i → All P (sections_in (take i items)) → All P (objects_in F)
of_all P F items i e l h = subst (All P) e (subst (λ (os : List Object). All P (sections_in os)) (take_all i items l) h)

-- a gap around a height leaves it neither outside nor on a section
pub no_section : (S : Parts) (z : ℤ) → ((fault : Fault) → IsFaultOfOne S z fault → ⊥) → IsOnSection S z → ⊥
no_section S z between h = between (OnSection z) (on_section h)

pub no_outside : (S : Parts) (z : ℤ) → ((fault : Fault) → IsFaultOfOne S z fault → ⊥) → IsOutside S z → ⊥
no_outside S z between h = between (Outside z) (outside h)

-- what the fault of a height shows
pub lies_outside : (S : Parts) (z : ℤ) (fault : Fault) → is_outside fault ≡ true → IsFaultOfOne S z fault
    → IsOutside S z
lies_outside S z fault e (outside h) = h
lies_outside S z fault e (on_section h) = absurd (false≢true e)

pub lies_on : (S : Parts) (z : ℤ) (fault : Fault) → is_outside fault ≡ false → IsFaultOfOne S z fault
    → (fault ≡ OnSection z) × IsOnSection S z
lies_on S z fault e (outside h) = absurd (true≢false e)
lies_on S z fault e (on_section h) = (refl, h)

-- the object at a place
pub object_at : (F : FileParts) (items : List Object) (i : ℕ) (o : Object) → sections_in items ≡ objects_in F
    → i < length items → o ≡ get_or items i o → slice_get (objects_in F) i ≡ Some o.sections
object_at F items i o e l k =
    let sections : Object → Parts = λ p. p.sections in
    ap (λ (Ss : List Parts). slice_get Ss i) (sym e) ∙ slice_get-map sections items i
    ∙ ap (option_map sections) (slice_get_read items (length items) i o refl l k)

-- what holds of all objects holds of the one at a place
at_place : (P : Parts → Type 0) (items : List Object) (i : ℕ) (o : Object) → i < length items → o ≡ get_or items i o
    → All P (sections_in items) → P o.sections
at_place P items i o l e all =
    subst P (get_or-map (λ (p : Object). p.sections) items i o o.sections l ∙ ap (λ (p : Object). p.sections) (sym e))
    (all i o.sections (omega (arith, l, length-map items (λ (p : Object). p.sections))))

pub outside_at : (z : ℤ) (items : List Object) (i : ℕ) (o : Object) → i < length items → o ≡ get_or items i o
    → OutsideAll z (sections_in items) → IsOutside o.sections z
outside_at z items i o l e all = at_place (λ (S : Parts). IsOutside S z) items i o l e all

-- one more cut after others
pub text_more : (v : Version) (z : ℤ) (os : List ObjectParts) (cuts : List (Option SliceLoops)) (o : ObjectParts)
    (cut : Option SliceLoops) → length os ≡ length cuts
    → cuts_text v z (os ++ o ∷ []) (cuts ++ cut ∷ []) ≡ cuts_text v z os cuts ++ object_cut v z o cut
text_more v z [] [] o cut e = append-nil (object_cut v z o cut)
text_more v z [] (c ∷ cuts) o cut e = absurd (cc)
text_more v z (p ∷ os) [] o cut e = absurd (cc)
text_more v z (p ∷ os) (c ∷ cuts) o cut e =
    ap (λ (t : List ℕ). object_cut v z p c ++ t) (text_more v z os cuts o cut (omega (arith, e)))
    ∙ sym (append_assoc (object_cut v z p c) (cuts_text v z os cuts) (object_cut v z o cut))

-- the text of the objects up to a place, and of the one there
pub texts_more : (v : Version) (z : ℤ) (items : List Object) (cuts : List (Option SliceLoops)) (i : ℕ) (o : Object)
    (cut : Option SliceLoops) (old new : List ℕ) → length items ≡ length cuts → i < length items → o ≡ get_or items i o
    → cut ≡ get_or cuts i cut
    → old ≡ cuts_text v z (map object_parts (take i items)) (take i cuts)
    → new ≡ old ++ object_cut v z (object_parts o) cut
    → new ≡ cuts_text v z (map object_parts (take (i + 1) items)) (take (i + 1) cuts)
texts_more v z items cuts i o cut old new same l e k was now =
    let os = take i items in
    let m : i < length cuts = omega (arith, same, l) in
    let parts : map object_parts (take (i + 1) items) ≡ map object_parts os ++ object_parts o ∷ [] =
    ap (map object_parts) (take_next items i o l e) ∙ map-append object_parts os (o ∷ []) in
    let count : length (map object_parts os) ≡ length (take i cuts) =
    omega (arith, length-map os object_parts, length-take i items, length-take i cuts, same) in
    now ∙ ap (λ (t : List ℕ). t ++ object_cut v z (object_parts o) cut) was
    ∙ sym (text_more v z (map object_parts os) (take i cuts) (object_parts o) cut count)
    ∙ ap₂ (λ (ps : List ObjectParts) (cs : List (Option SliceLoops)). cuts_text v z ps cs) (sym parts)
    (sym (take_next cuts i cut m k))
