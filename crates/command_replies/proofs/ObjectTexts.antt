-- The objects of a text, in order.
use Rattle.std.proofs.Common.{◌≡◌, inl, inr, ℕ, ◌+◌, ◌<◌, List, [], ◌∷◌, ◌++◌, length, map, drop, get_or, Vec, Result, Ok, Err, sym, subst, ap, ◌∙◌, append_assoc, arith, length-append}
use Rattle.std.specs.Prelude.{IfErr}
use Rattle.std.specs.Global.{Global}
use Rattle.std.specs.List.{AllZip}
use Rattle.std.proofs.lemmas.List.{get_or-map, length-map, map-append}
use Rattle.fku_types.specs.declared.fault.Fault.{Fault}
use Rattle.fku_types.proofs.ListLaws.{drop_next}
use Rattle.section_core.specs.declared.objects.Object.{Object}
use Rattle.section_core.specs.Objects.{object_parts}
use Rattle.section_core.specs.Parts.{FileParts, ObjectParts, Parts}
use Rattle.section_core.specs.ValidSections.{section_of}
use Rattle.section_pairs.specs.declared.gap_pairs.GapPair.{GapPair}
use Rattle.section_pairs.specs.Pairs.{PairParts, pair_parts}
use Rattle.section_pairs.specs.SectionFaults.{ArePairs, AreSound, OrNoMemory}
use Rattle.surface_core.specs.Objects.{AreAllPairs, IsFoundIn, IsLateMemoryIn, numbered, pair_lists}
use Rattle.command_replies.specs.Stages.{AreSeveral, found}

-- for several objects, the fault is found
pub several_found : (F : FileParts) (fault : Fault) → 1 < length F.objects → OrNoMemory (IsFoundIn F) fault
    → OrNoMemory (AreSeveral F) fault
several_found F fault l (inl e) = inl e
several_found F fault l (inr h) = inr (found fault l h)

-- what holds anyway holds at every error
pub always : {T E : Type 0} {P : Type 0} (r : Result T E) → P → IfErr r (λ _. P)
always (Ok v) p = tt
always (Err e) p = p

-- where all objects have pairs, the contours of the first have no fault
first_sound : (S : Parts) (more : List Parts) (pss : List (List PairParts)) → AllZip ArePairs (S ∷ more) pss
    → AreSound (map section_of S.sections)
first_sound S more [] h = absurd h
first_sound S more (ps ∷ pss) h = h.0.linked.sound

pub late_memory : {T : Type 0} (F : FileParts) (pss : List (List PairParts)) (r : Result T Fault) → AreAllPairs F pss
    → IfErr r (IsLateMemoryIn F)
late_memory F pss (Ok v) h = tt
late_memory F pss (Err fault) h = λ S more e _.
    first_sound S more pss (subst (λ (objects : List Parts). AllZip ArePairs objects pss) e h)

-- the pairs of the next object after those before it
pub numbered_more : (all new : List GapPair) (list : Vec GapPair Global) (rest left : List (Vec GapPair Global))
    (whole : List PairParts)
    → map pair_parts all ++ numbered (pair_lists rest) ≡ whole → rest ≡ list ∷ left → new ≡ all ++ list.items
    → map pair_parts new ++ numbered (pair_lists left) ≡ whole
numbered_more all new list rest left whole before next more =
    let mine = map pair_parts list.items in
    ap (λ (ps : List PairParts). ps ++ numbered (pair_lists left))
    (ap (map pair_parts) more ∙ map-append pair_parts all list.items)
    ∙ append_assoc (map pair_parts all) mine (numbered (pair_lists left))
    ∙ ap (λ (vs : List (Vec GapPair Global)). map pair_parts all ++ numbered (pair_lists vs)) (sym next)
    ∙ before

-- how many objects there are
pub object_count : (F : FileParts) (items : List Object) → map object_parts items ≡ F.objects
    → length items ≡ length F.objects
object_count F items e = sym (length-map items object_parts) ∙ ap length e

-- the object of the code at a place is that of the text
pub part_at : (F : FileParts) (items : List Object) (i : ℕ) (o : Object) → map object_parts items ≡ F.objects
    → i < length items → o ≡ get_or items i o → object_parts o ≡ get_or F.objects i (object_parts o)
part_at F items i o e l k = ap object_parts k ∙ sym (get_or-map object_parts items i o (object_parts o) l)
    ∙ ap (λ (os : List ObjectParts). get_or os i (object_parts o)) e

-- the pairs of the object at a place
abbrev pub held : Vec GapPair Global → List PairParts
held v = map pair_parts v.items

pub list_at : (lists : List (Vec GapPair Global)) (i : ℕ) (v : Vec GapPair Global) → i < length lists
    → v ≡ get_or lists i v → map pair_parts v.items ≡ get_or (pair_lists lists) i (map pair_parts v.items)
list_at lists i v l k =
    ap held k ∙ sym (get_or-map held lists i v (held v) l)

-- how many pairs there are from a place on, and after it
pub lists_next : (lists : List (Vec GapPair Global)) (i : ℕ) (v : Vec GapPair Global) → i < length lists
    → v ≡ get_or lists i v → length (numbered (drop i (pair_lists lists))) ≡ length v.items
    + length (numbered (drop (i + 1) (pair_lists lists)))
lists_next lists i v l k =
    let rest = drop (i + 1) (pair_lists lists) in
    ap (λ (pss : List (List PairParts)). length (numbered pss))
    (drop_next (pair_lists lists) i (held v) (omega (arith, l, length-map lists held)) (list_at lists i v l k))
    ∙ length-append (held v) (numbered rest)
    ∙ ap (λ (n : ℕ). n + length (numbered rest)) (length-map v.items pair_parts)
