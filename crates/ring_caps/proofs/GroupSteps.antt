-- The groups of objects and their caps, object by object.
use Rattle.std.proofs.Common.{◌≡◌, ℕ, zero, suc, ◌+◌, ◌<◌, inl, inr, List, [], ◌∷◌, ◌++◌, length, map, take, drop, get_or, sym, ap, ap₂, ◌∙◌, arith, subst, append_assoc, append-nil, add-one, All, Vec}
use Rattle.std.specs.Global.{Global}
use Rattle.std.proofs.lemmas.List.Elements.{All-append}
use Rattle.fku_types.specs.declared.fault.Fault.{Fault}
use Rattle.section_core.specs.declared.objects.Object.{Object}
use Rattle.section_pairs.specs.declared.gap_pairs.GapPair.{GapPair}
use Rattle.section_pairs.specs.Pairs.{pair_parts, IsShort}
use Rattle.section_pairs.specs.SectionFaults.{IsFirstFault, OrNoMemory}
use Rattle.surface_core.specs.Objects.{sections_in, pair_lists}
use Rattle.section_pairs.proofs.Firsts.{first_left, first_right}
use Rattle.ring_caps.specs.RingSurfaces.{group_sizes, HasLongGroup, all_group_sizes}

-- the groups of objects and of their pairs, as the code holds these
abbrev pub sizes_of : List Object → List (Vec GapPair Global) → List (ℕ × ℕ)
sizes_of items lists = all_group_sizes (sections_in items) (pair_lists lists)

abbrev pub sizes_at : Object → Vec GapPair Global → List (ℕ × ℕ)
sizes_at o v = group_sizes o.sections (map pair_parts v.items)

-- the groups before a place, those of the object there, and the later ones
pub sizes_split : (items : List Object) (lists : List (Vec GapPair Global)) (i : ℕ) (o : Object)
    (v : Vec GapPair Global) → i < length items → i < length lists → o ≡ get_or items i o → v ≡ get_or lists i v
    → sizes_of items lists ≡ sizes_of (take i items) (take i lists)
    ++ (sizes_at o v ++ sizes_of (drop (suc i) items) (drop (suc i) lists))
sizes_split [] lists i o v l m e f = absurd (omega (arith, l))
sizes_split (p ∷ items) [] i o v l m e f = absurd (omega (arith, m))
sizes_split (p ∷ items) (w ∷ lists) zero o v l m e f =
    ap₂ (λ (x : Object) (y : Vec GapPair Global). sizes_at x y ++ sizes_of items lists) (sym e) (sym f)
sizes_split (p ∷ items) (w ∷ lists) (suc i) o v l m e f =
    ap (λ (ks : List (ℕ × ℕ)). sizes_at p w ++ ks)
    (sizes_split items lists i o v (omega (arith, l)) (omega (arith, m)) e f)
    ∙ sym (append_assoc (sizes_at p w) (sizes_of (take i items) (take i lists))
    (sizes_at o v ++ sizes_of (drop (suc i) items) (drop (suc i) lists)))

pub sizes_more : (items : List Object) (lists : List (Vec GapPair Global)) (i : ℕ) (o : Object) (v : Vec GapPair Global)
    → i < length items → i < length lists → o ≡ get_or items i o → v ≡ get_or lists i v
    → sizes_of (take (suc i) items) (take (suc i) lists) ≡ sizes_of (take i items) (take i lists) ++ sizes_at o v
sizes_more [] lists i o v l m e f = absurd (omega (arith, l))
sizes_more (p ∷ items) [] i o v l m e f = absurd (omega (arith, m))
sizes_more (p ∷ items) (w ∷ lists) zero o v l m e f = append-nil (sizes_at p w) ∙ ap₂ sizes_at (sym e) (sym f)
sizes_more (p ∷ items) (w ∷ lists) (suc i) o v l m e f =
    ap (λ (ks : List (ℕ × ℕ)). sizes_at p w ++ ks)
    (sizes_more items lists i o v (omega (arith, l)) (omega (arith, m)) e f)
    ∙ sym (append_assoc (sizes_at p w) (sizes_of (take i items) (take i lists)) (sizes_at o v))

-- short groups, and the first that is too long
pub short_more : (items : List Object) (lists : List (Vec GapPair Global)) (i : ℕ) (o : Object) (v : Vec GapPair Global)
    → i < length items → i < length lists → o ≡ get_or items i o → v ≡ get_or lists i v
    → All IsShort (sizes_of (take i items) (take i lists)) → All IsShort (sizes_at o v)
    → All IsShort (sizes_of (take (i + 1) items) (take (i + 1) lists))
short_more items lists i o v l m e f h k =
    subst (λ (n : ℕ). All IsShort (sizes_of (take n items) (take n lists))) (sym (add-one i))
    (subst (λ (ks : List (ℕ × ℕ)). All IsShort ks) (sym (sizes_more items lists i o v l m e f))
    (All-append IsShort (sizes_of (take i items) (take i lists)) (sizes_at o v) h k))

pub long_here : (items : List Object) (lists : List (Vec GapPair Global)) (i : ℕ) (o : Object) (v : Vec GapPair Global)
    (fault : Fault) → i < length items → i < length lists → o ≡ get_or items i o → v ≡ get_or lists i v
    → All IsShort (sizes_of (take i items) (take i lists))
    → OrNoMemory (IsFirstFault IsShort HasLongGroup (sizes_at o v)) fault
    → OrNoMemory (IsFirstFault IsShort HasLongGroup (sizes_of items lists)) fault
long_here items lists i o v fault l m e f h (inl none) = inl none
long_here items lists i o v fault l m e f h (inr long) =
    let before = sizes_of (take i items) (take i lists) in
    let behind = sizes_of (drop (suc i) items) (drop (suc i) lists) in
    inr (subst (λ (ks : List (ℕ × ℕ)). IsFirstFault IsShort HasLongGroup ks fault)
    (sym (sizes_split items lists i o v l m e f))
    (first_right IsShort HasLongGroup before (sizes_at o v ++ behind) fault h
    (first_left IsShort HasLongGroup (sizes_at o v) behind fault long)))
