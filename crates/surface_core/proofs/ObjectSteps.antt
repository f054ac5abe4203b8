-- Objects in order: lists of pairs, faults and surfaces.
use Rattle.std.proofs.Common.{◌≡◌, ℕ, zero, suc, ◌+◌, ◌<◌, ◌≤◌, inl, inr, List, [], ◌∷◌, ◌++◌, length, map, sum_by, take, drop, get_or, take_all, refl, sym, ap, ap₂, ◌∙◌, arith, subst, Vec}
use Rattle.std.specs.Global.{Global}
use Rattle.std.specs.Prelude.{All}
use Rattle.std.specs.List.{AllByRecursion, AllZip}
use Rattle.std.proofs.lemmas.List.{length-append, length-map, map-append, drop_more}
use Rattle.std.proofs.lemmas.Slice.Zip.{AllZip-long, all_zipped_more}
use Rattle.std.proofs.lemmas.List.Sums.{sum_by-cons}
use Rattle.std.proofs.lemmas.List.Elements.{All-from_recursion, recursion_from_All, All-append}
use Rattle.fku_types.specs.declared.fault.Fault.{Fault}
use Rattle.section_core.specs.Parts.{FileParts, Parts}
use Rattle.section_core.specs.declared.objects.Object.{Object}
use Rattle.section_core.specs.Objects.{object_parts, AreUnder}
use Rattle.strip_graph.specs.Strips.{Strip}
use Rattle.row_paths.specs.Solutions.{Solution, Solves}
use Rattle.pair_pool.specs.Solvers.{SolvesEach}
use Rattle.section_pairs.specs.declared.gap_pairs.GapPair.{GapPair}
use Rattle.surface_core.specs.declared.surfaces.Built.{Built}
use Rattle.section_pairs.specs.Pairs.{PairParts, pair_parts}
use Rattle.section_pairs.specs.SectionFaults.{ArePairs, IsFound, IsPairsFault, IsLateMemory, OrNoMemory}
use Rattle.surface_core.specs.Surfaces.{strips_in}
use Rattle.surface_core.specs.Objects.{objects_in, AreAllPairs, sections_in, AreListsOf, HasPairs, pair_lists, LieInGaps, numbered, IsFoundAmong, IsLateAmong}
use Rattle.surface_core.proofs.ObjectFacts.{held_pairs, objects_are}
use Rattle.section_pairs.proofs.Firsts.{front_more, first_here, all_one}

-- ---- two lists place by place
-- the items up to a place, and the one there
pub zip_next : {A C D : Type 0} (f : A → C) (R : C → D → Type 0) (xs : List A) (i : ℕ) (x : A) (old new : List D)
    (y : D) → i < length xs → x ≡ get_or xs i x → new ≡ old ++ y ∷ []
    → AllZip R (map f (take i xs)) old → R (f x) y → AllZip R (map f (take (i + 1) xs)) new
zip_next {C = C} {D = D} f R xs i x old new y l e n h r =
    subst (λ (zs : List D). AllZip R (map f (take (i + 1) xs)) zs) (sym n)
    (subst (λ (zs : List C). AllZip R zs (old ++ y ∷ [])) (sym (front_more f xs i x l e))
    (all_zipped_more R (map f (take i xs)) old (f x) y h r))

pub zip_more : {A B C D : Type 0} (f : A → C) (g : B → D) (R : C → D → Type 0) (xs : List A) (i : ℕ) (x : A)
    (old new : List B) (y : B) → i < length xs → x ≡ get_or xs i x → new ≡ old ++ y ∷ []
    → AllZip R (map f (take i xs)) (map g old) → R (f x) (g y) → AllZip R (map f (take (i + 1) xs)) (map g new)
zip_more f g R xs i x old new y l e n h r =
    zip_next f R xs i x (map g old) (map g new) (g y) l e (ap (map g) n ∙ map-append g old (y ∷ [])) h r

pub zip_length : {A B : Type 0} (R : A → B → Type 0) (xs : List A) (ys : List B) → AllZip R xs ys
    → length xs ≡ length ys
zip_length R xs ys h = sym (AllZip-long R xs ys h)

-- what holds at a place
pub zip_at : {A B C D : Type 0} (f : A → C) (g : B → D) (R : C → D → Type 0) (xs : List A) (ys : List B)
    → AllZip R (map f xs) (map g ys) → (i : ℕ) (x : A) (y : B) → i < length xs → x ≡ get_or xs i x → y ≡ get_or ys i y
    → R (f x) (g y)
zip_at f g R [] ys h i x y l e k = absurd (omega (arith, l))
zip_at f g R (u ∷ xs) [] h i x y l e k = absurd h
zip_at f g R (u ∷ xs) (v ∷ ys) h zero x y l e k = let P = R (f u) (g v) in
    subst (λ z. R (f z) (g y)) (sym e) (subst (λ z. R (f u) (g z)) (sym k) h.0)
zip_at f g R (u ∷ xs) (v ∷ ys) h (suc i) x y l e k = zip_at f g R xs ys h.1 i x y (omega (arith, l)) e k

-- the pairs of the object at a place, as the code hands them on
pub pairs_at : (items : List Object) (lists : List (Vec GapPair Global))
    → AllZip ArePairs (sections_in items) (pair_lists lists)
    → (i : ℕ) (o : Object) (v : Vec GapPair Global) (given : List GapPair)
    → i < length items → o ≡ get_or items i o → v ≡ get_or lists i v → given ≡ v.items
    → ArePairs (get_or items i o).sections (map pair_parts given)
pairs_at items lists h i o v given l e f same =
    let own : Object → Parts = λ x. x.sections in
    let here = zip_at own (λ (w : Vec GapPair Global). map pair_parts w.items) ArePairs items lists h i o v l e f in
    subst (λ (x : Object). ArePairs x.sections (map pair_parts given)) e
    (subst (λ (ps : List GapPair). ArePairs o.sections (map pair_parts ps)) (sym same) here)

-- ---- a list for each object
lists_push : {X : Type 0} (R : Parts → List PairParts → List X → Type 0) (objects : List Parts)
    (pss : List (List PairParts)) (each : List (Vec X Global)) (S : Parts) (ps : List PairParts) (xs : Vec X Global)
    → AreListsOf R objects pss each → R S ps xs.items
    → AreListsOf R (objects ++ S ∷ []) (pss ++ ps ∷ []) (each ++ xs ∷ [])
lists_push R [] [] [] S ps xs h k = (k, tt)
lists_push R [] [] (d ∷ each) S ps xs h k = absurd h
lists_push R [] (qs ∷ pss) each S ps xs h k = absurd h
lists_push R (T ∷ objects) [] each S ps xs h k = absurd h
lists_push R (T ∷ objects) (qs ∷ pss) [] S ps xs h k = absurd h
lists_push R (T ∷ objects) (qs ∷ pss) (d ∷ each) S ps xs h k = (h.0, lists_push R objects pss each S ps xs h.1 k)

-- those of the objects up to a place, and that of the object there
pub lists_more : {X : Type 0} (R : Parts → List PairParts → List X → Type 0) (items : List Object)
    (lists : List (Vec GapPair Global)) (i : ℕ) (o : Object) (v : Vec GapPair Global) (old new : List (Vec X Global))
    (xs : Vec X Global)
    → i < length items → i < length lists → o ≡ get_or items i o → v ≡ get_or lists i v → new ≡ old ++ xs ∷ []
    → AreListsOf R (sections_in (take i items)) (pair_lists (take i lists)) old
    → R o.sections (map pair_parts v.items) xs.items
    → AreListsOf R (sections_in (take (i + 1) items)) (pair_lists (take (i + 1) lists)) new
lists_more {X = X} R items lists i o v old new xs l m e f n h k =
    let own : Object → Parts = λ x. x.sections in
    let held : Vec GapPair Global → List PairParts = λ w. map pair_parts w.items in
    subst (λ (each : List (Vec X Global)).
    AreListsOf R (sections_in (take (i + 1) items)) (pair_lists (take (i + 1) lists)) each) (sym n)
    (subst (λ (objects : List Parts). AreListsOf R objects (pair_lists (take (i + 1) lists)) (old ++ xs ∷ []))
    (sym (front_more own items i o l e))
    (subst (λ (pss : List (List PairParts)).
    AreListsOf R (sections_in (take i items) ++ o.sections ∷ []) pss (old ++ xs ∷ []))
    (sym (front_more held lists i v m f))
    (lists_push R (sections_in (take i items)) (pair_lists (take i lists)) old o.sections (held v) xs h k)))

pub lists_count : {X : Type 0} (R : Parts → List PairParts → List X → Type 0) (objects : List Parts)
    (pss : List (List PairParts)) (each : List (Vec X Global)) → AreListsOf R objects pss each
    → length each ≡ length objects
lists_count R [] [] [] h = refl
lists_count R [] [] (d ∷ each) h = absurd h
lists_count R [] (qs ∷ pss) each h = absurd h
lists_count R (T ∷ objects) [] each h = absurd h
lists_count R (T ∷ objects) (qs ∷ pss) [] h = absurd h
lists_count R (T ∷ objects) (qs ∷ pss) (d ∷ each) h = omega (arith, lists_count R objects pss each h.1)

-- what holds of the object at a place
pub lists_at : {X : Type 0} (R : Parts → List PairParts → List X → Type 0) (items : List Object)
    (lists : List (Vec GapPair Global)) (each : List (Vec X Global))
    → AreListsOf R (sections_in items) (pair_lists lists) each
    → (i : ℕ) (o : Object) (v : Vec GapPair Global) (xs : Vec X Global) → i < length items → o ≡ get_or items i o
    → v ≡ get_or lists i v → xs ≡ get_or each i xs → R o.sections (map pair_parts v.items) xs.items
lists_at R [] lists each h i o v xs l e f k = absurd (omega (arith, l))
lists_at R (p ∷ items) [] each h i o v xs l e f k = absurd h
lists_at R (p ∷ items) (w ∷ lists) [] h i o v xs l e f k = absurd h
lists_at {X = X} R (p ∷ items) (w ∷ lists) (d ∷ each) h zero o v xs l e f k =
    subst (λ (x : Object). R x.sections (map pair_parts v.items) xs.items) (sym e)
    (subst (λ (y : Vec GapPair Global). R p.sections (map pair_parts y.items) xs.items) (sym f)
    (subst (λ (z : Vec X Global). R p.sections (map pair_parts w.items) z.items) (sym k) h.0))
lists_at R (p ∷ items) (w ∷ lists) (d ∷ each) h (suc i) o v xs l e f k =
    lists_at R items lists each h.1 i o v xs (omega (arith, l)) e f k

-- ---- faults
all_good : (objects : List Parts) (pss : List (List PairParts)) → AllZip ArePairs objects pss
    → AllByRecursion HasPairs objects
all_good [] [] h = tt
all_good [] (ps ∷ pss) h = absurd h
all_good (S ∷ objects) [] h = absurd h
all_good (S ∷ objects) (ps ∷ pss) h = ((ps, h.0), all_good objects pss h.1)

pub good_objects : (objects : List Parts) (pss : List (List PairParts)) → AllZip ArePairs objects pss
    → All HasPairs objects
good_objects objects pss h = All-from_recursion HasPairs objects (all_good objects pss h)

-- the fault of the object at a place, if those before it have pairs
pub object_fault : (items : List Object) (i : ℕ) (o : Object) (pss : List (List PairParts)) (fault : Fault)
    → i < length items → o ≡ get_or items i o → AllZip ArePairs (sections_in (take i items)) pss
    → IsPairsFault o.sections fault → OrNoMemory (IsFoundAmong (sections_in items)) fault
object_fault items i o pss fault l e h (inl none) = inl none
object_fault items i o pss fault l e h (inr found) =
    inr (first_here (λ (x : Object). x.sections) HasPairs IsFound items i o fault l e
    (good_objects (sections_in (take i items)) pss h) found)

-- memory runs out at a place
pub object_late : (items : List Object) (i : ℕ) (o : Object) (pss : List (List PairParts)) (fault : Fault)
    → i < length items → o ≡ get_or items i o → AllZip ArePairs (sections_in (take i items)) pss
    → IsLateMemory o.sections fault → IsLateAmong (sections_in items) fault
object_late [] i o pss fault l e h late S more is m = absurd (omega (arith, l))
object_late (u ∷ items) zero o pss fault l e h late S more is m =
    let same : u.sections ≡ S = cc in
    subst (λ (T : Parts). IsLateMemory T fault) (ap (λ (x : Object). x.sections) e ∙ same) late m
object_late (u ∷ items) (suc i) o [] fault l e h late S more is m = absurd h
object_late (u ∷ items) (suc i) o (ps ∷ pss) fault l e h late S more is m =
    let same : u.sections ≡ S = cc in
    (subst (λ (T : Parts). ArePairs T ps) same h.0).linked.sound

-- ---- strips and solutions
-- the strips of the lists from a place on: those of the list there, and the later ones
strips_from : (lists : List (Vec GapPair Global)) (i : ℕ) (v : Vec GapPair Global) → i < length lists
    → v ≡ get_or lists i v
    → strips_in (numbered (pair_lists (drop i lists))) ≡ strips_in (map pair_parts v.items)
    ++ strips_in (numbered (pair_lists (drop (i + 1) lists)))
strips_from lists i v l e =
    let strip : PairParts → Strip = λ p. p.strip in
    let next : drop i lists ≡ v ∷ drop (i + 1) lists = drop_more lists i v l
    ∙ ap (λ (w : Vec GapPair Global). w ∷ drop (i + 1) lists) (sym e) in
    ap (λ (ws : List (Vec GapPair Global)). strips_in (numbered (pair_lists ws))) next
    ∙ map-append strip (map pair_parts v.items) (numbered (pair_lists (drop (i + 1) lists)))

-- the solutions of two lists of strips, one list after the other
pub record Split (here more : List Strip) (xs : List Solution) : Type 0 where
  pub enough : length here ≤ length xs
  pub front : SolvesEach here (take (length here) xs)
  pub back : SolvesEach more (drop (length here) xs)

pub split_solved : (here more : List Strip) (xs : List Solution) → SolvesEach (here ++ more) xs → Split here more xs
split_solved [] more xs h = record
    { enough = omega arith; front = record { count = refl; each = λ k p s l. absurd (omega (arith, l)) }; back = h }
split_solved (p ∷ here) more [] h = absurd (omega (arith, h.count))
split_solved (p ∷ here) more (x ∷ xs) h =
    let rest = split_solved here more xs
    (record { count = omega (arith, h.count); each = λ k q y l. h.each (suc k) q y (omega (arith, l)) }) in
    record {
      enough = omega (arith, rest.enough);
      front = record { count = omega (arith, rest.front.count); each = each rest.front.each };
      back = rest.back;
    }
  where
    each : ((k : ℕ) (q : Strip) (y : Solution) → k < length here
        → Solves (get_or here k q) (get_or (take (length here) xs) k y)) → (k : ℕ) (q : Strip) (y : Solution)
        → k < length (p ∷ here) → Solves (get_or (p ∷ here) k q) (get_or (x ∷ take (length here) xs) k y)
    each f zero q y l = h.each zero q y (omega arith)
    each f (suc k) q y l = f k q y (omega (arith, l))

-- the solutions from a place on: first those of the list there
pub record Solved (v : List GapPair) (more : List Strip) (rest : List Solution) : Type 0 where
  pub enough : length v ≤ length rest
  pub here : SolvesEach (strips_in (map pair_parts v)) (take (length v) rest)
  pub others : SolvesEach more (drop (length v) rest)

solved_here : (lists : List (Vec GapPair Global)) (i : ℕ) (v : Vec GapPair Global) (rest : List Solution)
    → i < length lists → v ≡ get_or lists i v → SolvesEach (strips_in (numbered (pair_lists (drop i lists)))) rest
    → Solved v.items (strips_in (numbered (pair_lists (drop (i + 1) lists)))) rest
solved_here lists i v rest l e h =
    let here = strips_in (map pair_parts v.items) in
    let more = strips_in (numbered (pair_lists (drop (i + 1) lists))) in
    let n : length here ≡ length v.items = length-map (map pair_parts v.items) _ ∙ length-map v.items pair_parts in
    let s = split_solved here more rest (subst (λ (ss : List Strip). SolvesEach ss rest) (strips_from lists i v l e) h)
    in
    record {
      enough = omega (arith, s.enough, n);
      here = subst (λ (k : ℕ). SolvesEach here (take k rest)) n s.front;
      others = subst (λ (k : ℕ). SolvesEach more (drop k rest)) n s.back;
    }

-- each object has a list
pub as_many : (items : List Object) (lists : List (Vec GapPair Global))
    → AllZip ArePairs (sections_in items) (pair_lists lists) → length lists ≡ length items
as_many items lists h = omega (
  arith,
  AllZip-long ArePairs (sections_in items) (pair_lists lists) h,
  length-map items (λ (o : Object). o.sections),
  length-map lists (λ (v : Vec GapPair Global). map pair_parts v.items),
)

-- what holds of the objects before a place and of their lists, where the place is behind the last object, holds of all
pub all_done : (F : FileParts) (items : List Object) (lists : List (Vec GapPair Global)) (i : ℕ)
    (P : List Parts → List (List PairParts) → Type 0) → map object_parts items ≡ F.objects
    → AreUnder F.cost F.rule items → AreAllPairs F (pair_lists lists) → length items ≤ i
    → P (sections_in (take i items)) (pair_lists (take i lists)) → P (objects_in F) (pair_lists lists)
all_done F items lists i P is under pairs end h =
    let last : length lists ≤ i = omega
    (arith, end, as_many items lists (held_pairs F items (pair_lists lists) is under pairs)) in
    subst (λ (objects : List Parts). P objects (pair_lists lists)) (objects_are F items is under)
    (subst (λ (os : List Object). P (sections_in os) (pair_lists lists)) (take_all i items end)
    (subst (λ (vs : List (Vec GapPair Global)). P (sections_in (take i items)) (pair_lists vs)) (take_all i lists last)
    h))

-- the solutions of the list of an object, and those of the later lists
pub parted : (items : List Object) (lists : List (Vec GapPair Global)) (i : ℕ) (v : Vec GapPair Global)
    (rest : List Solution) → AllZip ArePairs (sections_in items) (pair_lists lists) → i < length items
    → v ≡ get_or lists i v
    → SolvesEach (strips_in (numbered (pair_lists (drop i lists)))) rest
    → Solved v.items (strips_in (numbered (pair_lists (drop (i + 1) lists)))) rest
parted items lists i v rest pairs l e h = solved_here lists i v rest (omega (arith, l, as_many items lists pairs)) e h

-- what holds of all items so far, and of the next one
pub all_push : {A B : Type 0} (f : A → B) (P : B → Type 0) (old new : List A) (y : A) → new ≡ old ++ y ∷ []
    → All P (map f old) → P (f y) → All P (map f new)
all_push {B = B} f P old new y n h r =
    subst (λ (zs : List B). All P zs) (sym (ap (map f) n ∙ map-append f old (y ∷ [])))
    (All-append P (map f old) (f y ∷ []) h (all_one P (f y) r))

-- the places of pairs, as contracts see the pairs
held_places : (n : ℕ) (ps : List GapPair) → AllByRecursion (λ (p : GapPair). p.gap + 1 < n) ps
    → AllByRecursion (λ (p : PairParts). p.gap + 1 < n) (map pair_parts ps)
held_places n [] h = tt
held_places n (p ∷ ps) h = (h.0, held_places n ps h.1)

pub lie_in_gaps : (S : Parts) (ps : List GapPair) → All (λ (p : GapPair). p.gap + 1 < length S.sections) ps
    → LieInGaps S (map pair_parts ps)
lie_in_gaps S ps h =
    let n : ℕ = length S.sections in
    All-from_recursion (λ (p : PairParts). p.gap + 1 < n) (map pair_parts ps)
    (held_places n ps (recursion_from_All (λ (p : GapPair). p.gap + 1 < n) ps h))

-- the surface of one more object, with as many pairs as its list has
pub counts_more : (lists : List (Vec GapPair Global)) (i : ℕ) (v : Vec GapPair Global) (old new : List Built)
    (b : Built) → i < length lists → v ≡ get_or lists i v → new ≡ old ++ b ∷ [] → b.pairs ≡ length v.items
    → map (λ (x : Built). x.pairs) old ≡ map length (pair_lists (take i lists))
    → map (λ (x : Built). x.pairs) new ≡ map length (pair_lists (take (i + 1) lists))
counts_more lists i v old new b l e n c h =
    let count : Built → ℕ = λ x. x.pairs in
    let held : Vec GapPair Global → List PairParts = λ w. map pair_parts w.items in
    let size : List PairParts → ℕ = length in
    let here : b.pairs ≡ length (held v) = c ∙ sym (length-map v.items pair_parts) in
    ap (map count) n ∙ map-append count old (b ∷ []) ∙ ap₂ (λ (ks : List ℕ) (k : ℕ). ks ++ k ∷ []) h here
    ∙ sym (map-append size (pair_lists (take i lists)) (held v ∷ []))
    ∙ ap (map size) (sym (front_more held lists i v l e))

-- the pairs of all objects are counted once
pub counts_numbered : (each : List Built) (pss : List (List PairParts))
    → map (λ (x : Built). x.pairs) each ≡ map length pss → sum_by (λ (x : Built). x.pairs) each ≡ length (numbered pss)
counts_numbered [] [] e = refl
counts_numbered [] (ps ∷ pss) e = absurd cc
counts_numbered (b ∷ each) [] e = absurd cc
counts_numbered (b ∷ each) (ps ∷ pss) e =
    let here : b.pairs ≡ length ps = cc in
    let more : map (λ (x : Built). x.pairs) each ≡ map length pss = cc in
    omega (
      arith,
      here,
      counts_numbered each pss more,
      sum_by-cons (λ (x : Built). x.pairs) b each,
      length-append ps (numbered pss),
    )
