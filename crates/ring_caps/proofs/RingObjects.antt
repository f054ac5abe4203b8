-- Objects have one surface with caps of groups, or one first fault.
use Rattle.std.proofs.Common.{◌≡◌, inl, inr, List, [], ◌∷◌, refl, sym, ap, ap₂, ◌∙◌, subst}
use Rattle.std.specs.Prelude.{All}
use Rattle.std.specs.List.{AllByRecursion, AllZip}
use Rattle.std.proofs.lemmas.List.Elements.{All-append, All-nil, All-from_recursion}
use Rattle.fku_types.proofs.ListLaws.{all_front, all_rest}
use Rattle.fku_types.specs.declared.fault.Fault.{Fault}
use Rattle.section_core.specs.Parts.{Parts, FileParts}
use Rattle.triangle_meshes.specs.Meshes.{Surface, surface_of}
use Rattle.triangle_meshes.specs.Joined.{joined}
use Rattle.pair_pool.proofs.SolutionLists.{same_solutions}
use Rattle.surface_core.specs.declared.surfaces.Built.{Built}
use Rattle.section_pairs.specs.Pairs.{PairParts, IsShort}
use Rattle.section_pairs.specs.SectionFaults.{IsFirstFault, OrNoMemory, ArePairs}
use Rattle.section_pairs.proofs.PairLaws.{one_pairs}
use Rattle.surface_core.specs.Objects.{objects_in, AreAllPairs, IsFoundIn, AreBuilt, surfaces_of}
use Rattle.surface_core.specs.Surfaces.{by_contour, IsBuilt, IsBuiltWith, strips_in}
use Rattle.section_pairs.proofs.FirstLaws.{first_not_all, first_one}
use Rattle.surface_core.proofs.SurfaceLaws.{same_surface}
use Rattle.surface_core.proofs.ObjectLaws.{AreAlike, one_built, one_pair_lists, objects_paired_or_found, one_found_in}
use Rattle.ring_caps.specs.RingSurfaces.{group_sizes, HasLongGroup, all_group_sizes, IsPlainSurface, ArePlainSurfaces, IsRingBuilt, AreRingBuilt, IsRingFoundIn, IsAllRingFault, by_group}
use Rattle.ring_caps.specs.RingSurfaces.IsRingFoundIn.{in_objects, in_groups}
use Rattle.ring_caps.proofs.RingLaws.{one_surface, ring_built, short_or_long, one_long}

-- the pairs of surfaces, whose groups are short
pub record Joints (objects : List Parts) : Type 0 where
  pub lists : List (List PairParts)
  pub pairs : AllZip ArePairs objects lists
  pub short : All IsShort (all_group_sizes objects lists)

pub joints : (objects : List Parts) (each : List Built) → AllZip IsRingBuilt objects each → Joints objects
joints [] [] h = record { lists = []; pairs = tt; short = All-nil IsShort }
joints [] (b ∷ each) h = absurd h
joints (S ∷ objects) [] h = absurd h
joints (S ∷ objects) (b ∷ each) h =
    let more = joints objects each h.1 in
    record {
      lists = h.0.is_built.pairs ∷ more.lists;
      pairs = (h.0.is_built.are_pairs, more.pairs);
      short =
          All-append IsShort (group_sizes S h.0.is_built.pairs) (all_group_sizes objects more.lists) h.0.short
          more.short;
    }

-- what is built of objects whose groups are short
pub rings_built : (objects : List Parts) (pss : List (List PairParts)) (each : List Built)
    → AllZip (IsBuiltWith by_group) objects each → AllZip ArePairs objects pss
    → AllByRecursion IsShort (all_group_sizes objects pss) → AllZip IsRingBuilt objects each
rings_built [] pss [] h k short = tt
rings_built [] pss (b ∷ each) h k short = absurd h
rings_built (S ∷ objects) pss [] h k short = absurd h
rings_built (S ∷ objects) [] (b ∷ each) h k short = absurd k
rings_built (S ∷ objects) (ps ∷ pss) (b ∷ each) h k short =
    let here = All-from_recursion IsShort (group_sizes S ps)
    (all_front IsShort (group_sizes S ps) (all_group_sizes objects pss) short) in (
      ring_built S ps b h.0 k.0 here,
      rings_built objects pss each h.1 k.1
          (all_rest IsShort (group_sizes S ps) (all_group_sizes objects pss) short),
    )

pub one_ring_surface_in : (F : FileParts) (b c : Built) → AreRingBuilt F b → AreRingBuilt F c → AreAlike b c
one_ring_surface_in F b c h k = one_built IsRingBuilt one_surface F b c h k

-- if objects have pairs and all their groups are short, they have no fault
pub short_or_found_in : (F : FileParts) (pss : List (List PairParts)) (fault : Fault) → AreAllPairs F pss
    → All IsShort (all_group_sizes (objects_in F) pss) → IsRingFoundIn F fault → ⊥
short_or_found_in F pss _ a short (in_objects f k) = objects_paired_or_found F pss f a k
short_or_found_in F pss _ a short (in_groups f qss b k) =
    first_not_all IsShort HasLongGroup short_or_long (all_group_sizes (objects_in F) pss) f short
    (subst (λ (rss : List (List PairParts)). IsFirstFault IsShort HasLongGroup (all_group_sizes (objects_in F) rss) f)
    (one_pair_lists F qss pss b a) k)

pub built_or_found_in : (F : FileParts) (b : Built) (fault : Fault) → AreRingBuilt F b → IsRingFoundIn F fault → ⊥
built_or_found_in F b fault h k =
    let own = joints (objects_in F) h.each h.built in
    short_or_found_in F own.lists fault own.pairs own.short k

pub one_fault_in : (F : FileParts) (f g : Fault) → IsRingFoundIn F f → IsRingFoundIn F g → f ≡ g
one_fault_in F _ _ (in_objects f h) (in_objects g k) = one_found_in F f g h k
one_fault_in F _ _ (in_objects f h) (in_groups g pss a k) = absurd (objects_paired_or_found F pss f a h)
one_fault_in F _ _ (in_groups f pss a h) (in_objects g k) = absurd (objects_paired_or_found F pss g a k)
one_fault_in F _ _ (in_groups f pss a h) (in_groups g qss b k) =
    first_one IsShort HasLongGroup short_or_long one_long (all_group_sizes (objects_in F) pss) f g h
    (subst (λ (rss : List (List PairParts)). IsFirstFault IsShort HasLongGroup (all_group_sizes (objects_in F) rss) g)
    (one_pair_lists F qss pss b a) k)

-- ---- what is refused
pub found_in_told : (F : FileParts) (fault : Fault) → OrNoMemory (IsFoundIn F) fault → IsAllRingFault F fault
found_in_told F fault (inl m) = inl m
found_in_told F fault (inr h) = inr (IsRingFoundIn.in_objects fault h)

pub groups_in_told : (F : FileParts) (pss : List (List PairParts)) (fault : Fault) → AreAllPairs F pss
    → OrNoMemory (IsFirstFault IsShort HasLongGroup (all_group_sizes (objects_in F) pss)) fault → IsAllRingFault F fault
groups_in_told F pss fault a (inl m) = inl m
groups_in_told F pss fault a (inr h) = inr (IsRingFoundIn.in_groups fault pss a h)

-- ---- surfaces with one cap for each contour
pub built_plain : (S : Parts) (b : Built) → IsBuilt S b → IsPlainSurface S (surface_of b.mesh)
built_plain S b h = record {
  pairs = h.pairs;
  solutions = h.solutions;
  are_pairs = h.are_pairs;
  chosen = h.chosen;
  surface = h.surface;
}

each_plain : (objects : List Parts) (each : List Built) → AllZip IsBuilt objects each
    → AllZip IsPlainSurface objects (surfaces_of each)
each_plain [] [] h = tt
each_plain [] (b ∷ each) h = absurd h
each_plain (S ∷ objects) [] h = absurd h
each_plain (S ∷ objects) (b ∷ each) h = (built_plain S b h.0, each_plain objects each h.1)

pub built_plain_in : (F : FileParts) (b : Built) → AreBuilt F b → ArePlainSurfaces F (surface_of b.mesh)
built_plain_in F b h = record {
  each = surfaces_of h.each;
  plain = each_plain (objects_in F) h.each h.built;
  whole =
      h.whole.mesh;
}

pub one_plain : (S : Parts) (m n : Surface) → IsPlainSurface S m → IsPlainSurface S n → m ≡ n
one_plain S m n h k =
    let ps : h.pairs ≡ k.pairs = one_pairs S h.pairs k.pairs h.are_pairs k.are_pairs in
    let xs : h.solutions ≡ k.solutions =
    same_solutions (strips_in h.pairs) (strips_in k.pairs) h.solutions k.solutions (ap strips_in ps) h.chosen
    k.chosen in
    same_surface by_contour S h.pairs k.pairs h.solutions k.solutions m n ps xs h.surface k.surface

one_plain_each : (objects : List Parts) (ms ns : List Surface) → AllZip IsPlainSurface objects ms
    → AllZip IsPlainSurface objects ns → ms ≡ ns
one_plain_each [] [] [] h k = refl
one_plain_each [] (m ∷ ms) ns h k = absurd h
one_plain_each [] [] (n ∷ ns) h k = absurd k
one_plain_each (S ∷ objects) [] ns h k = absurd h
one_plain_each (S ∷ objects) (m ∷ ms) [] h k = absurd k
one_plain_each (S ∷ objects) (m ∷ ms) (n ∷ ns) h k =
    ap₂ (λ (x : Surface) (xs : List Surface). x ∷ xs) (one_plain S m n h.0 k.0) (one_plain_each objects ms ns h.1 k.1)

pub one_plain_in : (F : FileParts) (m n : Surface) → ArePlainSurfaces F m → ArePlainSurfaces F n → m ≡ n
one_plain_in F m n h k = h.whole ∙ ap joined (one_plain_each (objects_in F) h.each k.each h.plain k.plain) ∙ sym k.whole
