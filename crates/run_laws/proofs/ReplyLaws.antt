-- Each stage leaves one reply, if what follows it does.
use Rattle.std.proofs.Common.{◌≡◌, ℕ, ◌<◌, List, [], ◌∷◌, length, Option, None, Some, refl, sym, subst, ap, ap₂, ◌∙◌, arith}
use Rattle.std.specs.List.{AllZip}
use Rattle.std.proofs.lemmas.List.{length-map}
use Rattle.text_io.specs.Text.{kept_lines}
use Rattle.text_io.specs.WordLists.{Kept}
use Rattle.fku_types.specs.declared.fault.Fault.{Fault}
use Rattle.fku_types.specs.declared.fault.Fault.TheVariants.{NoMemory}
use Rattle.section_core.specs.declared.parts.Version.TheVariants.{Two}
use Rattle.section_core.specs.Parts.{Parts, FileParts}
use Rattle.section_core.specs.Reading.{HasFileFault}
use Rattle.section_core.specs.Texts.{IsTextOfFile}
use Rattle.row_paths.specs.Solutions.{Solution}
use Rattle.pair_pool.specs.Solvers.{SolvesEach}
use Rattle.pair_pool.proofs.SolutionLists.{one_solutions}
use Rattle.section_pairs.specs.Pairs.{PairParts}
use Rattle.surface_core.specs.Surfaces.{IsBuilt, strips_in}
use Rattle.section_pairs.specs.SectionFaults.{ArePairs, IsFound}
use Rattle.surface_core.specs.Objects.{AreAllPairs, AreBuilt, IsFoundIn, alone, numbered, objects_in}
use Rattle.surface_core.specs.declared.surfaces.Built.{Built}
use Rattle.section_pairs.proofs.PairLaws.{one_pairs}
use Rattle.section_pairs.proofs.FoundLaws.{one_found, paired_or_found}
use Rattle.surface_core.proofs.ObjectLaws.{objects_paired_or_found, one_found_in, one_pair_lists}
use Rattle.ring_caps.specs.RingSurfaces.{AreRingBuilt, IsRingFoundIn}
use Rattle.ring_caps.proofs.RingObjects.{built_or_found_in as ring_built_or_found, one_fault_in as one_ring_fault}
use Rattle.command_replies.specs.Reply.{Reply, told, refused, refused_after, Then, fails, goes_on, NoFault, Tells}
use Rattle.command_replies.specs.Stages.{IsTooLong, IsWhole, IsFront, IsTextFault, AreNumbered, AreSeveral, IsOnly, IsSurfaceOf, IsSurfaceOfOne, on_input, on_front, on_objects, on_pairs, on_numbered, on_pairs_of, on_only, on_solutions, on_surface, on_surface_of}
use Rattle.command_replies.specs.Stages.AreSeveral.{found, too_many}
use Rattle.surface_commands.specs.RingCaps.{IsRingSurfaceOf, on_ring_surface}
use Rattle.run_laws.proofs.TextLaws.{one_reading, read_or_refused, one_text_fault, one_front, front_or_fault, one_front_fault}

-- a fault that is reported
abbrev pub IsToldFault : Fault → Type 0
IsToldFault f = f ≡ NoMemory → ⊥

-- a reply that can be written: `NoMemory` cannot
abbrev pub IsTelling : Reply → Type 0
IsTelling (told text solved) = Unit {0}
IsTelling (refused f) = IsToldFault f
IsTelling (refused_after words solved) = Unit {0}

-- two rules leave one reply; a rule leaves one
abbrev pub Agree : (Reply → Type 0) → (Reply → Type 0) → Type 0
Agree R Q = (r s : Reply) → IsTelling r → IsTelling s → R r → Q s → r ≡ s

abbrev pub IsOne : (Reply → Type 0) → Type 0
IsOne R = Agree R R

-- a stage has one fault, and none if it gives a value
abbrev pub HasOneFault : (Fault → Type 0) → Type 0
HasOneFault IsFault = (f g : Fault) → IsToldFault f → IsToldFault g → IsFault f → IsFault g → f ≡ g

abbrev pub NeverBoth : {X : Type 0} → (Fault → Type 0) → (X → Type 0) → Type 0
NeverBoth {X} IsFault Is = (x : X) (f : Fault) → IsToldFault f → Is x → IsFault f → ⊥

pub one_then : {X : Type 0} (IsFault : Fault → Type 0) (Is : X → Type 0) (rule : X → Reply → Type 0)
    → HasOneFault IsFault → NeverBoth IsFault Is
    → ((x y : X) → Is x → Is y → Agree (rule x) (rule y)) → IsOne (Then IsFault Is rule)
one_then IsFault Is rule one never agree r s t u (fails f h) (fails g k) = ap refused (one f g t u h k)
one_then IsFault Is rule one never agree r s t u (fails f h) (goes_on y q has k) = absurd (never y f t has h)
one_then IsFault Is rule one never agree r s t u (goes_on x p is h) (fails g k) = absurd (never x g u is k)
one_then IsFault Is rule one never agree r s t u (goes_on x p is h) (goes_on y q has k) = agree x y is has p q t u h k

-- if it gives at most one value
pub one_stage : {X : Type 0} (IsFault : Fault → Type 0) (Is : X → Type 0) (rule : X → Reply → Type 0)
    → HasOneFault IsFault → NeverBoth IsFault Is
    → ((x y : X) → Is x → Is y → x ≡ y) → ((x : X) → Is x → IsOne (rule x)) → IsOne (Then IsFault Is rule)
one_stage IsFault Is rule one never same inner =
    one_then IsFault Is rule one never
    (λ x y is has. subst (λ z. Agree (rule x) (rule z)) (same x y is has) (inner x is))

-- the last stage
pub agree_tells : (s t : List ℕ) (m n : ℕ) → s ≡ t → m ≡ n → Agree (Tells s m) (Tells t n)
agree_tells s t m n e d p q is has h k = h ∙ ap₂ (λ (x : List ℕ) (y : ℕ). told x y) e d ∙ sym k

pub one_tells : (s : List ℕ) (m : ℕ) → IsOne (Tells s m)
one_tells s m = agree_tells s s m m refl refl

-- the input within its limit
pub one_input : (limit : Option ℕ) (rule : List ℕ → Reply → Type 0) (input : List ℕ)
    → ((bytes : List ℕ) → IsOne (rule bytes)) → IsOne (on_input limit rule input)
one_input None rule input inner = inner []
one_input (Some limit) rule input inner =
    one_stage (IsTooLong limit input) (IsWhole limit input) rule (λ f g t u h k. h.1 ∙ sym k.1)
    (λ x f t is h. omega (arith, is.0, h.0)) (λ x y is has. is.1 ∙ sym has.1) (λ x is. inner x)

-- objects without a tail, and with one
pub one_objects : (rule : FileParts → Reply → Type 0) (bytes : List ℕ)
    → ((F : FileParts) → IsTextOfFile bytes F → IsOne (rule F)) → IsOne (on_objects rule bytes)
one_objects rule bytes inner =
    one_stage (IsTextFault bytes) (IsTextOfFile bytes) rule (λ f g t u h k. one_text_fault bytes f g h k)
    (λ F f t is h. read_or_refused bytes F f is h) (one_reading bytes) inner

pub one_fronts : (rule : FileParts → List Kept → Reply → Type 0) (bytes : List ℕ)
    → ((F : FileParts) (tail : List Kept) → IsOne (rule F tail)) → IsOne (on_front rule bytes)
one_fronts rule bytes inner =
    one_stage (HasFileFault Two (kept_lines bytes)) (IsFront bytes) (λ f. rule f.0 f.1)
    (λ f g t u h k. one_front_fault bytes f g h k) (λ f fault t is h. front_or_fault bytes f fault is h)
    (one_front bytes)
    (λ f is. inner f.0 f.1)

-- the pairs of objects, object by object and through the text
pub one_pair_lists_of : (F : FileParts) (rule : List (List PairParts) → Reply → Type 0)
    → ((pss : List (List PairParts)) → IsOne (rule pss)) → IsOne (on_pairs F rule)
one_pair_lists_of F rule inner =
    one_stage (IsFoundIn F) (AreAllPairs F) rule (λ f g t u h k. one_found_in F f g h k)
    (λ pss f t is h. objects_paired_or_found F pss f is h) (one_pair_lists F) (λ pss is. inner pss)

pub one_numbered : (F : FileParts) (rule : List PairParts → Reply → Type 0) → ((ps : List PairParts) → IsOne (rule ps))
    → IsOne (on_numbered F rule)
one_numbered F rule inner =
    one_stage (IsFoundIn F) (AreNumbered F) rule (λ f g t u h k. one_found_in F f g h k)
    (λ ps f t is h. objects_paired_or_found F is.0 f is.1 h)
    (λ ps qs is has. is.2 ∙ ap numbered (one_pair_lists F is.0 has.0 is.1 has.1) ∙ sym has.2) (λ ps is. inner ps)

-- the pairs of one object, and the solutions of pairs
pub one_pairs_of : (S : Parts) (rule : List PairParts → Reply → Type 0) → ((ps : List PairParts) → IsOne (rule ps))
    → IsOne (on_pairs_of S rule)
one_pairs_of S rule inner = one_stage (IsFound S) (ArePairs S) rule (λ f g t u h k. one_found S f g h k)
    (λ ps f t is h. paired_or_found S ps f is h) (one_pairs S) (λ ps is. inner ps)

pub one_solution_list : (ps : List PairParts) (rule : List Solution → Reply → Type 0)
    → ((xs : List Solution) → IsOne (rule xs)) → IsOne (on_solutions ps rule)
one_solution_list ps rule inner =
    one_stage NoFault (SolvesEach (strips_in ps)) rule (λ f g t u h k. absurd h) (λ xs f t is h. h)
    (one_solutions (strips_in ps)) (λ xs is. inner xs)

-- there is one object, or there are several and they have one fault
one_several : (F : FileParts) (f g : Fault) → AreSeveral F f → AreSeveral F g → f ≡ g
one_several F _ _ (found f l h) (found g m k) = one_found_in F f g h k
one_several F _ _ (found f l h) (too_many pss m k) = absurd (objects_paired_or_found F pss f k h)
one_several F _ _ (too_many pss l h) (found g m k) = absurd (objects_paired_or_found F pss g h k)
one_several F _ _ (too_many pss l h) (too_many qss m k) = refl

not_several : (F : FileParts) (S : Parts) → IsOnly F S → 1 < length F.objects → ⊥
not_several F S is l = let one : length (objects_in F) ≡ 1 = ap length is in
    omega (arith, l, one, length-map F.objects (alone F))

only_or_several : (F : FileParts) (S : Parts) (f : Fault) → IsOnly F S → AreSeveral F f → ⊥
only_or_several F S _ is (found f l h) = not_several F S is l
only_or_several F S _ is (too_many pss l h) = not_several F S is l

one_object : (F : FileParts) (S T : Parts) → IsOnly F S → IsOnly F T → S ≡ T
one_object F S T is has = let e : S ∷ [] ≡ T ∷ [] = sym is ∙ has in cc

pub one_only : (F : FileParts) (rule : Parts → Reply → Type 0) → ((S : Parts) → IsOne (rule S)) → IsOne (on_only F rule)
one_only F rule inner = one_stage (AreSeveral F) (IsOnly F) rule (λ f g t u h k. one_several F f g h k)
    (λ S f t is h. only_or_several F S f is h) (one_object F) (λ S is. inner S)

-- the pairs of objects with surfaces
pairs_in : (objects : List Parts) (bs : List Built) → AllZip IsBuilt objects bs → (pss : List (List PairParts))
    × AllZip ArePairs objects pss
pairs_in [] [] h = ([], tt)
pairs_in [] (b ∷ bs) h = absurd h
pairs_in (S ∷ objects) [] h = absurd h
pairs_in (S ∷ objects) (b ∷ bs) h = let more = pairs_in objects bs h.1 in (h.0.pairs ∷ more.0, (h.0.are_pairs, more.1))

built_or_found : (F : FileParts) (b : Built) (f : Fault) → AreBuilt F b → IsFoundIn F f → ⊥
built_or_found F b f is h = let pss = pairs_in (objects_in F) is.each is.built in
    objects_paired_or_found F pss.0 f pss.1 h

-- the surface of objects, that with caps of groups, and the surface of one object
pub one_surface_of : (F : FileParts) (rule : Built → Reply → Type 0)
    → ((b c : Built) → AreBuilt F b → AreBuilt F c → Agree (rule b) (rule c)) → IsOne (on_surface F rule)
one_surface_of F rule agree =
    one_then (IsFoundIn F) (IsSurfaceOf F) rule (λ f g t u h k. one_found_in F f g h k)
    (λ b f t is h. built_or_found F b f is.is_built h) (λ b c is has. agree b c is.is_built has.is_built)

pub one_ring_surface_of : (F : FileParts) (rule : Built → Reply → Type 0)
    → ((b c : Built) → AreRingBuilt F b → AreRingBuilt F c → Agree (rule b) (rule c)) → IsOne (on_ring_surface F rule)
one_ring_surface_of F rule agree =
    one_then (IsRingFoundIn F) (IsRingSurfaceOf F) rule (λ f g t u h k. one_ring_fault F f g h k)
    (λ b f t is h. ring_built_or_found F b f is.is_built h) (λ b c is has. agree b c is.is_built has.is_built)

pub one_surface_of_one : (S : Parts) (rule : Built → Reply → Type 0)
    → ((b c : Built) → IsBuilt S b → IsBuilt S c → Agree (rule b) (rule c)) → IsOne (on_surface_of S rule)
one_surface_of_one S rule agree =
    one_then (IsFound S) (IsSurfaceOfOne S) rule (λ f g t u h k. one_found S f g h k)
    (λ b f t is h. paired_or_found S is.is_built.pairs f is.is_built.are_pairs h)
    (λ b c is has. agree b c is.is_built has.is_built)
