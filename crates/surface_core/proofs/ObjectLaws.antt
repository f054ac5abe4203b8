-- Objects have one list of pairs each, or one first fault, and only one surface.
use Rattle.std.proofs.Common.{◌≡◌, Bor, List, [], ◌∷◌, length, sum_by, refl, sym, ap, ap₂, ◌∙◌, ℤ, ◌+ℤ◌}
use Rattle.std.specs.Prelude.{ℕ, ◌+◌}
use Rattle.std.specs.List.{AllZip}
use Rattle.std.proofs.lemmas.List.{length-map}
use Rattle.std.proofs.lemmas.List.Sums.{sum_by-cons}
use Rattle.fku_types.specs.declared.fault.Fault.{Fault}
use Rattle.plane_geom.specs.Planes.{signed_sum}
use Rattle.strip_graph.specs.Strips.{Strip}
use Rattle.section_core.specs.Parts.{Parts, FileParts}
use Rattle.triangle_meshes.specs.Meshes.{Surface, surface_of}
use Rattle.triangle_meshes.specs.Joined.{joined}
use Rattle.surface_core.specs.declared.surfaces.Built.{Built}
use Rattle.section_pairs.specs.Pairs.{PairParts}
use Rattle.section_pairs.specs.SectionFaults.{ArePairs, IsFound}
use Rattle.pair_pool.specs.Solvers.{referents}
use Rattle.pair_pool.proofs.Referents.{count_referents}
use Rattle.surface_core.specs.Surfaces.{strips_in, IsBuilt}
use Rattle.surface_core.specs.Objects.{objects_in, HasPairs, AreAllPairs, numbered, IsFoundIn, surfaces_of, AreBuiltBy, AreBuilt}
use Rattle.section_pairs.proofs.FirstLaws.{Excludes, first_not_all, first_one}
use Rattle.section_pairs.proofs.FoundLaws.{one_found, paired_or_found}
use Rattle.surface_core.proofs.ObjectSteps.{good_objects}
use Rattle.section_pairs.proofs.PairLaws.{one_pairs}
use Rattle.surface_core.proofs.SurfaceLaws.{one_surface}

-- ---- pairs and faults
pub one_each : {A B : Type 0} (R : A → B → Type 0) → ((x : A) (y z : B) → R x y → R x z → y ≡ z)
    → (xs : List A) (ys zs : List B) → AllZip R xs ys → AllZip R xs zs → ys ≡ zs
one_each R one [] [] [] h k = refl
one_each R one [] (y ∷ ys) zs h k = absurd h
one_each R one [] [] (z ∷ zs) h k = absurd k
one_each R one (x ∷ xs) [] zs h k = absurd h
one_each R one (x ∷ xs) (y ∷ ys) [] h k = absurd k
one_each {B = B} R one (x ∷ xs) (y ∷ ys) (z ∷ zs) h k =
    ap₂ (λ (u : B) (us : List B). u ∷ us) (one x y z h.0 k.0) (one_each R one xs ys zs h.1 k.1)

pub one_pair_lists : (F : FileParts) (pss qss : List (List PairParts)) → AreAllPairs F pss → AreAllPairs F qss
    → pss ≡ qss
one_pair_lists F pss qss h k = one_each ArePairs one_pairs (objects_in F) pss qss h k

pairs_exclude : Excludes HasPairs IsFound
pairs_exclude S fault has found = paired_or_found S has.0 fault has.1 found

pub objects_paired_or_found : (F : FileParts) (pss : List (List PairParts)) (fault : Fault) → AreAllPairs F pss
    → IsFoundIn F fault → ⊥
objects_paired_or_found F pss fault h found =
    first_not_all HasPairs IsFound pairs_exclude (objects_in F) fault (good_objects (objects_in F) pss h) found

pub one_found_in : (F : FileParts) (f g : Fault) → IsFoundIn F f → IsFoundIn F g → f ≡ g
one_found_in F f g h k = first_one HasPairs IsFound pairs_exclude one_found (objects_in F) f g h k

-- how many pairs go to the solver, for any lists of pairs of the objects
pub handed_over_in : (F : FileParts) (pss qss : List (List PairParts)) (strips : List (Bor Strip)) → AreAllPairs F pss
    → AreAllPairs F qss → referents strips ≡ strips_in (numbered qss) → length (numbered pss) ≡ length strips
handed_over_in F pss qss strips a b s =
    ap (λ (rss : List (List PairParts)). length (numbered rss)) (one_pair_lists F pss qss a b)
    ∙ sym (length-map (numbered qss) (λ (p : PairParts). p.strip))
    ∙ sym (count_referents strips (strips_in (numbered qss)) s)

-- ---- surfaces
-- equal meshes, and equal counts
abbrev pub AreAlike : Built → Built → Type 0
AreAlike b c = (surface_of b.mesh ≡ surface_of c.mesh) × (b.pairs ≡ c.pairs) × (b.cost ≡ c.cost) × (b.folded ≡ c.folded)

record AllAlike (bs cs : List Built) : Type 0 where
  meshes : surfaces_of bs ≡ surfaces_of cs
  pairs : sum_by (λ (x : Built). x.pairs) bs ≡ sum_by (λ (x : Built). x.pairs) cs
  cost : signed_sum (λ (x : Built). x.cost) bs ≡ signed_sum (λ (x : Built). x.cost) cs
  folded : sum_by (λ (x : Built). x.folded) bs ≡ sum_by (λ (x : Built). x.folded) cs

sum_alike : (f : Built → ℕ) (b c : Built) (bs cs : List Built) → f b ≡ f c → sum_by f bs ≡ sum_by f cs
    → sum_by f (b ∷ bs) ≡ sum_by f (c ∷ cs)
sum_alike f b c bs cs e h = sum_by-cons f b bs ∙ ap₂ (λ (m n : ℕ). m + n) e h ∙ sym (sum_by-cons f c cs)

all_alike : (Is : Parts → Built → Type 0) → ((S : Parts) (b c : Built) → Is S b → Is S c → AreAlike b c)
    → (objects : List Parts) (bs cs : List Built) → AllZip Is objects bs → AllZip Is objects cs → AllAlike bs cs
all_alike Is one [] [] [] h k = record { meshes = refl; pairs = refl; cost = refl; folded = refl }
all_alike Is one [] (b ∷ bs) cs h k = absurd h
all_alike Is one [] [] (c ∷ cs) h k = absurd k
all_alike Is one (S ∷ objects) [] cs h k = absurd h
all_alike Is one (S ∷ objects) (b ∷ bs) [] h k = absurd k
all_alike Is one (S ∷ objects) (b ∷ bs) (c ∷ cs) h k =
    let here = one S b c h.0 k.0 in
    let more = all_alike Is one objects bs cs h.1 k.1 in
    record {
      meshes = ap₂ (λ (s : Surface) (ss : List Surface). s ∷ ss) here.0 more.meshes;
      pairs = sum_alike (λ (x : Built). x.pairs) b c bs cs here.1 more.pairs;
      cost = ap₂ (λ (m n : ℤ). m +ℤ n) here.2 more.cost;
      folded = sum_alike (λ (x : Built). x.folded) b c bs cs here.3 more.folded;
    }

-- the surfaces of objects are determined if each is
pub one_built : (Is : Parts → Built → Type 0) → ((S : Parts) (b c : Built) → Is S b → Is S c → AreAlike b c)
    → (F : FileParts) (b c : Built) → AreBuiltBy Is F b → AreBuiltBy Is F c → AreAlike b c
one_built Is one F b c h k =
    let all = all_alike Is one (objects_in F) h.each k.each h.built k.built in (
      h.whole.mesh ∙ ap joined all.meshes ∙ sym k.whole.mesh,
      h.whole.pairs ∙ all.pairs ∙ sym k.whole.pairs,
      h.whole.cost ∙ all.cost ∙ sym k.whole.cost,
      h.whole.folded ∙ all.folded ∙ sym k.whole.folded,
    )

pub one_surface_in : (F : FileParts) (b c : Built) → AreBuilt F b → AreBuilt F c → AreAlike b c
one_surface_in F b c h k = one_built IsBuilt one_surface F b c h k
