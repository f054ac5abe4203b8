-- Sections have one surface with caps of groups, or one first fault.
use Rattle.std.proofs.Common.{◌≡◌, ℕ, List, sym, ap₂, ◌∙◌, subst, arith}
use Rattle.std.specs.Prelude.{All}
use Rattle.fku_types.specs.declared.fault.Fault.{Fault}
use Rattle.fku_types.specs.declared.fault.Fault.TheVariants.{CapLimit}
use Rattle.section_core.specs.Parts.{Parts}
use Rattle.triangle_meshes.specs.Meshes.{surface_of}
use Rattle.surface_core.specs.declared.surfaces.Built.{Built}
use Rattle.section_pairs.specs.Pairs.{PairParts, IsShort}
use Rattle.section_pairs.specs.SectionFaults.{IsFirstFault, ArePairs}
use Rattle.surface_core.specs.Surfaces.{IsBuiltWith}
use Rattle.section_pairs.proofs.PairLaws.{one_pairs}
use Rattle.section_pairs.proofs.FirstLaws.{Excludes, HasOne, first_not_all, first_one}
use Rattle.section_pairs.proofs.FoundLaws.{one_found, paired_or_found}
use Rattle.surface_core.proofs.SurfaceLaws.{one_surface_with}
use Rattle.ring_caps.specs.RingSurfaces.{IsRingBuilt, IsRingFound, HasLongGroup, group_sizes, by_group}
use Rattle.ring_caps.specs.RingSurfaces.IsRingFound.{in_sections, in_groups}

-- what is built of sections whose groups are short
pub ring_built : (S : Parts) (ps : List PairParts) (b : Built) → IsBuiltWith by_group S b → ArePairs S ps
    → All IsShort (group_sizes S ps) → IsRingBuilt S b
ring_built S ps b h pairs short = record {
  is_built = h;
  short = subst (λ (qs : List PairParts). All IsShort (group_sizes S qs))
      (one_pairs S ps h.pairs pairs h.are_pairs) short;
}

pub one_surface : (S : Parts) (b c : Built) → IsRingBuilt S b → IsRingBuilt S c
    → (surface_of b.mesh ≡ surface_of c.mesh) × (b.pairs ≡ c.pairs) × (b.cost ≡ c.cost) × (b.folded ≡ c.folded)
one_surface S b c h k = one_surface_with by_group S b c h.is_built k.is_built

-- a short group has no fault, and a long one has one
pub short_or_long : Excludes IsShort HasLongGroup
short_or_long x (CapLimit section count) s h = omega (arith, s, h.1, h.2)
short_or_long x f s h = absurd h

pub one_long : HasOne HasLongGroup
one_long x (CapLimit s n) (CapLimit t m) h k = ap₂ (λ (i j : ℕ). CapLimit i j) (h.0 ∙ sym k.0) (h.1 ∙ sym k.1)
one_long x (CapLimit s n) g h k = absurd k
one_long x f g h k = absurd h

-- if sections have pairs and all their groups are short, they have no fault
pub short_or_found : (S : Parts) (ps : List PairParts) (fault : Fault) → ArePairs S ps → All IsShort (group_sizes S ps)
    → IsRingFound S fault → ⊥
short_or_found S ps _ a short (in_sections f k) = paired_or_found S ps f a k
short_or_found S ps _ a short (in_groups f qs b k) =
    first_not_all IsShort HasLongGroup short_or_long (group_sizes S ps) f short
    (subst (λ (rs : List PairParts). IsFirstFault IsShort HasLongGroup (group_sizes S rs) f) (one_pairs S qs ps b a)
    k)

pub built_or_found : (S : Parts) (b : Built) (fault : Fault) → IsRingBuilt S b → IsRingFound S fault → ⊥
built_or_found S b fault h k = short_or_found S h.is_built.pairs fault h.is_built.are_pairs h.short k

pub one_fault : (S : Parts) (f g : Fault) → IsRingFound S f → IsRingFound S g → f ≡ g
one_fault S _ _ (in_sections f h) (in_sections g k) = one_found S f g h k
one_fault S _ _ (in_sections f h) (in_groups g ps a k) = absurd (paired_or_found S ps f a h)
one_fault S _ _ (in_groups f ps a h) (in_sections g k) = absurd (paired_or_found S ps g a k)
one_fault S _ _ (in_groups f ps a h) (in_groups g qs b k) =
    first_one IsShort HasLongGroup short_or_long one_long (group_sizes S ps) f g h
    (subst (λ (rs : List PairParts). IsFirstFault IsShort HasLongGroup (group_sizes S rs) g) (one_pairs S qs ps b a)
    k)
