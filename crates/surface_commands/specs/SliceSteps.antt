-- What the code of `slice` has found of a height.
use Rattle.std.specs.Prelude.{ℤ, Bool, true, false, All}
use Rattle.fku_types.specs.declared.fault.Fault.{Fault}
use Rattle.fku_types.specs.declared.fault.Fault.TheVariants.{Outside}
use Rattle.section_core.specs.Parts.{Parts, FileParts}
use Rattle.surface_core.specs.Objects.{objects_in}
use Rattle.section_slices.specs.Slices.{IsOnSection, IsOutside}

-- the fault of a height that is outside
abbrev pub is_outside : Fault → Bool
is_outside (Outside z) = true
is_outside fault = false

-- a height is not outside all objects, and is that of a section of none
pub record FitsHeight (F : FileParts) (z : ℤ) : Type 0 where
  pub on_none : All (λ (S : Parts). IsOnSection S z → ⊥) (objects_in F)
  pub some : All (λ (S : Parts). IsOutside S z) (objects_in F) → ⊥
