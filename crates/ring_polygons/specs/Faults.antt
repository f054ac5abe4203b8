-- Why rings are not joined.
use Rattle.std.specs.Prelude.{◌≡◌, ℕ, ◌<◌, ◌≤◌}
use Rattle.fku_types.specs.declared.limits.TheConstants.{MAX_COMPOSITE_VERTICES}
use Rattle.ring_polygons.specs.declared.fault.ComposeFault.{ComposeFault}
use Rattle.ring_polygons.specs.declared.fault.ComposeFault.TheVariants.{TooLong, NoMemory}

-- the cause of a fault, if the composite would have n vertices: TooLong has n, which is above MAX_COMPOSITE_VERTICES;
-- NoMemory comes only for n up to it
abbrev pub IsCause : ℕ → ComposeFault → Type 0
IsCause n (TooLong count) = (count ≡ n) × (MAX_COMPOSITE_VERTICES < n)
IsCause n NoMemory = n ≤ MAX_COMPOSITE_VERTICES
