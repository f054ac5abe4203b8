-- The definitions of this crate at worked examples, by computation.
use Rattle.std.proofs.Common.{◌≡◌, ◌-◌, ◌^◌, [], ◌∷◌, length, Some, refl, ap, arith}
use Rattle.text_io.specs.declared.outside.Took.TheVariants as took
use Rattle.text_io.specs.declared.outside.Gave.TheVariants as gave
use Rattle.text_io.specs.Outside.{Rose, Takes, Gives}
use Rattle.text_io.specs.Memory.{raised_count}

-- an unchanged count has not risen, except at its last value
count_of_faults : (raised_count 0 ≡ 1) × Rose 0 1 × (Rose 0 0 → ⊥) × Rose (2 ^ 64 - 1) (2 ^ 64 - 1)
count_of_faults = (refl, omega arith, λ h. omega (arith, h), omega arith)

-- a read gives at least one byte, and the bytes at the front; nothing is left only at the end
reads : Takes (took.Bytes 2) (Some (5 ∷ 6 ∷ 7 ∷ [])) (Some (7 ∷ [])) (5 ∷ 6 ∷ 0 ∷ [])
    × (Takes (took.Bytes 0) (Some (5 ∷ [])) (Some (5 ∷ [])) (0 ∷ []) → ⊥)
    × (Takes took.End (Some (5 ∷ [])) (Some (5 ∷ [])) (0 ∷ []) → ⊥)
reads = ((omega arith, omega arith, search), λ h. omega (arith, h.0), λ h. omega (arith, ap length h.0))

-- a write appends at least one byte of the piece, or nothing
writes : Gives (gave.Bytes 1) (Some (5 ∷ [])) (Some (5 ∷ 6 ∷ [])) (6 ∷ 7 ∷ [])
    × (Gives (gave.Bytes 0) (Some []) (Some []) (6 ∷ []) → ⊥)
    × (Gives gave.Failed (Some []) (Some (6 ∷ [])) (6 ∷ []) → ⊥)
writes = ((omega arith, omega arith, search), λ h. omega (arith, h.0), λ h. omega (arith, ap length h))
