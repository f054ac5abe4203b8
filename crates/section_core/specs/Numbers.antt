-- Numbers as the code holds them.
use Rattle.std.specs.Prelude.{◌≡◌, ◌<◌, ℤ, nat_abs}
use Rattle.fku_types.specs.declared.limits.TheConstants.{MAX_NUMBER}
use Rattle.text_io.specs.declared.text.Number.{Number}
use Rattle.text_io.specs.declared.text.Number.TheVariants.{Value, Far}

-- the number that was read stands for this one
abbrev pub NumberIs : Number → ℤ → Type 0
NumberIs (Value n) z = n ≡ z
NumberIs Far z = MAX_NUMBER < nat_abs z
