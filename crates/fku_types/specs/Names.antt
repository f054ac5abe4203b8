-- Names of contours, as bytes.
use Rattle.std.specs.Prelude.{ℕ, Bool, List, length, ◌&&◌, ◌||◌, ◌==◌, nat_le}
use Rattle.std.specs.List.{list_all}
use Rattle.fku_types.specs.declared.limits.TheConstants.{MAX_NAME_BYTES}

-- a letter, a digit, an underscore, a hyphen or a dot of ASCII
abbrev pub is_name_byte : ℕ → Bool
is_name_byte b = (nat_le 48 b && nat_le b 57) || (nat_le 65 b && nat_le b 90) || (nat_le 97 b && nat_le b 122)
    || (b == 95) || (b == 45) || (b == 46)

-- such bytes, at least one and not too many
abbrev pub is_name : List ℕ → Bool
is_name bytes = nat_le 1 (length bytes) && nat_le (length bytes) MAX_NAME_BYTES && list_all is_name_byte bytes
