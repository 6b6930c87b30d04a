-- Hex digits. Assumes nothing.
use Rattle.std.specs.Prelude.{ℕ, ◌-◌, Bool, ◌&&◌, leb, ltb, Option, Some, None}
use Rattle.index.specs.Choice.{when◌then◌else◌}

-- the value of a hex digit, or 16
unfoldable pub hex_digit : ℕ → ℕ
hex_digit b =
    when leb 48 b && leb b 57 then b - 48
    else when leb 65 b && leb b 70 then b - 55
    else when leb 97 b && leb b 102 then b - 87
    else 16

-- the byte is a hex digit
unfoldable pub is_hex : ℕ → Bool
is_hex b = ltb (hex_digit b) 16

-- the value of a hex digit, where the byte is one
unfoldable pub value_of : ℕ → Option ℕ
value_of b = when is_hex b then Some (hex_digit b) else None
