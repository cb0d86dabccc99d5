-- What the digits of a sheet's line spell.
use Rattle.std.specs.Prelude.{ℕ, ◌+◌, ◌-◌, ◌*◌, ◌%◌, List, nat_lt, if◌then◌else◌, fold}

-- the value of a digit, from 0 to 9 or from a to f, and 0 of any other byte
abbrev pub digit_value : ℕ → ℕ
digit_value byte =
    if nat_lt byte 48 then 0
    else if nat_lt byte 58 then byte - 48
    else if nat_lt byte 97 then 0
    else if nat_lt byte 103 then byte - 97 + 10
    else 0

-- a number with one decimal digit more, as a remainder
abbrev pub with_digit : ℕ → ℕ → ℕ
with_digit value byte = (value * 10 + digit_value byte) % 65536

-- the number that decimal digits spell, as a remainder by 65536
abbrev pub number : List ℕ → ℕ
number digits = fold with_digit 0 digits
