-- How the code makes the exchanged file, byte by byte. Nothing that is promised is stated in these terms.
use Rattle.std.specs.Prelude.{ℕ, ◌+◌, ◌-◌, ◌*◌, ◌%◌, cond, List, eqb, leb, ltb}
use Rattle.file.specs.Layout.{byte, states}
use Rattle.exchange.specs.Exchange.{other_turn, other_objective, other_marks}

-- 01, 'Game file': what the byte b at place i of a file of n states becomes; place 8 is the objective, and byte 4 of
-- a state's record is its turn, byte 5 its marks
unfoldable pub exchanged_byte : ℕ → ℕ → ℕ → ℕ
exchanged_byte n i b =
    cond (eqb i 8) (other_objective b)
    (cond (ltb i 10) b
    (cond (leb (10 + 8 * n) i) b
    (cond (eqb ((i - 10) % 8) 4) (other_turn b)
    (cond (eqb ((i - 10) % 8) 5) (other_marks b) b))))

-- the bytes of the exchanged file, place by place
abbrev pub exchanged_bytes : List ℕ → ℕ → ℕ
exchanged_bytes f i = exchanged_byte (states f) i (byte f i)
