-- The value of a hexadecimal digit. Assumes nothing.
use Rattle.std.specs.Prelude.{ℕ, ◌-◌, Bool, true, false, nat_le, nat_lt}

abbrev pub pick : {A : Type 0} → Bool → A → A → A
pick true a b = a
pick false a b = b

-- of either case, and 16 for any other byte
unfoldable pub nibble_of : ℕ → ℕ
nibble_of b =
    pick (nat_lt b 48) 16
    (pick (nat_le b 57) (b - 48)
    (pick (nat_lt b 65) 16 (pick (nat_le b 70) (b - 55) (pick (nat_lt b 97) 16 (pick (nat_le b 102) (b - 87) 16)))))
