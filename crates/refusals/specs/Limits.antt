-- The limits that 01 and later requests name.
use Rattle.std.specs.Prelude.{ℕ}

-- "format over 4,096 bytes", "over 64 kinds", "a 513th piece begins"
abbrev pub most_format : ℕ
most_format = 4096

abbrev pub most_kinds : ℕ
most_kinds = 64

abbrev pub most_pieces : ℕ
most_pieces = 512

-- "number above 2,147,483,647", "text longer than .. 4,294,967,295"
abbrev pub largest_number : ℕ
largest_number = 2147483647

abbrev pub largest_end : ℕ
largest_end = 4294967295

-- "n, 2 bytes, 0 to 64; t, 4 bytes, 0 to 32,768"
abbrev pub most_values : ℕ
most_values = 64

abbrev pub most_text : ℕ
most_text = 32768

-- 02, E4: "up to 128 gates"
abbrev pub most_gates : ℕ
most_gates = 128
