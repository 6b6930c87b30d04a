-- The buffer that lines are laid into. Assumes nothing.
use Rattle.std.specs.Prelude.{ℕ}

-- the most bytes of a file's name
abbrev pub longest_path : ℕ
longest_path = 4096

-- the bytes of the buffer, and how many make it full
abbrev pub page_size : ℕ
page_size = 16384

abbrev pub full : ℕ
full = 8192
