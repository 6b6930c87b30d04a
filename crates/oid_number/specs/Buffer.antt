-- What a writer leaves in the number buffer.
-- Assumes nothing.
use Rattle.std.specs.Prelude.{List, ◌++◌, ℕ, ◌+◌, length, take, drop}

-- a buffer with these numbers at an index, and all else as it was
abbrev pub laid_at : ℕ → List ℕ → List ℕ → List ℕ
laid_at index numbers before = take index before ++ numbers ++ drop (index + length numbers) before
