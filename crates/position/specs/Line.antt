-- Lines of a text, as editors count them: a line feed (10) ends each. Assumes nothing.
use Rattle.std.specs.Prelude.{ℕ, zero, suc, ◌+◌, ◌-◌, Bool, cond, ◌&&◌, List, eqb, ltb, length, get_or, slice_range}
use Rattle.std.specs.List.{position_or_len}

-- a line ends at this byte
unfoldable pub is_end : List ℕ → ℕ → Bool
is_end text i = eqb (get_or text i 0) 10

-- the number of the line that a place stands in, from 1 on
unfoldable pub line_at : List ℕ → ℕ → ℕ
line_at text zero = 1
line_at text (suc n) = cond (is_end text n) (suc (line_at text n)) (line_at text n)

-- where that line starts
unfoldable pub start_at : List ℕ → ℕ → ℕ
start_at text zero = 0
start_at text (suc n) = cond (is_end text n) (suc n) (start_at text n)

-- where it ends: before the next line feed, or where the text does
abbrev pub feed_after : List ℕ → ℕ → ℕ
feed_after text place = place + position_or_len (λ b. eqb b 10) (slice_range text place (length text))

-- a carriage return (13) directly before that is no part of the line
unfoldable pub without_return : List ℕ → ℕ → ℕ → ℕ
without_return text place end = cond (ltb place end && eqb (get_or text (end - 1) 0) 13) (end - 1) end

abbrev pub end_at : List ℕ → ℕ → ℕ
end_at text place = without_return text place (feed_after text place)
