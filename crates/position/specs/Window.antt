-- The part of a line that is shown around a place: where the line is long, at most 100 bytes on either side, and no character is cut.
-- Assumes nothing.
use Rattle.std.specs.Prelude.{ℕ, ◌+◌, ◌-◌, cond, List, leb}
use Rattle.position.specs.Line.{start_at, end_at}
use Rattle.position.specs.Margin.{is_inside}

-- how many bytes are shown on either side at most
abbrev pub reach : ℕ
reach = 100

-- the first place from k on that is not inside a character, which has four bytes at most
unfoldable pub first_start : List ℕ → ℕ → ℕ
first_start text k =
    cond (is_inside text k) (cond (is_inside text (k + 1)) (cond (is_inside text (k + 2)) (k + 3) (k + 2)) (k + 1)) k

-- where the part starts: where the line does, or nearer
unfoldable pub shown_from : List ℕ → ℕ → ℕ
shown_from text place = cond (leb (place - start_at text place) reach) (start_at text place) (first_start text (place - reach))

-- where it ends: where the line does, or nearer
unfoldable pub shown_to : List ℕ → ℕ → ℕ
shown_to text place = cond (leb (end_at text place - place) reach) (end_at text place) (first_start text (place + reach - 3))
