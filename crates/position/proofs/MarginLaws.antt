-- One byte more: it starts a character, below which a byte stands, or it does not. Assumes nothing.
use Prim.Native.Nat.{ℕ, ◌+◌, ◌<◌}
use mathlib.Core.Path.{◌≡◌, refl}
use mathlib.Core.Bool.{true, false}
use mathlib.Core.List.{List, [], append-nil}
use native.Mathlib.Numerals.{add-one}
use lib.ListN.{length, get_or, take, set}
use lib.Seq.{take-suc-set}
use Rattle.position.specs.Margin.{is_inside, below, below_byte, margin}

pub margin_none : (text : List ℕ) (start : ℕ) → margin text start 0 ≡ []
unfolding margin
margin_none text start = refl

pub passed : (text : List ℕ) (start i : ℕ) → is_inside text (start + i) ≡ true → margin text start (i + 1) ≡ margin text start i
unfolding margin below_byte
passed text start i inside = rw add-one (simp (inside, append-nil))

pub marked : (out text : List ℕ) (start n i : ℕ) → n < length out → is_inside text (start + i) ≡ false → take n out ≡ margin text start i
    → take (n + 1) (set out n (below (get_or text (start + i) 0))) ≡ margin text start (i + 1)
unfolding margin below_byte
marked out text start n i room starts so_far = rw (add-one, add-one, take-suc-set) (simp (starts, so_far))

-- what each turn of the loop over the bytes needs
pub ruleset margin_steps = (margin_none, passed, marked)
