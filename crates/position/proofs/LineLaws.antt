-- One byte more: it ends a line, or it does not. Assumes nothing.
use Prim.Native.Nat.{ℕ, ◌+◌}
use mathlib.Core.Path.{◌≡◌, refl}
use mathlib.Core.List.{List}
use native.Mathlib.Numerals.{add-one}
use borrow.Author.Tests.{eq-eqb, ne_eqb}
use lib.ListN.{get_or}
use Rattle.position.specs.Line.{is_end, line_at, start_at}

pub line_none : (text : List ℕ) → line_at text 0 ≡ 1
unfolding line_at
line_none text = refl

pub line_more : (text : List ℕ) (i : ℕ) → get_or text i 0 ≡ 10 → line_at text (i + 1) ≡ line_at text i + 1
unfolding line_at is_end
line_more text i e = rw (add-one, add-one) (simp (eq-eqb _ _ e))

pub line_same : (text : List ℕ) (i : ℕ) → ¬ (get_or text i 0 ≡ 10) → line_at text (i + 1) ≡ line_at text i
unfolding line_at is_end
line_same text i e = rw add-one (simp (ne_eqb _ _ e))

pub start_none : (text : List ℕ) → start_at text 0 ≡ 0
unfolding start_at
start_none text = refl

pub start_more : (text : List ℕ) (i : ℕ) → get_or text i 0 ≡ 10 → start_at text (i + 1) ≡ i + 1
unfolding start_at is_end
start_more text i e = rw add-one (simp (eq-eqb _ _ e))

pub start_same : (text : List ℕ) (i : ℕ) → ¬ (get_or text i 0 ≡ 10) → start_at text (i + 1) ≡ start_at text i
unfolding start_at is_end
start_same text i e = rw add-one (simp (ne_eqb _ _ e))

-- what each turn of the loop over the bytes before a place needs
pub ruleset line_steps = (line_none, line_more, line_same, start_none, start_more, start_same)
