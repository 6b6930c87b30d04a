-- All places before are inside a character.
use Rattle.std.proofs.Common.{◌≡◌, ◌≤◌, ◌<◌, ℕ, true}
use Rattle.position.specs.Margin.{is_inside}
use Rattle.position.proofs.window.first_start.Given as goal

abbrev pub invariant-loop-i : goal.invariant-loop-i
invariant-loop-i l = (j : ℕ) → l.k ≤ j → j < l.i → is_inside l.text j ≡ true
