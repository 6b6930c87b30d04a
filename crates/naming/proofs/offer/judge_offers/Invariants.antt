-- The loop judges one rule at each import, and each that it passed has its value.
-- Assumes nothing.
use Rattle.std.proofs.Common.{◌≡◌, ◌<◌, length, ℕ, get_or}
use Rattle.rule.proofs.Judged.{Judging}
use Rattle.token.specs.Cut.{meanings_in}
use Rattle.scope.specs.Token.{classes_of}
use Rattle.scope.specs.Import.{imports_end}
use Rattle.scope.specs.Held.{import_word}
use Rattle.naming.specs.Rules.{not_offered}
use Rattle.naming.proofs.offer.judge_offers.Given as goal

abbrev pub invariant-loop-i : goal.invariant-loop-i
invariant-loop-i l =
    (length l.values ≡ length l.initial.values)
    × Judging (not_offered (meanings_in l.text)) (imports_end (classes_of (meanings_in l.text))) l.i
    × ((j : ℕ) → j < l.i → get_or l.values j 0 ≡ import_word (meanings_in l.text) j)
