-- A rule that is tested nowhere is kept.
-- Assumes nothing.
use mathlib.Core.Path.{◌≡◌}
use Prim.Native.Nat.{ℕ}
use native.Mathlib.Omega.{arith}
use Rattle.rule.specs.Rule.{judge_one}
use Rattle.rule.proofs.Judged.{never_broken}
use Rattle.syntax_check.specs.Refusal.{nothing_tested}
use Rattle.std.specs.Prelude.{Ok}

pub nothing_kept : (number : ℕ) → Ok tt ≡ judge_one (nothing_tested number)
nothing_kept number = never_broken (nothing_tested number) (λ i l h. absurd (omega arith))
