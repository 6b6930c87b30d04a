-- `is_one_longer` is right because 0 is one more than no number, and one less than any other can be taken.
-- Assumes nothing.
use mathlib.Core.Path.{◌≡◌, sym, ◌∙◌}
use Prim.Native.Nat.{ℕ, ◌+◌, ◌-◌}
use native.Mathlib.Decide.{ℕ_discrete}
use native.Mathlib.Omega.{arith}
use lib.Dec.{eqb}
use borrow.Author.Rules.{rules}
use borrow.Author.Tests.{eq-eqb, ne_eqb}
use Rattle.oid_run.proofs.list.is_one_longer.Statement.{statement}
use Rattle.oid_run.proofs.list.is_one_longer.Tie as tie

one_less : (m n : ℕ) → (n ≡ 0 → ⊥) → eqb (n - 1) m ≡ eqb n (m + 1)
one_less m n some = go (ℕ_discrete n (m + 1))
  where
    go : Dec (n ≡ m + 1) → eqb (n - 1) m ≡ eqb n (m + 1)
    go (yes e) = eq-eqb (n - 1) m (omega arith) ∙ sym (eq-eqb n (m + 1) e)
    go (no e) = ne_eqb (n - 1) m (λ q. omega arith) ∙ sym (ne_eqb n (m + 1) e)

returns : tie.Need-returns-then-b-eq0
returns c =
    let s = c in
    sym (ne_eqb s.args.b.count (s.args.a.count + 1) (λ e. omega arith))

sub-result : tie.Need-overflow_sub-result
sub-result c = search rules

returns-2 : tie.Need-returns
returns-2 c = one_less _ _ c.if-b-eq0.false

pub is_one_longer_spec : {M : Type 1} → statement M
is_one_longer_spec = tie.close (tie.spec
    returns
    sub-result
    returns-2)
