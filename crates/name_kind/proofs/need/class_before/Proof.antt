-- `class_before` is right: where k is more than i, the difference is 0.
-- Assumes nothing.
use mathlib.Core.Path.{◌≡◌}
use Prim.Native.Nat.{◌-◌}
use native.Mathlib.Omega.{arith}
use borrow.Author.Rules.{rules}
use Rattle.name_kind.proofs.need.class_before.Statement.{statement}
use Rattle.name_kind.proofs.need.class_before.Tie as tie

class-at-requires : tie.Need-class_at-requires
class-at-requires c κs = search rules

class-at-requires-2 : tie.Need-class_at-requires-else-i-k
class-at-requires-2 c κs = search rules

returns : tie.Need-returns-then-i-k
returns c =
    let start = c in
    let none : start.args.i - start.args.k ≡ 0 = omega (arith, c.if-i-k.true) in
    rw none c.class_at.ensures

returns-2 : tie.Need-returns-else-i-k
returns-2 c = search rules

pub class_before_spec : {M : Type 1} → statement M
class_before_spec = tie.close (tie.spec
    class-at-requires
    class-at-requires-2
    returns
    returns-2)
