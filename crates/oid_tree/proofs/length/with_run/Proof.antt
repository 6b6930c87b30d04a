-- `with_run` is right by where the numbers start.
-- Assumes nothing.
use mathlib.Core.Path.{ap}
use Prim.Native.Nat.{ℕ}
use Rattle.oid_tree.specs.Stage.{with_run}
use borrow.Author.Rules.{rules}
use Rattle.oid_tree.proofs.length.with_run.Statement.{statement}
use Rattle.oid_tree.proofs.length.with_run.Tie as tie

start-of-requires : tie.Need-start_of-own-requires
start-of-requires c κs = search rules

returns : tie.Need-returns
returns c =
    let s = c in
    ap (λ (n : ℕ). with_run n s.args.count s.args.d) c.start_of-own.ensures

pub with_run_spec : {M : Type 1} → statement M
with_run_spec = tie.close (tie.spec
    start-of-requires
    returns)
