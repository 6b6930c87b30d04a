-- `same` is right because runs of different lengths are not the same.
-- Assumes nothing.
use mathlib.Core.Path.{◌≡◌, sym}
use native.Mathlib.Omega.{arith}
use borrow.Author.Rules.{rules}
use Rattle.oid_run.proofs.Runs.{other_length}
use Rattle.oid_run.proofs.list.same.Statement.{statement}
use Rattle.oid_run.proofs.list.same.Tie as tie

returns : tie.Need-returns-then-b-a
returns c =
    let s = c in
    sym (other_length _ _ _ _ _ s.requires.0 s.requires.1 (λ e. omega arith))

agree-requires : tie.Need-agree-requires
agree-requires c κs = search rules

returns-2 : tie.Need-returns
returns-2 c =
    let s = c in
    let even : s.args.b.count ≡ s.args.a.count = omega arith in
    rw even c.agree.ensures

pub same_spec : {M : Type 1} → statement M
same_spec = tie.close (tie.spec
    returns
    agree-requires
    returns-2)
