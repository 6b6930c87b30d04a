-- `is_below` is right because what is below is longer by one number, and agrees in the numbers before it.
-- Assumes nothing.
use mathlib.Core.Bool.{not}
use mathlib.Core.Path.{ap, sym}
use native.Mathlib.Omega.{arith}
use borrow.Author.Rules.{rules}
use Rattle.oid_run.proofs.Runs.{one_longer, not_one_longer, not_below, any_number}
use Rattle.oid_run.proofs.list.is_below.Statement.{statement}
use Rattle.oid_run.proofs.list.is_below.Tie as tie

is-one-longer-requires : tie.Need-is_one_longer-requires
is-one-longer-requires c κs = search rules

returns : tie.Need-returns-then-not-is_one_longer
returns c =
    let asked = c in
    let s = asked in
    sym (not_below _ _ _ _ _ s.requires.0 s.requires.1 (not_one_longer _ _ asked.is_one_longer.ensures (ap not c.if-not-is_one_longer.true)))

agree-requires : tie.Need-agree-requires
agree-requires c κs =
    let asked = c in
    let s = asked in
    let more = one_longer s.args.a.count s.args.b.count asked.is_one_longer.ensures (ap not c.if-not-is_one_longer.false) in
    (s.requires.0, omega (arith, s.requires.1, more))

returns-2 : tie.Need-returns
returns-2 c =
    let longer = c in
    let asked = longer in
    let s = asked in
    let more = one_longer s.args.a.count s.args.b.count asked.is_one_longer.ensures (ap not longer.if-not-is_one_longer.false) in
    rw (any_number _ _ _ _ _ s.requires.0 s.requires.1 more) c.agree.ensures

pub is_below_spec : {M : Type 1} → statement M
is_below_spec = tie.close (tie.spec
    is-one-longer-requires
    returns
    agree-requires
    returns-2)
