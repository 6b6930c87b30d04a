-- `class_at` is right: below n the first n classes are the array's own, and past them the list has no element.
-- Assumes nothing.
use mathlib.Core.Path.{sym}
use Prim.Native.Nat.{◌≤◌}
use native.Mathlib.Omega.{arith}
use borrow.Author.Rules.{rules}
use lib.ListN.{length, take, get_or-eq_default}
use lib.Seq.{get_or-take, length-take-le}
use Rattle.definition.proofs.landmark.class_at.Statement.{statement}
use Rattle.definition.proofs.landmark.class_at.Tie as tie

shared-slice-read-result : tie.Need-bounds-classes-i
shared-slice-read-result c = search rules

returns : tie.Need-returns-then-i-n
returns c =
    let args = c.args in
    sym (get_or-take args.n args.classes.now args.i 0 c.if-i-n.true)

returns-2 : tie.Need-returns-else-i-n
returns-2 c =
    let args = c.args in
    let past : length (take args.n args.classes.now) ≤ args.i =
    omega (arith, length-take-le args.n args.classes.now c.requires) in
    sym (get_or-eq_default (take args.n args.classes.now) 0 past)

pub class_at_spec : {M : Type 1} → statement M
class_at_spec = tie.close (tie.spec
    shared-slice-read-result
    returns
    returns-2)
