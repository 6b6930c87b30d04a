-- `magnitude_at` is right because the slices hold the token, whose class and bytes make what it says.
-- Assumes nothing.
use mathlib.Core.Path.{sym, ap, ◌∙◌}
use native.Mathlib.Omega.{arith}
use lib.IntN.{nat_abs}
use Rattle.token.specs.Token.{Meaning, meaning}
use Rattle.scope.proofs.Tokens.{few_classes, starts_long, ends_long, entry_sound, said_is}
use borrow.Author.Rules.{rules}
use Rattle.naming.proofs.number.magnitude_at.Statement.{statement}
use Rattle.naming.proofs.number.magnitude_at.Tie as tie

shared-slice-read-magnitude : tie.Need-bounds-classes-i
shared-slice-read-magnitude c = search rules

mul_wide : tie.Need-offset_bounds-starts-i
mul_wide c = let s = c in omega (arith, s.requires.1, few_classes _ _ _ _ s.requires.0)

shared-slice-read-wide : tie.Need-bounds-starts-i
shared-slice-read-wide c = let s = c in omega (arith, s.requires.1, starts_long _ _ _ _ s.requires.0)

wide-requires : tie.Need-wide-requires
wide-requires c κs = search rules

mul-wide-2 : tie.Need-offset_bounds-ends-i
mul-wide-2 c = let s = c in omega (arith, s.requires.1, few_classes _ _ _ _ s.requires.0)

shared-slice-read-wide-2 : tie.Need-bounds-ends-i
shared-slice-read-wide-2 c = let s = c in omega (arith, s.requires.1, ends_long _ _ _ _ s.requires.0)

wide-requires-2 : tie.Need-wide-requires-2
wide-requires-2 c κs = search rules

magnitude-requires : tie.Need-magnitude-requires
magnitude-requires c κs =
    let s = c in
    rw (c.wide.ensures, c.wide-2.ensures) (entry_sound _ _ _ _ s.requires.0 s.args.i s.requires.1)

returns : tie.Need-returns
unfolding meaning
returns c =
    let s = c in
    let is = said_is _ _ _ _ s.requires.0 s.args.i s.requires.1 in
    c.magnitude.ensures ∙ rw (c.wide.ensures, c.wide-2.ensures) (sym (ap (λ (m : Meaning). nat_abs m.value) is))

pub magnitude_at_spec : {M : Type 1} → statement M
magnitude_at_spec =
    tie.close
    (tie.spec
    shared-slice-read-magnitude
    mul_wide
    shared-slice-read-wide
    wide-requires
    mul-wide-2
    shared-slice-read-wide-2
    wide-requires-2
    magnitude-requires
    returns)
