-- `number_at` is right: the magnitude is negated where the class says so.
-- Assumes nothing.
use Rattle.sub_type.proofs.Signed.{widened, negated, negated_fits}
use mathlib.Core.Path.{subst}
use mir.Facts.{to_z-of_z}
use mir.Val.{SFits}
use mir.Syntax.{w64}
use native.Mathlib.Omega.{arith}
use Prim.Native.Nat.{◌<◌}
use borrow.Author.Tests.{eq-eqb, ne_eqb}
use mathlib.Core.Path.{sym, ◌∙◌}
use borrow.Author.Rules.{rules}
use Rattle.sub_type.proofs.number.number_at.Statement.{statement}
use Rattle.sub_type.proofs.number.number_at.Tie as tie

-- the magnitude has 32 bits
small : (c : tie.After-word_at-magnitude) → c.word_at-magnitude.result < 4294967296
small c = omega (arith, c.word_at-magnitude.type_inv)

word-at-requires : tie.Need-word_at-magnitude-requires
word-at-requires c κs = search rules

cast-magnitude : tie.Need-overflow_cast-magnitude
cast-magnitude c = search rules

class-at-requires : tie.Need-class_at-requires
class-at-requires c κs = search rules

sub-result : tie.Need-overflow_sub-result
sub-result c =
    let word = c in
    subst (SFits w64) (sym (negated word.word_at-magnitude.result (small word.before.before))) (negated_fits word.word_at-magnitude.result (small word.before.before))

returns : tie.Need-returns-then-class_at-eq-NEGATIVE
returns c =
    let word = c in
    rw (← c.class_at.ensures, ← word.word_at-magnitude.ensures)
    (simp (eq-eqb _ _ c.if-class_at-eq-NEGATIVE.true) (to_z-of_z {w = w64} (sub-result c) ∙ negated word.word_at-magnitude.result (small word.before.before)))

returns-2 : tie.Need-returns
returns-2 c =
    let word = c in
    rw (← c.class_at.ensures, ← word.word_at-magnitude.ensures)
    (simp (ne_eqb _ _ c.if-class_at-eq-NEGATIVE.false) (widened word.word_at-magnitude.result (small word.before.before)))

pub number_at_spec : {M : Type 1} → statement M
number_at_spec =
    tie.close
    (tie.spec
    word-at-requires
    cast-magnitude
    class-at-requires
    sub-result
    returns
    returns-2)
