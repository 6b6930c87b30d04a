-- `shares` is right: it is the definition, whose tests it makes one after the other.
-- Assumes nothing.
use mathlib.Core.Path.{◌≡◌, refl}
use mathlib.Core.Bool.{Bool, true, false, not, ◌&&◌}
use Rattle.range_list.specs.Misplaced.{shares}
use borrow.Author.Rules.{rules}
use Rattle.range_list.proofs.range.shares.Statement.{statement}
use Rattle.range_list.proofs.range.shares.Tie as tie

-- tests in a row, however they are grouped
grouped : (p q r s : Bool) → (((p && q) && r) && s) ≡ (p && q && r && s)
grouped true true true s = refl
grouped true true false s = refl
grouped true false r s = refl
grouped false q r s = refl

is-below-requires : tie.Need-is_below-i_right-requires
is-below-requires c κs = search rules

is-below-requires-2 : tie.Need-is_below-j_right-requires
is-below-requires-2 c κs = search rules

is-below-requires-3 : tie.Need-is_below-requires
is-below-requires-3 c κs = search rules

is-below-requires-4 : tie.Need-is_below-requires-2
is-below-requires-4 c κs = search rules

returns : tie.Need-returns
unfolding shares
returns c =
    let third = c in
    let second = third in
    rw (← second.is_below-i_right.ensures, ← second.is_below-j_right.ensures, ← third.is_below.ensures, ← c.is_below-2.ensures)
    (grouped (not second.is_below-i_right.result) (not second.is_below-j_right.result) (not third.is_below.result) (not c.is_below-2.result))

pub shares_spec : {M : Type 1} → statement M
shares_spec =
    tie.close
    (tie.spec
    is-below-requires
    is-below-requires-2
    is-below-requires-3
    is-below-requires-4
    returns)
