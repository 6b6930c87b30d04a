-- `is_less` is right: it is the definition.
-- Assumes nothing.
use Rattle.sub_type.proofs.Signed.{passed_on}
use borrow.Author.Rules.{rules}
use Rattle.sub_type.proofs.number.is_less.Statement.{statement}
use Rattle.sub_type.proofs.number.is_less.Tie as tie

number-at-requires : tie.Need-number_at-a-requires
number-at-requires c κs = search rules

number-at-requires-2 : tie.Need-number_at-b-requires
number-at-requires-2 c κs = search rules

returns : tie.Need-returns
returns c =
    rw (passed_on c.number_at-a.type_inv, passed_on c.number_at-b.type_inv, ← c.number_at-a.ensures, ← c.number_at-b.ensures)

pub is_less_spec : {M : Type 1} → statement M
is_less_spec = tie.close (tie.spec
    number-at-requires
    number-at-requires-2
    returns)
