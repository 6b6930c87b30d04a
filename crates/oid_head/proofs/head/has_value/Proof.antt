-- `has_value` is right by what is told of the kind.
-- Assumes nothing.
use mathlib.Core.Path.{ap}
use mathlib.Core.Bool.{Bool, ◌&&◌}
use lib.Dec.{ltb}
use borrow.Author.Rules.{rules}
use Rattle.oid_head.proofs.head.has_value.Statement.{statement}
use Rattle.oid_head.proofs.head.has_value.Tie as tie

has-oid-requires : tie.Need-has_oid-requires
has-oid-requires c κs = search rules

returns : tie.Need-returns
returns c = ap (λ (b : Bool). ltb 0 c.args.d.kind && b) c.has_oid.ensures

pub has_value_spec : {M : Type 1} → statement M
has_value_spec = tie.close (tie.spec
    has-oid-requires
    returns)
