-- `limit_clause` is right: it is the definition.
-- Assumes nothing.
use Rattle.sub_type.specs.Range.{limit_clause}
use borrow.Author.Rules.{rules}
use Rattle.sub_type.proofs.range.limit_clause.Statement.{statement}
use Rattle.sub_type.proofs.range.limit_clause.Tie as tie

starts-range-requires : tie.Need-starts_range-requires
starts-range-requires c κs = search rules

exceeds-requires : tie.Need-exceeds-requires
exceeds-requires c κs = search rules

limit-kind-requires : tie.Need-limit_kind-requires
limit-kind-requires c κs = search rules

returns : tie.Need-returns-then-starts_range-exceeds
unfolding limit_clause
returns c =
    let tests = c in
    rw (← tests.starts_range.ensures, ← tests.exceeds.ensures) (simp c.if-starts_range-exceeds.true c.limit_kind.ensures)

returns-2 : tie.Need-returns
unfolding limit_clause
returns-2 c =
    let tests = c in
    rw (← tests.starts_range.ensures, ← tests.exceeds.ensures) (simp c.if-starts_range-exceeds.false)

pub limit_clause_spec : {M : Type 1} → statement M
limit_clause_spec =
    tie.close
    (tie.spec
    starts-range-requires
    exceeds-requires
    limit-kind-requires
    returns
    returns-2)
