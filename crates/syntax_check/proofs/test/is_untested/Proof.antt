-- `is_untested` is right: it is the definition.
-- Assumes nothing.
use Rattle.syntax_check.specs.Refusal.{is_untested}
use borrow.Author.Rules.{rules}
use Rattle.syntax_check.proofs.test.is_untested.Statement.{statement}
use Rattle.syntax_check.proofs.test.is_untested.Tie as tie

is-indirect-requires : tie.Need-is_indirect-indirect-requires
is-indirect-requires c κs = search rules

syntax-in-requires : tie.Need-syntax_in-requires
syntax-in-requires c κs = search rules

lead-of-requires : tie.Need-lead_of-lead-requires
lead-of-requires c κs = search rules

leads-to-indirect-requires : tie.Need-leads_to_indirect-named-requires
leads-to-indirect-requires c κs = search rules

cast-result : tie.Need-overflow_cast-result
cast-result c = search rules

returns : tie.Need-returns
unfolding is_untested
returns c =
    let named = c in
    let lead = named in
    rw (← lead.is_indirect-indirect.ensures, ← lead.syntax_in.ensures, ← lead.lead_of-lead.ensures, ← named.leads_to_indirect-named.ensures)

pub is_untested_spec : {M : Type 1} → statement M
is_untested_spec =
    tie.close
    (tie.spec
    is-indirect-requires
    syntax-in-requires
    lead-of-requires
    leads-to-indirect-requires
    cast-result
    returns)
