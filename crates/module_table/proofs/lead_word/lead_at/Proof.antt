-- `lead_at` is right: past the last token a value is 0, which leads to nothing.
-- Assumes nothing.
use Prim.Native.Nat.{ℕ}
use lib.ListN.{get_or-eq_default}
use Rattle.module_table.specs.Lead.{lead_in}
use borrow.Author.Rules.{rules}
use Rattle.module_table.proofs.lead_word.lead_at.Statement.{statement}
use Rattle.module_table.proofs.lead_word.lead_at.Tie as tie

mul-lead-in : tie.Need-offset_bounds-values-at
mul-lead-in c = search rules

shared-slice-read-lead-in : tie.Need-bounds-values-at
shared-slice-read-lead-in c = search rules

lead-in-requires : tie.Need-lead_in-requires
lead-in-requires c κs = search rules

returns : tie.Need-returns-then-at-values
returns c = search rules

returns-2 : tie.Need-returns
unfolding lead_in
returns-2 c = rw (get_or-eq_default {A = ℕ} _ 0 c.if-at-values.false)

pub lead_at_spec : {M : Type 1} → statement M
lead_at_spec =
    tie.close (tie.spec
    mul-lead-in
    shared-slice-read-lead-in
    lead-in-requires
    returns
    returns-2)
