-- `found` is right: it says what is read.
-- Assumes nothing.
use mathlib.Core.Path.{ap, ◌∙◌}
use Prim.Native.Nat.{ℕ}
use Rattle.rule.specs.declared.Finding.{Finding}
use Rattle.module_table.specs.Definition.{definitions_in, entry}
use Rattle.module_table.specs.declared.Definition.{Definition}
use borrow.Author.Rules.{rules}
use Rattle.table_check.proofs.judge.found.Statement.{statement}
use Rattle.table_check.proofs.judge.found.Tie as tie

abbrev said : ℕ → Definition → ℕ → Finding
said clause d other = record { number = 20; clause = clause; token = d.name; other = record { 0 = other } }

definition-at-requires : tie.Need-definition_at-d-requires
definition-at-requires c κs = search rules

other-token-requires : tie.Need-other_token-requires
other-token-requires c κs = search rules

returns : tie.Need-returns
returns c =
    let d = c in
    let s = d in
    ap (λ (x : Definition). said s.args.clause x c.other_token.result.0) d.definition_at-d.ensures
    ∙ ap (said s.args.clause (entry (definitions_in s.args.definitions.now) s.args.k.0)) c.other_token.ensures

pub found_spec : {M : Type 1} → statement M
found_spec = tie.close (tie.spec
    definition-at-requires
    other-token-requires
    returns)
