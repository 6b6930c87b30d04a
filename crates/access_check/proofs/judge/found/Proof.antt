-- `found` is right: it says what is read.
-- Assumes nothing.
use mathlib.Core.Path.{ap}
use Prim.Native.Nat.{ℕ}
use Rattle.rule.specs.declared.Finding.{Finding}
use Rattle.module_table.specs.declared.Definition.{Definition}
use borrow.Author.Rules.{rules}
use Rattle.access_check.proofs.judge.found.Statement.{statement}
use Rattle.access_check.proofs.judge.found.Tie as tie

abbrev said : ℕ → ℕ → ℕ → Definition → Finding
said number clause other d = record { number = number; clause = clause; token = d.name; other = record { 0 = other } }

definition-at-requires : tie.Need-definition_at-d-requires
definition-at-requires c κs = search rules

returns : tie.Need-returns
returns c =
    let s = c in
    ap (said s.args.number s.args.clause s.args.other.0) c.definition_at-d.ensures

pub found_spec : {M : Type 1} → statement M
found_spec = tie.close (tie.spec
    definition-at-requires
    returns)
