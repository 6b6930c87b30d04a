-- What collecting the OIDs of a module comes to.
-- Assumes nothing.
use Rattle.std.specs.Prelude.{◌≡◌, List, ℕ, length, Ok}
use Rattle.rule.specs.Rule.{judge, Judgement}
use Rattle.token.specs.Table.{overlaid}
use Rattle.module_table.specs.Definition.{definitions_in}
use Rattle.module_table.specs.Module.{Module}
use Rattle.oid_tree.specs.Stage.{with_oids}
use Rattle.oid_tree.specs.Refusal.{collecting_rules}

-- the words hold the definitions with their runs, and the number buffer all numbers, with the rest as it was
pub record OidsHeld (m : Module) (words before after : List ℕ) : Type 0 where
  pub definitions : definitions_in words ≡ (with_oids m).definitions
  pub numbers : after ≡ overlaid (with_oids m).numbers before

-- What is answered, and left in the words of the definitions and in the number buffer: where the rules are kept, the OIDs; after a
-- refusal only the lengths are as they were.
pub record Collected (m : Module) (r : Judgement) (words-before words before after : List ℕ) : Type 0 where
  pub judged : r ≡ judge (collecting_rules m)
  pub words_long : length words ≡ length words-before
  pub numbers_long : length after ≡ length before
  pub held : r ≡ Ok tt → OidsHeld m words before after
