-- `words_of` is right: each word is its field.
-- Assumes nothing.
use mathlib.Core.Path.{refl}
use Rattle.module_table.specs.Definition.{words}
use Rattle.module_table.proofs.definition_table.words_of.Statement.{statement}
use Rattle.module_table.proofs.definition_table.words_of.Tie as tie

returns : tie.Need-returns
unfolding words
returns c = refl

pub words_of_spec : {M : Type 1} → statement M
words_of_spec = tie.close (tie.spec
    returns)
