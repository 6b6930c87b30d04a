-- The marked grammar is the grammar.
-- Assumes nothing.
use mathlib.Core.Path.{◌≡◌, refl}
use Rattle.grammar.specs.Grammar.{smi_module}
use Rattle.module_tree.specs.Marked.{unmarked}
use Rattle.module_tree.specs.Grammar.{module_tree}

pub same_rule : unmarked module_tree ≡ smi_module
unfolding smi_module module_tree
same_rule = refl
