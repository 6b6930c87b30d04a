-- The landmarks of a derived token sequence show what its tree says.
-- Assumes nothing.
use mathlib.Core.Path.{subst}
use mathlib.Core.List.{List}
use Prim.Native.Nat.{ℕ}
use Rattle.grammar.specs.Rule.{Tree, yield}
use Rattle.grammar.specs.Grammar.{smi_module}
use Rattle.grammar.specs.Derivation.{Derivation, tree_of}
use Rattle.grammar.proofs.Derivation.{tree_yield}
use Rattle.token.specs.Token.{class_of_token}
use Rattle.module_tree.specs.Grammar.{module_tree}
use Rattle.module_tree.specs.Module.{outline_of_tree, ends_of_tree, numbers_of_tree, imports_of_tree, uses_of_tree}
use Rattle.module_tree.specs.OfTree.{OfTree, OfDerivation}
use Rattle.module_tree.proofs.Definitions.{module_outline, module_ends, module_numbers, module_numbered}
use Rattle.module_tree.proofs.Imports.{module_imports}
use Rattle.module_tree.proofs.Needs.{module_needs}

pub of_tree : (t : Tree smi_module) → OfTree (yield smi_module t) t
unfolding smi_module module_tree outline_of_tree ends_of_tree numbers_of_tree imports_of_tree uses_of_tree
of_tree t = record {
  definitions = module_outline t;
  ends = module_ends t;
  numbers = module_numbers t;
  each_numbered = module_numbered t;
  imports = module_imports t;
  needs = module_needs t;
}

pub of_derivation : (d : Derivation class_of_token smi_module) → OfDerivation d
of_derivation d =
    subst (λ (cs : List ℕ). OfTree cs (tree_of class_of_token smi_module d)) (tree_yield class_of_token smi_module d)
    (of_tree (tree_of class_of_token smi_module d))
