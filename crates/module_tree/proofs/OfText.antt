-- What the tokens of a text show of its module is what their derivation says.
-- Assumes nothing.
use mathlib.Core.Path.{◌≡◌, ap, subst, ◌∙◌}
use mathlib.Core.List.{List, map}
use Prim.Native.Nat.{ℕ}
use Rattle.token.specs.Token.{Tok, class_of_token}
use Rattle.token.specs.Cut.{cut, meanings_in}
use Rattle.grammar.specs.Grammar.{smi_module}
use Rattle.grammar.specs.Derivation.{Derivation, tokens_of, tree_of, DerivesTokens}
use Rattle.scope.specs.Token.{classes_of}
use Rattle.scope.proofs.Tokens.{map_said}
use Rattle.module_tree.specs.OfTree.{EachNumbered, OfTree}
use Rattle.module_tree.proofs.OfTree.{of_derivation}

pub of_text : (text : List ℕ) (d : Derivation class_of_token smi_module) → tokens_of class_of_token smi_module d ≡ (cut text).tokens
    → OfTree (classes_of (meanings_in text)) (tree_of class_of_token smi_module d)
of_text text d e =
    subst (λ (cs : List ℕ). OfTree cs (tree_of class_of_token smi_module d))
    (ap (λ (ts : List Tok). map class_of_token ts) e ∙ map_said (cut text).tokens) (of_derivation d)

-- so each definition with an OID has a part behind its head
pub text_numbered : (text : List ℕ) → DerivesTokens class_of_token smi_module (cut text).tokens → EachNumbered (classes_of (meanings_in text))
text_numbered text derives = (of_text text derives.0 derives.1).each_numbered
