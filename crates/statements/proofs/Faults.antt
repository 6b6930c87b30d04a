-- Refusal 7 has one place: of two faults the later says that some derived sequence begins with the token of the earlier.
-- Assumes nothing.
use mathlib.Core.Path.{◌≡◌, sym, ap, ◌∙◌}
use mathlib.Core.List.{List}
use Prim.Native.Nat.{ℕ, ◌+◌, ◌<◌}
use native.Mathlib.Omega.{arith}
use lib.ListN.{length}
use Rattle.token.specs.Token.{class_of_token}
use Rattle.token.specs.Cut.{cut}
use Rattle.grammar.specs.Grammar.{smi_module}
use Rattle.grammar.specs.Derivation.{tokens_of}
use Rattle.grammar.proofs.OneVerdict.{viable_shorter}
use Rattle.syntax.specs.Parsing.{place_of, Fault}

module _ (text : List ℕ) where
  none_earlier : {a b : ℕ} (f : Fault text a) (g : Fault text b) → f.index < g.index → ⊥
  none_earlier f g h =
      f.spoiled (omega (arith, g.within))
      (viable_shorter (tokens_of class_of_token smi_module) (cut text).tokens (f.index + 1) g.index (omega arith) g.begun)

  same_index : {a b : ℕ} (f : Fault text a) (g : Fault text b) → f.index ≡ g.index
  same_index f g =
      let not-before : f.index < g.index → ⊥ = none_earlier f g in
      let not_after : g.index < f.index → ⊥ = none_earlier g f in
      omega arith

  pub one_fault : {a b : ℕ} → Fault text a → Fault text b → a ≡ b
  one_fault f g = f.stands ∙ ap (place_of (cut text).tokens (length text)) (same_index f g) ∙ sym g.stands
