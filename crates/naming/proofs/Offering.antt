-- Refusal 10: what a token of the imports is worth decides whether it breaks the rule.
-- Assumes nothing.
use mathlib.Core.Path.{◌≡◌, refl, sym, ap, ◌∙◌}
use mathlib.Core.Bool.{Bool, true, false, cond, not, ◌&&◌}
use mathlib.Core.List.{List}
use Prim.Native.Nat.{ℕ, ◌+◌, ◌<◌}
use native.Mathlib.Omega.{arith}
use Rattle.rule.specs.Rule.{judge_one}
use Rattle.rule.proofs.Judged.{Judging, judging_next, judging_broken}
use Rattle.token.specs.Token.{Meaning}
use Rattle.symbol.specs.Symbol.{symbol_of}
use Rattle.module_table.specs.Lead.{word_of}
use Rattle.module_table.specs.declared.Lead.TheVariants.{Import}
use Rattle.scope.specs.Token.{classes_of, spelled}
use Rattle.scope.specs.Import.{is_import, offered}
use Rattle.scope.specs.Held.{import_word}
use Rattle.naming.specs.Rules.{not_offered}
use Rattle.naming.specs.Told.{offer_at, missing}
use Rattle.std.specs.Prelude.{Option, None, Some, Err}

module _ (ms : List Meaning) (i : ℕ) where
  abbrev breaks : Bool
  breaks = is_import (classes_of ms) i && not (offered ms i)

  word_kept : (w : ℕ) → Some w ≡ offer_at ms i → breaks ≡ false
  word_kept w = go breaks
    where
      go : (b : Bool) → ◌≡◌ {A = Option ℕ} (Some w) (cond b None (Some (import_word ms i))) → b ≡ false
      go true e = let z : ◌≡◌ {A = ℕ} 0 1 = cc in absurd (omega arith)
      go false e = refl

  pub word_is : (w : ℕ) → Some w ≡ offer_at ms i → w ≡ import_word ms i
  word_is w = go breaks
    where
      go : (b : Bool) → ◌≡◌ {A = Option ℕ} (Some w) (cond b None (Some (import_word ms i))) → w ≡ import_word ms i
      go true e = let z : ◌≡◌ {A = ℕ} 0 1 = cc in absurd (omega arith)
      go false e = cc

  missing_broken : None ≡ offer_at ms i → breaks ≡ true
  missing_broken = go breaks
    where
      go : (b : Bool) → ◌≡◌ {A = Option ℕ} None (cond b None (Some (import_word ms i))) → b ≡ true
      go true e = refl
      go false e = let z : ◌≡◌ {A = ℕ} 0 1 = cc in absurd (omega arith)

  -- what the code asks decides it
  pub no_import_offer : is_import (classes_of ms) i ≡ false → Some 0 ≡ offer_at ms i
  no_import_offer e = rw e

  module _ (own : is_import (classes_of ms) i ≡ true) where
    pub missing_offer : offered ms i ≡ false → None ≡ offer_at ms i
    missing_offer e = rw (own, e)

    pub word_offer : offered ms i ≡ true → (k : ℕ) → k ≡ symbol_of (spelled ms i) → (w : ℕ) → w ≡ word_of (Import k) → Some w ≡ offer_at ms i
    word_offer e k is w says = rw (own, e) (ap Some (says ∙ ap (λ (x : ℕ). word_of (Import x)) is))

  module _ (n : ℕ) (g : Judging (not_offered ms) n i) (h : i < n) where
    pub offer_next : (w : ℕ) → Some w ≡ offer_at ms i → Judging (not_offered ms) n (i + 1)
    unfolding not_offered
    offer_next w e = judging_next g h {test = false} (sym (word_kept w e)) refl

    pub offer_judged : None ≡ offer_at ms i → Err (missing ms i) ≡ judge_one (not_offered ms)
    unfolding not_offered
    offer_judged e = judging_broken g h {test = true} (sym (missing_broken e)) refl _ refl
