-- What it says of the rules that a text is accepted.
-- Assumes nothing.
use mathlib.Core.Path.{◌≡◌, refl, sym, ap, ◌∙◌}
use mathlib.Core.List.{List}
use Prim.Native.Nat.{ℕ, ◌≤◌, ◌<◌}
use native.Mathlib.Decide.{dec_lt}
use native.Mathlib.Omega.{arith}
use borrow.Author.Tests.{eq-eqb}
use lib.ListN.{length}
use Rattle.index.proofs.Search.{true_false}
use Rattle.rule.specs.Rule.{judge, Judgement}
use Rattle.rule.proofs.Judged.{AllKept}
use Rattle.token.specs.Token.{Meaning}
use Rattle.token.specs.Cut.{cut, meanings_in}
use Rattle.syntax.specs.Parsing.{Parsing}
use Rattle.syntax.specs.Parsing.{Derived, Underived, Uncut}
use Rattle.definition.specs.Landmark.{definitions}
use Rattle.module_table.specs.Module.{count_of, most_definitions}
use Rattle.scope.specs.Token.{classes_of}
use Rattle.outline.proofs.Outline.{outline_counted}
use Rattle.naming.specs.Rules.{too_many}
use Rattle.reader.specs.Reading.{rules, module_of, judged, outcome}
use Rattle.reader.specs.Buffers.{answer_to}
use Rattle.reader.proofs.Counting.{module_counted}
use Rattle.std.specs.Prelude.{Ok, Err}

-- there are at most 512 definitions where refusal 8 is kept
pub few_definitions : (ms : List Meaning) → AllKept (rules ms) → count_of (module_of ms) ≤ most_definitions
unfolding rules too_many
few_definitions ms kept = go (dec_lt most_definitions (length (definitions (classes_of ms))))
  where
    go : Dec (most_definitions < length (definitions (classes_of ms))) → count_of (module_of ms) ≤ most_definitions
    go (yes h) = absurd (true_false (eq-eqb most_definitions most_definitions refl) (kept.0 most_definitions (omega arith) h))
    go (no h) = omega (arith, module_counted ms, outline_counted (classes_of ms))

-- a text is accepted where all rules are kept
pub accepted_kept : (text : List ℕ) (p : Parsing) (count : ℕ) → answer_to (outcome text p) ≡ Ok count
    → (judge (rules (meanings_in text)) ≡ Ok tt) × (outcome text p ≡ judged (cut text).tokens (Ok tt))
accepted_kept text (Derived n) count e = go (judge (rules (meanings_in text))) refl
  where
    go : (j : Judgement) → judge (rules (meanings_in text)) ≡ j
        → (judge (rules (meanings_in text)) ≡ Ok tt) × (judged (cut text).tokens (judge (rules (meanings_in text))) ≡ judged (cut text).tokens (Ok tt))
    go (Ok _) is = (is, ap (judged (cut text).tokens) is)
    go (Err f) is =
        let same : answer_to (judged (cut text).tokens (Err f)) ≡ Ok count =
        sym (ap (λ (j : Judgement). answer_to (judged (cut text).tokens j)) is) ∙ e in
        let z : ◌≡◌ {A = ℕ} 0 1 = cc in
        absurd (omega arith)
accepted_kept text (Underived n at) count e = let z : ◌≡◌ {A = ℕ} 0 1 = cc in absurd (omega arith)
accepted_kept text (Uncut number at) count e = let z : ◌≡◌ {A = ℕ} 0 1 = cc in absurd (omega arith)
