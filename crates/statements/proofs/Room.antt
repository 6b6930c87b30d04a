-- What is read fits the working parts: where the rules are kept there are at most 512 definitions and 8,192 sub-identifiers.
-- Assumes nothing.
use mathlib.Core.Path.{◌≡◌, refl}
use mathlib.Core.List.{List, [], ◌∷◌, ◌++◌}
use Prim.Native.Nat.{ℕ, ◌≤◌}
use native.Mathlib.Omega.{arith}
use lib.ListN.{length}
use Rattle.rule.specs.Rule.{Rule, judge, Judgement}
use Rattle.rule.proofs.Judged.{AllKept, judged_kept}
use Rattle.token.specs.Token.{Meaning}
use Rattle.token.specs.Cut.{cut, meanings_in}
use Rattle.syntax.specs.Parsing.{Parsing}
use Rattle.syntax.specs.Parsing.{Derived, Underived, Uncut}
use Rattle.module_table.specs.Module.{count_of}
use Rattle.naming.specs.Rules.{name_rules}
use Rattle.naming.specs.Values.{named}
use Rattle.oid_tree.specs.Refusal.{most_numbers}
use Rattle.oid_tree.specs.Stage.{with_oids}
use Rattle.oid_tree.proofs.Counted.{numbers_fit}
use Rattle.records.proofs.Words.{before_long}
use Rattle.reader.proofs.Kept.{few_definitions}
use Rattle.reader.specs.Reading.{rules, later_rules, oid_rules, module_of, starts_of, ends_of, judged, outcome}
use Rattle.reader.specs.Buffers.{record_words, number_words, records_in, numbers_in}
use Rattle.std.specs.Prelude.{Ok, Err}

-- of rules that are kept, the later ones are
pub kept_rest : (rs ss : List Rule) → AllKept (rs ++ ss) → AllKept ss
kept_rest [] ss kept = kept
kept_rest (r ∷ rs) ss kept = kept_rest rs ss kept.1

-- there are at most 8,192 sub-identifiers where refusal 14 is kept
numbers_kept : (ms : List Meaning) → AllKept (rules ms) → length (module_of ms).numbers ≤ most_numbers
unfolding rules later_rules oid_rules with_oids
numbers_kept ms kept = numbers_fit (named ms) (kept_rest (name_rules ms) (later_rules ms) kept).1.1.0 (count_of (named ms)) (omega arith)

-- the words of an outcome fit
pub words_fit : (text : List ℕ) (p : Parsing)
    → (length (records_in (outcome text p)) ≤ record_words) × (length (numbers_in (outcome text p)) ≤ number_words)
words_fit text (Derived n) = go (judge (rules ms)) refl
  where
    ms : List Meaning
    ms = meanings_in text

    go : (j : Judgement) → judge (rules ms) ≡ j
        → (length (records_in (judged (cut text).tokens j)) ≤ record_words) × (length (numbers_in (judged (cut text).tokens j)) ≤ number_words)
    go (Ok tt) is =
        let kept = judged_kept (rules ms) is in (
          omega (arith, before_long (starts_of (cut text).tokens) (ends_of (cut text).tokens) (module_of ms).definitions (count_of (module_of ms)), few_definitions ms kept),
          omega (arith, numbers_kept ms kept),
        )
    go (Err f) is = omega arith
words_fit text (Underived n at) = omega arith
words_fit text (Uncut number at) = omega arith
