-- How the answer of the call is come to: refusal 8 by what collecting the definitions answers, and then the rules after it.
-- Assumes nothing.
use mathlib.Core.Path.{◌≡◌, refl, sym, ap, subst, ◌∙◌}
use mathlib.Core.List.{List}
use Prim.Native.Nat.{ℕ, ◌*◌, ◌≤◌, ◌<◌}
use native.Mathlib.Omega.{arith}
use lib.ListN.{length, get_or, take}
use borrow.Author.Tests.{eq-eqb, ne_eqb}
use Rattle.rule.specs.Rule.{judge, Judgement}
use Rattle.rule.specs.declared.Finding.{Finding}
use Rattle.rule.proofs.Judged.{BrokenAt, broken_at, never_broken, kept_next, broken_first}
use Rattle.token.specs.Token.{Meaning}
use Rattle.definition.specs.Landmark.{definitions}
use Rattle.module_table.specs.Definition.{width, definitions_in}
use Rattle.module_table.specs.Module.{most_definitions}
use Rattle.index.specs.declared.TokenIndex.{TokenIndex}
use Rattle.outline.specs.Outline.{outline, Outlines}
use Rattle.outline.proofs.Outline.{outline_counted}
use Rattle.scope.specs.Token.{classes_of}
use Rattle.naming.specs.Rules.{too_many, after_count, name_rules}
use Rattle.naming.specs.Told.{plain, ValuesFilled}
use Rattle.std.specs.Prelude.{Result, Ok, Err}

-- where a rule is broken nothing is said of the values
pub broken_filled : (ms : List Meaning) (j : Judgement) (f : Finding) (values : List ℕ) → j ≡ Err f → ValuesFilled ms j values
broken_filled ms j f values e = subst (λ (x : Judgement). ValuesFilled ms x values) (sym e) tt

module _ (ms : List Meaning) where
  -- a definition is too many
  pub many_judged : most_definitions < length (definitions (classes_of ms)) → (i : ℕ) → i ≡ get_or (definitions (classes_of ms)) most_definitions 0
      → Err (plain 8 i) ≡ judge (name_rules ms)
  unfolding too_many
  many_judged more i is = broken_first (too_many ms) (after_count ms) (Err (plain 8 i)) (broken_at (too_many ms) (plain 8 i) here) (plain 8 i) refl
    where
      here : BrokenAt (too_many ms) (plain 8 i)
      here = record {
        index = most_definitions;
        inside = (omega arith, more);
        found = ap (plain 8) (sym is);
        breaks = eq-eqb most_definitions most_definitions refl;
        none_before = λ k l h. ne_eqb k most_definitions (λ same. omega arith);
      }

  -- none is: the rules after it decide
  pub few_judged : length (definitions (classes_of ms)) ≤ most_definitions → judge (name_rules ms) ≡ judge (after_count ms)
  unfolding too_many
  few_judged few =
      kept_next (too_many ms) (after_count ms) (Ok tt)
      (never_broken (too_many ms) (λ k l h. ne_eqb k most_definitions (λ same. omega arith))) refl

  -- what collecting the definitions leaves where they are not too many, said of the tokens
  pub collected : (cs words : List ℕ) {r : Result ℕ TokenIndex} (n : ℕ) → cs ≡ classes_of ms → Outlines cs words r → r ≡ Ok n
      → (n ≡ length (outline (classes_of ms)))
      × (length (definitions (classes_of ms)) ≤ most_definitions)
      × (definitions_in (take (n * width) words) ≡ outline (classes_of ms))
  collected cs words n same o is =
      let held = subst (Outlines cs words) is o in (
        held.0 ∙ ap (λ (l : List ℕ). length (outline l)) same,
        subst (λ (l : List ℕ). length (definitions l) ≤ most_definitions) same (omega (arith, held.0, held.1, outline_counted cs)),
        held.2 ∙ ap outline same,
      )
