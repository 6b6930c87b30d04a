-- The rules are asked stage by stage, each where those of the stages before it are kept.
-- Assumes nothing.
use mathlib.Core.Path.{◌≡◌, refl, sym, ◌∙◌}
use mathlib.Core.List.{List, [], ◌∷◌, ◌++◌}
use Rattle.rule.specs.Rule.{Rule, judge_one, judge, Judgement}
use Rattle.rule.specs.declared.Finding.{Finding}
use Rattle.rule.proofs.Judged.{judge_alone, kept_row, broken_row}
use Rattle.token.specs.Token.{Meaning}
use Rattle.scope.specs.Token.{spelled}
use Rattle.naming.specs.Rules.{name_rules}
use Rattle.naming.specs.Values.{named}
use Rattle.oid_tree.specs.Refusal.{collecting_rules}
use Rattle.oid_tree.specs.Stage.{with_oids}
use Rattle.oid_holder.specs.Holder.{held_twice}
use Rattle.syntax_check.specs.Refusal.{rules_over}
use Rattle.reader.specs.Reading.{classed, module_of, oid_rules, object_rules, later_rules, rules}
use Rattle.std.specs.Prelude.{Ok, Err}

module _ (ms : List Meaning) where
  abbrev twins : Rule
  twins = held_twice (with_oids (named ms)).definitions (with_oids (named ms)).numbers

  abbrev of_syntax : List Rule
  of_syntax = rules_over (spelled ms) (classed ms).classes (classed ms).values (classed ms).definitions

  abbrev of_objects : List Rule
  of_objects = object_rules (module_of ms).definitions (module_of ms).values (module_of ms).numbers

  module _ (j : Judgement) (f : Finding) (broken : j ≡ Err f) where
    pub names_broken : j ≡ judge (name_rules ms) → j ≡ judge (rules ms)
    unfolding rules
    names_broken is = broken_row (name_rules ms) (later_rules ms) j is f broken

  -- the rules on names are kept
  module _ (names : judge (name_rules ms) ≡ Ok tt) where
    after_names : judge (rules ms) ≡ judge (later_rules ms)
    unfolding rules
    after_names = kept_row (name_rules ms) (later_rules ms) (judge (name_rules ms)) refl names

    of_oids : (j : Judgement) (f : Finding) → j ≡ Err f → j ≡ judge (oid_rules (named ms)) → j ≡ judge (rules ms)
    unfolding later_rules
    of_oids j f broken is = broken_row (oid_rules (named ms)) (of_syntax ++ of_objects) j is f broken ∙ sym after_names

    pub oids_broken : (j : Judgement) (f : Finding) → j ≡ Err f → j ≡ judge (collecting_rules (named ms)) → j ≡ judge (rules ms)
    unfolding oid_rules
    oids_broken j f broken is = of_oids j f broken (broken_row (collecting_rules (named ms)) (twins ∷ []) j is f broken)

    -- those on OIDs before they are compared
    module _ (oids : judge (collecting_rules (named ms)) ≡ Ok tt) where
      after_oids : judge (oid_rules (named ms)) ≡ judge_one twins
      unfolding oid_rules
      after_oids = kept_row (collecting_rules (named ms)) (twins ∷ []) (judge (collecting_rules (named ms))) refl oids ∙ sym (judge_alone twins)

      pub twins_broken : (j : Judgement) (f : Finding) → j ≡ Err f → j ≡ judge_one twins → j ≡ judge (rules ms)
      twins_broken j f broken is = of_oids j f broken (is ∙ sym after_oids)

      -- those on OIDs
      module _ (unlike : judge_one twins ≡ Ok tt) where
        after_twins : judge (rules ms) ≡ judge (of_syntax ++ of_objects)
        unfolding later_rules
        after_twins = after_names ∙ kept_row (oid_rules (named ms)) (of_syntax ++ of_objects) (judge (oid_rules (named ms))) refl (after_oids ∙ unlike)

        pub syntax_broken : (j : Judgement) (f : Finding) → j ≡ Err f → j ≡ judge of_syntax → j ≡ judge (rules ms)
        syntax_broken j f broken is = broken_row of_syntax of_objects j is f broken ∙ sym after_twins

        -- those on syntaxes
        pub objects_judged : judge of_syntax ≡ Ok tt → (j : Judgement) → j ≡ judge of_objects → j ≡ judge (rules ms)
        objects_judged kept j is = is ∙ sym (after_twins ∙ kept_row of_syntax of_objects (judge of_syntax) refl kept)
