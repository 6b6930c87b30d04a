-- The rules on enumerations ask for the spelling of labels alone; so two ways to say how tokens are spelled that agree on names are
-- judged alike.
-- Assumes nothing.
use mathlib.Core.Path.{◌≡◌, refl, sym, ap, ◌∙◌}
use mathlib.Core.Bool.{Bool, true, cond}
use mathlib.Core.List.{List, [], ◌∷◌}
use Prim.Native.Nat.{ℕ, zero, suc, ◌-◌}
use lib.Dec.{ltb}
use lib.ListN.{length}
use Rattle.index.specs.First.{first, any}
use Rattle.index.proofs.Search.{answers, true_false, any_first, any_some, first_holds}
use Rattle.rule.specs.Rule.{Rule, and_then, judge_one, judge, each_of, each, Judgement}
use Rattle.rule.proofs.Judged.{judge_row}
use Rattle.definition.specs.Members.{is_name}
use Rattle.definition.specs.declared.Span.{Span}
use Rattle.module_table.specs.declared.Definition.{Definition}
use Rattle.module_table.specs.Definition.{entry}
use Rattle.sub_type.specs.declared.Limits.{Limits}
use Rattle.enumeration.specs.Item.{has_label, first_label, item_clause, item_other}
use Rattle.enumeration.specs.Refusal.{item_rule}
use Rattle.syntax_check.specs.Refusal.{item_test_rule, items_of, item_rule_of, rules_over, range_rule_of, indirect_convention}
use Rattle.syntax_check.specs.declared.Demand.TheVariants.{Places}
use Rattle.syntax_check.specs.declared.Demand.TheVariants.{Limits as Limited}
use Rattle.enumeration.specs.declared.Enumeration.{Enumeration}
use Rattle.std.specs.Prelude.{Ok, Err, Option, None, Some}

module _ (cs vs : List ℕ) (x y : ℕ → List ℕ) (agree : (i : ℕ) → is_name cs i ≡ true → x i ≡ y i) where
  module _ (i : ℕ) (name : is_name cs i ≡ true) where
    label_same : (j : ℕ) → has_label x cs i j ≡ has_label y cs i j
    label_same j = answers (is_name cs j) (λ e. rw (agree j e, agree i name)) (λ e. rw e)

    first_same : (from : ℕ) → first_label x cs from i ≡ first_label y cs from i
    first_same from = ap (λ (test : ℕ → Bool). first test from i) (λ t. λ j. label_same j t)

    other_same : (from : ℕ) → item_other x cs vs from i ≡ item_other y cs vs from i
    other_same from = rw (first_same from)

  clause_same : (limits : Limits) (from i : ℕ) → item_clause x cs vs limits from i ≡ item_clause y cs vs limits from i
  unfolding item_clause
  clause_same limits from i =
      answers (is_name cs i)
      (λ e. rw (first_same i e from))
      (λ e. rw e)

  -- where an item breaks the rule, it is a name
  breaks_name : (limits : Limits) (from i : ℕ) → ltb 0 (item_clause y cs vs limits from i) ≡ true → is_name cs i ≡ true
  unfolding item_clause
  breaks_name limits from i broken = answers (is_name cs i) (λ e. e) (λ e. absurd (true_false broken (rw e)))

  module _ (limits : Limits) (s : Span) where
    abbrev breach : (ℕ → List ℕ) → ℕ → Bool
    breach z i = ltb 0 (item_clause z cs vs limits s.from i)

    abbrev rule_by : (ℕ → List ℕ) → Rule
    rule_by z = item_rule z cs vs limits s

    breach_same : breach x ≡ breach y
    breach_same = λ t. λ i. ltb 0 (clause_same limits s.from i t)

    abbrev says : (ℕ → List ℕ) → ℕ → Judgement
    says z k = Err (record { number = 18; clause = item_clause z cs vs limits s.from k; token = record { 0 = k }; other = record { 0 = item_other z cs vs s.from k } })

    -- what is said of a label is the same
    says_same : (k : ℕ) → is_name cs k ≡ true → says x k ≡ says y k
    says_same k name = λ t. Err (record {
      number = 18;
      clause = clause_same limits s.from k t;
      token = record { 0 = k };
      other = record { 0 = other_same k name s.from t };
    })

    item_judged : judge_one (rule_by x) ≡ judge_one (rule_by y)
    unfolding judge_one item_rule
    item_judged =
        let from = s.from in
        let to = (item_rule y cs vs limits s).to in
        ap (λ (b : ℕ → Bool). cond (any b from to) (says x (first b from to)) (Ok tt)) breach_same
        ∙ answers (any (breach y) from to)
        (λ e. let k = first (breach y) from to in
        let name = breaks_name limits from k (first_holds (breach y) from to (any_first (breach y) from to e) (any_some (breach y) from to e)) in
        ap (λ (j : Judgement). cond (any (breach y) from to) j (Ok tt)) (says_same k name))
        (λ e. rw e)

  test_judged : (test : Option Enumeration) → judge_one (item_test_rule x cs vs test) ≡ judge_one (item_test_rule y cs vs test)
  test_judged None = refl
  test_judged (Some e) = item_judged e.limits e.span

  module _ (ds : List Definition) where
    each_judged : (a n : ℕ) → judge (each_of (item_rule_of x cs vs ds) a n) ≡ judge (each_of (item_rule_of y cs vs ds) a n)
    unfolding judge each_of
    each_judged a zero = refl
    each_judged a (suc n) = λ t. and_then (test_judged (items_of cs (entry ds a)) t) (each_judged (suc a) n t)

    pub rules_judged : judge (rules_over x cs vs ds) ≡ judge (rules_over y cs vs ds)
    unfolding rules_over each
    rules_judged =
        let places = each (range_rule_of cs vs ds Places) 0 (length ds) in
        let limits = each (range_rule_of cs vs ds Limited) 0 (length ds) in
        let last = indirect_convention cs vs ds ∷ [] in
        let split : (z : ℕ → List ℕ) → judge (rules_over z cs vs ds) ≡ and_then (judge places) (and_then (judge limits) (and_then (judge (each (item_rule_of z cs vs ds) 0 (length ds))) (judge last))) =
        λ z. judge_row places _ ∙ ap (and_then (judge places)) (judge_row limits _ ∙ ap (and_then (judge limits)) (judge_row (each (item_rule_of z cs vs ds) 0 (length ds)) last)) in
        split x
        ∙ ap (λ (j : Judgement). and_then (judge places) (and_then (judge limits) (and_then j (judge last)))) (each_judged 0 (length ds - 0))
        ∙ sym (split y)
