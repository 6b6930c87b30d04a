-- `judge_syntax` is right because the rules before the one that is broken are kept.
-- Assumes nothing.
use Rattle.std.proofs.Common.{rules, sym, ◌≡◌, ◌∙◌, ℕ, List, [], ◌∷◌, ◌++◌, length}
use Rattle.rule.proofs.Judged.{judge_alone, kept_row, broken_row}
use Rattle.rule.specs.Rule.{Rule, Judgement, judge, each}
use Rattle.module_table.specs.declared.Definition.{Definition}
use Rattle.enumeration.specs.Item.{Spelling, spelling_in}
use Rattle.module_table.specs.Definition.{definitions_in}
use Rattle.syntax_check.specs.declared.Demand.{Demand}
use Rattle.syntax_check.specs.declared.Demand.TheVariants.{Places, Limits}
use Rattle.syntax_check.specs.Refusal.{range_rule_of, item_rule_of, indirect_convention, rules_over}
use Rattle.std.specs.Prelude.{Ok}
use Rattle.syntax_check.proofs.judge_syntax.Goals as goal

module _ (x : Spelling) (cs vs : List ℕ) (ds : List Definition) where
  -- the rules from each on
  abbrev ranges_of : Demand → List Rule
  ranges_of demand = each (range_rule_of cs vs ds demand) 0 (length ds)

  abbrev from_conventions : List Rule
  from_conventions = indirect_convention cs vs ds ∷ []

  abbrev from_items : List Rule
  from_items = each (item_rule_of x cs vs ds) 0 (length ds) ++ from_conventions

  abbrev from_limits : List Rule
  from_limits = ranges_of Limits ++ from_items

  -- what is left to judge where the rules before are kept
  after_places : {j : Judgement} → j ≡ judge (ranges_of Places) → j ≡ Ok tt → judge (rules_over x cs vs ds) ≡ judge from_limits
  unfolding rules_over
  after_places is kept = kept_row (ranges_of Places) from_limits _ is kept

  after_limits : {i j : Judgement} → i ≡ judge (ranges_of Places) → i ≡ Ok tt → j ≡ judge (ranges_of Limits) → j ≡ Ok tt → judge (rules_over x cs vs ds) ≡ judge from_items
  after_limits is kept next so = after_places is kept ∙ kept_row (ranges_of Limits) from_items _ next so

pub returns-in_err-judge_all_ranges : goal.returns-in_err-judge_all_ranges
unfolding rules_over
returns-in_err-judge_all_ranges c =
    let same : c.from_residual.result ≡ c.judge_all_ranges.result = search rules in
    let x = spelling_in c.args.text.now c.args.starts.now c.args.ends.now in
    let ds = definitions_in c.args.definitions.now in
    same ∙ broken_row (ranges_of x c.args.classes.now c.args.values.now ds Places) (from_limits x c.args.classes.now c.args.values.now ds) _ c.judge_all_ranges.ensures _ c.in_err-judge_all_ranges.was

pub returns-in_err-judge_all_ranges-2 : goal.returns-in_err-judge_all_ranges-2
returns-in_err-judge_all_ranges-2 c =
    let same : c.from_residual-in_err-judge_all_ranges-2.result ≡ c.judge_all_ranges-2.result = search rules in
    let x = spelling_in c.args.text.now c.args.starts.now c.args.ends.now in
    let ds = definitions_in c.args.definitions.now in
    same ∙ broken_row (ranges_of x c.args.classes.now c.args.values.now ds Limits) (from_items x c.args.classes.now c.args.values.now ds) _ c.judge_all_ranges-2.ensures _ c.in_err-judge_all_ranges-2.was
    ∙ sym (after_places x c.args.classes.now c.args.values.now ds c.judge_all_ranges.ensures c.in_ok-judge_all_ranges.was)

pub returns-in_err-judge_all_items : goal.returns-in_err-judge_all_items
returns-in_err-judge_all_items c =
    let same : c.from_residual-in_err-judge_all_items.result ≡ c.judge_all_items.result = search rules in
    let x = spelling_in c.args.text.now c.args.starts.now c.args.ends.now in
    let ds = definitions_in c.args.definitions.now in
    same ∙ broken_row (each (item_rule_of x c.args.classes.now c.args.values.now ds) 0 (length ds)) (from_conventions x c.args.classes.now c.args.values.now ds) _ c.judge_all_items.ensures _ c.in_err-judge_all_items.was
    ∙ sym (after_limits x c.args.classes.now c.args.values.now ds c.judge_all_ranges.ensures c.in_ok-judge_all_ranges.was c.judge_all_ranges-2.ensures c.in_ok-judge_all_ranges-2.was)

pub returns : goal.returns
returns c =
    let x = spelling_in c.args.text.now c.args.starts.now c.args.ends.now in
    let ds = definitions_in c.args.definitions.now in
    c.judge_conventions.ensures ∙ judge_alone _
    ∙ sym (after_limits x c.args.classes.now c.args.values.now ds c.judge_all_ranges.ensures c.in_ok-judge_all_ranges.was c.judge_all_ranges-2.ensures c.in_ok-judge_all_ranges-2.was
    ∙ kept_row (each (item_rule_of x c.args.classes.now c.args.values.now ds) 0 (length ds)) (from_conventions x c.args.classes.now c.args.values.now ds) _ c.judge_all_items.ensures c.in_ok-judge_all_items.was)
