-- `judge_names` is right because each rule is asked where those before it are kept, and one that is broken decides.
-- Assumes nothing.
use Rattle.std.proofs.Common.{rules, sym, ap, subst, ◌≡◌, ◌∙◌, List, ℕ, length, take}
use Rattle.rule.proofs.Judged.{kept_next, broken_first}
use Rattle.token.specs.Cut.{meanings_in}
use Rattle.scope.specs.Import.{imports_end}
use Rattle.scope.specs.Held.{ImportsHeld}
use Rattle.scope.proofs.Tokens.{classes_are, said_counted, held_said}
use Rattle.naming.proofs.Named.{names_distinct, all_offered, imports_held, all_values}
use Rattle.naming.proofs.judge_names.Goals as goal

pub returns-in_err-judge_introduced-clause-judged : goal.returns-in_err-judge_introduced-clause-judged
returns-in_err-judge_introduced-clause-judged c =
    let same : c.from_residual.result ≡ c.judge_introduced.result = search rules in
    same ∙ broken_first _ _ _ c.judge_introduced.ensures.judged _ c.in_err-judge_introduced.was

pub returns-in_err-judge_offers-clause-judged : goal.returns-in_err-judge_offers-clause-judged
returns-in_err-judge_offers-clause-judged c =
    let same : c.from_residual-in_err-judge_offers.result ≡ c.judge_offers.result = search rules in
    same ∙ broken_first _ _ _ c.judge_offers.ensures.judged _ c.in_err-judge_offers.was
    ∙ sym (kept_next _ _ _ c.judge_introduced.ensures.judged c.in_ok-judge_introduced.was)

pub judge_uses-requires-clause-imports : goal.judge_uses-requires-clause-imports
judge_uses-requires-clause-imports c =
    let all = c.judge_offers.ensures.long ∙ c.judge_introduced.ensures.long ∙ c.requires.values in
    let cs = classes_are _ _ _ _ c.requires.tokens in
    let offers = all_offered _ (sym c.in_ok-judge_offers.was ∙ c.judge_offers.ensures.judged) in
    let imports = imports_held _ _ _ (held_said _ _ _ _ c.requires.tokens) offers _ (all ∙ ap length cs) c.in_ok-judge_offers.ensures.filled in
    subst (λ (l : List ℕ). ImportsHeld (meanings_in c.args.text.now) (take (imports_end l) c.judge_offers.new.values)) (sym cs) imports

pub judge_uses-requires-clause-distinct : goal.judge_uses-requires-clause-distinct
judge_uses-requires-clause-distinct c = names_distinct _ (sym c.in_ok-judge_introduced.was ∙ c.judge_introduced.ensures.judged)

pub returns-in_err-judge_uses-clause-judged : goal.returns-in_err-judge_uses-clause-judged
returns-in_err-judge_uses-clause-judged c =
    let same : c.from_residual-in_err-judge_uses.result ≡ c.judge_uses.result = search rules in
    same ∙ c.judge_uses.ensures.judged
    ∙ sym (kept_next _ _ _ c.judge_introduced.ensures.judged c.in_ok-judge_introduced.was ∙ kept_next _ _ _ c.judge_offers.ensures.judged c.in_ok-judge_offers.was)

pub returns-clause-judged : goal.returns-clause-judged
returns-clause-judged c =
    sym c.in_ok-judge_uses.was ∙ c.judge_uses.ensures.judged
    ∙ sym (kept_next _ _ _ c.judge_introduced.ensures.judged c.in_ok-judge_introduced.was ∙ kept_next _ _ _ c.judge_offers.ensures.judged c.in_ok-judge_offers.was)

pub returns-clause-filled : goal.returns-clause-filled
returns-clause-filled c =
    let counted = c.requires.values ∙ sym (said_counted _ _ _ _ c.requires.tokens) in
    let three = c.judge_uses.ensures.long ∙ c.judge_offers.ensures.long ∙ c.judge_introduced.ensures.long in
    let long = c.fill_numbers.ensures.long ∙ three in
    all_values _ _ _ (held_said _ _ _ _ c.requires.tokens) _ _ _ (sym c.in_ok-judge_introduced.was ∙ c.judge_introduced.ensures.judged)
    (all_offered _ (sym c.in_ok-judge_offers.was ∙ c.judge_offers.ensures.judged)) c.in_ok-judge_offers.ensures.filled c.in_ok-judge_uses.ensures.filled
    c.fill_numbers.ensures.filled (three ∙ counted) (long ∙ counted)
