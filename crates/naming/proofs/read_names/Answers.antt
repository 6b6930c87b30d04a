-- `read_names` is right by what collecting the definitions answers, and then by the rules after the first.
-- Assumes nothing.
use Rattle.std.proofs.Common.{rules, sym, ap, subst, ◌≡◌, ◌∙◌}
use Rattle.index.specs.declared.TokenIndex.{TokenIndex}
use Rattle.outline.specs.Outline.{Outlines}
use Rattle.token.specs.Cut.{meanings_in}
use Rattle.scope.proofs.Tokens.{classes_are}
use Rattle.naming.specs.Told.{plain, judgement}
use Rattle.naming.proofs.Reading.{many_judged, few_judged, collected}
use Rattle.std.specs.Prelude.{Err}
use Rattle.naming.proofs.read_names.Goals as goal

pub returns-in_err-count-clause-judged : goal.returns-in_err-count-clause-judged
returns-in_err-count-clause-judged c =
    let told : (t : TokenIndex) × (c.collect_outline.result ≡ Err t) × (c.from_residual.result ≡ Err (plain 8 t.0)) = search rules in
    let many = subst (Outlines c.args.classes.now c.collect_outline.new.definitions) told.1 c.collect_outline.ensures.held in
    let cs = classes_are _ _ _ _ c.requires.tokens in
    ap judgement told.2 ∙ many_judged (meanings_in c.args.text.now) (rw cs at many.0) told.0.0 (rw cs at many.1)

pub judge_names-requires-clause-outlined : goal.judge_names-requires-clause-outlined
judge_names-requires-clause-outlined c =
    (collected (meanings_in c.args.text.now) _ _ c.in_ok-count.count (classes_are _ _ _ _ c.requires.tokens) c.collect_outline.ensures.held (search rules)).2

pub returns-in_err-judge_names-clause-judged : goal.returns-in_err-judge_names-clause-judged
returns-in_err-judge_names-clause-judged c =
    let held = collected (meanings_in c.args.text.now) _ _ c.in_ok-count.count (classes_are _ _ _ _ c.requires.tokens) c.collect_outline.ensures.held (search rules) in
    let same : judgement c.from_residual-in_err-judge_names.result ≡ c.judge_names.result = search rules in
    same ∙ c.judge_names.ensures.judged ∙ sym (few_judged _ held.1)

pub returns-clause-judged : goal.returns-clause-judged
returns-clause-judged c =
    let held = collected (meanings_in c.args.text.now) _ _ c.in_ok-count.count (classes_are _ _ _ _ c.requires.tokens) c.collect_outline.ensures.held (search rules) in
    sym c.in_ok-judge_names.was ∙ c.judge_names.ensures.judged ∙ sym (few_judged _ held.1)

pub returns-clause-holds : goal.returns-clause-holds
returns-clause-holds c =
    let held = collected (meanings_in c.args.text.now) _ _ c.in_ok-count.count (classes_are _ _ _ _ c.requires.tokens) c.collect_outline.ensures.held (search rules) in
    (c.in_ok-judge_names.ensures.filled, held.0, held.2)
