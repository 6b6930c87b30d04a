-- `judge_offers` is right by the law of judging loops; each token that it passed has its value.
-- Assumes nothing.
use Rattle.std.proofs.Common.{refl, sym, ap, ◌∙◌, arith, length-set, ◌≡◌, ℕ}
use Rattle.index.proofs.Collected.{filled_more}
use Rattle.rule.proofs.Judged.{judging_start, judging_kept}
use Rattle.token.specs.Cut.{meanings_in}
use Rattle.scope.specs.Import.{imports_end}
use Rattle.scope.specs.Held.{import_word}
use Rattle.scope.proofs.Tokens.{classes_are, few_classes}
use Rattle.scope.proofs.Imports.{end_inside}
use Rattle.naming.specs.Rules.{not_offered}
use Rattle.naming.proofs.Offering.{word_is, offer_next, offer_judged}
use Rattle.std.specs.Prelude.{Err}
use Rattle.naming.proofs.offer.judge_offers.Goals as goal

pub loop-i-init : goal.loop-i-init
unfolding not_offered
loop-i-init c = (refl, judging_start (not_offered (meanings_in c.args.text.now)) refl refl, λ j h. absurd (omega arith))

pub offer_at-requires-clause-index : goal.offer_at-requires-clause-index
offer_at-requires-clause-index c = omega (arith, c.loop-i-test.true, c.imports_end-end.ensures, end_inside c.args.classes.now)

pub missing_finding-requires-clause-index : goal.missing_finding-requires-clause-index
missing_finding-requires-clause-index c = omega (arith, c.loop-i-test.true, c.imports_end-end.ensures, end_inside c.args.classes.now)

pub returns-in_default : goal.returns-in_default
returns-in_default c =
    let told = sym c.in_default.is ∙ c.offer_at.ensures in
    let end = c.imports_end-end.ensures ∙ ap imports_end (classes_are _ _ _ _ c.requires.tokens) in
    record {
      long = c.loop-i.invariant.0;
      judged = ap Err c.missing_finding.ensures ∙ offer_judged _ _ _ c.loop-i.invariant.1 (omega (arith, c.loop-i-test.true, end)) told;
      filled = tt;
    }

pub offset_bounds-values-i : goal.offset_bounds-values-i
offset_bounds-values-i c =
    omega (arith, c.loop-i-test.true, c.imports_end-end.ensures, end_inside c.args.classes.now, few_classes _ _ _ _ c.requires.tokens)

pub bounds-values-i : goal.bounds-values-i
bounds-values-i c =
    omega (arith, c.loop-i-test.true, c.imports_end-end.ensures, end_inside c.args.classes.now, c.loop-i.invariant.0, c.requires.values)

pub loop-i-preserved : goal.loop-i-preserved
loop-i-preserved c =
    let told = sym c.in-Some.is ∙ c.offer_at.ensures in
    let end = c.imports_end-end.ensures ∙ ap imports_end (classes_are _ _ _ _ c.requires.tokens) in (
      length-set c.loop-i.values c.loop-i.i _ ∙ c.loop-i.invariant.0,
      offer_next _ _ _ c.loop-i.invariant.1 (omega (arith, c.loop-i-test.true, end)) _ told,
      filled_more (λ (j v : ℕ). v ≡ import_word (meanings_in c.args.text.now) j) c.loop-i.values c.loop-i.i _ c.loop-i.invariant.2
          (word_is (meanings_in c.args.text.now) c.loop-i.i _ told)
          (omega (arith, c.loop-i-test.true, c.imports_end-end.ensures, end_inside c.args.classes.now, c.loop-i.invariant.0, c.requires.values)),
    )

pub returns : goal.returns
returns c =
    let end = c.imports_end-end.ensures ∙ ap imports_end (classes_are _ _ _ _ c.requires.tokens) in
    record {
      long = c.loop-i.invariant.0;
      judged = judging_kept c.loop-i.invariant.1 (omega (arith, c.loop-i-test.false, end));
      filled = λ i h. c.loop-i.invariant.2 i (omega (arith, c.loop-i-test.false, end));
    }
