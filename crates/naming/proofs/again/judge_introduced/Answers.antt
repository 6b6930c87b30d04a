-- `judge_introduced` is right by the law of the loop that puts names into trees.
-- Assumes nothing.
use Rattle.std.proofs.Common.{sym, ap, ◌∙◌, arith, length}
use Rattle.scope.specs.Lead.{introduces}
use Rattle.scope.proofs.Tokens.{classes_are, held_said}
use Rattle.naming.proofs.Twice.{naming_start, naming_skip, naming_new, naming_again, naming_end}
use Rattle.naming.proofs.again.judge_introduced.Goals as goal

pub loop-i-init : goal.loop-i-init
loop-i-init c t = naming_start _ _ _ t _ (c.requires.links ∙ ap length (classes_are _ _ _ _ c.requires.tokens))

pub loop-i-preserved-then-not-introduces : goal.loop-i-preserved-then-not-introduces
loop-i-preserved-then-not-introduces c t =
    let cs = classes_are _ _ _ _ c.requires.tokens in
    naming_skip _ _ _ t _ _ _ (c.loop-i.invariant t) (omega (arith, c.loop-i-test.true, ap length cs))
    (ap (λ l. introduces l c.loop-i.i) (sym cs) ∙ sym c.introduces.ensures ∙ c.if-not-introduces.true)

pub introduction-requires-clause-tokens : goal.introduction-requires-clause-tokens
introduction-requires-clause-tokens c = held_said _ _ _ _ c.requires.tokens

pub introduction-requires-clause-name : goal.introduction-requires-clause-name
introduction-requires-clause-name c =
    ap (λ l. introduces l c.loop-i.i) (sym (classes_are _ _ _ _ c.requires.tokens)) ∙ sym c.introduces.ensures ∙ c.if-not-introduces.false

pub introduction-requires-clause-names : goal.introduction-requires-clause-names
introduction-requires-clause-names c = (c.loop-i.invariant (held_said _ _ _ _ c.requires.tokens)).names

pub returns-in-Some-clause-judged : goal.returns-in-Some-clause-judged
returns-in-Some-clause-judged c =
    let cs = classes_are _ _ _ _ c.requires.tokens in
    let t = held_said _ _ _ _ c.requires.tokens in
    naming_again _ _ _ t _ _ _ (c.loop-i.invariant t) (omega (arith, c.loop-i-test.true, ap length cs))
    (ap (λ l. introduces l c.loop-i.i) (sym cs) ∙ sym c.introduces.ensures ∙ c.if-not-introduces.false) _ c.in-Some.ensures.told

pub loop-i-preserved : goal.loop-i-preserved
loop-i-preserved c t =
    let cs = classes_are _ _ _ _ c.requires.tokens in
    naming_new _ _ _ t _ _ _ (c.loop-i.invariant t) (omega (arith, c.loop-i-test.true, ap length cs))
    (ap (λ l. introduces l c.loop-i.i) (sym cs) ∙ sym c.introduces.ensures ∙ c.if-not-introduces.false)
    c.in_default.ensures.told _ _ c.introduction.ensures.long (c.introduction.ensures.grown c.in_default.is)

pub returns-clause-judged : goal.returns-clause-judged
returns-clause-judged c =
    let t = held_said _ _ _ _ c.requires.tokens in
    naming_end _ _ _ t _ _ _ (c.loop-i.invariant t) (omega (arith, c.loop-i-test.false, ap length (classes_are _ _ _ _ c.requires.tokens)))
