use Rattle.lexicon.proofs.Words.{last_agrees, last_differs, all_agree}
use Rattle.lexicon.proofs.word.same_part.Goals as goal

pub returns-then-a-i : goal.returns-then-a-i
returns-then-a-i c =
    last_differs _ _ _ _ _ _ c.requires.in_a c.requires.in_b c.loop-k.invariant c.loop-k-test.true c.if-a-i.true

pub loop-k-preserved : goal.loop-k-preserved
loop-k-preserved c =
    last_agrees _ _ _ _ _ _ c.requires.in_a c.requires.in_b c.loop-k.invariant c.loop-k-test.true c.if-a-i.false

pub returns : goal.returns
returns c = all_agree _ _ _ _ _ _ c.requires.in_a c.requires.in_b c.loop-k.invariant c.loop-k-test.false
