use Rattle.lexicon.proofs.Words.{Comparing}
use Rattle.lexicon.proofs.word.same_part.Given as goal

abbrev pub invariant-loop-k : goal.invariant-loop-k
invariant-loop-k l = Comparing l.a l.b l.i l.j l.n l.k
