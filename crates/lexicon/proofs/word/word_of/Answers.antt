use Rattle.std.proofs.Common.{arith, ◌∙◌}
use Rattle.lexicon.proofs.Words.{named, not_named}
use Rattle.lexicon.proofs.word.word_of.Goals as goal

pub returns-then-class-lt-FIRST_WORD : goal.returns-then-class-lt-FIRST_WORD
returns-then-class-lt-FIRST_WORD c =
    not_named c.args.name.now _ c.slot_class-class.ensures (λ k e. absurd (omega (arith, c.if-class-lt-FIRST_WORD.true)))

pub returns : goal.returns
returns c =
    c.then_some.ensures
    ∙ named c.args.name.now _ c.slot_class-class.ensures c.is_word.result (omega arith) c.is_word.ensures
