-- `are_digits` is right: `all` tests what the definition does. Assumes nothing.
use Rattle.std.proofs.Common.{ℕ, List, length, ◌<◌, sym, ◌∙◌, tests, rules, arith}
use Rattle.std.proofs.lemmas.Iterator.{YieldsList-from_slice}
use Rattle.std.proofs.lemmas.Iterator.Search.{all_from_yields_List}
use borrow.Author.Tests.{lt-ltb}
use Rattle.words.specs.Decimal.{digit}
use Rattle.words.proofs.Digits.{all_digits_is}
use Rattle.words.proofs.number.are_digits.Goals as goal

pub returns-then-not-is_empty : goal.returns-then-not-is_empty
returns-then-not-is_empty c =
    let word : List ℕ = c.args.word.now in
    let some : 0 < length word = grind (arith, c.is_empty.ensures) in
    all_from_yields_List digit _ _ _ c.all.ensures.ran (YieldsList-from_slice word (cc)) (λ x b q k. search (rules, tests))
    ∙ all_digits_is word
    ∙ sym (simp (lt-ltb _ _ some))
