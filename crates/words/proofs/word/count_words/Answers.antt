-- `count_words` is right: the words are what `split` gives. Assumes nothing.
use Rattle.std.proofs.Common.{ℕ, List, ap, length, eqb, sym, ◌∙◌, tests, rules}
use Rattle.std.proofs.lemmas.Iterator.Consumers.{count_from_yields_List}
use Rattle.std.proofs.lemmas.Iterator.Splits.{YieldsList-from_slice_split}
use Rattle.words.proofs.WordLaws.{split_words}
use Rattle.words.proofs.word.count_words.Goals as goal

pub returns-clause-number : goal.returns-clause-number
returns-clause-number c =
    let line : List ℕ = c.args.line.now in
    let s : ℕ = c.args.separator in
    count_from_yields_List c.split.result _ c.count.ensures.ran (YieldsList-from_slice_split _ (λ b. eqb b s) line c.split.ensures.rest c.split.ensures.done c.split.ensures.closure (λ x b q k. search (rules, tests)))
    ∙ ap length (sym (split_words s line))
