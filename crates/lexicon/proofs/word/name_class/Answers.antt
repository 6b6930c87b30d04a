use Rattle.std.proofs.Common.{◌≡◌, sym}
use borrow.Author.Tests.{le-leb, lt-leb, lt-ltb, le-ltb}
use Rattle.lexicon.specs.Word.{name_class, words, place_in}
use Rattle.lexicon.proofs.Words.{word_class, some_word, no_word}
use Rattle.lexicon.proofs.word.name_class.Goals as goal

pub returns-in-Some : goal.returns-in-Some
unfolding name_class
returns-in-Some c =
    let w = some_word (place_in c.args.name.now words) c.in-Some.k (c.in-Some.ensures) in
    let e : c.in-Some.k ≡ place_in c.args.name.now words = w.1 in
    simp (lt-ltb _ _ w.0, word_class _ w.0, e)

pub returns-in-None : goal.returns-in-None
unfolding name_class
returns-in-None c =
    let n = no_word (place_in c.args.name.now words) c.in-None.ensures in
    simp (le-ltb _ _ n, sym c.class_of.ensures, le-leb _ _ c.if-class_of-ge-CAPITAL_HEX.true)

pub returns-in-None-2 : goal.returns-in-None-2
unfolding name_class
returns-in-None-2 c =
    let n = no_word (place_in c.args.name.now words) c.in-None.ensures in
    simp (le-ltb _ _ n, sym c.class_of.ensures, lt-leb _ _ c.if-class_of-ge-CAPITAL_HEX.false)
