-- `read_octets` is right: what stands behind the front of a word that has room decides. Assumes nothing.
use Rattle.std.proofs.Common.{◌∙◌, ap, drop, arith, length-drop}
use Rattle.words.specs.Octets.{to_say, octets_of, octets_from}
use borrow.Author.Tests.{le-leb, lt-leb}
use Rattle.words.specs.declared.octets.Before.TheVariants.{Nothing}
use Rattle.words.proofs.FrontLaws.{rest}
use Rattle.words.proofs.octets.read_octets.Goals as goal

pub returns-then-out-word-clause-octets : goal.returns-then-out-word-clause-octets
unfolding to_say
returns-then-out-word-clause-octets c = simp (lt-leb _ _ c.if-out-word.true)

pub put_octets-requires : goal.put_octets-requires
put_octets-requires c = rw (rest c.args.word.now c.front.result) (omega (arith, length-drop c.front.result c.args.word.now))

pub returns-clause-octets : goal.returns-clause-octets
unfolding to_say octets_of
returns-clause-octets c =
    let word = c.args.word.now in
    let fits = le-leb _ _ c.if-out-word.false in
    simp fits (c.put_octets.ensures.octets ∙ ap (octets_from Nothing) (rest word c.front.result) ∙ ap (λ n. octets_from Nothing (drop n word)) c.front.ensures.number)
