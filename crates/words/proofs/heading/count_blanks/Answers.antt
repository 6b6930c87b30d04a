-- `count_blanks` is right: what `position` finds is the first byte that is no blank. Assumes nothing.
use Rattle.std.proofs.Common.{◌≡◌, ℕ, Bool, List, not, sym, ◌∙◌, tests, rules}
use Rattle.std.specs.List.{position}
use Rattle.std.proofs.lemmas.Iterator.{YieldsList-from_slice}
use Rattle.std.proofs.lemmas.Iterator.Search.{position_from_yields_List}
use Rattle.words.specs.Octets.{blank}
use Rattle.words.proofs.FrontLaws.{blanks_is}
use Rattle.words.proofs.Positions.{found, missing}
use Rattle.words.proofs.heading.count_blanks.Goals as goal

pub returns-in-Some-clause-number : goal.returns-in-Some-clause-number
returns-in-Some-clause-number c =
    let word : List ℕ = c.args.word.now in
    let p : ℕ → Bool = λ b. not (blank b) in
    let place : c.position.result ≡ position p word =
    position_from_yields_List p _ _ c.position.result c.position.ensures.ran (YieldsList-from_slice word (cc)) (λ x b q k. search (rules, tests)) in
    found p word c.in-Some.n (sym c.in-Some.is ∙ place) ∙ sym (blanks_is word)

pub returns-in-None-clause-number : goal.returns-in-None-clause-number
returns-in-None-clause-number c =
    let word : List ℕ = c.args.word.now in
    let p : ℕ → Bool = λ b. not (blank b) in
    let place : c.position.result ≡ position p word =
    position_from_yields_List p _ _ c.position.result c.position.ensures.ran (YieldsList-from_slice word (cc)) (λ x b q k. search (rules, tests)) in
    missing p word (sym c.in-None.is ∙ place) ∙ sym (blanks_is word)
