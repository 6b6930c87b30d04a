-- `word_end` is right: what `position` finds in what is left of the line is the definition's place.
-- Assumes nothing.
use Rattle.std.proofs.Common.{◌≡◌, ℕ, Bool, List, eqb, length, sym, ◌∙◌, tests, rules, arith}
use Rattle.std.specs.Prelude.{slice_range}
use Rattle.std.specs.List.{position}
use Rattle.std.proofs.Math.Seq.{length-slice}
use Rattle.std.proofs.lemmas.Iterator.{YieldsList-from_slice}
use Rattle.std.proofs.lemmas.Iterator.Search.{position_from_yields_List}
use Rattle.words.proofs.Positions.{found, missing}
use Rattle.words.proofs.word.word_end.Goals as goal

pub returns-in-Some-clause-is : goal.returns-in-Some-clause-is
returns-in-Some-clause-is c =
    let p : ℕ → Bool = λ b. eqb b c.args.separator in
    let left : List ℕ = slice_range c.args.line.now c.args.from (length c.args.line.now) in
    let place : c.position.result ≡ position p left =
    position_from_yields_List p _ _ c.position.result c.position.ensures.ran (YieldsList-from_slice left (cc)) (λ x b q k. search (rules, tests)) in
    let first = found p left c.in-Some.n (sym c.in-Some.is ∙ place) in
    omega (arith, first)

pub returns-in-None-clause-is : goal.returns-in-None-clause-is
returns-in-None-clause-is c =
    let line = c.args.line.now in
    let p : ℕ → Bool = λ b. eqb b c.args.separator in
    let left : List ℕ = slice_range line c.args.from (length line) in
    let place : c.position.result ≡ position p left =
    position_from_yields_List p _ _ c.position.result c.position.ensures.ran (YieldsList-from_slice left (cc)) (λ x b q k. search (rules, tests)) in
    let none = missing p left (sym c.in-None.is ∙ place) in
    omega (arith, none, length-slice c.args.from (length line) line (omega arith), c.requires)
