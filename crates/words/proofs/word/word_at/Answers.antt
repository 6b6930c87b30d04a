-- `word_at` is right: each search ends a word, and the word asked for is the first of what is left, or there is none. Assumes nothing.
use Rattle.std.specs.Prelude.{None}
use Rattle.std.proofs.Common.{◌≡◌, ◌-◌, ◌+◌, ℕ, sym, ◌∙◌, arith}
use Rattle.words.proofs.WordLaws.{searched, place_next, place_none, place_here, answered}
use Rattle.words.proofs.word.word_at.Goals as goal

pub returns-then-end-line : goal.returns-then-end-line
returns-then-end-line c =
    let s = c.args.separator in
    let line = c.args.line.now in
    let here = c.loop in
    let left : ℕ = c.args.index - here.counter in
    let end = searched s line here.from c.word_end-end.result c.word_end-end.ensures.is in
    let none = place_none s line here.from c.word_end-end.result here.invariant.0 end left (omega arith) (omega arith) in
    let both = answered s line c.args.index None (sym none ∙ here.invariant.1) in
    record { place = both.0; bytes = both.1 }

pub loop-preserved : goal.loop-preserved
loop-preserved c =
    let s = c.args.separator in
    let line = c.args.line.now in
    let here = c.loop in
    let left : ℕ = c.args.index - here.counter in
    let fewer : left - 1 ≡ c.args.index - (here.counter + 1) = omega arith in
    let end = searched s line here.from c.word_end-end.result c.word_end-end.ensures.is in
    let next = place_next s line here.from c.word_end-end.result here.invariant.0 end left (omega arith) (omega arith) in
    (omega arith, sym (rw fewer at next) ∙ here.invariant.1)

pub returns : goal.returns
returns c =
    let s = c.args.separator in
    let line = c.args.line.now in
    let here = c.loop in
    let end = searched s line here.from c.word_end-to.result c.word_end-to.ensures.is in
    let first : c.args.index - here.counter ≡ 0 = omega arith in
    let found = place_here s line here.from c.word_end-to.result here.invariant.0 end c.word_end-to.ensures.high in
    let both = answered s line c.args.index _ (sym found ∙ rw first at here.invariant.1) in
    record { place = both.0; bytes = both.1 }
