-- `search_in` is right by the law of searching loops.
-- Assumes nothing.
use mathlib.Core.Path.{sym, ◌∙◌}
use Prim.Native.Nat.{◌-◌}
use native.Mathlib.Omega.{arith}
use borrow.Author.Rules.{rules}
use Rattle.index.proofs.Search.{Searched, searched_start, searched_miss, searched_hit, searched_end}
use Rattle.lexicon.specs.Word.{between}
use Rattle.token.specs.Cut.{meanings_in}
use Rattle.scope.specs.Lead.{defines_name}
use Rattle.scope.proofs.lookup.search_in.Statement.{statement}
use Rattle.scope.proofs.lookup.search_in.Tie as tie

abbrev invariant-loop : tie.invariant-loop-k
invariant-loop text starts ends names sought to k₀ k =
    Searched (defines_name (meanings_in text) (between text sought.name.start sought.name.end)) k₀ to k

abbrev decreases-loop : tie.decreases-loop-k
decreases-loop text starts ends names sought to k₀ k = to - k

abbrev start_of : tie.At-loop-k invariant-loop decreases-loop → tie.Start invariant-loop decreases-loop
start_of l = l.before.before.before.before.before

loop-holds : tie.Need-loop-k-init invariant-loop decreases-loop
loop-holds c = searched_start _ _ _ c.requires.1.1.1.0

defines-name-requires : tie.Need-defines_name-requires invariant-loop decreases-loop
defines-name-requires c κs =
    let s = start_of c.before in
    (s.requires.0, (s.requires.1.0, (omega (arith, c.loop-k-test.true, s.requires.1.1.1.1), s.requires.1.1.0)))

returns : tie.Need-returns-then-defines_name invariant-loop decreases-loop
returns c =
    let t = c in
    searched_hit _ _ _ _ t.loop-k.invariant t.loop-k-test.true (sym c.defines_name.ensures ∙ c.if-defines_name.true)

add-k : tie.Need-overflow_add-k invariant-loop decreases-loop
add-k c = search rules

loop-less : tie.Need-loop-k-smaller invariant-loop decreases-loop
loop-less c = search rules

loop-again : tie.Need-loop-k-preserved invariant-loop decreases-loop
loop-again c =
    let t = c in
    searched_miss _ _ _ _ t.loop-k.invariant t.loop-k-test.true (sym c.defines_name.ensures ∙ c.if-defines_name.false)

returns-2 : tie.Need-returns invariant-loop decreases-loop
returns-2 c =
    let l = c in
    let end = searched_end _ _ _ _ l.loop-k.invariant c.loop-k-test.false in
    omega (arith, end, c.loop-k-test.false, l.loop-k.invariant.1)

pub search_in_spec : {M : Type 1} → statement M
search_in_spec =
    tie.close
    (tie.spec
    invariant-loop
    decreases-loop
    loop-holds
    defines-name-requires
    returns
    add-k
    loop-less
    loop-again
    returns-2)
