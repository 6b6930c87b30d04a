-- `named_in` is right because no name that it passed is the one asked for.
-- Assumes nothing.
use mathlib.Core.Path.{◌≡◌, sym, ◌∙◌}
use mathlib.Core.Bool.{Bool}
use mathlib.Core.List.{List, []}
use Prim.Native.Nat.{ℕ, ◌-◌}
use native.Mathlib.Omega.{arith}
use lib.ListN.{get_or}
use borrow.Author.Rules.{rules}
use Rattle.index.proofs.Search.{Searched, searched_start, searched_miss, searched_hit, searched_end}
use Rattle.lexicon.specs.Word.{same, between}
use Rattle.symbol.specs.Symbol.{symbol_names, symbol_count, symbol_of}
use Rattle.symbol.proofs.Joined.{part_within, part_compared}
use Rattle.symbol.proofs.Symbols.{in_names}
use Rattle.symbol.proofs.part.named_in.Statement.{statement}
use Rattle.symbol.proofs.part.named_in.Tie as tie

-- symbol k has the name from start to end of a text
abbrev named : List ℕ → ℕ → ℕ → ℕ → Bool
named text start end k = same (between text start end) (get_or symbol_names k [])

abbrev invariant-loop : tie.invariant-loop-k
invariant-loop text start end names offsets k₀ k = Searched (named text start end) 0 symbol_count k

abbrev decreases-loop : tie.decreases-loop-k
decreases-loop text start end names offsets k₀ k = symbol_count - k

loop-holds : tie.Need-loop-k-init invariant-loop decreases-loop
loop-holds c = searched_start _ 0 symbol_count (omega arith)

is-name-of-requires : tie.Need-is_name_of-requires invariant-loop decreases-loop
is-name-of-requires c κs =
    let l = c in
    let s = l in
    let h = in_names _ c.loop-k-test.true in
    (s.requires.0, (search rules, part_within symbol_names _ _ s.requires.1 l.loop-k.k h))

-- the loop where a name was compared
abbrev Compared : Type 0
Compared = tie.After-is_name_of invariant-loop decreases-loop

abbrev loop_at : Compared → tie.At-loop-k invariant-loop decreases-loop
loop_at c = c.before.before.before.before

abbrev start_of : Compared → tie.Start invariant-loop decreases-loop
start_of c = (loop_at c).before.before

-- symbol k has the name that is asked for
abbrev wanted : Compared → ℕ → Bool
wanted c = named (start_of c).args.text.now (start_of c).args.start (start_of c).args.end

-- what the comparison answers
answer : (c : Compared) → wanted c (loop_at c).loop-k.k ≡ c.is_name_of.result
answer c =
    let h = in_names _ c.loop-k-test.true in
    sym (part_compared symbol_names _ _ (start_of c).requires.1 (loop_at c).loop-k.k h _ c.is_name_of.ensures)

returns : tie.Need-returns-then-is_name_of invariant-loop decreases-loop
unfolding symbol_of
returns c =
    let l = (loop_at c.before).loop-k in
    let h = c.loop-k-test.true in
    searched_hit (wanted c.before) 0 symbol_count l.k l.invariant h (answer c.before ∙ c.if-is_name_of.true)

add-k : tie.Need-overflow_add-k invariant-loop decreases-loop
add-k c = omega arith

loop-less : tie.Need-loop-k-smaller invariant-loop decreases-loop
loop-less c = omega arith

loop-again : tie.Need-loop-k-preserved invariant-loop decreases-loop
loop-again c =
    let l = (loop_at c.before).loop-k in
    let h = c.loop-k-test.true in
    searched_miss (wanted c.before) 0 symbol_count l.k l.invariant h (answer c.before ∙ c.if-is_name_of.false)

returns-2 : tie.Need-returns invariant-loop decreases-loop
unfolding symbol_of
returns-2 c =
    let l = c in
    let a = l.args in
    searched_end (named a.text.now a.start a.end) 0 symbol_count l.loop-k.k l.loop-k.invariant c.loop-k-test.false

pub named_in_spec : {M : Type 1} → statement M
named_in_spec =
    tie.close
    (tie.spec
    invariant-loop
    decreases-loop
    loop-holds
    is-name-of-requires
    returns
    add-k
    loop-less
    loop-again
    returns-2)
