-- `search_in` is right by the law of searching loops, over ranges in rising order.
-- Assumes nothing.
use mathlib.Core.Path.{◌≡◌, refl, sym, ◌∙◌}
use Prim.Native.Nat.{◌-◌}
use native.Mathlib.Numerals.{add-one}
use native.Mathlib.Omega.{arith}
use lib.ListN.{length}
use Rattle.index.specs.First.{first}
use Rattle.index.proofs.Search.{first_hit, first_miss, first_none}
use Rattle.range_list.specs.Misplaced.{is_misplaced}
use Rattle.range_list.specs.Sorted.{Gathered}
use Rattle.range_list.proofs.Sorting.{gathered_start}
use borrow.Author.Rules.{rules}
use Rattle.range_list.proofs.sorted.search_in.Statement.{statement}
use Rattle.range_list.proofs.sorted.search_in.Tie as tie

abbrev invariant-loop : tie.invariant-loop-token
invariant-loop classes values order₀ from to count₀ token₀ order count token =
    Gathered classes values from token count order
    × (length order ≡ length order₀)
    × (first (is_misplaced classes values from) token to ≡ first (is_misplaced classes values from) from to)

abbrev decreases-loop : tie.decreases-loop-token
decreases-loop classes values order₀ from to count₀ token₀ order count token = to - token

abbrev start : tie.At-loop-token invariant-loop decreases-loop → tie.Start invariant-loop decreases-loop
start l = l.before.before.before.before

abbrev inside : tie.In-Some invariant-loop decreases-loop → tie.In-loop-token invariant-loop decreases-loop
inside c = c.before.before.before.before.before

loop-holds : tie.Need-loop-token-init invariant-loop decreases-loop
loop-holds c = (gathered_start _ _ _ _, refl, refl)

admit-requires : tie.Need-admit-requires invariant-loop decreases-loop
admit-requires c κs =
    let t = c in
    let i = t.loop-token.invariant in
    let s = start t.before.before in
    (i.0, (omega (arith, t.loop-token-test.true, i.0.few, i.0.after, i.1, s.requires.1), omega (arith, t.loop-token-test.true, s.requires.0)))

enum-known-with : tie.Need-enum_known-with invariant-loop decreases-loop
enum-known-with c = search rules

enum_told : tie.Need-enum_told-1 invariant-loop decreases-loop
enum_told c = search rules

same_length : tie.Need-shape_of-order-in_default invariant-loop decreases-loop
same_length c =
    let a = c in
    a.admit.ensures.0 ∙ a.loop-token.invariant.1

returns : tie.Need-returns-in_default invariant-loop decreases-loop
returns c =
    let a = c in
    let t = a in
    sym (first_hit _ _ _ t.loop-token-test.true (rw c.in_default.is at a.admit.ensures.1)) ∙ t.loop-token.invariant.2

add-token : tie.Need-overflow_add-token invariant-loop decreases-loop
add-token c = omega (arith, (inside c).loop-token-test.true, (start (inside c).before).requires.0)

loop-less : tie.Need-loop-token-smaller invariant-loop decreases-loop
loop-less c = omega (arith, (inside c).loop-token-test.true)

loop-again : tie.Need-loop-token-preserved invariant-loop decreases-loop
loop-again c =
    let a = c in
    let t = inside c in
    let told = rw c.in-Some.is at a.admit.ensures.1 in (
      told.1,
      a.admit.ensures.0 ∙ t.loop-token.invariant.1,
      rw (add-one t.loop-token.token) (sym (first_miss _ _ _ t.loop-token-test.true told.0) ∙ t.loop-token.invariant.2),
    )

same-length-2 : tie.Need-shape_of-order invariant-loop decreases-loop
same-length-2 c = c.loop-token.invariant.1

returns-2 : tie.Need-returns invariant-loop decreases-loop
returns-2 c = sym (first_none _ _ _ c.loop-token-test.false) ∙ c.loop-token.invariant.2

pub search_in_spec : {M : Type 1} → statement M
search_in_spec =
    tie.close
    (tie.spec
    invariant-loop
    decreases-loop
    loop-holds
    admit-requires
    enum-known-with
    enum_told
    same_length
    returns
    add-token
    loop-less
    loop-again
    same-length-2
    returns-2)
