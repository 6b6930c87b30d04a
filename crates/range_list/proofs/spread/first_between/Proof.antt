-- `first_between` is right by the laws of the extremes of ranges: none that it passed is misplaced.
-- Assumes nothing.
use mathlib.Core.Path.{◌≡◌, refl, sym, ◌∙◌}
use mathlib.Core.Bool.{Bool, true, false, ◌||◌}
use Prim.Native.Nat.{◌-◌, ◌≤◌}
use native.Mathlib.Omega.{arith}
use borrow.Author.Tests.{not-false}
use Rattle.index.proofs.Search.{true_false, first_from}
use Rattle.range_list.specs.Spread.{Spread}
use Rattle.range_list.proofs.Spreading.{spread_start, not_passed}
use borrow.Author.Rules.{rules}
use Rattle.range_list.proofs.spread.first_between.Statement.{statement}
use Rattle.range_list.proofs.spread.first_between.Tie as tie

abbrev invariant-loop : tie.invariant-loop-token
invariant-loop classes values from to lowest₀ highest₀ token₀ lowest highest token = Spread classes values from token lowest highest × (token ≤ to)

abbrev decreases-loop : tie.decreases-loop-token
decreases-loop classes values from to lowest₀ highest₀ token₀ lowest highest token = to - token

abbrev start : tie.At-loop-token invariant-loop decreases-loop → tie.Start invariant-loop decreases-loop
start l = l.before.before.before.before.before.before.before

-- neither of two tests holds
neither : (a b : Bool) → (a || b) ≡ false → (a ≡ false) × (b ≡ false)
neither true b e = absurd (true_false refl e)
neither false b e = (refl, e)

returns : tie.Need-returns-then-to-from invariant-loop decreases-loop
returns c = (omega arith, first_from _ _ _)

starts-range-requires : tie.Need-starts_range-requires invariant-loop decreases-loop
starts-range-requires c κs = search rules

is-backward-requires : tie.Need-is_backward-requires invariant-loop decreases-loop
is-backward-requires c κs = omega (arith, c.if-to-from.false, c.requires)

returns-2 : tie.Need-returns-then-starts_range-is_backward invariant-loop decreases-loop
returns-2 c = (omega arith, first_from _ _ _)

add-token : tie.Need-overflow_add-token invariant-loop decreases-loop
add-token c = omega (arith, c.if-to-from.false, c.requires)

loop-holds : tie.Need-loop-token-init invariant-loop decreases-loop
loop-holds c =
    let b = c in
    let t = neither _ _ c.if-starts_range-is_backward.false in (
      spread_start _ _ _ (sym b.starts_range.ensures ∙ not-false _ t.0) (sym b.is_backward.ensures ∙ t.1),
      omega (arith, b.if-to-from.false),
    )

widen-requires : tie.Need-widen-requires invariant-loop decreases-loop
widen-requires c κs = (c.loop-token.invariant.0, omega (arith, c.loop-token-test.true, (start c.before).requires))

enum-known-extremes : tie.Need-enum_known-extremes invariant-loop decreases-loop
enum-known-extremes c = search rules

enum_told : tie.Need-enum_told-1 invariant-loop decreases-loop
enum_told c = search rules

returns-3 : tie.Need-returns-in_default invariant-loop decreases-loop
returns-3 c =
    let t = c in
    let i = t.loop-token.invariant in
    (omega (arith, i.0.first.inside), not_passed _ _ _ _ (omega (arith, i.0.first.inside)) (omega (arith, i.1)) i.0.kept)

add-token-2 : tie.Need-overflow_add-token-in-loop-token invariant-loop decreases-loop
add-token-2 c = omega (arith, c.loop-token-test.true, (start c.before.before.before).requires)

loop-less : tie.Need-loop-token-smaller invariant-loop decreases-loop
loop-less c = omega (arith, c.loop-token-test.true)

loop-again : tie.Need-loop-token-preserved invariant-loop decreases-loop
loop-again c =
    let w = c in
    (rw c.in-Some.is at w.widen.ensures, omega (arith, w.loop-token-test.true))

returns-4 : tie.Need-returns invariant-loop decreases-loop
returns-4 c =
    let i = c.loop-token.invariant in
    (omega (arith, i.0.first.inside), not_passed _ _ _ _ (omega (arith, i.0.first.inside)) (omega (arith, i.1)) i.0.kept)

pub first_between_spec : {M : Type 1} → statement M
first_between_spec =
    tie.close
    (tie.spec
    invariant-loop
    decreases-loop
    returns
    starts-range-requires
    is-backward-requires
    returns-2
    add-token
    loop-holds
    widen-requires
    enum-known-extremes
    enum_told
    returns-3
    add-token-2
    loop-less
    loop-again
    returns-4)
