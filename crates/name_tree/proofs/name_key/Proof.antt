-- `name_key` is right: the bytes that are left complete the key.
-- Assumes nothing.
use mathlib.Core.Path.{◌≡◌, refl, sym, ap, ◌∙◌}
use Prim.Native.Nat.{ℕ, ◌+◌, ◌-◌, ◌≤◌, ◌<◌}
use native.Mathlib.Omega.{arith}
use Rattle.lexicon.specs.Word.{between}
use Rattle.name_tree.specs.Key.{key_count, key_after, name_key}
use Rattle.name_tree.proofs.Keyed.{key_more, key_end}
use Rattle.name_tree.proofs.name_key.Statement.{statement}
use Rattle.name_tree.proofs.name_key.Tie as tie

abbrev invariant-loop : tie.invariant-loop-i
invariant-loop text start end key₀ i₀ key i =
    (i ≤ end) × (key < key_count) × (key_after key (between text i end) ≡ name_key (between text start end))

abbrev decreases-loop : tie.decreases-loop-i
decreases-loop text start end key₀ i₀ key i = end - i

loop-holds : tie.Need-loop-i-init invariant-loop decreases-loop
loop-holds c = (c.requires.ordered, omega arith, refl)

shared-slice-read-key-step : tie.Need-bounds-text-i invariant-loop decreases-loop
shared-slice-read-key-step c = omega (arith, c.requires.inside)

key-step-requires : tie.Need-key_step-key-requires invariant-loop decreases-loop
key-step-requires c κs = c.loop-i.invariant.1

add-i : tie.Need-overflow_add-i invariant-loop decreases-loop
add-i c = omega arith

loop-less : tie.Need-loop-i-smaller invariant-loop decreases-loop
loop-less c = omega arith

loop-again : tie.Need-loop-i-preserved invariant-loop decreases-loop
loop-again c =
    let l = c in
    let s = l in
    let step = c.key_step-key.ensures in (
      omega arith,
      omega arith,
      ap (λ (k : ℕ). key_after k (between s.args.text.now (l.loop-i.i + 1) s.args.end)) step
          ∙ key_more s.args.text.now s.args.end s.requires.inside l.loop-i.key l.loop-i.i c.loop-i-test.true ∙ l.loop-i.invariant.2,
    )

returns : tie.Need-returns invariant-loop decreases-loop
returns c =
    let l = c in
    let s = l in
    sym (key_end s.args.text.now s.args.end s.requires.inside l.loop-i.key l.loop-i.i c.loop-i-test.false) ∙ l.loop-i.invariant.2

pub name_key_spec : {M : Type 1} → statement M
name_key_spec =
    tie.close
    (tie.spec
    invariant-loop
    decreases-loop
    loop-holds
    shared-slice-read-key-step
    key-step-requires
    add-i
    loop-less
    loop-again
    returns)
