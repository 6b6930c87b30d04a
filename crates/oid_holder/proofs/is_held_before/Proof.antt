-- `is_held_before` is right by the law of the walk along a chain: the same OIDs have the same key.
-- Assumes nothing.
use mathlib.Core.Path.{◌≡◌, refl, sym, ap, ◌∙◌}
use mathlib.Core.Bool.{Bool, true}
use mathlib.Core.List.{List}
use Prim.Native.Nat.{ℕ, suc, ◌-◌, ◌<◌}
use native.Mathlib.Omega.{arith}
use borrow.Author.Rules.{rules}
use Rattle.chain.specs.Chain.{key_count}
use Rattle.chain.specs.Key.{list_key}
use Rattle.chain.proofs.Chain.{Walking, walking_start, walking_falls, walking_next, walking_hit, walking_end}
use Rattle.chain.proofs.Keyed.{key_few}
use Rattle.module_table.specs.Definition.{definitions_in, entry}
use Rattle.module_table.specs.Module.{oid_in}
use Rattle.module_table.specs.declared.Definition.{Definition}
use Rattle.oid_holder.specs.Holder.{holds_oid, key_at}
use Rattle.oid_holder.proofs.Twins.{holds_alike}
use Rattle.oid_holder.proofs.is_held_before.Statement.{statement}
use Rattle.oid_holder.proofs.is_held_before.Tie as tie

abbrev invariant-loop : tie.invariant-loop-at
invariant-loop definitions numbers k heads links key at₀ at =
    Walking (key_at (definitions_in definitions) numbers) (holds_oid (definitions_in definitions) numbers k.0) key k.0 at

abbrev decreases-loop : tie.decreases-loop-at
decreases-loop definitions numbers k heads links key at₀ at = at

abbrev start : tie.In-loop-at invariant-loop decreases-loop → tie.Start invariant-loop decreases-loop
start t = t.before.before.before.before.before.before

-- the keys of the definitions, and which hold the OID
abbrev all : tie.Start invariant-loop decreases-loop → List Definition
all s = definitions_in s.args.definitions.now

abbrev keys : tie.Start invariant-loop decreases-loop → ℕ → ℕ
keys s = key_at (all s) s.args.numbers.now

abbrev holders : tie.Start invariant-loop decreases-loop → ℕ → Bool
holders s = holds_oid (all s) s.args.numbers.now s.args.k.0

key_inside : (s : tie.Start invariant-loop decreases-loop) → s.args.key < key_count
key_inside s = omega (arith, s.requires.1.1, key_few (oid_in s.args.numbers.now (entry (all s) s.args.k.0)))

-- a definition that holds the OID is of its key
alike : (s : tie.Start invariant-loop decreases-loop) (j : ℕ) → j < s.args.k.0 → holders s j ≡ true → keys s j ≡ s.args.key
alike s j h e = ap list_key (holds_alike (all s) s.args.numbers.now _ j e) ∙ sym s.requires.1.1

-- the definition that the walk is at
here : (t : tie.In-loop-at invariant-loop decreases-loop) → t.loop-at.at ≡ suc (t.loop-at.at - 1)
here t = omega (arith, t.loop-at-test.true)

below : (t : tie.In-loop-at invariant-loop decreases-loop) → t.loop-at.at - 1 < (start t).args.k.0
below t = omega (arith, t.loop-at-test.true, t.loop-at.invariant.inside)

mul_at : tie.Need-offset_bounds-heads-key invariant-loop decreases-loop
mul_at c = omega (arith, key_inside c.before.before)

element-copy-out-at : tie.Need-bounds-heads-key invariant-loop decreases-loop
element-copy-out-at c = key_inside c.before.before.before

loop-holds : tie.Need-loop-at-init invariant-loop decreases-loop
loop-holds c =
    let s = c in
    walking_start (keys s.before.before.before.before) (holders s.before.before.before.before) _ _ (alike s.before.before.before.before) _ _ s.requires.1.0 (key_inside s.before.before.before.before) _ refl

sub-j : tie.Need-overflow_sub-j invariant-loop decreases-loop
sub-j c = search rules

holds-oid-requires : tie.Need-holds_oid-requires invariant-loop decreases-loop
holds-oid-requires c κs = tt

returns : tie.Need-returns-then-holds_oid invariant-loop decreases-loop
returns c =
    let t = c in
    walking_hit t.loop-at.invariant _ (here t.before.before) (sym c.holds_oid.ensures ∙ c.if-holds_oid.true)

mul-at-2 : tie.Need-offset_bounds-links-j invariant-loop decreases-loop
mul-at-2 c = search rules

element-copy-out-at-2 : tie.Need-bounds-links-j invariant-loop decreases-loop
element-copy-out-at-2 c =
    let t = c in
    omega (arith, below t.before.before.before, (start t.before.before.before).requires.0)

loop-less : tie.Need-loop-at-smaller invariant-loop decreases-loop
loop-less c =
    let t = c in
    let s = start t.before.before.before.before in
    walking_falls (keys s) (holders s) _ _ (alike s) _ _ s.requires.1.0 _ _ t.loop-at.invariant (here t.before.before.before.before)

loop-again : tie.Need-loop-at-preserved invariant-loop decreases-loop
loop-again c =
    let e = c in
    let t = e in
    let s = start t.before.before.before.before in
    walking_next (keys s) (holders s) _ _ (alike s) _ _ s.requires.1.0 _ _ t.loop-at.invariant (here t.before.before.before.before) (sym e.holds_oid.ensures ∙ e.if-holds_oid.false) _ refl

returns-2 : tie.Need-returns invariant-loop decreases-loop
returns-2 c = walking_end c.loop-at.invariant c.loop-at-test.false

pub is_held_before_spec : {M : Type 1} → statement M
is_held_before_spec =
    tie.close
    (tie.spec
    invariant-loop
    decreases-loop
    mul_at
    element-copy-out-at
    loop-holds
    sub-j
    holds-oid-requires
    returns
    mul-at-2
    element-copy-out-at-2
    loop-less
    loop-again
    returns-2)
