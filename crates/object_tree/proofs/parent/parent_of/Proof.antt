-- `parent_of` is right by the law of the walk that seeks the last entry: a parent has the key of the child's OID less its last number.
-- Assumes nothing.
use mathlib.Core.Path.{◌≡◌, refl, sym, ap, ◌∙◌}
use mathlib.Core.Bool.{Bool, true}
use Prim.Native.Nat.{ℕ, suc, ◌-◌, ◌<◌}
use native.Mathlib.Omega.{arith}
use borrow.Author.Rules.{rules}
use lib.ListN.{length, take}
use Rattle.chain.specs.Chain.{key_count, last_before}
use Rattle.chain.specs.Key.{list_key}
use Rattle.chain.proofs.Keyed.{key_few}
use Rattle.module_table.specs.Definition.{definitions_in, entry}
use Rattle.module_table.specs.Module.{oid_in}
use Rattle.module_table.specs.declared.Definition.{Definition}
use Rattle.object_tree.specs.Words.{is_object}
use Rattle.object_tree.specs.Tree.{is_parent, parent_of}
use Rattle.object_tree.proofs.Parents.{parent_alike, no_child}
use Rattle.object_tree.proofs.Seeking.{Seeking, last_nowhere, seeking_start, seeking_falls, seeking_next, seeking_hit, seeking_end}
use Rattle.object_tree.proofs.parent.parent_of.Statement.{statement}
use Rattle.object_tree.proofs.parent.parent_of.Tie as tie

abbrev invariant-loop : tie.invariant-loop-at
invariant-loop definitions numbers heads links child key at₀ at = Seeking (λ (j : ℕ). list_key (oid_in numbers (entry (definitions_in definitions) j))) (λ (j : ℕ). is_parent numbers (entry (definitions_in definitions) j) child) key (length (definitions_in definitions)) at

abbrev decreases-loop : tie.decreases-loop-at
decreases-loop definitions numbers heads links child key at₀ at = at

abbrev start : tie.Else-not-is_object invariant-loop decreases-loop → tie.Start invariant-loop decreases-loop
start e = e.before.before.before.before.before

abbrev entered : tie.In-loop-at invariant-loop decreases-loop → tie.Else-not-is_object invariant-loop decreases-loop
entered t = t.before.before.before.before.before

abbrev child : tie.Else-not-is_object invariant-loop decreases-loop → Definition
child e = e.definition_at-child.result

-- the keys of all definitions, and the test for a parent
abbrev key_of : tie.Start invariant-loop decreases-loop → ℕ → ℕ
key_of s j = list_key (oid_in s.args.numbers.now (entry (definitions_in s.args.definitions.now) j))

abbrev is_parent_at : tie.Else-not-is_object invariant-loop decreases-loop → ℕ → Bool
is_parent_at e j = is_parent (start e).args.numbers.now (entry (definitions_in (start e).args.definitions.now) j) (child e)

key_inside : (h : tie.After-parent_key-key invariant-loop decreases-loop) → h.parent_key-key.result < key_count
key_inside h = omega (arith, h.parent_key-key.ensures, key_few (take (length (oid_in (start h.before).args.numbers.now (child h.before)) - 1) (oid_in (start h.before).args.numbers.now (child h.before))))

-- a parent is of the key
alike : (h : tie.After-parent_key-key invariant-loop decreases-loop) (j : ℕ) → j < length (definitions_in (start h.before).args.definitions.now) → is_parent_at h.before j ≡ true → key_of (start h.before) j ≡ h.parent_key-key.result
alike h j l e = parent_alike (start h.before).args.numbers.now (entry (definitions_in (start h.before).args.definitions.now) j) (child h.before) e ∙ sym h.parent_key-key.ensures

-- the child is definition k
child_is : (e : tie.Else-not-is_object invariant-loop decreases-loop) → last_before (is_parent_at e) (length (definitions_in (start e).args.definitions.now)) ≡ parent_of (definitions_in (start e).args.definitions.now) (start e).args.numbers.now (start e).args.k.0
child_is e = ap (λ (d : Definition). last_before (λ (j : ℕ). is_parent (start e).args.numbers.now (entry (definitions_in (start e).args.definitions.now) j) d) (length (definitions_in (start e).args.definitions.now))) e.definition_at-child.ensures

-- the definition that the walk is at
here : (t : tie.In-loop-at invariant-loop decreases-loop) → t.loop-at.at ≡ suc (t.loop-at.at - 1)
here t = omega (arith, t.loop-at-test.true)

-- what was asked of it
asked : (h : tie.After-is_parent invariant-loop decreases-loop) → (let t = h in h.is_parent.result ≡ is_parent_at (entered t.before.before) (t.loop-at.at - 1))
asked h = let e = entered h.before.before in h.is_parent.ensures ∙ ap (λ (d : Definition). is_parent (start e).args.numbers.now d (child e)) h.definition_at.ensures

definition-at-requires : tie.Need-definition_at-child-requires invariant-loop decreases-loop
definition-at-requires c κs = search rules

is-object-requires : tie.Need-is_object-requires invariant-loop decreases-loop
is-object-requires c κs = search rules

returns : tie.Need-returns-then-not-is_object invariant-loop decreases-loop
returns c =
    let s = c in
    last_nowhere _ _ (λ i h. no_child s.args.numbers.now (entry (definitions_in s.args.definitions.now) i) _ (ap is_object (sym c.definition_at-child.ensures) ∙ sym c.is_object.ensures ∙ c.if-not-is_object.true))

parent-key-requires : tie.Need-parent_key-key-requires invariant-loop decreases-loop
parent-key-requires c κs = search rules

mul_at : tie.Need-offset_bounds-heads-key invariant-loop decreases-loop
mul_at c = omega (arith, key_inside c)

element-copy-out-at : tie.Need-bounds-heads-key invariant-loop decreases-loop
element-copy-out-at c = key_inside c.before

loop-holds : tie.Need-loop-at-init invariant-loop decreases-loop
loop-holds c =
    let h = c in
    seeking_start (key_of (start h.before.before.before)) (is_parent_at h.before.before.before) _ _ (alike h.before.before) _ _ (start h.before.before.before).requires.1 (key_inside h.before.before) _ refl

sub-j : tie.Need-overflow_sub-j invariant-loop decreases-loop
sub-j c = search rules

definition-at-requires-2 : tie.Need-definition_at-requires invariant-loop decreases-loop
definition-at-requires-2 c κs = search rules

is-parent-requires : tie.Need-is_parent-requires invariant-loop decreases-loop
is-parent-requires c κs = search rules

returns-2 : tie.Need-returns-then-is_parent invariant-loop decreases-loop
returns-2 c =
    let t = c in
    seeking_hit t.loop-at.invariant _ (here t.before.before.before) (sym (asked c.before) ∙ c.if-is_parent.true) ∙ child_is (entered t.before.before.before)

mul-at-2 : tie.Need-offset_bounds-links-j invariant-loop decreases-loop
mul-at-2 c = search rules

element-copy-out-at-2 : tie.Need-bounds-links-j invariant-loop decreases-loop
element-copy-out-at-2 c =
    let t = c in
    omega (arith, here t.before.before.before.before, t.loop-at.invariant.inside, (start (entered t.before.before.before.before)).requires.0)

loop-less : tie.Need-loop-at-smaller invariant-loop decreases-loop
loop-less c =
    let t = c in
    let h = t in
    seeking_falls (key_of (start h.before.before.before.before.before.before.before.before.before.before)) (is_parent_at h.before.before.before.before.before.before.before.before.before.before) _ _ (alike h.before.before.before.before.before.before.before.before.before) _ _ (start h.before.before.before.before.before.before.before.before.before.before).requires.1 _ _ t.loop-at.invariant (here t.before.before.before.before.before)

loop-again : tie.Need-loop-at-preserved invariant-loop decreases-loop
loop-again c =
    let t = c in
    let h = t in
    seeking_next (key_of (start h.before.before.before.before.before.before.before.before.before.before)) (is_parent_at h.before.before.before.before.before.before.before.before.before.before) _ _ (alike h.before.before.before.before.before.before.before.before.before) _ _ (start h.before.before.before.before.before.before.before.before.before.before).requires.1 _ _ t.loop-at.invariant (here t.before.before.before.before.before) (sym (asked c.before.before.before) ∙ c.if-is_parent.false) _ refl

returns-3 : tie.Need-returns invariant-loop decreases-loop
returns-3 c = seeking_end c.loop-at.invariant c.loop-at-test.false ∙ child_is c.before.before.before.before.before

pub parent_of_spec : {M : Type 1} → statement M
parent_of_spec =
    tie.close
    (tie.spec
    invariant-loop
    decreases-loop
    definition-at-requires
    is-object-requires
    returns
    parent-key-requires
    mul_at
    element-copy-out-at
    loop-holds
    sub-j
    definition-at-requires-2
    is-parent-requires
    returns-2
    mul-at-2
    element-copy-out-at-2
    loop-less
    loop-again
    returns-3)
