-- `write_oids` is right because each turn lays one OID more behind those before it.
-- Assumes nothing.
use mathlib.Core.Path.{◌≡◌, refl, sym, ap, ◌∙◌}
use mathlib.Core.List.{List}
use Prim.Native.Nat.{ℕ, ◌+◌, ◌-◌, ◌≤◌}
use native.Mathlib.Omega.{arith}
use lib.ListN.{length}
use Rattle.token.specs.Table.{overlaid}
use Rattle.module_table.specs.Module.{Module, count_of}
use Rattle.oid_head.specs.Oid.{named_in, resolved_oid, numbers_before}
use Rattle.oid_tree.proofs.Lengths.{before_more}
use Rattle.oid_tree.proofs.Oids.{before_grows}
use Rattle.oid_number.proofs.Laid.{overlaid_more, overlaid_first}
use Rattle.overlay.proofs.Writing.{overlaid_length}
use Rattle.oid_tree.proofs.writer.write_oids.Statement.{statement}
use Rattle.oid_tree.proofs.writer.write_oids.Tie as tie

abbrev invariant-loop : tie.invariant-loop-k
invariant-loop classes values definitions numbers₀ c k₀ numbers k =
    (numbers ≡ overlaid (numbers_before (named_in classes values definitions) k) numbers₀) × (k ≤ c)

abbrev decreases-loop : tie.decreases-loop-k
decreases-loop classes values definitions numbers₀ c k₀ numbers k = c - k

abbrev start : tie.At-loop-k invariant-loop decreases-loop → tie.Start invariant-loop decreases-loop
start l = l.before.before.before.before.before.before

-- the module that the heads are followed in
abbrev module_of : tie.Start invariant-loop decreases-loop → Module
module_of s = named_in s.args.classes.now s.args.values.now s.args.definitions.now

as_long : (l : tie.At-loop-k invariant-loop decreases-loop) → length l.loop-k.numbers ≡ length (start l).args.numbers.now
as_long l =
    let s = start l in
    ap length l.loop-k.invariant.0
    ∙ overlaid_length (numbers_before (module_of s) l.loop-k.k) s.args.numbers.now
    (omega (arith, s.requires.1.1, before_grows (module_of s) l.loop-k.k (count_of (module_of s)) (omega (arith, l.loop-k.invariant.1, l.count-c.ensures))))

count-requires : tie.Need-count-c-requires invariant-loop decreases-loop
count-requires c κs = tt

loop-holds : tie.Need-loop-k-init invariant-loop decreases-loop
unfolding numbers_before
loop-holds c = (refl, omega arith)

write-oid-requires : tie.Need-write_oid-requires invariant-loop decreases-loop
write-oid-requires c κs =
    let t = c in
    let s = start t.before.before in (
      s.requires.0,
      (
        s.requires.1.0,
        (
          omega (arith, as_long t.before.before, s.requires.1.1, before_grows (module_of s) (t.loop-k.k + 1) (count_of (module_of s)) (omega (arith, t.loop-k-test.true, t.count-c.ensures))),
          overlaid_first (numbers_before (module_of s) t.loop-k.k) s.args.numbers.now _ t.loop-k.invariant.0,
        ),
      ),
    )

add-k : tie.Need-overflow_add-k invariant-loop decreases-loop
add-k c = omega (arith, c.loop-k-test.true)

loop-less : tie.Need-loop-k-smaller invariant-loop decreases-loop
loop-less c = omega (arith, c.loop-k-test.true)

loop-again : tie.Need-loop-k-preserved invariant-loop decreases-loop
loop-again c =
    let w = c in
    let t = w in
    let s = start t.before.before.before.before.before in (
      w.write_oid.ensures ∙ overlaid_more (numbers_before (module_of s) t.loop-k.k) (resolved_oid (module_of s) t.loop-k.k) s.args.numbers.now _ _ t.loop-k.invariant.0 refl
          ∙ ap (λ (l : List ℕ). overlaid l s.args.numbers.now) (sym (before_more (module_of s) t.loop-k.k)),
      omega (arith, t.loop-k-test.true),
    )

same_length : tie.Need-shape_of-numbers invariant-loop decreases-loop
same_length c = as_long c.before

returns : tie.Need-returns invariant-loop decreases-loop
returns c =
    let l = c in
    let s = start l.before in
    let all : l.loop-k.k ≡ count_of (module_of s) = omega (arith, c.loop-k-test.false, l.loop-k.invariant.1, l.count-c.ensures) in
    l.loop-k.invariant.0 ∙ ap (λ (n : ℕ). overlaid (numbers_before (module_of s) n) s.args.numbers.now) all

pub write_oids_spec : {M : Type 1} → statement M
write_oids_spec =
    tie.close
    (tie.spec
    invariant-loop
    decreases-loop
    count-requires
    loop-holds
    write-oid-requires
    add-k
    loop-less
    loop-again
    same_length
    returns)
