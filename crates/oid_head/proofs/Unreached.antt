-- Refusal 12 in words that know of no bound: it is broken at a definition exactly where its kind has an OID and its heads never
-- reach a built-in name, however far one follows them; and where it is kept, each definition of such a kind has one OID.
-- Assumes nothing.
use mathlib.Core.Path.{◌≡◌, refl, ap}
use mathlib.Core.Bool.{Bool, true, false, not, ◌&&◌}
use mathlib.Core.List.{List}
use Prim.Native.Nat.{ℕ}
use native.Mathlib.Omega.{arith}
use Rattle.index.proofs.Search.{true_false, answers}
use Rattle.rule.proofs.Judged.{NeverBroken}
use Rattle.module_table.specs.Module.{Module, at, count_of}
use Rattle.oid_head.specs.Oid.{HasOid, has_value, name_of, Reaches, reaches, resolved_oid}
use Rattle.oid_head.specs.Unreached.{unreached, AllReach}
use Rattle.oid_head.proofs.Meaning.{far_enough, oid_is, one_oid}

both_held : (a b : Bool) → (a && b) ≡ true → (a ≡ true) × (b ≡ true)
both_held true b e = (refl, e)
both_held false b e = absurd (true_false e refl)

module _ (m : Module) (k : ℕ) where
  pub broken_never : (unreached m).breach k ≡ true → (has_value (at m k) ≡ true) × (Reaches m (name_of k) → ⊥)
  unfolding unreached
  broken_never e =
      let both = both_held (has_value (at m k)) (not (reaches m k)) e in
      (both.0, λ r. true_false both.1 (ap not (far_enough m k r)))

  pub never_broken : has_value (at m k) ≡ true → (Reaches m (name_of k) → ⊥) → (unreached m).breach k ≡ true
  unfolding unreached reaches
  never_broken o never = answers (reaches m k) (λ r. absurd (never (count_of m, r))) (λ f. rw (o, f))

  pub kept_reaches : (unreached m).breach k ≡ false → has_value (at m k) ≡ true → reaches m k ≡ true
  unfolding unreached
  kept_reaches e o = answers (reaches m k) (λ r. r) (λ f. absurd (true_false (rw (o, f)) e))

  -- where it is kept, the definition has the OID that `resolved_oid` gives, and no other
  pub kept_has_oid : (unreached m).breach k ≡ false → has_value (at m k) ≡ true → HasOid m (name_of k) (resolved_oid m k)
  kept_has_oid e o = oid_is m k (kept_reaches e o)

  pub kept_one_oid : (unreached m).breach k ≡ false → has_value (at m k) ≡ true → (xs : List ℕ) → HasOid m (name_of k) xs → xs ≡ resolved_oid m k
  kept_one_oid e o xs x = one_oid m x (kept_has_oid e o)

-- where the rule is kept, each definition with an OID value has an OID
pub all_reach : (m : Module) → NeverBroken (unreached m) → AllReach m
unfolding unreached
all_reach m kept k h o = kept_reaches m k (kept k (omega arith) h) o
