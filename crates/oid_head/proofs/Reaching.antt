-- The walk along heads, step by step, as the code takes it.
-- Assumes nothing.
use mathlib.Core.Path.{◌≡◌, refl, sym, ap, ◌∙◌}
use mathlib.Core.Bool.{Bool, true, false, not}
use Prim.Native.Nat.{ℕ, suc, ◌-◌}
use native.Mathlib.Omega.{arith}
use Rattle.index.specs.Walk.{after}
use Rattle.index.specs.declared.RecordIndex.{RecordIndex}
use Rattle.index.proofs.Search.{true_false, answers}
use Rattle.index.proofs.Walk.{after_first}
use Rattle.module_table.specs.Module.{Module, at, count_of}
use Rattle.module_table.specs.declared.Definition.{Definition}
use Rattle.module_table.specs.declared.Lead.{Lead}
use Rattle.oid_head.specs.Oid.{has_value, head_in, head_of, is_built_in, next_head, name_of, reached_in, Reaches, reaches}
use Rattle.oid_head.specs.Unreached.{unreached}
use Rattle.oid_head.proofs.Meaning.{rests, step_value, stays_put, onward, in_time}
use Rattle.oid_head.proofs.Unreached.{kept_reaches}

module _ (m : Module) where
  -- where a name leads to what stays, that says it
  pub stays_at : (l k : Lead) (n : ℕ) → l ≡ k → next_head m k ≡ k → is_built_in k ≡ reached_in m n l
  stays_at l k n is e = sym (ap (reached_in m n) is ∙ ap is_built_in (rests m n k e))

  -- the code has read definition d
  module _ (d : RecordIndex) (own : Definition) (is : own ≡ at m d.0) (n : ℕ) where
    pub none_left : n ≡ 0 → false ≡ reached_in m n (Lead.Definition d)
    unfolding after
    none_left e = rw e

    pub no_head : has_value own ≡ false → false ≡ reached_in m n (Lead.Definition d)
    no_head f = stays_at (Lead.Definition d) (Lead.Definition d) n refl (stays_put m d (sym (ap has_value is) ∙ f))

    pub goes_on : has_value own ≡ true → (n ≡ 0 → ⊥) → reached_in m (n - 1) (head_in m.values own) ≡ reached_in m n (Lead.Definition d)
    goes_on v some =
        let more : n ≡ suc (n - 1) = omega arith in
        ap (λ (o : Definition). reached_in m (n - 1) (head_in m.values o)) is
        ∙ sym
        (ap (λ (k : ℕ). reached_in m k (Lead.Definition d)) more
        ∙ ap is_built_in (after_first (next_head m) (n - 1) (Lead.Definition d))
        ∙ ap (reached_in m (n - 1)) (step_value m d (sym (ap has_value is) ∙ v)))

  -- a definition with an OID value is reached where its head is
  pub reaches_head : (k : ℕ) (own : Definition) → own ≡ at m k → has_value own ≡ true → (head : Lead) → head ≡ head_in m.values own
      → reached_in m (count_of m) head ≡ reaches m k
  unfolding reaches
  reaches_head k own is v head leads =
      let there : head ≡ head_of m k = leads ∙ ap (head_in m.values) is in
      let value = sym (ap has_value is) ∙ v in
      answers (reached_in m (count_of m) head)
      (λ t. t ∙ sym (in_time m (name_of k) (onto value there t)))
      (λ f. answers (reached_in m (count_of m) (name_of k)) (λ t. absurd (true_false (in_time m head (from there t)) f)) (λ g. f ∙ sym g))
    where
      onto : {head : Lead} → has_value (at m k) ≡ true → head ≡ head_of m k → reached_in m (count_of m) head ≡ true → Reaches m (name_of k)
      onto value there t = (
        suc (count_of m),
        ap is_built_in (after_first (next_head m) (count_of m) (name_of k) ∙ ap (after (next_head m) (count_of m)) (step_value m _ value ∙ sym there)) ∙ t,
      )

      from : {head : Lead} → head ≡ head_of m k → reached_in m (count_of m) (name_of k) ≡ true → Reaches m head
      from there t =
          let on = onward m (count_of m) _ t in
          (count_of m - 1, ap (reached_in m (count_of m - 1)) there ∙ on.head)

  -- the rule of refusal 12, as the code tests it
  pub unreached_none : (k : ℕ) (own : Definition) → own ≡ at m k → has_value own ≡ false → false ≡ (unreached m).breach k
  unfolding unreached
  unreached_none k own is f = let none = sym (ap has_value is) ∙ f in rw none

  pub unreached_some : (k : ℕ) (own : Definition) → own ≡ at m k → has_value own ≡ true → {b : Bool} → b ≡ reaches m k → not b ≡ (unreached m).breach k
  unfolding unreached
  unreached_some k own is v tested = let some = sym (ap has_value is) ∙ v in rw some (ap not tested)

  -- an earlier definition is reached if it has an OID value
  pub earlier_reached : (d : RecordIndex) (own : Definition) → own ≡ at m d.0 → (unreached m).breach d.0 ≡ false
      → has_value own ≡ reached_in m (count_of m) (Lead.Definition d)
  unfolding reaches
  earlier_reached d own is kept =
      answers (has_value own)
      (λ v. v ∙ sym (kept_reaches m d.0 kept (sym (ap has_value is) ∙ v)))
      (λ f. f ∙ no_head d own is (count_of m) f)
