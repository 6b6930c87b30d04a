-- The step from a definition that is reached to its head and its own parts, as the code takes it.
-- Assumes nothing.
use mathlib.Core.Path.{◌≡◌, sym, ap, ◌∙◌}
use mathlib.Core.Bool.{true}
use mathlib.Core.List.{◌++◌}
use Prim.Native.Nat.{ℕ, ◌+◌, ◌-◌, ◌<◌}
use native.Mathlib.Omega.{arith}
use lib.ListN.{length, length-append}
use Rattle.index.specs.declared.RecordIndex.{RecordIndex}
use Rattle.module_table.specs.Module.{Module, at, count_of}
use Rattle.module_table.specs.declared.Definition.{Definition}
use Rattle.module_table.specs.declared.Lead.{Lead}
use Rattle.oid_number.specs.Number.{number_tokens, parts_in}
use Rattle.oid_head.specs.Oid.{head_in, reached_in, name_numbers, resolved_oid}
use Rattle.oid_tree.specs.Writing.{Countable}
use Rattle.oid_head.proofs.Meaning.{value_inside, onward, oid_step}
use Rattle.oid_number.proofs.Counts.{parts_length}

-- definition d is reached in n steps, and the code has read it, with its head
module _ (m : Module) (n : ℕ) (d : RecordIndex) (reached : reached_in m n (Lead.Definition d) ≡ true) (own : Definition) (is : own ≡ at m d.0) where
  -- it is one of the module's
  pub reached_inside : d.0 < count_of m
  reached_inside = value_inside m d.0 (onward m n d reached).value

  -- there is a head left to follow
  pub reached_some : n ≡ 0 → ⊥
  reached_some = (onward m n d reached).some

  -- its head is reached
  pub head_reached : (head : Lead) → head ≡ head_in m.values own → reached_in m (n - 1) head ≡ true
  head_reached head leads =
      ap (reached_in m (n - 1)) (leads ∙ ap (head_in m.values) is) ∙ (onward m n d reached).head

  -- its OID is its head's followed by its parts
  pub own_step : (head : Lead) → head ≡ head_in m.values own
      → resolved_oid m d.0 ≡ name_numbers (resolved_oid m) head ++ parts_in m.classes m.values own.oid
  own_step head leads =
      oid_step m n d reached
      ∙ ap (λ (l : Lead). name_numbers (resolved_oid m) l ++ parts_in m.classes m.values (at m d.0).oid) (sym (leads ∙ ap (head_in m.values) is))
      ∙ ap (λ (o : Definition). name_numbers (resolved_oid m) head ++ parts_in m.classes m.values o.oid) (sym is)

  pub step_length : (head : Lead) → head ≡ head_in m.values own → (a b : ℕ) → a ≡ length (name_numbers (resolved_oid m) head) → b ≡ length (number_tokens m.classes own.oid)
      → a + b ≡ length (resolved_oid m d.0)
  step_length head leads a b first second =
      omega (
        arith,
        ap length (own_step head leads),
        length-append (name_numbers (resolved_oid m) head) (parts_in m.classes m.values own.oid),
        parts_length m.classes m.values own.oid,
      )

  -- and where it is known how many numbers it has, it says so
  pub known_length : (known : ℕ) → Countable m known → d.0 < known → own.count ≡ length (resolved_oid m d.0)
  known_length known c h = ap (λ (o : Definition). o.count) is ∙ c.counts d.0 h reached_inside
