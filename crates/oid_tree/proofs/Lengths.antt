-- How many numbers OIDs have: never too many to count.
-- Assumes nothing.
use mathlib.Core.Path.{◌≡◌, refl, ap, ◌∙◌}
use mathlib.Core.Bool.{Bool, true, false, cond}
use mathlib.Core.List.{[], ◌++◌}
use Prim.Native.Nat.{ℕ, zero, suc, ◌+◌, ◌*◌, ◌≤◌}
use native.Mathlib.Numerals.{add-one}
use native.Mathlib.Omega.{arith}
use lib.ListN.{length, length-append}
use Rattle.symbol.specs.Symbol.{iso_oid}
use Rattle.token.specs.Table.{longest_text}
use Rattle.module_table.specs.Module.{Module, at, count_of, most_definitions}
use Rattle.module_table.specs.declared.Lead.{Lead}
use Rattle.module_table.specs.declared.Lead.TheVariants.{Iso, Import, Nothing}
use Rattle.oid_head.specs.Oid.{has_value, head_of, parts_of, name_numbers, definition_numbers, resolved_oid, numbers_before, first_number}
use Rattle.oid_number.proofs.Counts.{parts_few}
use Rattle.oid_number.proofs.Symbols.{symbol_short}

-- ---- so OIDs are never too long to count

-- the most numbers that one OID can have, before refusal 13 is judged
abbrev pub longest : ℕ
longest = 33554440

module _ (m : Module) (short : length m.classes ≤ longest_text) where
  length_few : (n k : ℕ) → length (definition_numbers m n k) ≤ 8 + n * longest_text
  unfolding definition_numbers iso_oid
  length_few zero k = omega arith
  length_few (suc n) k = each (has_value (at m k)) (length_few n)
    where
      go : (l : Lead) → ((e : ℕ) → length (definition_numbers m n e) ≤ 8 + n * longest_text) → length (name_numbers (definition_numbers m n) l) ≤ 8 + n * longest_text
      go Iso ih = omega arith
      go (Import e) ih = omega (arith, symbol_short e)
      go (Lead.Definition d) ih = ih d.0
      go Nothing ih = omega arith

      each : (b : Bool) → ((e : ℕ) → length (definition_numbers m n e) ≤ 8 + n * longest_text)
          → length (cond b (name_numbers (definition_numbers m n) (head_of m k) ++ parts_of m k) []) ≤ 8 + suc n * longest_text
      each true ih =
          omega (
            arith,
            length-append (name_numbers (definition_numbers m n) (head_of m k)) (parts_of m k),
            go (head_of m k) ih,
            parts_few m.classes m.values (at m k).oid,
            short,
          )
      each false ih = omega arith

  pub oid_few : count_of m ≤ most_definitions → (k : ℕ) → length (resolved_oid m k) ≤ longest
  unfolding resolved_oid
  oid_few few k = omega (arith, length_few (count_of m) k)

-- ---- the numbers of one definition more

pub before_more : (m : Module) (k : ℕ) → numbers_before m (k + 1) ≡ numbers_before m k ++ resolved_oid m k
unfolding numbers_before
before_more m k = rw (add-one k)

pub first_more : (m : Module) (k : ℕ) → first_number m (k + 1) ≡ first_number m k + length (resolved_oid m k)
first_more m k = ap length (before_more m k) ∙ length-append (numbers_before m k) (resolved_oid m k)

pub first_none : (m : Module) → first_number m 0 ≡ 0
unfolding numbers_before
first_none m = refl
