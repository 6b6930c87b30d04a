-- How many numbers an OID has at least: one, and that of a definition with a part of its own two.
-- Assumes nothing.
use mathlib.Core.Path.{◌≡◌, ap}
use mathlib.Core.Bool.{true}
use mathlib.Core.List.{List}
use Prim.Native.Nat.{ℕ, ◌-◌, ◌≤◌, ◌<◌}
use native.Mathlib.Omega.{arith}
use borrow.Author.Tests.{ltb-true}
use lib.ListN.{length, length-append}
use Rattle.symbol.specs.Symbol.{iso_oid, numbers_of}
use Rattle.module_table.specs.Module.{Module, at}
use Rattle.module_table.specs.declared.Lead.{Lead}
use Rattle.oid_head.specs.Oid.{HasOid, of_iso, of_symbol, of_definition, has_value, head_of, parts_of, name_of, Reaches, name_numbers, resolved_oid}
use Rattle.oid_head.proofs.Meaning.{Onward, onward, name_oid, oid_step}

module _ (m : Module) where
  -- `iso` has one, a symbol with an OID has some, and a definition has its head's
  some_number : {l : Lead} {xs : List ℕ} → HasOid m l xs → 1 ≤ length xs
  unfolding iso_oid
  some_number of_iso = omega arith
  some_number (of_symbol k s) = ltb-true 0 (length (numbers_of k)) s
  some_number (of_definition d xs v h) = omega (arith, some_number h, length-append xs (parts_of m d.0))

  module _ (k : ℕ) (r : Reaches m (name_of k)) where
    head_on : Onward m r.0 (record { 0 = k })
    head_on = onward m r.0 (record { 0 = k }) r.1

    -- a definition whose heads reach a built-in name is of a kind that has an OID
    pub reached_value : has_value (at m k) ≡ true
    reached_value = head_on.value

    pub two_numbers : 0 < length (parts_of m k) → 2 ≤ length (resolved_oid m k)
    two_numbers some =
        omega (
          arith,
          some,
          some_number (name_oid m (r.0 - 1) (head_of m k) head_on.head),
          ap length (oid_step m r.0 (record { 0 = k }) r.1),
          length-append (name_numbers (resolved_oid m) (head_of m k)) (parts_of m k),
        )
