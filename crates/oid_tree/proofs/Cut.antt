-- The words of a definition cut its OID out of the number buffer.
-- Assumes nothing.
use mathlib.Core.Path.{◌≡◌, sym, ap, ◌∙◌}
use mathlib.Core.Bool.{false, cond}
use mathlib.Core.List.{List}
use Prim.Native.Nat.{ℕ, ◌≤◌, ◌<◌}
use native.Mathlib.Decide.{dec_lt}
use native.Mathlib.Omega.{arith}
use lib.ListN.{length, take, drop, get_or-eq_default}
use lib.Seq.{take-length}
use Rattle.index.proofs.Search.{answers}
use Rattle.token.specs.Table.{overlaid}
use Rattle.module_table.specs.Definition.{absent, entry, changed}
use Rattle.module_table.specs.Module.{Module, at, count_of, oid_in, oid_of}
use Rattle.module_table.proofs.Filled.{changed_counted, changed_entry}
use Rattle.oid_head.specs.Oid.{has_value, resolved_oid, numbers_before, first_number}
use Rattle.oid_tree.specs.Stage.{with_oid, with_oids}
use Rattle.oid_head.proofs.Meaning.{no_value, oid_none}
use Rattle.oid_number.proofs.Laid.{overlaid_first}
use Rattle.oid_tree.proofs.Oids.{oid_held}

-- a buffer that starts with all numbers
module _ (m : Module) (buffer : List ℕ) (held : take (first_number m (count_of m)) buffer ≡ numbers_before m (count_of m)) (k : ℕ) where
  none_cut : has_value (at m k) ≡ false → (start : ℕ) → take (length (resolved_oid m k)) (drop start buffer) ≡ resolved_oid m k
  none_cut f start = rw (oid_none m k f)

  inside_cut : k < count_of m → oid_in buffer (with_oid m k (at m k)) ≡ resolved_oid m k
  unfolding with_oid
  inside_cut h =
      answers (has_value (at m k))
      (λ v. rw v (oid_held m (count_of m) buffer held k h))
      (λ f. none_cut f (cond (has_value (at m k)) (first_number m k) 0))

  past_cut : count_of m ≤ k → oid_in buffer absent ≡ resolved_oid m k
  unfolding absent
  past_cut h = sym (oid_none m k (ap has_value (get_or-eq_default m.definitions absent {n = k} h) ∙ no_value))

  pub buffer_oid : oid_in buffer (at (with_oids m) k) ≡ resolved_oid m k
  unfolding with_oids
  buffer_oid = go (dec_lt k (count_of m))
    where
      go : Dec (k < count_of m) → oid_in buffer (entry (changed (with_oid m) m.definitions) k) ≡ resolved_oid m k
      go (yes h) = ap (oid_in buffer) (changed_entry (with_oid m) m.definitions k h) ∙ inside_cut h
      go (no h) =
          ap (oid_in buffer) (get_or-eq_default (changed (with_oid m) m.definitions) absent {n = k} (omega (arith, changed_counted (with_oid m) m.definitions)))
          ∙ past_cut (omega arith)

-- the numbers of the stage, with nothing behind them
pub stage_oid : (m : Module) (k : ℕ) → oid_of (with_oids m) k ≡ resolved_oid m k
unfolding with_oids
stage_oid m k = buffer_oid m (numbers_before m (count_of m)) (take-length (numbers_before m (count_of m))) k

-- the number buffer as `collect_oids` leaves it
pub left_oid : (m : Module) (before after : List ℕ) → after ≡ overlaid (with_oids m).numbers before → (k : ℕ) → oid_in after (at (with_oids m) k) ≡ oid_of (with_oids m) k
unfolding with_oids
left_oid m before after held k =
    buffer_oid m after (overlaid_first (numbers_before m (count_of m)) before after held) k ∙ sym (stage_oid m k)
