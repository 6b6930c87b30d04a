-- Where the numbers of a definition go, by what it says; and where its head is defined earlier, what stands there is its head's.
-- Assumes nothing.
use mathlib.Core.Path.{◌≡◌, sym, ap, ◌∙◌}
use mathlib.Core.Bool.{true}
use mathlib.Core.List.{List, ◌++◌}
use Prim.Native.Nat.{ℕ, ◌+◌, ◌≤◌, ◌<◌}
use native.Mathlib.Omega.{arith}
use lib.ListN.{length, take, drop, length-append}
use Rattle.index.specs.declared.RecordIndex.{RecordIndex}
use Rattle.module_table.specs.Module.{Module, at, count_of, oid_in}
use Rattle.module_table.specs.declared.Definition.{Definition}
use Rattle.module_table.specs.declared.Lead.{Lead}
use Rattle.oid_number.specs.Number.{parts_in}
use Rattle.oid_head.specs.Oid.{has_value, head_in, reached_in, reaches, resolved_oid, numbers_before, first_number}
use Rattle.oid_number.specs.Buffer.{laid_at}
use Rattle.oid_head.specs.Unreached.{AllReach}
use Rattle.oid_tree.specs.Writing.{Placed}
use Rattle.oid_head.proofs.Meaning.{value_inside, onward}
use Rattle.oid_tree.proofs.Lengths.{first_more}
use Rattle.oid_tree.proofs.Steps.{head_reached, own_step}
use Rattle.oid_tree.proofs.Oids.{before_grows, oid_held}

-- definition k has an OID value, and the code has read it
module _ (m : Module) (reach : AllReach m) (placed : Placed m) (k : RecordIndex) (own : Definition) (is : own ≡ at m k.0) (value : has_value own ≡ true) where
  its_value : has_value (at m k.0) ≡ true
  its_value = sym (ap has_value is) ∙ value

  pub own_reached : reaches m k.0 ≡ true
  own_reached = reach k.0 (value_inside m k.0 its_value) its_value

  pub own_start : own.start.0 ≡ first_number m k.0
  own_start = ap (λ (d : Definition). d.start.0) is ∙ placed.starts k.0 its_value

  pub own_room : (n : ℕ) → first_number m (k.0 + 1) ≤ n → own.start.0 + length (resolved_oid m k.0) ≤ n
  own_room n room = omega (arith, own_start, first_more m k.0)

  -- its head is defined earlier
  module _ (lead : Lead) (leads : lead ≡ head_in m.values own) (d : RecordIndex) (to : lead ≡ Lead.Definition d) (earlier : d.0 < k.0) (head : Definition) (read : head ≡ at m d.0) where
    own_reached_in : reached_in m (count_of m) (Lead.Definition k) ≡ true
    unfolding reaches
    own_reached_in = own_reached

    head_value : has_value (at m d.0) ≡ true
    head_value =
        (onward m _ d (sym (ap (reached_in m _) to) ∙ head_reached m (count_of m) k own_reached_in own is lead leads)).value

    head_start : head.start.0 ≡ first_number m d.0
    head_start = ap (λ (x : Definition). x.start.0) read ∙ placed.starts d.0 head_value

    head_count : head.count ≡ length (resolved_oid m d.0)
    head_count = ap (λ (x : Definition). x.count) read ∙ placed.counts d.0 (value_inside m d.0 head_value)

    pub head_apart : head.start.0 + head.count ≤ own.start.0
    head_apart = omega (arith, head_start, head_count, own_start, first_more m d.0, before_grows m (d.0 + 1) k.0 (omega arith))

    abbrev parts : List ℕ
    parts = parts_in m.classes m.values own.oid

    step : resolved_oid m k.0 ≡ resolved_oid m d.0 ++ parts
    step = own_step m (count_of m) k own_reached_in own is (Lead.Definition d) (sym to ∙ leads)

    pub parts_room : (n : ℕ) → first_number m (k.0 + 1) ≤ n → own.start.0 + (head.count + length parts) ≤ n
    parts_room n room = omega (arith, own_start, head_count, first_more m k.0, ap length step, length-append (resolved_oid m d.0) parts)

    -- where the numbers before definition k are in the buffer, its head's are
    module _ (buffer : List ℕ) (held : take (first_number m k.0) buffer ≡ numbers_before m k.0) where
      head_held : oid_in buffer head ≡ resolved_oid m d.0
      head_held =
          ap (λ (n : ℕ). take n (drop head.start.0 buffer)) head_count
          ∙ ap (λ (n : ℕ). take (length (resolved_oid m d.0)) (drop n buffer)) head_start
          ∙ oid_held m k.0 buffer held d.0 earlier

      pub behind_laid : laid_at own.start.0 (oid_in buffer head ++ parts) buffer ≡ laid_at (first_number m k.0) (resolved_oid m k.0) buffer
      behind_laid =
          ap (λ (n : ℕ). laid_at n (oid_in buffer head ++ parts) buffer) own_start
          ∙ ap (λ (l : List ℕ). laid_at (first_number m k.0) l buffer) (ap (λ (l : List ℕ). l ++ parts) head_held ∙ sym step)
