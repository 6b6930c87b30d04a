-- The OIDs of definitions, one after the other, and each one found among them.
-- Assumes nothing.
use mathlib.Core.Path.{◌≡◌, sym, ap, ◌∙◌}
use mathlib.Core.List.{List, ◌++◌}
use Prim.Native.Nat.{ℕ, zero, suc, ◌+◌, ◌≤◌, ◌<◌}
use native.Mathlib.Decide.{dec_lt}
use native.Mathlib.Omega.{arith}
use lib.ListN.{length, take, drop, length-append}
use lib.Seq.{take-append-le, take-length, take-take, take-add, drop-append_seam}
use Rattle.module_table.specs.Module.{Module}
use Rattle.oid_head.specs.Oid.{resolved_oid, numbers_before, first_number}
use Rattle.oid_tree.proofs.Lengths.{before_more, first_more}

module _ (m : Module) where
  -- there are no fewer numbers before a later definition
  pub before_grows : (j k : ℕ) → j ≤ k → first_number m j ≤ first_number m k
  unfolding numbers_before
  before_grows j zero l = let e : j ≡ 0 = omega arith in rw e (omega arith)
  before_grows j (suc k) l = go (dec_lt j (suc k)) (before_grows j k)
    where
      go : Dec (j < suc k) → (j ≤ k → first_number m j ≤ first_number m k) → first_number m j ≤ length (numbers_before m k ++ resolved_oid m k)
      go (yes h) ih = omega (arith, ih (omega arith), length-append (numbers_before m k) (resolved_oid m k))
      go (no h) ih = let e : j ≡ suc k = omega arith in rw e (omega arith)

  -- those before an earlier definition come first
  before_first : (k c : ℕ) → k ≤ c → take (first_number m k) (numbers_before m c) ≡ numbers_before m k
  unfolding numbers_before
  before_first k zero l = let e : k ≡ 0 = omega arith in rw e
  before_first k (suc c) l = go (dec_lt k (suc c)) (before_first k c)
    where
      go : Dec (k < suc c) → (k ≤ c → take (first_number m k) (numbers_before m c) ≡ numbers_before m k)
          → take (first_number m k) (numbers_before m c ++ resolved_oid m c) ≡ numbers_before m k
      go (yes h) ih =
          take-append-le (first_number m k) (numbers_before m c) (resolved_oid m c) (before_grows k c (omega arith)) ∙ ih (omega arith)
      go (no h) ih = let e : k ≡ suc c = omega arith in rw e (take-length (numbers_before m c ++ resolved_oid m c))

  -- a buffer that starts with the numbers before definition c holds those of each definition k before it
  module _ (c : ℕ) (buffer : List ℕ) (held : take (first_number m c) buffer ≡ numbers_before m c) where
    prefix : (k : ℕ) → k ≤ c → take (first_number m k) buffer ≡ numbers_before m k
    prefix k l =
        sym (take-take (first_number m k) (first_number m c) buffer (before_grows k c l))
        ∙ ap (take (first_number m k)) held ∙ before_first k c l

    pub oid_held : (k : ℕ) → k < c → take (length (resolved_oid m k)) (drop (first_number m k) buffer) ≡ resolved_oid m k
    oid_held k h =
        let before = numbers_before m k in
        let own = resolved_oid m k in
        let both : before ++ take (length own) (drop (length before) buffer) ≡ before ++ own =
        ap (λ (l : List ℕ). l ++ take (length own) (drop (length before) buffer)) (sym (prefix k (omega arith)))
        ∙ sym (take-add (length before) (length own) buffer)
        ∙ ap (λ (n : ℕ). take n buffer) (sym (first_more m k))
        ∙ prefix (k + 1) (omega arith) ∙ before_more m k in
        sym (drop-append_seam before (take (length own) (drop (length before) buffer))) ∙ ap (drop (length before)) both ∙ drop-append_seam before own
