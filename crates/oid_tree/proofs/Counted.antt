-- Refusals 13 and 14 by what the definitions say: how many numbers they have is how long their OIDs are.
-- Assumes nothing.
use mathlib.Core.Path.{◌≡◌, refl, ap, ap₂, ◌∙◌}
use mathlib.Core.Bool.{Bool, true, false, cond}
use mathlib.Core.List.{List, [], ◌∷◌}
use Prim.Native.Nat.{ℕ, zero, suc, ◌+◌, ◌-◌, ◌≤◌, ◌<◌}
use native.Mathlib.Omega.{arith}
use borrow.Author.Tests.{lt-ltb, le-ltb, le-leb, ltb-true, ltb-false}
use lib.Dec.{ltb}
use lib.ListN.{length, length-append}
use Rattle.index.specs.First.{first, any}
use Rattle.index.proofs.Search.{first_same}
use Rattle.rule.specs.Rule.{judge_one, judge, and_then, Judgement}
use Rattle.rule.proofs.Judged.{NeverBroken}
use Rattle.module_table.specs.Definition.{entry, changed}
use Rattle.module_table.specs.Module.{Module, count_of}
use Rattle.module_table.specs.declared.Definition.{Definition}
use Rattle.module_table.proofs.Filled.{changed_counted, changed_entry}
use Rattle.oid_head.specs.Oid.{resolved_oid, numbers_before, first_number}
use Rattle.oid_tree.specs.Stage.{with_oid}
use Rattle.oid_head.specs.Unreached.{plain_over, finding_at}
use Rattle.oid_tree.specs.Refusal.{longest_oid, most_numbers, passes, too_long, past_room, length_rules, counts_before, long_by_count, room_by_count}
use Rattle.std.specs.Prelude.{Ok, Err}

-- two rules of one number over definitions of the same names that are broken at the same ones
plain_same : (number : ℕ) (ds es : List Definition) (p q : ℕ → Bool) → length es ≡ length ds → ((i : ℕ) → i < length ds → (entry es i).name ≡ (entry ds i).name)
    → ((i : ℕ) → i < length ds → p i ≡ q i) → judge_one (plain_over number es p) ≡ judge_one (plain_over number ds q)
unfolding judge_one any
plain_same number ds es p q counted names same =
    ap (λ (n : ℕ). cond (ltb (first p 0 n) n) (Err (finding_at number es (first p 0 n))) (Ok tt)) counted
    ∙ ap (λ (k : ℕ). cond (ltb k (length ds)) (Err (finding_at number es k)) (Ok tt)) (first_same p q 0 (length ds) (omega arith) (λ i l h. same i h))
    ∙ go (first q 0 (length ds)) (ltb (first q 0 (length ds)) (length ds)) refl
  where
    go : (k : ℕ) (b : Bool) → ltb k (length ds) ≡ b → ◌≡◌ {A = Judgement} (cond b (Err (finding_at number es k)) (Ok tt)) (cond b (Err (finding_at number ds k)) (Ok tt))
    go k true e = let name = names k (ltb-true k (length ds) e) in
        λ i. Err (record { number = number; clause = 0; token = name i; other = name i })
    go k false e = refl

module _ (m : Module) where
  abbrev stage : List Definition
  stage = changed (with_oid m) m.definitions

  stage_counted : length stage ≡ count_of m
  stage_counted = changed_counted (with_oid m) m.definitions

  stage_name : (i : ℕ) → i < count_of m → (entry stage i).name ≡ (entry m.definitions i).name
  unfolding with_oid
  stage_name i h = ap (λ (d : Definition). d.name) (changed_entry (with_oid m) m.definitions i h)

  pub stage_count : (i : ℕ) → i < count_of m → (entry stage i).count ≡ length (resolved_oid m i)
  unfolding with_oid
  stage_count i h = ap (λ (d : Definition). d.count) (changed_entry (with_oid m) m.definitions i h)

  counts_are : (k : ℕ) → k ≤ count_of m → counts_before stage k ≡ first_number m k
  unfolding counts_before numbers_before
  counts_are zero h = refl
  counts_are (suc k) h =
      omega (arith, counts_are k (omega arith), stage_count k (omega arith), length-append (numbers_before m k) (resolved_oid m k))

  long_same : judge_one (long_by_count stage) ≡ judge_one (too_long m)
  unfolding long_by_count too_long
  long_same = plain_same 13 m.definitions stage _ _ stage_counted stage_name (λ i h. ap (ltb longest_oid) (stage_count i h))

  room_same : judge_one (room_by_count stage) ≡ judge_one (past_room m)
  unfolding room_by_count past_room
  room_same = plain_same 14 m.definitions stage _ _ stage_counted stage_name (λ i h. ap₂ passes (counts_are i (omega arith)) (counts_are (suc i) (omega arith)))

  pub lengths_same : judge (long_by_count stage ∷ room_by_count stage ∷ []) ≡ judge (length_rules m)
  unfolding judge
  lengths_same =
      ap (λ (j : Judgement). and_then j (and_then (judge_one (room_by_count stage)) (Ok tt))) long_same
      ∙ ap (λ (j : Judgement). and_then (judge_one (too_long m)) (and_then j (Ok tt))) room_same

-- where refusal 14 is kept the numbers never pass the most
pub numbers_fit : (m : Module) → NeverBroken (past_room m) → (k : ℕ) → k ≤ count_of m → first_number m k ≤ most_numbers
unfolding past_room numbers_before
numbers_fit m kept zero h = omega arith
numbers_fit m kept (suc k) h = go (numbers_fit m kept k (omega arith)) (kept k (omega arith) h)
  where
    go : first_number m k ≤ most_numbers → passes (first_number m k) (first_number m (suc k)) ≡ false → first_number m (suc k) ≤ most_numbers
    go fits none = ltb-false most_numbers (first_number m (suc k)) (rw (le-leb (first_number m k) most_numbers fits) at none)

-- ---- the tests, as the code makes them

module _ (ds : List Definition) (k : ℕ) (own : Definition) (is : own ≡ entry ds k) where
  pub long_test : ltb longest_oid own.count ≡ (long_by_count ds).breach k
  unfolding long_by_count
  long_test = ap (λ (d : Definition). ltb longest_oid d.count) is

  pub counts_more : (total : ℕ) → total ≡ counts_before ds k → total + own.count ≡ counts_before ds (suc k)
  unfolding counts_before
  counts_more total so_far = omega (arith, ap (λ (d : Definition). d.count) is)

  module _ (total : ℕ) (so_far : total ≡ counts_before ds k) (room : total ≤ most_numbers) where
    pub room_passed : most_numbers - total < own.count → (room_by_count ds).breach k ≡ true
    unfolding room_by_count
    room_passed h =
        rw (le-leb (counts_before ds k) most_numbers (omega arith)) (lt-ltb most_numbers (counts_before ds (suc k)) (omega (arith, counts_more total so_far)))

    pub room_left : own.count ≤ most_numbers - total → (room_by_count ds).breach k ≡ false
    unfolding room_by_count
    room_left h =
        rw (le-leb (counts_before ds k) most_numbers (omega arith)) (le-ltb most_numbers (counts_before ds (suc k)) (omega (arith, counts_more total so_far)))
