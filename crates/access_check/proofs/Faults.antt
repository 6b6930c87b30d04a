-- The first breach of a rule, by one search or by the earlier of two; and the clauses, test by test.
-- Assumes nothing.
use mathlib.Core.Path.{◌≡◌, sym, ap, ◌∙◌}
use mathlib.Core.Bool.{Bool, true, false, not, ◌&&◌, ◌||◌}
use mathlib.Core.List.{List}
use Prim.Native.Nat.{ℕ, ◌+◌, ◌-◌, ◌≤◌, ◌<◌}
use native.Mathlib.Decide.{dec_lt}
use native.Mathlib.Omega.{arith}
use lib.Dec.{eqb, ltb, leb}
use lib.ListN.{length, get_or}
use borrow.Author.Tests.{lt-ltb, le-ltb, le-leb, ltb-true, leb-true}
use Rattle.index.specs.First.{first}
use Rattle.index.proofs.Search.{true_false, answers, first_hit, first_none, first_holds, first_passed, first_is, first_end}
use Rattle.rule.specs.Rule.{Rule, finding, judge_one}
use Rattle.rule.specs.declared.Finding.{Finding}
use Rattle.rule.proofs.Judged.{breach_here, none_left}
use Rattle.module_table.specs.Definition.{entry}
use Rattle.module_table.specs.declared.Definition.{Definition}
use Rattle.oid_run.specs.Run.{run}
use Rattle.oid_run.proofs.Runs.{run_length, run_number}
use Rattle.object_tree.specs.Words.{is_object}
use Rattle.index.specs.Choice.{when◌then◌else◌}
use Rattle.object_tree.proofs.Parents.{both}
use Rattle.access_check.specs.Access.{clashes, is_written_column, access_clause}
use Rattle.access_check.specs.Notification.{is_not_zeroed}
use Rattle.access_check.specs.Found.{own_clause}
use Rattle.std.specs.Prelude.{Ok, Err}

-- ---- what a rule says, by its first breach

module _ (r : Rule) (n k : ℕ) (from : r.from ≡ 0) (end : r.to ≡ n) (is : k ≡ first r.breach 0 n) where
  whole : first r.breach 0 n ≡ first r.breach r.from n
  whole = ap (λ (a : ℕ). first r.breach a n) (sym from)

  pub first_broken : k < n → (f : Finding) → f ≡ finding r k → Err f ≡ judge_one r
  first_broken h f at =
      let holds : r.breach k ≡ true = ap r.breach is ∙ first_holds r.breach 0 n (omega (arith, is)) (omega arith) in
      breach_here r n k end (first_hit r.breach k n h holds ∙ is ∙ whole) h holds f at

  pub none_broken : n ≤ k → Ok tt ≡ judge_one r
  none_broken h = none_left r n k end (first_none r.breach k n h ∙ is ∙ whole) h

-- ---- the earlier of two searches

module _ (p q breach : ℕ → Bool) (n a b : ℕ) (either : (k : ℕ) → breach k ≡ (p k || q k)) (first-p : a ≡ first p 0 n) (first_q : b ≡ first q 0 n) where
  passed : (i : ℕ) → i < a → i < b → breach i ≡ false
  passed i h l = either i ∙ rw (first_passed p 0 n i (omega arith) (omega (arith, first-p)), first_passed q 0 n i (omega arith) (omega (arith, first_q)))

  pub first_earlier : ((ltb a n) && (leb a b)) ≡ true → (a < n) × (a ≡ first breach 0 n) × (p a ≡ true)
  first_earlier e =
      let parts = both (ltb a n) _ e in
      let inside : a < n = ltb-true a n parts.0 in
      let before : a ≤ b = leb-true a b parts.1 in
      let holds : p a ≡ true = ap p first-p ∙ first_holds p 0 n (omega (arith, first-p)) (omega arith) in
      (inside, sym (first_is breach 0 n a (omega arith) inside (either a ∙ rw holds) (λ i l h. passed i h (omega arith))), holds)

  module _ (e : ((ltb a n) && (leb a b)) ≡ false) where
    later : b < n → b < a
    later h = go (dec_lt b a)
      where
        go : Dec (b < a) → b < a
        go (yes l) = l
        go (no l) = absurd (true_false (rw (lt-ltb a n (omega arith), le-leb a b (omega arith))) e)

    pub second_earlier : b < n → (b ≡ first breach 0 n) × (p b ≡ false)
    second_earlier h =
        let holds : q b ≡ true = ap q first_q ∙ first_holds q 0 n (omega (arith, first_q)) (omega arith) in
        let none : p b ≡ false = first_passed p 0 n b (omega arith) (omega (arith, first-p, later h)) in
        (sym (first_is breach 0 n b (omega arith) h (either b ∙ rw (none, holds)) (λ i l m. passed i (omega (arith, later h)) m)), none)

    pub neither : n ≤ b → n ≡ first breach 0 n
    neither h = sym (first_end breach 0 n (omega arith) (λ i l m. passed i (omega (arith, at_end)) (omega arith)))
      where
        at_end : n ≤ a
        at_end = go (dec_lt a n)
          where
            go : Dec (a < n) → n ≤ a
            go (yes l) = absurd (true_false (rw (lt-ltb a n l, le-leb a b (omega arith))) e)
            go (no l) = omega arith

-- ---- the clauses of 21

module _ (ds : List Definition) (values : List ℕ) (k : ℕ) where
  clash_object : clashes ds values k ≡ true → is_object (entry ds k) ≡ true
  unfolding clashes
  clash_object e = (both (is_object (entry ds k)) _ (both _ _ (both (is_written_column ds (entry ds k)) _ e).0).0).0

  -- a clash, and else what it breaks by itself
  pub access_clash : clashes ds values k ≡ true → 1 ≡ access_clause ds values k
  unfolding access_clause
  access_clash e = rw (clash_object e, e)

  pub access_own : clashes ds values k ≡ false → own_clause ds (entry ds k) ≡ access_clause ds values k
  unfolding access_clause own_clause
  access_own e = rw e

  pub access_either : ltb 0 (access_clause ds values k) ≡ (clashes ds values k || ltb 0 (own_clause ds (entry ds k)))
  access_either =
      answers (clashes ds values k)
      (λ e. ap (ltb 0) (sym (access_clash e)) ∙ rw e)
      (λ e. ap (ltb 0) (sym (access_own e)) ∙ rw e)

-- ---- the numbers of a notification's OID

module _ (numbers : List ℕ) (from count : ℕ) (oid : List ℕ) (h : from + count ≤ length numbers) (held : run numbers from count ≡ oid) where
  pub run_long : length oid ≡ count
  run_long = sym (ap length held) ∙ run_length numbers from count h

  pub next_to_last : 2 ≤ length oid → not (eqb (get_or numbers (from + (count - 2)) 0) 0) ≡ is_not_zeroed oid
  next_to_last two =
      let there : get_or oid (length oid - 2) 0 ≡ get_or numbers (from + (count - 2)) 0 =
      ap (λ (x : ℕ). get_or oid (x - 2) 0) run_long ∙ sym (ap (λ (l : List ℕ). get_or l (count - 2) 0) held) ∙ run_number numbers from count h (count - 2) (omega (arith, run_long)) in
      ap (λ (x : ℕ). not (eqb x 0)) (sym there)

-- ---- three clauses in a row, for what is not exempt

module _ (exempt a b c : Bool) (x y z : ℕ) where
  abbrev pub chain : ℕ
  chain = when exempt then 0 else when a then x else when b then y else when c then z else 0

  pub chain_exempt : exempt ≡ true → 0 ≡ chain
  chain_exempt e = rw e

  module _ (e : exempt ≡ false) where
    pub chain_first : a ≡ true → x ≡ chain
    chain_first f = rw (e, f)

    module _ (f : a ≡ false) where
      pub chain_second : b ≡ true → y ≡ chain
      chain_second g = rw (e, f, g)

      module _ (g : b ≡ false) where
        pub chain_third : c ≡ true → z ≡ chain
        chain_third h = rw (e, f, g, h)

        pub chain_none : c ≡ false → 0 ≡ chain
        chain_none h = rw (e, f, g, h)

-- a clause other than 0 is a breach
pub nonzero_breach : (n : ℕ) → (n ≡ 0 → ⊥) → ltb 0 n ≡ true
nonzero_breach n other = lt-ltb 0 n (omega arith)

pub zero_kept : (n : ℕ) → n ≡ 0 → ltb 0 n ≡ false
zero_kept n e = le-ltb 0 n (omega arith)
