-- A rule for each index in a row, and one rule at each index: what is said of them one after the other.
-- Assumes nothing.
use mathlib.Core.Path.{◌≡◌, refl, sym, ap, subst, ◌∙◌}
use mathlib.Core.Bool.{Bool, true, false, cond}
use mathlib.Core.List.{[], ◌∷◌}
use Prim.Native.Nat.{ℕ, zero, suc, ◌+◌, ◌-◌, ◌≤◌, ◌<◌}
use native.Mathlib.Decide.{dec_le}
use native.Mathlib.Numerals.{add-one}
use native.Mathlib.Omega.{arith}
use Rattle.rule.specs.Rule.{Rule, Judgement, finding, judge_one, judge, each_of, each}
use Rattle.rule.specs.Each.{judge_at, KeptBefore, SaidOfEach, JudgedEach}
use Rattle.rule.proofs.Judged.{never_broken, broken_at}
use Rattle.rule.specs.declared.Finding.{Finding}
use Rattle.std.specs.Prelude.{Ok, Err}

module _ (rule : ℕ → Rule) where
  -- the first of them, and then the others
  each_first : (a b : ℕ) → a < b → each rule a b ≡ rule a ∷ each rule (suc a) b
  unfolding each each_of
  each_first a b h = let n : b - a ≡ suc (b - suc a) = omega arith in rw n

  each_none : (a b : ℕ) → b ≤ a → each rule a b ≡ []
  unfolding each each_of
  each_none a b h = let n : b - a ≡ 0 = omega arith in rw n

  -- the loop that asks them from a on, below b, and is at k: what it has passed was kept
  abbrev pub Asked : ℕ → ℕ → ℕ → Type 0
  Asked a b k = judge (each rule k b) ≡ judge (each rule a b)

  module _ (a b k : ℕ) (asked : Asked a b k) (j : Judgement) (is : j ≡ judge_one (rule k)) (h : k < b) where
    pub asked_next : j ≡ Ok tt → Asked a b (k + 1)
    unfolding judge
    asked_next kept =
        let now : judge (each rule k b) ≡ judge (each rule (suc k) b) = rw (each_first k b h, ← is, kept) in
        rw (add-one k) (sym now ∙ asked)

    pub asked_broken : (f : Finding) → j ≡ Err f → j ≡ judge (each rule a b)
    unfolding judge
    asked_broken f broken =
        let now : judge (each rule k b) ≡ j = rw (each_first k b h, ← is, broken) in
        sym now ∙ asked

  pub asked_end : (a b k : ℕ) → Asked a b k → b ≤ k → Ok tt ≡ judge (each rule a b)
  unfolding judge
  asked_end a b k asked h =
      let now : judge (each rule k b) ≡ Ok tt = rw (each_none k b h) in
      sym now ∙ asked

  -- each index says what its rule says
  pub judged_each : {Says : ℕ → Judgement → Type 0} (a b : ℕ) (j : Judgement) → JudgedEach Says a b j
      → ((k : ℕ) → a ≤ k → k < b → (i : Judgement) → Says k i → i ≡ judge_one (rule k)) → j ≡ judge (each rule a b)
  judged_each {Says} a b j judged says = go j judged.said
    where
      asked : (n : ℕ) → a + n ≤ b → KeptBefore Says a (a + n) → Asked a b (a + n)
      asked zero h kept = let e : a ≡ a + 0 = omega arith in subst (Asked a b) e refl
      asked (suc n) h kept =
          let e : (a + n) + 1 ≡ a + suc n = omega arith in
          subst (Asked a b) e (asked_next a b (a + n) (asked n (omega arith) (λ i l m. kept i l (omega arith))) (Ok tt) (says (a + n) (omega arith) (omega arith) (Ok tt) (kept (a + n) (omega arith) (omega arith))) (omega arith) refl)

      asked_at : (k : ℕ) → a ≤ k → k ≤ b → KeptBefore Says a k → Asked a b k
      asked_at k l h kept = let e : a + (k - a) ≡ k = omega arith in subst (Asked a b) e (asked (k - a) (omega (arith, e)) (subst (KeptBefore Says a) (sym e) kept))

      ended : Dec (a ≤ b) → KeptBefore Says a b → Ok tt ≡ judge (each rule a b)
      ended (yes l) kept = asked_end a b b (asked_at b l (omega arith) kept) (omega arith)
      ended (no l) kept = asked_end a b a refl (omega (arith, l))

      go : (i : Judgement) → SaidOfEach Says a b i → i ≡ judge (each rule a b)
      go (Ok _) kept = ended (dec_le a b) kept
      go (Err f) s =
          asked_broken a b s.index (asked_at s.index s.inside.0 (omega (arith, s.inside.1)) s.before) (Err f) (says s.index s.inside.0 s.inside.1 (Err f) s.broken) s.inside.1 f refl

-- what a rule says of an index
module _ (r : Rule) (k : ℕ) where
  pub broken_there : r.breach k ≡ true → (f : Finding) → f ≡ finding r k → Err f ≡ judge_at r k
  broken_there e f at = rw e (ap Err at)

  pub kept_there : r.breach k ≡ false → Ok tt ≡ judge_at r k
  kept_there e = rw e

  pub not_broken : Ok tt ≡ judge_at r k → r.breach k ≡ false
  not_broken = go (r.breach k)
    where
      go : (b : Bool) → ◌≡◌ {A = Judgement} (Ok tt) (cond b (Err (finding r k)) (Ok tt)) → b ≡ false
      go true e = let z : ◌≡◌ {A = ℕ} 0 1 = cc in absurd (omega arith)
      go false e = refl

  broken_so : (f : Finding) → Err f ≡ judge_at r k → (r.breach k ≡ true) × (finding r k ≡ f)
  broken_so f = go (r.breach k)
    where
      of : Judgement → Finding
      of (Ok _) = f
      of (Err g) = g

      go : (b : Bool) → ◌≡◌ {A = Judgement} (Err f) (cond b (Err (finding r k)) (Ok tt)) → (b ≡ true) × (finding r k ≡ f)
      go true e = (refl, sym (ap of e))
      go false e = let z : ◌≡◌ {A = ℕ} 0 1 = cc in absurd (omega arith)

-- each index says what one rule says of it
pub judged_at : (r : Rule) {Says : ℕ → Judgement → Type 0} (a b : ℕ) (j : Judgement) → JudgedEach Says a b j → r.from ≡ a → r.to ≡ b
    → ((k : ℕ) → a ≤ k → k < b → (i : Judgement) → Says k i → i ≡ judge_at r k) → j ≡ judge_one r
judged_at r {Says} a b j judged from to says = go j judged.said
  where
    kept_before : (k : ℕ) → k ≤ b → KeptBefore Says a k → (i : ℕ) → r.from ≤ i → i < k → r.breach i ≡ false
    kept_before k h kept i l m = not_broken r i (says i (omega (arith, from)) (omega arith) (Ok tt) (kept i (omega (arith, from)) m))

    go : (i : Judgement) → SaidOfEach Says a b i → i ≡ judge_one r
    go (Ok _) kept = never_broken r (λ i l h. kept_before b (omega arith) kept i l (omega (arith, to)))
    go (Err f) s =
        let at = broken_so r s.index f (says s.index s.inside.0 s.inside.1 (Err f) s.broken) in
        broken_at r f (record {
          index = s.index;
          inside = (omega (arith, from, s.inside.0), omega (arith, to, s.inside.1));
          found = at.1;
          breaks = at.0;
          none_before = λ i l h. kept_before s.index (omega (arith, s.inside.1)) s.before i l h;
        })
