-- The laws of a walk: one that ends passes no place twice, so where its places are numbered below c, it has ended after c steps.
-- Assumes nothing.
use mathlib.Core.Path.{◌≡◌, refl, sym, ap, ◌∙◌}
use mathlib.Core.Bool.{Bool, true, false}
use Prim.Native.Nat.{ℕ, zero, suc, ◌+◌, ◌-◌, ◌≤◌, ◌<◌}
use native.Mathlib.Decide.{dec_lt}
use native.Mathlib.Nat.{add-zero, add-suc}
use native.Mathlib.Omega.{arith}
use Rattle.index.specs.Walk.{after}
use Rattle.index.proofs.Search.{true_false, answers}
use Rattle.index.proofs.Pigeonhole.{Twice, pigeonhole}

module _ {A : Type 0} (step : A → A) where
  pub after_first : (n : ℕ) (x : A) → after step (suc n) x ≡ after step n (step x)
  unfolding after
  after_first zero x = refl
  after_first (suc n) x = ap step (after_first n x)

module _ {A : Type 0} (step : A → A) (stop : A → Bool) (x : A) (sticky : (y : A) → stop y ≡ true → step y ≡ y) where
  -- a walk that has stopped stays where it is
  stays : (n k : ℕ) → stop (after step n x) ≡ true → stop (after step (n + k) x) ≡ true
  unfolding after
  stays n zero e = rw (add-zero n) e
  stays n (suc k) e = let h = stays n k e in rw (add-suc n k) (ap stop (sticky _ h) ∙ h)

  pub stopped_later : (m n : ℕ) → m ≤ n → stop (after step m x) ≡ true → stop (after step n x) ≡ true
  stopped_later m n l e = let k : n ≡ m + (n - m) = omega arith in rw k (stays m (n - m) e)

  -- so it stops at one place alone
  rests : (n k : ℕ) → stop (after step n x) ≡ true → after step (n + k) x ≡ after step n x
  unfolding after
  rests n zero e = rw (add-zero n)
  rests n (suc k) e = rw (add-suc n k) (sticky _ (stays n k e) ∙ rests n k e)

  pub one_rest : (m n : ℕ) → stop (after step m x) ≡ true → stop (after step n x) ≡ true → after step m x ≡ after step n x
  one_rest m n p q = go (dec_lt m n)
    where
      go : Dec (m < n) → after step m x ≡ after step n x
      go (yes l) = let k : n ≡ m + (n - m) = omega arith in sym (ap (λ (i : ℕ). after step i x) k ∙ rests m (n - m) p)
      go (no l) = let k : m ≡ n + (m - n) = omega arith in ap (λ (i : ℕ). after step i x) k ∙ rests n (m - n) q

  pub not_stopped_before : (m n : ℕ) → m ≤ n → stop (after step n x) ≡ false → stop (after step m x) ≡ false
  not_stopped_before m n l e = answers (stop (after step m x)) (λ t. absurd (true_false (stopped_later m n l t) e)) (λ f. f)

  -- a walk that is at one place after i and after j steps goes round there, and all later places are among those of one round
  record InRound (i j m : ℕ) : Type 0 where
    turn : ℕ
    from : i ≤ turn
    to : turn < j
    same : after step m x ≡ after step turn x

  round : (i j : ℕ) → i < j → after step i x ≡ after step j x → (k : ℕ) → InRound i j (i + k)
  unfolding after
  round i j h e zero = record { turn = i; from = omega arith; to = h; same = rw (add-zero i) }
  round i j h e (suc k) = rw (add-suc i k) (next (round i j h e k))
    where
      next : InRound i j (i + k) → InRound i j (suc (i + k))
      next r = go (dec_lt (suc r.turn) j)
        where
          go : Dec (suc r.turn < j) → InRound i j (suc (i + k))
          go (yes l) = record { turn = suc r.turn; from = omega (arith, r.from); to = l; same = ap step r.same }
          go (no l) =
              let last : suc r.turn ≡ j = omega (arith, r.to) in
              record { turn = i; from = omega arith; to = h; same = ap step r.same ∙ ap (λ (n : ℕ). after step n x) last ∙ sym e }

  -- a walk that stops, but not within n steps, passes no place twice in these n steps
  pub passes_once : (n i j : ℕ) → i < j → j ≤ n → stop (after step n x) ≡ false → (m : ℕ) → stop (after step m x) ≡ true → after step i x ≡ after step j x → ⊥
  passes_once n i j h l running m end e = go (dec_lt m i)
    where
      go : Dec (m < i) → ⊥
      go (yes s) = true_false end (not_stopped_before m n (omega arith) running)
      go (no s) =
          let k : m ≡ i + (m - i) = omega arith in
          let r = round i j h e (m - i) in
          true_false end (ap (λ (o : ℕ). stop (after step o x)) k ∙ ap stop r.same ∙ not_stopped_before r.turn n (omega (arith, r.to)) running)

-- the walk's places are numbered below c until it stops, each place by a number of its own
module _ {A : Type 0} (step : A → A) (stop : A → Bool) (number : A → ℕ) (c : ℕ) (x : A)
    (sticky : (y : A) → stop y ≡ true → step y ≡ y)
    (inside : (n : ℕ) → stop (after step n x) ≡ false → number (after step n x) < c)
    (distinct : (y z : A) → stop y ≡ false → stop z ≡ false → number y ≡ number z → y ≡ z) where
  -- if it has not stopped after c steps, it never does
  pub never_ends : stop (after step c x) ≡ false → (n : ℕ) → stop (after step n x) ≡ false
  never_ends e n = answers (stop (after step n x)) (λ end. absurd (again end)) (λ f. f)
    where
      running : (i : ℕ) → i ≤ c → stop (after step i x) ≡ false
      running i l = not_stopped_before step stop x sticky i c l e

      twice : Twice (λ (i : ℕ). number (after step i x)) c
      twice = pigeonhole c (λ (i : ℕ). number (after step i x)) (λ i l. inside i (running i l))

      again : stop (after step n x) ≡ true → ⊥
      again end =
          let one = running twice.one (omega (arith, twice.apart, twice.inside)) in
          let other = running twice.other twice.inside in
          passes_once step stop x sticky c twice.one twice.other twice.apart twice.inside e n end (distinct _ _ one other twice.equal)

  -- however long the walk is, if it ends it has ended after c steps
  pub ends_in_time : (n : ℕ) → stop (after step n x) ≡ true → stop (after step c x) ≡ true
  ends_in_time n end = answers (stop (after step c x)) (λ t. t) (λ e. absurd (true_false end (never_ends e n)))
