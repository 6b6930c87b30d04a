-- Ranges in rising order: where a range belongs, and that with it they rise still, where it shares nothing.
-- Assumes nothing.
use mathlib.Core.Path.{◌≡◌, refl, sym, ap, subst, ◌∙◌}
use mathlib.Core.Logic.{◌⊎◌, inl, inr}
use mathlib.Core.Bool.{true, false}
use mathlib.Core.List.{List}
use Prim.Native.Nat.{ℕ, ◌+◌, ◌-◌, ◌≤◌, ◌<◌}
use native.Mathlib.Decide.{dec_lt}
use native.Mathlib.Omega.{arith}
use lib.ListN.{length, set, length-set}
use lib.Seq.{get_or-set_same, get_or-set_other}
use Rattle.index.proofs.Search.{true_false}
use Rattle.sub_type.specs.Range.{starts_range}
use Rattle.range_list.specs.Misplaced.{is_backward, is_below, is_misplaced}
use Rattle.range_list.specs.Sorted.{range_at, Rising, Gathered, Belongs, Inserted}
use Rattle.range_list.proofs.Ranges.{right, through, no_range, shared, kept}
use Rattle.range_list.proofs.Spreading.{more}

-- ---- the search by halves

-- those before `low` lie below the range, and that at `high`, if any, does not
pub record Halving (cs vs : List ℕ) (count : ℕ) (order : List ℕ) (token low high : ℕ) : Type 0 where
  pub inside : (low ≤ high) × (high ≤ count)
  pub before : (k : ℕ) → k < low → is_below cs vs (range_at order k) token ≡ true
  pub next : high < count → is_below cs vs (range_at order high) token ≡ false

module _ (cs vs : List ℕ) (count : ℕ) (order : List ℕ) (token : ℕ) where
  pub halving_start : Halving cs vs count order token 0 count
  halving_start = record {
    inside = (omega arith, omega arith);
    before = λ k h. absurd (omega arith);
    next = λ h. absurd (omega arith);
  }

  module _ (rises : Rising cs vs count order) (low high middle : ℕ) (h : Halving cs vs count order token low high) (l : low ≤ middle) (m : middle < high) where
    -- the middle one lies below it, and so do all before that
    pub halving_up : is_below cs vs (range_at order middle) token ≡ true → Halving cs vs count order token (middle + 1) high
    halving_up e = record {
      inside = (omega arith, h.inside.1);
      before = λ k b. go k b (dec_lt k middle);
      next = h.next;
    }
      where
        go : (k : ℕ) → k < middle + 1 → Dec (k < middle) → is_below cs vs (range_at order k) token ≡ true
        go k b (yes lower) =
            let in_count : middle < count = omega (arith, h.inside.1) in
            through cs vs (range_at order k) (range_at order middle) token (rises.below k middle lower in_count) (rises.right middle in_count) e
        go k b (no here) = let same : k ≡ middle = omega arith in rw same e

    pub halving_down : is_below cs vs (range_at order middle) token ≡ false → Halving cs vs count order token low middle
    halving_down e = record {
      inside = (l, omega (arith, h.inside.1));
      before = h.before;
      next = λ b. e;
    }

  pub halving_end : (low high : ℕ) → Halving cs vs count order token low high → high ≤ low → Belongs cs vs count order token low
  halving_end low high h e =
      let same : low ≡ high = omega (arith, h.inside.0) in
      record {
        inside = omega (arith, h.inside.0, h.inside.1);
        before = h.before;
        next = λ b. rw same (h.next (omega (arith, b)));
      }

-- ---- the loop that moves entries up

-- those from k on are moved by one, and those before are as they were
pub record Moving (before : List ℕ) (count at k : ℕ) (after : List ℕ) : Type 0 where
  pub inside : (at ≤ k) × (k ≤ count)
  pub long : length after ≡ length before
  pub same : (j : ℕ) → j ≤ k → j < count → range_at after j ≡ range_at before j
  pub moved : (j : ℕ) → k ≤ j → j < count → range_at after (j + 1) ≡ range_at before j

module _ (before : List ℕ) (count at : ℕ) (fits : at ≤ count) (room : count < length before) where
  pub moving_start : Moving before count at count before
  moving_start = record {
    inside = (fits, omega arith);
    long = refl;
    same = λ j l h. refl;
    moved = λ j l h. absurd (omega arith);
  }

  module _ (k : ℕ) (after : List ℕ) (m : Moving before count at k after) where
    pub moving_next : at < k → Moving before count at (k - 1) (set after k (range_at after (k - 1)))
    moving_next h = record {
      inside = (omega arith, omega (arith, m.inside.1));
      long = length-set after k (range_at after (k - 1)) ∙ m.long;
      same = λ j l b. get_or-set_other after k j (range_at after (k - 1)) 0 (λ e. omega (arith, e)) ∙ m.same j (omega arith) b;
      moved = λ j l b. go j l b (dec_lt j k);
    }
      where
        go : (j : ℕ) → k - 1 ≤ j → j < count → Dec (j < k) → range_at (set after k (range_at after (k - 1))) (j + 1) ≡ range_at before j
        go j l b (yes here) =
            let own : j + 1 ≡ k = omega arith in
            let last : k - 1 ≡ j = omega arith in
            ap (λ (i : ℕ). range_at (set after k (range_at after (k - 1))) i) own
            ∙ get_or-set_same after k (range_at after (k - 1)) 0 (omega (arith, m.long, m.inside.1))
            ∙ ap (range_at after) last ∙ m.same j (omega arith) b
        go j l b (no there) =
            get_or-set_other after k (j + 1) (range_at after (k - 1)) 0 (λ e. omega (arith, e)) ∙ m.moved j (omega arith) b

    pub moving_end : k ≤ at → (token : ℕ) → Inserted count at token before (set after at token)
    moving_end e token =
        let own : k ≡ at = omega (arith, m.inside.0) in
        record {
          earlier = λ j l. get_or-set_other after at j token 0 (λ q. omega (arith, q)) ∙ m.same j (omega arith) (omega arith);
          own = get_or-set_same after at token 0 (omega (arith, m.long));
          later = λ j l b. get_or-set_other after at (j + 1) token 0 (λ q. omega (arith, q)) ∙ m.moved j (omega arith) b;
        }

-- ---- a token more

-- an entry of those with a range more: one before it, itself, or one behind it
data Entry (count at : ℕ) : ℕ → Type 0 where
  earlier : (k : ℕ) → k < at → Entry count at k
  own : Entry count at at
  later : (k : ℕ) → at ≤ k → k < count → Entry count at (k + 1)

which : (count at k : ℕ) → k < count + 1 → Entry count at k
which count at k h = go (dec_lt k at) (dec_lt at k)
  where
    go : Dec (k < at) → Dec (at < k) → Entry count at k
    go (yes l) d = earlier k l
    go (no l) (yes m) = let same : k ≡ k - 1 + 1 = omega arith in subst (Entry count at) (sym same) (later (k - 1) (omega arith) (omega arith))
    go (no l) (no m) = let same : at ≡ k = omega arith in subst (Entry count at) same own

-- there are none before the first token
pub gathered_start : (cs vs : List ℕ) (from : ℕ) (order : List ℕ) → Gathered cs vs from from 0 order
gathered_start cs vs from order = record {
  rising = record {
    small = λ k h. absurd (omega arith);
    right = λ k h. absurd (omega arith);
    below = λ j k l h. absurd (omega arith);
  };
  after = omega arith;
  few = omega arith;
  each = λ k h. absurd (omega arith);
  all = λ i l h s. absurd (omega arith);
}

module _ (cs vs : List ℕ) (from token count : ℕ) (order : List ℕ) (g : Gathered cs vs from token count order) where
  -- no range starts there
  pub gathered_skip : starts_range cs token ≡ false → (is_misplaced cs vs from token ≡ false) × Gathered cs vs from (token + 1) count order
  gathered_skip f = (
    no_range cs vs from token f,
    record {
      rising = g.rising;
      after = omega (arith, g.after);
      few = omega (arith, g.few, g.after);
      each = λ k h. let e = g.each k h in (e.0, omega (arith, e.1), e.2);
      all = more (λ (i : ℕ). starts_range cs i ≡ true → (k : ℕ) × (k < count) × (range_at order k ≡ i)) from token g.all
          (λ s. absurd (true_false s f));
    },
  )

  module _ (s : starts_range cs token ≡ true) (f : is_backward cs vs token ≡ false) (at : ℕ) (b : Belongs cs vs count order token at) where
    -- the next one lies neither below it nor above it
    pub gathered_shared : at < count → is_below cs vs token (range_at order at) ≡ false → is_misplaced cs vs from token ≡ true
    gathered_shared h e =
        let r = g.each at h in
        shared cs vs from token s (range_at order at) r.0 r.1 r.2 (g.rising.right at h) (right cs vs token f) (b.next h) e

    module _ (free : at < count → is_below cs vs token (range_at order at) ≡ true) where
      -- it lies below all from there on
      above : (k : ℕ) → at ≤ k → k < count → is_below cs vs token (range_at order k) ≡ true
      above k l h = go (dec_lt at k)
        where
          go : Dec (at < k) → is_below cs vs token (range_at order k) ≡ true
          go (yes m) =
              through cs vs token (range_at order at) (range_at order k) (free (omega arith)) (g.rising.right at (omega arith)) (g.rising.below at k m h)
          go (no m) = let same : k ≡ at = omega arith in rw same (free (omega arith))

      pub gathered_kept : is_misplaced cs vs from token ≡ false
      gathered_kept = kept cs vs from token g.after f (λ j l h t. apart_from j (g.all j l h t))
        where
          apart_from : (j : ℕ) → (k : ℕ) × (k < count) × (range_at order k ≡ j) → (is_below cs vs j token ≡ true) ⊎ (is_below cs vs token j ≡ true)
          apart_from j e = go (dec_lt e.0 at)
            where
              go : Dec (e.0 < at) → (is_below cs vs j token ≡ true) ⊎ (is_below cs vs token j ≡ true)
              go (yes m) = inl (rw (← e.2) (b.before e.0 m))
              go (no m) = inr (rw (← e.2) (above e.0 (omega arith) e.1))

      module _ (few : token < 65536) (after : List ℕ) (i : Inserted count at token order after) where
        small : {k : ℕ} → Entry count at k → range_at after k < 65536
        small (earlier k l) = omega (arith, i.earlier k l, g.rising.small k (omega (arith, b.inside)))
        small own = omega (arith, i.own, few)
        small (later k l h) = omega (arith, i.later k l h, g.rising.small k h)

        itself : {k : ℕ} → Entry count at k → is_below cs vs (range_at after k) (range_at after k) ≡ false
        itself (earlier k l) = rw (i.earlier k l) (g.rising.right k (omega (arith, b.inside)))
        itself own = rw i.own (right cs vs token f)
        itself (later k l h) = rw (i.later k l h) (g.rising.right k h)

        lies : {j k : ℕ} → j < k → Entry count at j → Entry count at k → is_below cs vs (range_at after j) (range_at after k) ≡ true
        lies m (earlier j l) (earlier k h) = rw (i.earlier j l, i.earlier k h) (g.rising.below j k m (omega (arith, b.inside)))
        lies m (earlier j l) own = rw (i.earlier j l, i.own) (b.before j l)
        lies m (earlier j l) (later k p q) = rw (i.earlier j l, i.later k p q) (g.rising.below j k (omega arith) q)
        lies m own (earlier k h) = absurd (omega arith)
        lies m own own = absurd (omega arith)
        lies m own (later k p q) = rw (i.own, i.later k p q) (above k p q)
        lies m (later j p q) (earlier k h) = absurd (omega arith)
        lies m (later j p q) own = absurd (omega arith)
        lies m (later j p q) (later k u v) = rw (i.later j p q, i.later k u v) (g.rising.below j k (omega arith) v)

        held : {k : ℕ} → Entry count at k → (from ≤ range_at after k) × (range_at after k < token + 1) × (starts_range cs (range_at after k) ≡ true)
        held (earlier k l) = let e = g.each k (omega (arith, b.inside)) in rw (i.earlier k l) (e.0, omega (arith, e.1), e.2)
        held own = rw i.own (g.after, omega arith, s)
        held (later k l h) = let e = g.each k h in rw (i.later k l h) (e.0, omega (arith, e.1), e.2)

        found : (j : ℕ) → (k : ℕ) × (k < count) × (range_at order k ≡ j) → (k : ℕ) × (k < count + 1) × (range_at after k ≡ j)
        found j e = go (dec_lt e.0 at)
          where
            go : Dec (e.0 < at) → (k : ℕ) × (k < count + 1) × (range_at after k ≡ j)
            go (yes l) = (e.0, omega (arith, e.1), i.earlier e.0 l ∙ e.2)
            go (no l) = (e.0 + 1, omega (arith, e.1), i.later e.0 (omega arith) e.1 ∙ e.2)

        pub gathered_more : Gathered cs vs from (token + 1) (count + 1) after
        gathered_more = record {
          rising = record {
            small = λ k h. small (which count at k h);
            right = λ k h. itself (which count at k h);
            below = λ j k l h. lies l (which count at j (omega arith)) (which count at k h);
          };
          after = omega (arith, g.after);
          few = omega (arith, g.few, g.after);
          each = λ k h. held (which count at k h);
          all = more (λ (j : ℕ). starts_range cs j ≡ true → (k : ℕ) × (k < count + 1) × (range_at after k ≡ j)) from token
              (λ j l h t. found j (g.all j l h t)) (λ t. (at, omega (arith, b.inside), i.own));
        }
