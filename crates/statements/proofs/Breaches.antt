-- Which breaches a text has, by what it is: within the limits, one that does not cut and one that is not derived have one breach
-- alone, and one that is derived has those of the rules. So each has its first, if it has any.
-- Assumes nothing.
use mathlib.Core.Path.{◌≡◌, refl, sym, ap}
use mathlib.Core.Logic.{◌⊎◌, inl, inr, ⊎_elim}
use mathlib.Core.List.{List}
use Prim.Native.Nat.{ℕ, zero, suc, ◌≤◌, ◌<◌}
use native.Mathlib.Decide.{dec_lt}
use native.Mathlib.Omega.{arith}
use lib.ListN.{length, length-map}
use Rattle.rule.proofs.Judged.{AllKept, FirstBroken}
use Rattle.token.specs.Token.{Tok, Meaning}
use Rattle.token.specs.Cut.{cut, refused, meanings_in}
use Rattle.token.specs.Table.{longest_text}
use Rattle.syntax.specs.Parsing.{Fault}
use Rattle.rule.specs.declared.Finding.{Finding}
use Rattle.reader.specs.Reading.{rules, start_of}
use Rattle.reader.specs.Buffers.{record_words, number_words}
use Rattle.statements.specs.Order.{ranks, is_among, ranks_before, rank}
use Rattle.statements.proofs.Ordered.{NoLater, Placed, BrokenIn}
use Rattle.statements.specs.Breach.{WithinLimits, Cuts, Derives, InBreach, short_buffer, long_text, not_cut, not_derived, in_module, FirstBreach}
use Rattle.statements.proofs.ModuleBreaches.{row_of_rule, rule_of_row}
use Rattle.statements.proofs.First.{first_found, kept_none, placed_listed, first_least}
use Rattle.statements.proofs.RisingRun.{Run, ranked_listed}
use Rattle.statements.proofs.Starts.{starts_rise}
use Rattle.statements.proofs.CutNumbers.{cut_numbered}
use Rattle.statements.proofs.Faults.{one_fault}

-- ---- ranks

-- a number of a later rank than 7 is none of the first two
past_seven : (n : ℕ) → rank 7 < rank n → rank n < length ranks → 3 ≤ n
unfolding rank ranks_before is_among
past_seven zero l h = absurd (omega arith)
past_seven (suc zero) l h = absurd (omega arith)
past_seven (suc (suc zero)) l h = absurd (omega arith)
past_seven (suc (suc (suc n))) l h = omega arith

-- 2 has a later rank than 1, 3 to 6 than 2, and 7 than 2
two_later : rank 1 < rank 2
unfolding rank ranks_before is_among
two_later = omega arith

seven_later : rank 2 < rank 7
unfolding rank ranks_before is_among
seven_later = omega arith

cut_ranked : (n : ℕ) → 3 ≤ n → n ≤ 6 → rank 2 < rank n
unfolding rank ranks_before is_among
cut_ranked zero l h = absurd (omega arith)
cut_ranked (suc zero) l h = absurd (omega arith)
cut_ranked (suc (suc zero)) l h = absurd (omega arith)
cut_ranked (suc (suc (suc zero))) l h = omega arith
cut_ranked (suc (suc (suc (suc zero)))) l h = omega arith
cut_ranked (suc (suc (suc (suc (suc zero))))) l h = omega arith
cut_ranked (suc (suc (suc (suc (suc (suc zero)))))) l h = omega arith
cut_ranked (suc (suc (suc (suc (suc (suc (suc n))))))) l h = absurd (omega arith)

eight_later : rank 7 < rank 8
unfolding rank ranks_before is_among
eight_later = omega arith

-- the rules after the grammar have later ranks
abbrev pub Ordered : List Meaning → Type 0
Ordered ms = Run (rank 8) (length ranks) (rules ms)

pub after_grammar : (ms : List Meaning) → Ordered ms → {m t : ℕ} → BrokenIn (rules ms) m t → (rank 7 < rank m) × (rank m < length ranks)
after_grammar ms order x =
    let within = ranked_listed (rules ms) order.ranked x.rule x.listed in
    let same = ap rank x.numbered in
    (omega (arith, eight_later, within.0, same), omega (arith, within.1, same))

-- ---- the first breach

module _ (text : List ℕ) (a b : ℕ) where
  abbrev In : ℕ → ℕ → Type 0
  In = InBreach text a b

  -- a breach that comes no later than any other
  pub record Least (n p : ℕ) : Type 0 where
    pub broken : In n p
    pub least : (m q : ℕ) → In m q → NoLater n p m q

  -- is the first
  pub least_first : (n p : ℕ) → Least n p → FirstBreach text a b n p
  least_first n p l = record {
    broken = l.broken;
    no_earlier_rank = λ m q less x. ⊎_elim (λ e. omega arith) (λ e. omega (arith, e.0)) (l.least m q x);
    nowhere_earlier = λ m q same less x. ⊎_elim (λ e. omega arith) (λ e. omega (arith, e.1)) (l.least m q x);
  }

  -- and no other is
  pub one_first : (n p m q : ℕ) → Least n p → FirstBreach text a b m q → (n ≡ m) × (p ≡ q)
  one_first n p m q l f = ⊎_elim (λ less. absurd (f.no_earlier_rank n p less l.broken)) same (l.least m q f.broken)
    where
      same : (rank n ≡ rank m) × (p ≤ q) × (p ≡ q → n ≡ m) → (n ≡ m) × (p ≡ q)
      same e =
          let not-before : p < q → ⊥ = λ less. f.nowhere_earlier n p e.0 less l.broken in
          let place : p ≡ q = omega (arith, e.1) in
          (e.2 place, place)

  -- a breach by a rule after the grammar
  record OfRules (m q : ℕ) : Type 0 where
    token : ℕ
    broken : BrokenIn (rules (meanings_in text)) m token
    starts : q ≡ start_of (cut text).tokens token

  -- its rules are in order
  module _ (order : Ordered (meanings_in text)) where
    later_number : {m token : ℕ} → BrokenIn (rules (meanings_in text)) m token → 3 ≤ m
    later_number {m} x = let after = after_grammar (meanings_in text) order x in past_seven m after.0 after.1

    -- what breaks a rule: a buffer, the length of the text, or something of a later rank and a larger number
    by_number : (m q : ℕ) → In m q
        → ((m ≡ 1) × ((a < record_words) ⊎ (b < number_words))) ⊎ (((m ≡ 2) × (longest_text < length text)) ⊎ ((rank 2 < rank m) × (3 ≤ m)))
    by_number m q (short_buffer few) = inl (refl, few)
    by_number m q (long_text over) = inr (inl (refl, over))
    by_number m q (not_cut e) = let n = cut_numbered text m q e in inr (inr (cut_ranked m n.0 n.1, n.0))
    by_number m q (not_derived c n f) = inr (inr (seven_later, omega arith))
    by_number m q (in_module {token = t} c d x) =
        let y = rule_of_row (meanings_in text) m t x in
        inr (inr (omega (arith, seven_later, (after_grammar (meanings_in text) order y).0), later_number y))

    -- no number is 0
    pub numbered : (m q : ℕ) → In m q → 1 ≤ m
    numbered m q x =
        ⊎_elim (λ one. omega (arith, one.0)) (⊎_elim (λ two. omega (arith, two.0)) (λ more. omega (arith, more.1))) (by_number m q x)

    -- 1 is the first wherever it is met
    pub first_short : (a < record_words) ⊎ (b < number_words) → Least 1 0
    first_short few = record {
      broken = short_buffer few;
      least = λ m q x.
          ⊎_elim (λ one. inr (ap rank (sym one.0), omega arith, λ same. sym one.0))
          (⊎_elim (λ two. inl (omega (arith, ap rank two.0, two_later))) (λ more. inl (omega (arith, more.0, two_later))))
          (by_number m q x);
    }

    -- buffers that are long enough are not too short
    enough : record_words ≤ a → number_words ≤ b → (a < record_words) ⊎ (b < number_words) → ⊥
    enough room space = ⊎_elim (λ few. omega arith) (λ few. omega arith)

    -- 2 is, where no buffer is too short
    pub first_long : record_words ≤ a → number_words ≤ b → longest_text < length text → Least 2 0
    first_long room space over = record {
      broken = long_text over;
      least = λ m q x.
          ⊎_elim (λ one. absurd (enough room space one.1))
          (⊎_elim (λ two. inr (ap rank (sym two.0), omega arith, λ same. sym two.0)) (λ more. inl more.0))
          (by_number m q x);
    }

    -- within the limits
    module _ (limits : WithinLimits text a b) where
      not_short : (a < record_words) ⊎ (b < number_words) → ⊥
      not_short = enough limits.record_room limits.number_room

      -- neither 1 nor 2 is broken
      pub past_limits : (m q : ℕ) → In m q → 3 ≤ m
      past_limits m q x =
          ⊎_elim (λ one. absurd (not_short one.1)) (⊎_elim (λ two. absurd (omega (arith, two.1, limits.short_text))) (λ more. more.1)) (by_number m q x)

      -- a text that does not cut
      pub first_uncut : (n p : ℕ) → (cut text).ending ≡ refused n p → Least n p
      first_uncut n p e = record { broken = not_cut e; least = least }
        where
          never : Cuts text → ⊥
          never c = let z : ◌≡◌ {A = ℕ} 0 1 = cc in omega arith

          least : (m q : ℕ) → In m q → NoLater n p m q
          least m q (short_buffer s) = absurd (not_short s)
          least m q (long_text l) = absurd (omega (arith, limits.short_text))
          least m q (not_cut f) =
              let number : n ≡ m = cc in
              let place : p ≡ q = cc in
              inr (ap rank number, omega arith, λ same. number)
          least m q (not_derived c d f) = absurd (never c)
          least m q (in_module c d x) = absurd (never c)

      -- a text that cuts into tokens
      module _ (cuts : Cuts text) where
        whole_cut : (m q : ℕ) → (cut text).ending ≡ refused m q → ⊥
        whole_cut m q e = let z : ◌≡◌ {A = ℕ} 0 1 = cc in omega arith

        -- and is not derived
        pub first_underived : (p : ℕ) → (Derives text → ⊥) → Fault text p → Least 7 p
        first_underived p none fault = record { broken = not_derived cuts none fault; least = least }
          where
            least : (m q : ℕ) → In m q → NoLater 7 p m q
            least m q (short_buffer s) = absurd (not_short s)
            least m q (long_text l) = absurd (omega (arith, limits.short_text))
            least m q (not_cut e) = absurd (whole_cut m q e)
            least m q (not_derived c n f) = inr (refl, omega (arith, one_fault text fault f), λ same. refl)
            least m q (in_module c d x) = absurd (none d)

        -- and is derived
        module _ (derives : Derives text) where
          by_rules : (m q : ℕ) → In m q → OfRules m q
          by_rules m q (short_buffer s) = absurd (not_short s)
          by_rules m q (long_text l) = absurd (omega (arith, limits.short_text))
          by_rules m q (not_cut e) = absurd (whole_cut m q e)
          by_rules m q (not_derived c none f) = absurd (none derives)
          by_rules m q (in_module {token = t} c d x) = record { token = t; broken = rule_of_row (meanings_in text) m t x; starts = refl }

          -- all rules are kept
          pub none_broken : AllKept (rules (meanings_in text)) → (m q : ℕ) → In m q → ⊥
          none_broken kept m q x =
              let y = (by_rules m q x).broken in
              kept_none (rules (meanings_in text)) kept y.rule y.listed y.index y.broken

          -- one is broken: the first is broken first at its token's start, since starts rise
          pub first_broken : Placed (length (meanings_in text)) (rules (meanings_in text)) → (f : Finding)
              → FirstBroken f (rules (meanings_in text)) → Least f.number (start_of (cut text).tokens f.token.0)
          first_broken placed f first = record {
            broken = in_module cuts derives (row_of_rule (meanings_in text) f.number f.token.0 (first_found first));
            least = least;
          }
            where
              start : ℕ → ℕ
              start = start_of (cut text).tokens

              -- by the tokens
              at_starts : (n t m u : ℕ) → u < length (cut text).tokens → NoLater n t m u → NoLater n (start t) m (start u)
              at_starts n t m u h (inl less) = inl less
              at_starts n t m u h (inr same) = go (dec_lt t u)
                where
                  go : Dec (t < u) → NoLater n (start t) m (start u)
                  go (yes l) = let rise = starts_rise text t u l h in inr (same.0, omega arith, λ e. absurd (omega arith))
                  go (no l) =
                      let equal : t ≡ u = omega (arith, same.1) in
                      inr (same.0, omega (arith, ap start equal), λ e. same.2 equal)

              of_rules : (m t : ℕ) → BrokenIn (rules (meanings_in text)) m t → NoLater f.number (start f.token.0) m (start t)
              of_rules m t y =
                  let at = placed_listed (length (meanings_in text)) (rules (meanings_in text)) placed y.rule y.listed y.index y.broken in
                  at_starts f.number f.token.0 m t (omega (arith, at, y.placed, length-map (cut text).tokens (λ (t : Tok). t.says)))
                  (rw (y.numbered, y.placed) at (first_least (rules (meanings_in text)) first order.in_order y.rule y.listed y.index y.broken))

              least : (m q : ℕ) → In m q → NoLater f.number (start f.token.0) m q
              least m q x = let o = by_rules m q x in rw o.starts (of_rules m o.token o.broken)
