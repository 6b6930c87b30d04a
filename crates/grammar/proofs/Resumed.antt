-- A run that has come past some tokens, and what one token more, or the end, makes of it; where a class leads, from the table.
-- Assumes nothing.
use mathlib.Core.Path.{◌≡◌, refl, sym, ◌∙◌, ap}
use mathlib.Core.Bool.{Bool, true, false, cond}
use mathlib.Core.List.{List}
use Prim.Native.Nat.{ℕ, suc, ◌+◌, ◌<◌, ◌≤◌}
use native.Mathlib.Nat.{add-zero, zero-add, add-suc, suc-add}
use native.Mathlib.Numerals.{add-one}
use borrow.Author.Tests.{eq-eqb, ne_eqb, lt-ltb, le-ltb}
use lib.Dec.{eqb}
use lib.ListN.{length, drop, get_or, drop_of_length-le}
use lib.Seq.{drop-cons}
use Rattle.grammar.specs.Answer.{Verdict, derived, refused}
use Rattle.grammar.specs.Automaton.{Automaton, target, next, at_the_end, unless_dead, one_later, run_from, run}

-- a verdict on the tokens after the first i, as one on them all
abbrev later_by : ℕ → Verdict → Verdict
later_by i derived = derived
later_by i (refused k) = refused (i + k)

later_none : (v : Verdict) → v ≡ later_by 0 v
later_none derived = refl
later_none (refused k) = ap refused (sym (zero-add k))

later_one_more : (i : ℕ) (v : Verdict) → later_by i (one_later v) ≡ later_by (suc i) v
later_one_more i derived = refl
later_one_more i (refused k) = ap refused (add-suc i k ∙ sym (suc-add i k))

module _ (a : Automaton) (ts : List ℕ) where
  -- after the first i tokens the run is in state s
  abbrev pub Resumed : ℕ → ℕ → Type 0
  Resumed s i = run a ts ≡ later_by i (run_from a s (drop i ts))

  pub resumed_start : Resumed a.start 0
  resumed_start = later_none (run_from a a.start ts)

  -- token i, which leads from s to x
  module _ (s i x : ℕ) (h : Resumed s i) (l : i < length ts) (leads : next a s (get_or ts i 0) ≡ x) where
    after_token : (b : Bool) → eqb x 0 ≡ b → run a ts ≡ later_by i (unless_dead b (one_later (run_from a x (drop (suc i) ts))))
    unfolding run_from
    after_token b e =
        h
        ∙ ap (λ rest. later_by i (run_from a s rest)) (drop-cons ts i 0 l)
        ∙ ap (λ y. later_by i (unless_dead (eqb y 0) (one_later (run_from a y (drop (suc i) ts))))) leads
        ∙ ap (λ b. later_by i (unless_dead b (one_later (run_from a x (drop (suc i) ts))))) e

    pub resumed_dead : x ≡ 0 → run a ts ≡ refused i
    resumed_dead dead = after_token true (eq-eqb x 0 dead) ∙ ap refused (add-zero i)

    pub resumed_token : (x ≡ 0 → ⊥) → Resumed x (i + 1)
    resumed_token alive =
        after_token false (ne_eqb x 0 alive)
        ∙ later_one_more i (run_from a x (drop (suc i) ts))
        ∙ ap (λ k. later_by k (run_from a x (drop k ts))) (sym (add-one i))

  -- past the last token
  module _ (s i : ℕ) (h : Resumed s i) (l : length ts ≤ i) where
    at_last : (b : Bool) → eqb s a.accepting ≡ b → run a ts ≡ later_by i (at_the_end b)
    unfolding run_from
    at_last b e =
        h ∙ ap (λ rest. later_by i (run_from a s rest)) (drop_of_length-le ts l) ∙ ap (λ b. later_by i (at_the_end b)) e

    pub resumed_whole : s ≡ a.accepting → run a ts ≡ derived
    resumed_whole e = at_last true (eq-eqb s a.accepting e)

    pub resumed_short : (s ≡ a.accepting → ⊥) → run a ts ≡ refused i
    resumed_short n = at_last false (ne_eqb s a.accepting n) ∙ ap refused (add-zero i)

-- where a class leads: the table's entry for a class that the automaton has, and the dead state for any other
module _ (a : Automaton) (s c : ℕ) where
  pub next_inside : c < a.width → next a s c ≡ target a s c
  next_inside h = ap (λ b. cond b (target a s c) 0) (lt-ltb c a.width h)

  pub next_outside : a.width ≤ c → next a s c ≡ 0
  next_outside h = ap (λ b. cond b (target a s c) 0) (le-ltb c a.width h)
