-- Where each class of tokens is found first, token by token from the last to the first.
-- Assumes nothing.
use mathlib.Core.Path.{◌≡◌, sym, ap, ◌∙◌}
use mathlib.Core.Bool.{Bool}
use mathlib.Core.List.{List}
use Prim.Native.Nat.{ℕ, suc, ◌-◌, ◌≤◌, ◌<◌}
use native.Mathlib.Decide.{dec_lt, ℕ_discrete}
use native.Mathlib.Omega.{arith}
use lib.Dec.{eqb}
use lib.ListN.{get_or, set, replicate, length-set, length-replicate, get_or-replicate}
use lib.Seq.{get_or-set_same, get_or-set_other}
use borrow.Author.Tests.{eq-eqb, ne_eqb}
use Rattle.index.proofs.Search.{first_hit, first_miss, first_none}
use Rattle.terminal.specs.Terminal.{terminals}
use Rattle.definition.specs.Landmark.{class_at}
use Rattle.definition.specs.Fields.{find, FirstTokens}

module _ (cs : List ℕ) where
  -- token i is of this class
  abbrev is_of : ℕ → ℕ → Bool
  is_of class i = eqb (class_at cs i) class

  -- from the end on none is found
  pub firsts_start : (end : ℕ) → FirstTokens cs end end (replicate terminals end)
  firsts_start end = record {
    counted = length-replicate terminals end;
    first_is = λ class h. get_or-replicate terminals class end 0 h ∙ sym (first_none (is_of class) end end (omega arith));
  }

  -- one token more, which is the first of its class
  module _ (i end : ℕ) (firsts : List ℕ) (f : FirstTokens cs i end firsts) (below : 0 < i) (inside : i ≤ end) where
    before : suc (i - 1) ≡ i
    before = omega arith

    -- what is found from the next on is found from this one on, if this one is of another class
    passed : (class : ℕ) → (class_at cs (i - 1) ≡ class → ⊥) → find cs class i end ≡ find cs class (i - 1) end
    passed class other =
        sym (first_miss (is_of class) (i - 1) end (omega arith) (ne_eqb (class_at cs (i - 1)) class other)
        ∙ ap (λ (a : ℕ). find cs class a end) before)

    pub firsts_more : (own : ℕ) → own ≡ class_at cs (i - 1) → own < terminals → FirstTokens cs (i - 1) end (set firsts own (i - 1))
    firsts_more own is few = record {
      counted = length-set firsts own (i - 1) ∙ f.counted;
      first_is = λ class h. go class h (ℕ_discrete class own);
    }
      where
        go : (class : ℕ) → class < terminals → Dec (class ≡ own) → get_or (set firsts own (i - 1)) class 0 ≡ find cs class (i - 1) end
        go class h (yes same) =
            rw same (get_or-set_same firsts own (i - 1) 0 (omega (arith, f.counted))
            ∙ sym (first_hit (is_of own) (i - 1) end (omega arith) (eq-eqb (class_at cs (i - 1)) own (sym is))))
        go class h (no other) =
            get_or-set_other firsts own class (i - 1) 0 other ∙ f.first_is class h
            ∙ passed class (λ e. other (sym e ∙ sym is))

    -- one that is of no class of the grammar
    pub firsts_other : terminals ≤ class_at cs (i - 1) → FirstTokens cs (i - 1) end firsts
    firsts_other none = record {
      counted = f.counted;
      first_is = λ class h. f.first_is class h ∙ passed class (λ e. omega arith);
    }

  -- the end may be any where there are no tokens
  pub firsts_end : (d e end : ℕ) (firsts : List ℕ) → (d < e → end ≡ e) → (e ≤ d → end ≡ d) → FirstTokens cs d end firsts → FirstTokens cs d e firsts
  firsts_end d e end firsts second first f = record {
    counted = f.counted;
    first_is = λ class h. f.first_is class h ∙ go class (dec_lt d e);
  }
    where
      go : (class : ℕ) → Dec (d < e) → find cs class d end ≡ find cs class d e
      go class (yes h) = rw (second h)
      go class (no h) =
          first_none (is_of class) d end (omega (arith, first (omega arith))) ∙ sym (first_none (is_of class) d e (omega arith))

-- the later of two indices is not before the first
pub later_from : (d e end : ℕ) → (d < e → end ≡ e) → (e ≤ d → end ≡ d) → d ≤ end
later_from d e end second first = go (dec_lt d e)
  where
    go : Dec (d < e) → d ≤ end
    go (yes h) = omega (arith, second h)
    go (no h) = omega (arith, first (omega arith))
