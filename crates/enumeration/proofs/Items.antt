-- The first item that breaks refusal 18 is the first whose label is there again or the first whose number is there again or outside
-- the limits, whichever comes first; and what there is to say of it.
-- Assumes nothing.
use mathlib.Core.Path.{◌≡◌, refl, sym, ap, ◌∙◌}
use mathlib.Core.Bool.{Bool, true, false, cond, ◌&&◌, ◌||◌}
use mathlib.Core.List.{List}
use Prim.Native.Nat.{ℕ, ◌≤◌, ◌<◌}
use native.Mathlib.Decide.{dec_lt}
use native.Mathlib.Omega.{arith}
use lib.Dec.{ltb}
use Rattle.index.specs.First.{first, any}
use Rattle.index.proofs.Search.{true_false, first_from, first_inside, first_holds, first_passed, first_is, first_end, first_none, first_same}
use Rattle.rule.specs.Rule.{judge_one}
use Rattle.rule.proofs.Judged.{never_broken, broken_at}
use Rattle.definition.specs.Members.{is_name}
use Rattle.definition.specs.declared.Span.{Span}
use Rattle.sub_type.specs.Number.{end_in, is_outside}
use Rattle.enumeration.specs.Item.{Spelling, item_number, first_label, first_number, item_clause, label_again, number_misfit}
use Rattle.enumeration.specs.Refusal.{item_rule}
use Rattle.sub_type.specs.declared.Limits.{Limits}
use Rattle.enumeration.proofs.Labels.{smaller, smaller_first, smaller_second}
use Rattle.std.specs.Prelude.{Ok, Err}

-- either of two tests: its first hit is the first of the two
either_true : (a b : Bool) → (a ≡ true → (a || b) ≡ true) × (b ≡ true → (a || b) ≡ true)
either_true true b = (λ e. refl, λ e. refl)
either_true false b = (λ e. absurd (true_false e refl), λ e. e)

either_false : (a b : Bool) → a ≡ false → b ≡ false → (a || b) ≡ false
either_false a b p q = rw (p, q)

module _ (a b : ℕ → Bool) (from to : ℕ) where
  inside_first : from ≤ to → first (λ (i : ℕ). a i || b i) from to ≡ smaller (first a from to) (first b from to)
  inside_first l = go (dec_lt (first a from to) (first b from to))
    where
      p : (from ≤ first a from to) × (first a from to ≤ to)
      p = first_inside a from to l

      q : (from ≤ first b from to) × (first b from to ≤ to)
      q = first_inside b from to l

      none : (i : ℕ) → from ≤ i → i < first a from to → i < first b from to → (a i || b i) ≡ false
      none i m h k = either_false (a i) (b i) (first_passed a from to i m h) (first_passed b from to i m k)

      go : Dec (first a from to < first b from to) → first (λ (i : ℕ). a i || b i) from to ≡ smaller (first a from to) (first b from to)
      go (yes h) =
          first_is (λ (i : ℕ). a i || b i) from to (first a from to) p.0 (omega (arith, q.1))
          ((either_true (a (first a from to)) (b (first a from to))).0 (first_holds a from to (omega (arith, q.1)) l))
          (λ i m k. none i m k (omega arith))
          ∙ sym (smaller_first _ _ h)
      go (no h) = at (dec_lt (first b from to) to)
        where
          at : Dec (first b from to < to) → first (λ (i : ℕ). a i || b i) from to ≡ smaller (first a from to) (first b from to)
          at (yes k) =
              first_is (λ (i : ℕ). a i || b i) from to (first b from to) q.0 k
              ((either_true (a (first b from to)) (b (first b from to))).1 (first_holds b from to k l))
              (λ i m k. none i m (omega arith) k)
              ∙ sym (smaller_second _ _ (omega arith))
          at (no k) =
              let end : first b from to ≡ to = omega (arith, q.1) in
              first_end (λ (i : ℕ). a i || b i) from to l (λ i m k. none i m (omega arith) (omega arith))
              ∙ sym end ∙ sym (smaller_second _ _ (omega arith))

  pub first_either : first (λ (i : ℕ). a i || b i) from to ≡ smaller (first a from to) (first b from to)
  first_either = go (dec_lt to from)
    where
      go : Dec (to < from) → first (λ (i : ℕ). a i || b i) from to ≡ smaller (first a from to) (first b from to)
      go (yes h) =
          let none : (t : ℕ → Bool) → first t from to ≡ from = λ t. first_none t from to (omega arith) in
          none (λ (i : ℕ). a i || b i) ∙ sym (smaller_second _ _ (omega (arith, none a, none b)) ∙ none b)
      go (no h) = inside_first (omega arith)

-- the clauses by their tests: the name, whether the label or the number is there again, whether the number is outside
clauses : (name label number out : Bool)
    → ltb 0 (cond name (cond label 1 (cond number 2 (cond out 3 0))) 0) ≡ ((name && label) || (name && (out || number)))
clauses true true number out = refl
clauses true false true true = refl
clauses true false true false = refl
clauses true false false true = refl
clauses true false false false = refl
clauses false label number out = refl

kind_broken : (name label number out : Bool) → ltb 0 (cond name (cond label 1 (cond number 2 (cond out 3 0))) 0) ≡ true
    → ◌≡◌ {A = ℕ} (cond name (cond label 1 (cond number 2 (cond out 3 0))) 0) (cond label 1 (cond number 2 3))
kind_broken true true number out e = refl
kind_broken true false true out e = refl
kind_broken true false false true e = refl
kind_broken true false false false e = absurd (let z : ◌≡◌ {A = ℕ} 0 1 = cc in omega arith)
kind_broken false label number out e = absurd (let z : ◌≡◌ {A = ℕ} 0 1 = cc in omega arith)

module _ (x : Spelling) (cs vs : List ℕ) (limits : Limits) (from : ℕ) where
  -- an item breaks the rule where its label is there again, or its number is or is outside
  broken_either : (i : ℕ) → ltb 0 (item_clause x cs vs limits from i) ≡ (label_again x cs from i || number_misfit cs vs limits from i)
  unfolding item_clause label_again number_misfit any
  broken_either i =
      clauses (is_name cs i) (ltb (first_label x cs from i) i) (ltb (first_number cs vs from i) i) (is_outside limits (item_number cs vs i))

  -- so the first that breaks it is the first of the two kinds
  pub broken_first : (to : ℕ)
      → smaller (first (label_again x cs from) from to) (first (number_misfit cs vs limits from) from to)
      ≡ first (λ (i : ℕ). ltb 0 (item_clause x cs vs limits from i)) from to
  broken_first to = sym (same (dec_lt to from) ∙ first_either (label_again x cs from) (number_misfit cs vs limits from) from to)
    where
      broken : ℕ → Bool
      broken i = ltb 0 (item_clause x cs vs limits from i)

      same : Dec (to < from)
          → first (λ (i : ℕ). ltb 0 (item_clause x cs vs limits from i)) from to
          ≡ first (λ (i : ℕ). label_again x cs from i || number_misfit cs vs limits from i) from to
      same (yes h) = first_none _ from to (omega arith) ∙ sym (first_none _ from to (omega arith))
      same (no h) = first_same _ _ from to (omega arith) (λ i m k. broken_either i)

  -- which clause it breaks
  pub broken_clause : (i : ℕ) → ltb 0 (item_clause x cs vs limits from i) ≡ true
      → item_clause x cs vs limits from i ≡ cond (ltb (first_label x cs from i) i) 1 (cond (ltb (first_number cs vs from i) i) 2 3)
  unfolding item_clause
  broken_clause i e =
      kind_broken (is_name cs i) (ltb (first_label x cs from i) i) (ltb (first_number cs vs from i) i) (is_outside limits (item_number cs vs i)) e

-- ---- the judgement

module _
    (x : Spelling) (cs vs : List ℕ) (limits : Limits) (s : Span) (token : ℕ)
    (is : token ≡ first (λ (i : ℕ). ltb 0 (item_clause x cs vs limits s.from i)) s.from (end_in cs s))
  where
    -- it is not before the first token
    pub token_from : s.from ≤ token
    token_from = omega (arith, is, first_from (λ (i : ℕ). ltb 0 (item_clause x cs vs limits s.from i)) s.from (end_in cs s))

    pub items_kept : end_in cs s ≤ token → Ok tt ≡ judge_one (item_rule x cs vs limits s)
    unfolding item_rule
    items_kept end =
        never_broken (item_rule x cs vs limits s)
        (λ i l h. first_passed (λ (i : ℕ). ltb 0 (item_clause x cs vs limits s.from i)) s.from (end_in cs s) i l (omega (arith, is)))

    pub items_broken : token < end_in cs s → (label number clause other : ℕ) → label ≡ first_label x cs s.from token
        → number ≡ first_number cs vs s.from token → clause ≡ cond (ltb label token) 1 (cond (ltb number token) 2 3)
        → other ≡ cond (ltb label token) label number
        → Err (record { number = 18; clause = clause; token = record { 0 = token }; other = record { 0 = other } }) ≡ judge_one (item_rule x cs vs limits s)
    unfolding item_rule
    items_broken h label number clause other same_label same_number kind against =
        broken_at (item_rule x cs vs limits s) _
        (record {
          index = token;
          inside = (token_from, h);
          found = rw (broken_clause x cs vs limits s.from token breaks, kind, against, same_label, same_number);
          breaks = breaks;
          none_before = λ i l k. first_passed test s.from (end_in cs s) i l (omega (arith, is));
        })
      where
        test : ℕ → Bool
        test i = ltb 0 (item_clause x cs vs limits s.from i)

        breaks : ltb 0 (item_clause x cs vs limits s.from token) ≡ true
        breaks = ap test is ∙ first_holds test s.from (end_in cs s) (omega (arith, is)) (omega (arith, token_from))
