-- Refusal 9: what the trees of names tell of a token decides whether it breaks the rule, and what it stands against.
-- Assumes nothing.
use mathlib.Core.Path.{◌≡◌, refl, sym, ◌∙◌}
use mathlib.Core.Bool.{Bool, true, false, ◌&&◌, ◌||◌}
use mathlib.Core.Logic.{inl, inr}
use mathlib.Core.List.{List}
use Prim.Native.Nat.{ℕ, suc, ◌+◌, ◌≤◌, ◌<◌}
use native.Mathlib.Omega.{arith}
use lib.ListN.{length, replicate}
use Rattle.index.specs.First.{any}
use Rattle.index.proofs.Search.{true_false, answers, first_from, first_passed, first_is, first_end, any_at, none_any}
use Rattle.rule.specs.Rule.{judge_one}
use Rattle.rule.proofs.Judged.{Judging, judging_start, judging_next, judging_broken, judging_kept}
use Rattle.lexicon.specs.Word.{same}
use Rattle.lexicon.proofs.Words.{same_equal}
use Rattle.token.specs.Token.{Meaning}
use Rattle.symbol.specs.Symbol.{iso_name}
use Rattle.name_tree.specs.Tree.{NameTree, has_name_of, part_at, Admitted}
use Rattle.name_tree.specs.Key.{key_count}
use Rattle.name_tree.proofs.Both.{both, both_first, both_second, not_first}
use Rattle.name_tree.proofs.Naming.{names_none, names_skip}
use Rattle.scope.specs.Token.{classes_of, spelled, TokensHeld}
use Rattle.token.specs.Cut.{meanings_in}
use Rattle.scope.proofs.Tokens.{said_counted, placed_name}
use Rattle.scope.proofs.Imports.{introduces_named}
use Rattle.scope.specs.Lead.{introduces}
use Rattle.naming.specs.Rules.{introduces_name, is_again, first_name, introduced_again}
use Rattle.naming.specs.Told.{Introduces}
use Rattle.std.specs.Prelude.{None, Some, Ok, Err}

pub or_second : (a b : Bool) → b ≡ true → (a || b) ≡ true
or_second true b e = refl
or_second false b e = e

module _ (ms : List Meaning) where
  -- a token that introduces a name that an earlier one introduces, or `iso`, breaks the rule
  iso_again : (i : ℕ) → introduces (classes_of ms) i ≡ true → same (spelled ms i) iso_name ≡ true → is_again ms i ≡ true
  iso_again i own e = rw (own, e)

  pub name_again : (i j : ℕ) → introduces (classes_of ms) i ≡ true → j < i → introduces_name ms (spelled ms i) j ≡ true → is_again ms i ≡ true
  name_again i j own h e =
      both (introduces (classes_of ms) i) _ own
      (or_second (same (spelled ms i) iso_name) _ (any_at (introduces_name ms (spelled ms i)) 0 i j (omega arith) h e))

  module _ (i : ℕ) where
    -- a token that introduces no name keeps it, and so does one whose name is new
    pub skip_kept : introduces (classes_of ms) i ≡ false → is_again ms i ≡ false
    skip_kept e = not_first (introduces (classes_of ms) i) _ e

    pub new_kept : Introduces ms i None → is_again ms i ≡ false
    new_kept (other, none) =
        neither (introduces (classes_of ms) i) (same (spelled ms i) iso_name) (any (introduces_name ms (spelled ms i)) 0 i) other none
      where
        neither : (a b c : Bool) → b ≡ false → c ≡ false → (a && (b || c)) ≡ false
        neither true b c p q = rw (p, q)
        neither false b c p q = refl

    module _ (own : introduces (classes_of ms) i ≡ true) (j : ℕ) where
      pub again_broken : Introduces ms i (Some j) → is_again ms i ≡ true
      again_broken (inl (iso, is)) = iso_again i own iso
      again_broken (inr (h, there)) = name_again i j own h there

      -- where no token before it breaks the rule, only one introduces the name
      pub again_other : ((k : ℕ) → k < i → is_again ms k ≡ false) → Introduces ms i (Some j) → j ≡ first_name ms i
      again_other kept (inl (iso, is)) =
          is ∙ sym (first_end (introduces_name ms (spelled ms i)) 0 i (omega arith) (λ k l h. answers _ (λ e. absurd (two k h e)) (λ e. e)))
        where
          two : (k : ℕ) → k < i → introduces_name ms (spelled ms i) k ≡ true → ⊥
          two k h e =
              let name : spelled ms k ≡ spelled ms i = same_equal (spelled ms k) (spelled ms i) (both_second (introduces (classes_of ms) k) _ e) in
              true_false (iso_again k (both_first (introduces (classes_of ms) k) _ e) (rw name iso)) (kept k h)
      again_other kept (inr (h, there)) =
          let t = introduces_name ms (spelled ms i) in
          sym (first_is t 0 i j (omega arith) h there (λ k l m. answers (t k) (λ e. absurd (two k m e)) (λ e. e)))
        where
          two : (k : ℕ) → k < j → introduces_name ms (spelled ms i) k ≡ true → ⊥
          two k m e =
              let name : spelled ms j ≡ spelled ms i = same_equal (spelled ms j) (spelled ms i) (both_second (introduces (classes_of ms) j) _ there) in
              let earlier : introduces_name ms (spelled ms j) k ≡ true = rw name e in
              true_false (name_again j k (both_first (introduces (classes_of ms) j) _ there) m earlier) (kept j h)

  -- ---- the loop that judges

  module _ (n i : ℕ) (g : Judging (introduced_again ms) n i) where
    -- no token that it passed breaks the rule
    passed_kept : (k : ℕ) → k < i → is_again ms k ≡ false
    unfolding introduced_again
    passed_kept k h =
        let breach = is_again ms in
        first_passed breach 0 n k (omega arith) (omega (arith, first_from breach i n, g.passed))

    module _ (h : i < n) where
      pub again_next : is_again ms i ≡ false → Judging (introduced_again ms) n (i + 1)
      unfolding introduced_again
      again_next e = judging_next g h {test = false} (sym e) refl

      pub again_judged : introduces (classes_of ms) i ≡ true → (j : ℕ) → Introduces ms i (Some j)
          → Err (record { number = 9; clause = 0; token = record { 0 = i }; other = record { 0 = j } }) ≡ judge_one (introduced_again ms)
      unfolding introduced_again
      again_judged own j told =
          judging_broken g h {test = true} (sym (again_broken i own j told)) refl _
          (rw (again_other i own j passed_kept told))

-- ---- the loop, by the slices of tokens and the trees of names

module _ (text starts ends : List ℕ) (t : TokensHeld text (classes_of (meanings_in text)) starts ends) where
  abbrev cs : List ℕ
  cs = classes_of (meanings_in text)

  name_there : (j : ℕ) → j < length cs → introduces cs j ≡ true → spelled (meanings_in text) j ≡ part_at text starts ends j
  name_there j h e = placed_name text cs starts ends t j h (introduces_named cs j e)

  module _ (i : ℕ) (h : i < length cs) (own : introduces cs i ≡ true) where
    pub iso_told : (r : Bool) → r ≡ same (part_at text starts ends i) iso_name → r ≡ same (spelled (meanings_in text) i) iso_name
    iso_told r e = rw (name_there i h own) e

    -- what the trees tell is said of the names that tokens introduce
    alike : (j : ℕ) → j < i → (b : Bool) → introduces cs j ≡ b
        → has_name_of (introduces cs) text starts ends i j ≡ introduces_name (meanings_in text) (spelled (meanings_in text) i) j
    alike j l true q = rw (name_there i h own, name_there j (omega arith) q)
    alike j l false q = rw q

    module _ (heads links : List ℕ) (r : ℕ) (a : Admitted (introduces cs) text starts ends i heads links r) where
      pub told_new : r ≡ 0 → any (introduces_name (meanings_in text) (spelled (meanings_in text) i)) 0 i ≡ false
      told_new is =
          none_any (introduces_name (meanings_in text) (spelled (meanings_in text) i)) 0 i (omega arith)
          (λ j m l. sym (alike j l (introduces cs j) refl) ∙ a.fresh is j l)

      pub told_again : (j : ℕ) → r ≡ suc j → (j < i) × (introduces_name (meanings_in text) (spelled (meanings_in text) i) j ≡ true)
      told_again j is = let there = a.again j is in (there.0, sym (alike j there.0 (introduces cs j) refl) ∙ there.1)

  -- the loop is at token i: the tokens before it keep the rule, and the names that they introduce are in trees
  pub record Naming (i : ℕ) (heads links : List ℕ) : Type 0 where
    pub inside : i ≤ length cs
    pub long : length links ≡ length cs
    pub judging : Judging (introduced_again (meanings_in text)) (length cs) i
    pub names : NameTree (introduces cs) text starts ends i heads links

  pub naming_start : (links : List ℕ) → length links ≡ length cs → Naming 0 (replicate key_count 0) links
  unfolding introduced_again
  naming_start links long = record {
    inside = omega arith;
    long = long;
    judging = judging_start (introduced_again (meanings_in text)) refl (said_counted text cs starts ends t);
    names = names_none text starts ends (introduces cs) links;
  }

  module _ (i : ℕ) (heads links : List ℕ) (c : Naming i heads links) where
    module _ (h : i < length cs) where
      -- a token that introduces no name is passed
      pub naming_skip : introduces cs i ≡ false → Naming (i + 1) heads links
      naming_skip e = record {
        inside = omega arith;
        long = c.long;
        judging = again_next (meanings_in text) (length cs) i c.judging h (skip_kept (meanings_in text) i e);
        names = names_skip text starts ends (introduces cs) i heads links c.names (omega (arith, c.long)) e;
      }

      module _ (own : introduces cs i ≡ true) where
        -- the name of one that is new is put into the trees
        pub naming_new : Introduces (meanings_in text) i None → (heads' links' : List ℕ) → length links' ≡ length links
            → NameTree (introduces cs) text starts ends (i + 1) heads' links' → Naming (i + 1) heads' links'
        naming_new told heads' links' long names = record {
          inside = omega arith;
          long = long ∙ c.long;
          judging = again_next (meanings_in text) (length cs) i c.judging h (new_kept (meanings_in text) i told);
          names = names;
        }

        pub naming_again : (j : ℕ) → Introduces (meanings_in text) i (Some j)
            → Err (record { number = 9; clause = 0; token = record { 0 = i }; other = record { 0 = j } }) ≡ judge_one (introduced_again (meanings_in text))
        naming_again j told = again_judged (meanings_in text) (length cs) i c.judging h own j told

    pub naming_end : length cs ≤ i → Ok tt ≡ judge_one (introduced_again (meanings_in text))
    naming_end h = judging_kept c.judging h
