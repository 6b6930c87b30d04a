-- What a judgement says of breaches: the rule named is broken at that place and nowhere earlier, and no rule before it is broken
-- anywhere; or no rule is broken at all. And how a judgement is come to: by a loop for each rule, and one rule after the other.
-- Assumes nothing.
use mathlib.Core.Path.{◌≡◌, refl, sym, ap, ◌∙◌}
use mathlib.Core.Bool.{Bool, true, false, cond}
use mathlib.Core.List.{List, [], ◌∷◌, ◌++◌}
use Prim.Native.Nat.{ℕ, ◌+◌, ◌≤◌, ◌<◌}
use native.Mathlib.Numerals.{add-one}
use native.Mathlib.Omega.{arith}
use borrow.Author.Tests.{lt-ltb, le-ltb}
use Rattle.index.specs.First.{first, any}
use Rattle.index.proofs.Search.{true_false, answers, any_index, any_none, any_some, any_first, first_hit, first_miss, first_none, first_inside, first_holds, first_passed, first_is}
use Rattle.rule.specs.Rule.{Rule, Judgement, finding, and_then, judge_one, judge}
use Rattle.rule.specs.declared.Finding.{Finding}
use Rattle.std.specs.Prelude.{Ok, Err}

-- the rule is kept: it is broken nowhere
abbrev pub NeverBroken : Rule → Type 0
NeverBroken r = (i : ℕ) → r.from ≤ i → i < r.to → r.breach i ≡ false

-- all of them are
abbrev pub AllKept : List Rule → Type 0
AllKept [] = Unit {0}
AllKept (r ∷ rs) = NeverBroken r × AllKept rs

-- the rule is broken, and this is what there is to say of its first breach
pub record BrokenAt (r : Rule) (f : Finding) : Type 0 where
  pub index : ℕ
  pub inside : (r.from ≤ index) × (index < r.to)
  pub found : finding r index ≡ f
  pub breaks : r.breach index ≡ true
  pub none_before : (i : ℕ) → r.from ≤ i → i < index → r.breach i ≡ false

-- the first of the rules that is broken is broken so
pub data FirstBroken (f : Finding) : List Rule → Type 0 where
  here : {r : Rule} {rs : List Rule} → BrokenAt r f → FirstBroken f (r ∷ rs)
  later : {r : Rule} {rs : List Rule} → NeverBroken r → FirstBroken f rs → FirstBroken f (r ∷ rs)

kept_of : (r : Rule) → any r.breach r.from r.to ≡ false → NeverBroken r
kept_of r e i l h = any_none r.breach r.from r.to i e l h

broken_of : (r : Rule) (f : Finding) → any r.breach r.from r.to ≡ true → finding r (first r.breach r.from r.to) ≡ f → BrokenAt r f
broken_of r f e is =
    let below = any_first r.breach r.from r.to e in
    let some = any_some r.breach r.from r.to e in
    record {
      index = first r.breach r.from r.to;
      inside = ((first_inside r.breach r.from r.to some).0, below);
      found = is;
      breaks = first_holds r.breach r.from r.to below some;
      none_before = λ i l h. first_passed r.breach r.from r.to i l h;
    }

pub judged_kept : (rs : List Rule) → judge rs ≡ Ok tt → AllKept rs
unfolding judge judge_one
judged_kept [] e = tt
judged_kept (r ∷ rs) e = go (any r.breach r.from r.to) refl e (judged_kept rs)
  where
    go : (b : Bool) → any r.breach r.from r.to ≡ b → and_then (cond b (Err (finding r (first r.breach r.from r.to))) (Ok tt)) (judge rs) ≡ Ok tt → (judge rs ≡ Ok tt → AllKept rs) → AllKept (r ∷ rs)
    go true a e ih = let z : ◌≡◌ {A = ℕ} 0 1 = cc in absurd (omega arith)
    go false a e ih = (kept_of r a, ih e)

pub judged_broken : (rs : List Rule) (f : Finding) → judge rs ≡ Err f → FirstBroken f rs
unfolding judge judge_one
judged_broken [] f e = let z : ◌≡◌ {A = ℕ} 0 1 = cc in absurd (omega arith)
judged_broken (r ∷ rs) f e = go (any r.breach r.from r.to) refl e (judged_broken rs f)
  where
    of : Judgement → Finding
    of (Ok _) = f
    of (Err g) = g

    go : (b : Bool) → any r.breach r.from r.to ≡ b → and_then (cond b (Err (finding r (first r.breach r.from r.to))) (Ok tt)) (judge rs) ≡ Err f → (judge rs ≡ Err f → FirstBroken f rs) → FirstBroken f (r ∷ rs)
    go true a e ih = here (broken_of r f a (ap of e))
    go false a e ih = later (kept_of r a) (ih e)

-- ---- how a judgement is come to

-- rules in a row: those after are asked where those before are kept
pub judge_row : (rs ss : List Rule) → judge (rs ++ ss) ≡ and_then (judge rs) (judge ss)
unfolding judge
judge_row [] ss = refl
judge_row (r ∷ rs) ss = go (judge_one r) (judge_row rs ss)
  where
    go : (j : Judgement) → judge (rs ++ ss) ≡ and_then (judge rs) (judge ss) → and_then j (judge (rs ++ ss)) ≡ and_then (and_then j (judge rs)) (judge ss)
    go (Ok _) ih = ih
    go (Err f) ih = refl

-- a rule alone
pub judge_alone : (r : Rule) → judge_one r ≡ judge (r ∷ [])
unfolding judge
judge_alone r = go (judge_one r)
  where
    go : (j : Judgement) → j ≡ and_then j (Ok tt)
    go (Ok _) = refl
    go (Err f) = refl

-- a rule and those after it, by what the rule says
module _ (r : Rule) (rs : List Rule) (j : Judgement) (is : j ≡ judge_one r) where
  pub kept_next : j ≡ Ok tt → judge (r ∷ rs) ≡ judge rs
  unfolding judge
  kept_next e = rw (← is, e)

  pub broken_first : (f : Finding) → j ≡ Err f → j ≡ judge (r ∷ rs)
  unfolding judge
  broken_first f e = rw (← is, e)

-- rules and those after them, by what the first say
module _ (rs ss : List Rule) (j : Judgement) (is : j ≡ judge rs) where
  pub kept_row : j ≡ Ok tt → judge (rs ++ ss) ≡ judge ss
  kept_row e = rw (judge_row rs ss, ← is, e)

  pub broken_row : (f : Finding) → j ≡ Err f → j ≡ judge (rs ++ ss)
  broken_row f e = rw (judge_row rs ss, ← is, e)

-- the loop that searches for a breach of a rule up to b, and is at k: from there on it finds what the whole search finds
module _ (r : Rule) (b k : ℕ) (end : r.to ≡ b) (passed : first r.breach k b ≡ first r.breach r.from b) where
  pub breach_here : k < b → r.breach k ≡ true → (f : Finding) → f ≡ finding r k → Err f ≡ judge_one r
  unfolding judge_one any
  breach_here h e f at =
      let is : k ≡ first r.breach r.from b = sym (first_hit r.breach k b h e) ∙ passed in
      rw (end, ← is) (simp (lt-ltb k b h, at))

  pub none_left : b ≤ k → Ok tt ≡ judge_one r
  unfolding judge_one any
  none_left h =
      let is : k ≡ first r.breach r.from b = sym (first_none r.breach k b h) ∙ passed in
      rw (end, ← is) (simp (le-ltb k b h))

-- what breaches say of a judgement
pub never_broken : (r : Rule) → NeverBroken r → Ok tt ≡ judge_one r
unfolding judge_one
never_broken r none = answers (any r.breach r.from r.to) (λ some. absurd (nowhere some)) (λ no. rw no)
  where
    nowhere : any r.breach r.from r.to ≡ true → ⊥
    nowhere some =
        let found = any_index r.breach r.from r.to (any_some r.breach r.from r.to some) some in
        true_false found.3 (none found.0 found.1 found.2)

pub broken_at : (r : Rule) (f : Finding) → BrokenAt r f → Err f ≡ judge_one r
broken_at r f b =
    let is = first_is r.breach r.from r.to b.index b.inside.0 b.inside.1 b.breaks b.none_before in
    breach_here r r.to b.index refl (first_hit r.breach b.index r.to b.inside.1 b.breaks ∙ sym is) b.inside.1 b.breaks f (sym b.found)

-- ---- the loop that judges a rule

-- the loop tests the indices up to b and is at k, and has passed no breach
pub record Judging (r : Rule) (b k : ℕ) : Type 0 where
  pub end : r.to ≡ b
  pub passed : first r.breach k b ≡ first r.breach r.from b

-- it starts at the first index
pub judging_start : (r : Rule) {b k : ℕ} → k ≡ r.from → r.to ≡ b → Judging r b k
judging_start r {b} from end = record { end = end; passed = ap (λ (a : ℕ). first r.breach a b) from }

-- the code tests the index that the loop is at
module _ {r : Rule} {b k : ℕ} (j : Judging r b k) (h : k < b) {test : Bool} (is : test ≡ r.breach k) where
  -- no breach: the loop goes on
  pub judging_next : test ≡ false → Judging r b (k + 1)
  judging_next e = record {
    end = j.end;
    passed = rw (add-one k) (sym (first_miss r.breach k b h (sym is ∙ e)) ∙ j.passed);
  }

  -- a breach is the first
  pub judging_broken : test ≡ true → (f : Finding) → f ≡ finding r k → Err f ≡ judge_one r
  judging_broken e f at = breach_here r b k j.end j.passed h (sym is ∙ e) f at

-- no index is left: there is no breach
pub judging_kept : {r : Rule} {b k : ℕ} → Judging r b k → b ≤ k → Ok tt ≡ judge_one r
judging_kept {r} {b = b} {k = k} j h = none_left r b k j.end j.passed h
