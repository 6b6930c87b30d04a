-- A part of a tree in its place among the tokens; and what it is that starts at a token.
-- Assumes nothing.
use mathlib.Core.Path.{◌≡◌, refl, sym, ap, ◌∙◌, subst}
use mathlib.Core.Bool.{Bool, true, false, cond}
use mathlib.Core.List.{List, ◌++◌, map, map-append}
use Prim.Native.Nat.{ℕ, zero, suc, ◌+◌, ◌≤◌, ◌<◌}
use native.Mathlib.Decide.{dec_lt}
use native.Mathlib.Omega.{arith}
use lib.Dec.{eqb}
use lib.ListN.{length, length-map}
use Rattle.grammar.specs.Rule.{step, Tree, yield}
use Rattle.index.specs.First.{first, hits}
use Rattle.index.proofs.Search.{first_is, first_end}
use Rattle.index.proofs.Hits.{hits_miss}
use Rattle.terminal.specs.Terminal.{END, MODULE-IDENTITY, NOTIFICATION-TYPE, OBJECT, OBJECT-IDENTITY, OBJECT-TYPE, TEXTUAL-CONVENTION}
use Rattle.definition.specs.Landmark.{class_at, begins, closes, last_token, definition_end, kind_at}
use Rattle.module_tree.specs.Marked.{Marked, ◌then◌, steps, unmarked, leaves, marks, size}
use Rattle.module_tree.specs.Grammar.{start, the_end}
use Rattle.module_tree.proofs.Machine.{class_of, mark_of, classed}
use Rattle.module_tree.proofs.Starts.{start_at}
use Rattle.module_tree.proofs.Leading.{Along, along_left, along_right, Stands}

-- there are as many marks as tokens
pub leaves_long : (family v : ℕ) (m : Marked) (t : Tree (unmarked m)) → length (leaves family v m t) ≡ size m t
leaves_long family v m t = sym (length-map (leaves family v m t) class_of) ∙ ap length (classed family m v t)

pub marks_long : (family : ℕ) (m : Marked) (t : Tree (unmarked m)) → length (marks family m t) ≡ size m t
marks_long family m t = length-map (leaves family 0 m t) mark_of ∙ leaves_long family 0 m t

-- The part stands at token d: the classes are its yield, and what starts where is what is marked.
pub record At (cs : List ℕ) (m : Marked) (d : ℕ) (t : Tree (unmarked m)) : Type 0 where
  pub classes : Stands cs d (yield (unmarked m) t)
  pub starts : Along (start_at cs) d (marks start m t)

module _ (f : ℕ → ℕ) (d : ℕ) (ps qs : List (ℕ × ℕ)) (along : Along f d (map mark_of (ps ++ qs))) where
  both : Along f d (map mark_of ps ++ map mark_of qs)
  both = subst (λ l. Along f d l) (map-append mark_of ps qs) along

  pub marks_left : Along f d (map mark_of ps)
  marks_left = along_left f d (map mark_of ps) (map mark_of qs) both

  pub marks_right : (n : ℕ) → length ps ≡ n → Along f (d + n) (map mark_of qs)
  marks_right n e =
      subst (λ k. Along f (d + k) (map mark_of qs)) (length-map ps mark_of ∙ e) (along_right f d (map mark_of ps) (map mark_of qs) both)

module _ (cs : List ℕ) (a b : Marked) (d : ℕ) where
  pub at_left : (t : Tree (unmarked (a then b))) → At cs (a then b) d t → At cs a d t.0
  at_left t p = record {
    classes = along_left (class_at cs) d (yield (unmarked a) t.0) (yield (unmarked b) t.1) p.classes;
    starts = marks_left (start_at cs) d (leaves start 0 a t.0) (leaves start 0 b t.1) p.starts;
  }

  pub at_right : (t : Tree (unmarked (a then b))) → At cs (a then b) d t → At cs b (d + size a t.0) t.1
  at_right t p = record {
    classes = along_right (class_at cs) d (yield (unmarked a) t.0) (yield (unmarked b) t.1) p.classes;
    starts =
        marks_right (start_at cs) d (leaves start 0 a t.0) (leaves start 0 b t.1) p.starts (size a t.0)
        (leaves_long start 0 a t.0);
  }

  -- a step of a repeated part, and the rest
  module _ (s : Tree (unmarked a)) (more : Tree (unmarked (steps a b))) (p : At cs (steps a b) d (step s more)) where
    pub at_step : At cs a d s
    at_step = record {
      classes = along_left (class_at cs) d (yield (unmarked a) s) (yield (unmarked (steps a b)) more) p.classes;
      starts = marks_left (start_at cs) d (leaves start 0 a s) (leaves start 0 (steps a b) more) p.starts;
    }

    pub at_more : At cs (steps a b) (d + size a s) more
    at_more = record {
      classes = along_right (class_at cs) d (yield (unmarked a) s) (yield (unmarked (steps a b)) more) p.classes;
      starts =
          marks_right (start_at cs) d (leaves start 0 a s) (leaves start 0 (steps a b) more) p.starts (size a s)
          (leaves_long start 0 a s);
    }

-- ---- what starts at a token

some_of : (b : Bool) (x y : ℕ) → 0 < x → 0 < y → 0 < cond b x y
some_of true x y p q = p
some_of false x y p q = q

module _ (cs : List ℕ) (i : ℕ) where
  kind_some : 0 < kind_at cs i
  unfolding kind_at
  kind_some =
      some_of (eqb (class_at cs (i + 1)) MODULE-IDENTITY) _ _ (omega arith)
      (some_of (eqb (class_at cs (i + 1)) OBJECT) _ _ (omega arith)
      (some_of (eqb (class_at cs (i + 1)) OBJECT-IDENTITY) _ _ (omega arith)
      (some_of (eqb (class_at cs (i + 1)) OBJECT-TYPE) _ _ (omega arith)
      (some_of (eqb (class_at cs (i + 1)) NOTIFICATION-TYPE) _ _ (omega arith)
      (some_of (eqb (class_at cs (i + 2)) TEXTUAL-CONVENTION) _ _ (omega arith) (omega arith))))))

  pub none_starts : start_at cs i ≡ 0 → (begins cs i ≡ false) × (closes cs i ≡ false)
  unfolding closes
  none_starts = go (begins cs i) refl (eqb (class_at cs i) END) refl
    where
      go : (b : Bool) → begins cs i ≡ b → (e : Bool) → eqb (class_at cs i) END ≡ e → cond b (kind_at cs i) (cond e the_end 0) ≡ 0
          → (begins cs i ≡ false) × (closes cs i ≡ false)
      go true p e q z = absurd (omega (arith, kind_some))
      go false p true q z = absurd (omega arith)
      go false p false q z = (p, rw (q, p))

  pub some_closes : 0 < start_at cs i → closes cs i ≡ true
  unfolding closes
  some_closes = go (begins cs i) refl (eqb (class_at cs i) END) refl
    where
      go : (b : Bool) → begins cs i ≡ b → (e : Bool) → eqb (class_at cs i) END ≡ e → 0 < cond b (kind_at cs i) (cond e the_end 0)
          → closes cs i ≡ true
      go b p true q z = rw q
      go true p false q z = rw (q, p)
      go false p false q z = absurd (omega arith)

  pub kind_starts : (k : ℕ) → start_at cs i ≡ k → 0 < k → k < the_end → (begins cs i ≡ true) × (kind_at cs i ≡ k)
  kind_starts k is some few = go (begins cs i) refl (eqb (class_at cs i) END) is
    where
      go : (b : Bool) → begins cs i ≡ b → (e : Bool) → cond b (kind_at cs i) (cond e the_end 0) ≡ k
          → (begins cs i ≡ true) × (kind_at cs i ≡ k)
      go true p e z = (p, z)
      go false p true z = absurd (omega arith)
      go false p false z = absurd (omega arith)

-- a definition ends at the next token where something starts
pub ends_there : (cs : List ℕ) (d e : ℕ) → d < e → e ≤ last_token cs → ((i : ℕ) → d < i → i < e → closes cs i ≡ false) → closes cs e ≡ true
    → definition_end cs d ≡ e
unfolding definition_end
ends_there cs d e l m none there = go (dec_lt e (last_token cs))
  where
    go : Dec (e < last_token cs) → first (closes cs) (d + 1) (last_token cs) ≡ e
    go (yes h) = first_is (closes cs) (d + 1) (last_token cs) e (omega arith) h there (λ i p q. none i (omega arith) q)
    go (no h) =
        let same : e ≡ last_token cs = omega arith in
        rw same (first_end (closes cs) (d + 1) (last_token cs) (omega arith) (λ i p q. none i (omega arith) (omega arith)))

-- tokens at which the test fails are passed
pub hits_skip : (test : ℕ → Bool) (n a b : ℕ) → a + n ≤ b → ((i : ℕ) → a ≤ i → i < a + n → test i ≡ false)
    → hits test a b ≡ hits test (a + n) b
hits_skip test zero a b l none = ap (λ i. hits test i b) (omega arith)
hits_skip test (suc n) a b l none =
    let on : suc a + n ≡ a + suc n = omega arith in
    hits_miss test a b (omega arith) (none a (omega arith) (omega arith))
    ∙ hits_skip test n (suc a) b (omega arith) (λ i p q. none i (omega arith) (omega arith)) ∙ ap (λ i. hits test i b) on
