-- A machine whose state at each token is read off the tokens before it; and classes that no token of a part has.
-- Assumes nothing.
use mathlib.Core.Path.{◌≡◌, refl, sym, ap, ap₂, ◌∙◌, subst}
use mathlib.Core.Bool.{Bool, true, false, cond, ◌&&◌}
use mathlib.Core.List.{List, [], ◌∷◌, ◌++◌, map}
use Prim.Native.Nat.{ℕ, zero, suc, ◌+◌, ◌≤◌, ◌<◌}
use native.Mathlib.Nat.{add-zero}
use native.Mathlib.Omega.{arith}
use borrow.Author.Tests.{eqb-true}
use lib.Dec.{T, eqb}
use lib.ListN.{length, get_or}
use Rattle.grammar.specs.Rule.{Tree, yield}
use Rattle.index.specs.First.{hits}
use Rattle.index.proofs.Tested.{and_left, and_right}
use Rattle.index.proofs.Hits.{hits_hit, hits_miss}
use Rattle.module_tree.specs.Marked.{Marked, unmarked, size}
use Rattle.module_tree.specs.Module.{places}
use Rattle.module_tree.proofs.Machine.{after, outputs}
use Rattle.module_tree.proofs.Leading.{Along, along_first, along_rest}
use Rattle.module_tree.proofs.Field.{is_there}
use Rattle.module_tree.proofs.Line.{there}
use Rattle.module_tree.proofs.Counted.{marks_are, stays, absent, unmarked_part}

module _ {S : Type 0} (next : S → ℕ → S) (out : S → ℕ → ℕ) (f : ℕ → ℕ) (state : ℕ → S)
    (moves : (i : ℕ) → state (suc i) ≡ next (state i) (f i)) where
  stepped : (x : ℕ) (xs : List ℕ) (i : ℕ) → Along f i (x ∷ xs) → next (state i) x ≡ state (suc i)
  stepped x xs i along = ap (next (state i)) (sym (along_first f i x xs along)) ∙ sym (moves i)

  pub watched_after : (xs : List ℕ) (i : ℕ) → Along f i xs → after next out (state i) xs ≡ state (i + length xs)
  watched_after [] i along = ap state (sym (add-zero i))
  watched_after (x ∷ xs) i along =
      let on : suc i + length xs ≡ i + suc (length xs) = omega arith in
      ap (λ s. after next out s xs) (stepped x xs i along) ∙ watched_after xs (suc i) (along_rest f i x xs along) ∙ ap state on

  pub watched_outputs : (xs : List ℕ) (i : ℕ) → Along f i xs → (j : ℕ) → j < length xs
      → get_or (outputs next out (state i) xs) j 0 ≡ out (state (i + j)) (f (i + j))
  watched_outputs [] i along j h = absurd (omega arith)
  watched_outputs (x ∷ xs) i along zero h =
      ap (out (state i)) (sym (along_first f i x xs along)) ∙ ap (λ n. out (state n) (f n)) (sym (add-zero i))
  watched_outputs (x ∷ xs) i along (suc j) h =
      let on : suc i + j ≡ i + suc j = omega arith in
      ap (λ s. get_or (outputs next out s xs) j 0) (stepped x xs i along)
      ∙ watched_outputs xs (suc i) (along_rest f i x xs along) j (omega arith) ∙ ap (λ n. out (state n) (f n)) on

-- ---- no token of the part has this class: nothing is marked by the family 0
abbrev pub avoids : (class : ℕ) → Marked → Bool
avoids class m = there class 0 m && absent 0 m

there_at : (class : ℕ) (xs : List ℕ) (j : ℕ) → j < length xs
    → get_or (outputs stays (is_there class) 0 xs) j 0 ≡ cond (eqb (get_or xs j 0) class) 1 0
there_at class [] j h = absurd (omega arith)
there_at class (x ∷ xs) zero h = refl
there_at class (x ∷ xs) (suc j) h = there_at class xs j (omega arith)

pub never_there : (class : ℕ) (m : Marked) → T (avoids class m) → (t : Tree (unmarked m)) (j : ℕ) → j < size m t
    → eqb (get_or (yield (unmarked m) t) j 0) class ≡ false
never_there class m p t j h =
    go (eqb (get_or (yield (unmarked m) t) j 0) class)
    (sym (there_at class (yield (unmarked m) t) j h)
    ∙ ap (λ l. get_or l j 0) (marks_are stays (is_there class) 0 (0 ∷ []) m (and_left (there class 0 m) (absent 0 m) p) t)
    ∙ unmarked_part 0 m (and_right (there class 0 m) (absent 0 m) p) t j)
  where
    go : (b : Bool) → ◌≡◌ {A = ℕ} (cond b 1 0) 0 → b ≡ false
    go true e = absurd (omega arith)
    go false e = refl

-- ---- the tokens where a test holds are those with a mark
pub hits_places : (test : ℕ → Bool) (v b : ℕ) (vs : List ℕ) (d : ℕ) → d + length vs ≤ b
    → ((j : ℕ) → j < length vs → test (d + j) ≡ eqb (get_or vs j 0) v)
    → hits test d b ≡ places v d vs ++ hits test (d + length vs) b
hits_places test v b [] d h same = ap (λ i. hits test i b) (sym (add-zero d))
hits_places test v b (w ∷ ws) d h same =
    go (eqb w v) refl
    (hits_places test v b ws (suc d) (omega arith)
    (λ j l. let on : suc d + j ≡ d + suc j = omega arith in ap test on ∙ same (suc j) (omega arith)))
  where
    here : test d ≡ eqb w v
    here = ap test (sym (add-zero d)) ∙ same 0 (omega arith)

    on : suc d + length ws ≡ d + suc (length ws)
    on = omega arith

    go : (c : Bool) → eqb w v ≡ c → hits test (suc d) b ≡ places v (suc d) ws ++ hits test (suc d + length ws) b
        → hits test d b ≡ cond c (d ∷ places v (suc d) ws) (places v (suc d) ws) ++ hits test (d + suc (length ws)) b
    go true e ih =
        hits_hit test d b (omega arith) (here ∙ e) ∙ ap (λ l. d ∷ l) (ih ∙ ap (λ i. places v (suc d) ws ++ hits test i b) on)
    go false e ih = hits_miss test d b (omega arith) (here ∙ e) ∙ ih ∙ ap (λ i. places v (suc d) ws ++ hits test i b) on

-- what is made of each of them depends on nothing but them
pub map_places : {X : Type 0} (f g : ℕ → X) (v : ℕ) (vs : List ℕ) (d : ℕ)
    → ((j : ℕ) → j < length vs → get_or vs j 0 ≡ v → f (d + j) ≡ g (d + j))
    → map f (places v d vs) ≡ map g (places v d vs)
map_places f g v [] d same = refl
map_places f g v (w ∷ ws) d same =
    go (eqb w v) refl
    (map_places f g v ws (suc d)
    (λ j l e. let on : suc d + j ≡ d + suc j = omega arith in subst (λ i. f i ≡ g i) (sym on) (same (suc j) (omega arith) e)))
  where
    go : (c : Bool) → eqb w v ≡ c → map f (places v (suc d) ws) ≡ map g (places v (suc d) ws)
        → map f (cond c (d ∷ places v (suc d) ws) (places v (suc d) ws)) ≡ map g (cond c (d ∷ places v (suc d) ws) (places v (suc d) ws))
    go true e ih = ap₂ (λ x y. x ∷ y) (subst (λ i. f i ≡ g i) (add-zero d) (same 0 (omega arith) (eqb-true w v e))) ih
    go false e ih = ih
