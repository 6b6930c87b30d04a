-- A field of a definition: the machine that looks for the field's word and then puts out a number at each of the field's tokens. The
-- landmarks' search for the field, and the run of tokens that have an output, are the same.
-- Assumes nothing.
use mathlib.Core.Path.{◌≡◌, refl, sym, ap, ◌∙◌, subst}
use mathlib.Core.Bool.{Bool, true, false, cond, not}
use mathlib.Core.List.{List, [], ◌∷◌}
use Prim.Native.Nat.{ℕ, suc, ◌+◌, ◌-◌, ◌≤◌, ◌<◌}
use native.Mathlib.Nat.{add-zero}
use native.Mathlib.Omega.{arith}
use borrow.Author.Tests.{lt-ltb, le-ltb, ltb-true, ltb-false, ne_eqb}
use lib.Dec.{T, eqb, ltb}
use lib.ListN.{length, get_or, drop, length-drop, get_or-eq_default}
use lib.Seq.{get_or-drop, drop-cons}
use Rattle.index.specs.First.{first}
use Rattle.index.proofs.Search.{answers}
use Rattle.definition.specs.Landmark.{class_at}
use Rattle.definition.specs.declared.Span.{Span}
use Rattle.definition.specs.Fields.{find, span, nowhere, word_after, word_at as word-behind}
use Rattle.module_tree.specs.Module.{leading, is_none, first_marked, first_mark, some_marked, marked_span}
use Rattle.module_tree.proofs.Counted.{dead_number, among, stays}
use Rattle.module_tree.proofs.Machine.{after, outputs}
use Rattle.module_tree.proofs.Leading.{Stands, along_drop, first_leading}

-- there are as many outputs as tokens
pub outputs_long : {S : Type 0} (next : S → ℕ → S) (out : S → ℕ → ℕ) (s : S) (xs : List ℕ) → length (outputs next out s xs) ≡ length xs
outputs_long next out s [] = refl
outputs_long next out s (x ∷ xs) = ap suc (outputs_long next out (next s x) xs)

-- the states in which a field is right at its definition's end: not met, not ended, ended
abbrev pub complete : List ℕ
complete = 0 ∷ 3 ∷ 4 ∷ []

-- The field stands one token behind its word, or two; its first token is not `bad`, and it ends where a later one is a `stop`.
module _ (class : ℕ) (two : Bool) (bad stop : ℕ → Bool) (value : ℕ → ℕ) where
  -- 0: the word is not met; 1: one token is to be passed; 2: the field starts; 3: the field goes on; 4: it has ended
  abbrev pub next : ℕ → ℕ → ℕ
  next s c =
      cond (eqb s 0) (cond (eqb c class) (cond two 1 2) 0)
      (cond (eqb s 1) 2 (cond (eqb s 2) (cond (bad c) dead_number 3) (cond (eqb s 3) (cond (stop c) 4 3) s)))

  abbrev pub out : ℕ → ℕ → ℕ
  out s c = cond (eqb s 2) (value c) (cond (eqb s 3) (cond (stop c) 0 (value c)) 0)

  abbrev pub told : ℕ → List ℕ → List ℕ
  told s xs = outputs next out s xs

  abbrev pub ends : ℕ → List ℕ → ℕ
  ends s xs = after next out s xs

  -- how far behind its word the field stands
  abbrev pub behind : ℕ
  behind = cond two 2 1

  abbrev other : ℕ → Bool
  other c = not (eqb c class)

  abbrev Complete : ℕ → Type 0
  Complete s = T (among s complete)

  dead_ends : (xs : List ℕ) → ends dead_number xs ≡ dead_number
  dead_ends [] = refl
  dead_ends (x ∷ xs) = dead_ends xs

  -- what a search for the field meets: no word; or the word, and the field behind it
  pub data Sought (xs : List ℕ) : Type 0 where
    none : leading other xs ≡ length xs → first_marked (told 0 xs) ≡ length xs → Sought xs
    found : (k : ℕ) → leading other xs + behind ≡ k → k < length xs → first_marked (told 0 xs) ≡ k
        → drop k (told 0 xs) ≡ told 2 (drop k xs) → bad (get_or xs k 0) ≡ false → Sought xs

  module _ (nonzero : (c : ℕ) → is_none (value c) ≡ false) where
    -- directly behind the word
    record Entered (k s : ℕ) (xs : List ℕ) : Type 0 where
      room : k < length xs
      from : first_marked (told s xs) ≡ k
      rest : drop k (told s xs) ≡ told 2 (drop k xs)
      good : bad (get_or xs k 0) ≡ false

    entered_first : (xs : List ℕ) → Complete (ends 2 xs) → Entered 0 2 xs
    entered_first [] h = absurd h
    entered_first (z ∷ zs) h = record { room = omega arith; from = rw (nonzero z); rest = refl; good = go (bad z) refl h }
      where
        go : (b : Bool) → bad z ≡ b → Complete (ends (cond b dead_number 3) zs) → bad z ≡ false
        go true e k = absurd (subst Complete (dead_ends zs) k)
        go false e k = e

    entered_second : (xs : List ℕ) → Complete (ends 1 xs) → Entered 1 1 xs
    entered_second [] h = absurd h
    entered_second (y ∷ ys) h =
        let one = entered_first ys h in
        record { room = omega (arith, one.room); from = ap suc one.from; rest = one.rest; good = one.good }

    entered : (w : Bool) (xs : List ℕ) → Complete (ends (cond w 1 2) xs) → Entered (cond w 1 0) (cond w 1 2) xs
    entered true xs h = entered_second xs h
    entered false xs h = entered_first xs h

    behind_more : (w : Bool) → 0 + cond w 2 1 ≡ suc (cond w 1 0)
    behind_more true = refl
    behind_more false = refl

    pub sought : (xs : List ℕ) → Complete (ends 0 xs) → Sought xs
    sought [] h = none refl refl
    sought (x ∷ xs) h = go (eqb x class) refl h (sought xs)
      where
        at_word : eqb x class ≡ true → Complete (ends (cond two 1 2) xs) → Sought (x ∷ xs)
        at_word e k =
            let it = entered two xs k in
            found (suc (cond two 1 0)) (rw e (behind_more two)) (omega (arith, it.room)) (rw e (ap suc it.from)) (rw e it.rest)
            it.good

        passed : eqb x class ≡ false → Sought xs → Sought (x ∷ xs)
        passed e (none a b) = none (rw e (ap suc a)) (rw e (ap suc b))
        passed e (found k a r m d g) = found (suc k) (rw e (omega arith)) (omega arith) (rw e (ap suc m)) (rw e d) g

        go : (b : Bool) → eqb x class ≡ b → Complete (ends (cond b (cond two 1 2) 0) xs) → (Complete (ends 0 xs) → Sought xs)
            → Sought (x ∷ xs)
        go true e k ih = at_word e k
        go false e k ih = passed e (ih k)

  -- ---- the field goes on
  module _ (nonzero : (c : ℕ) → is_none (value c) ≡ false) where
    run_on : (xs : List ℕ) → leading (λ (v : ℕ). not (is_none v)) (told 3 xs) ≡ leading (λ (c : ℕ). not (stop c)) xs
    run_on [] = refl
    run_on (x ∷ xs) = go (stop x) refl (run_on xs)
      where
        go : (b : Bool) → stop x ≡ b → leading (λ (v : ℕ). not (is_none v)) (told 3 xs) ≡ leading (λ (c : ℕ). not (stop c)) xs
            → leading (λ (v : ℕ). not (is_none v)) (told 3 (x ∷ xs)) ≡ cond (not b) (suc (leading (λ (c : ℕ). not (stop c)) xs)) 0
        go true e ih = rw e
        go false e ih = rw (e, nonzero x) (ap suc ih)

    pub run_from : (xs : List ℕ) → 0 < length xs → bad (get_or xs 0 0) ≡ false → stop (get_or xs 0 0) ≡ false
        → leading (λ (v : ℕ). not (is_none v)) (told 2 xs) ≡ leading (λ (c : ℕ). not (stop c)) xs
    run_from [] h g e = refl
    run_from (x ∷ xs) h g e = rw (nonzero x, g, e) (ap suc (run_on xs))

-- ---- what the landmarks find

pub first_branch : {A : Type 0} (x y : A) (b : Bool) → b ≡ true → cond b x y ≡ x
first_branch x y b e = rw e

pub second_branch : {A : Type 0} (x y : A) (b : Bool) → b ≡ false → cond b x y ≡ y
second_branch x y b e = rw e

-- the span behind the word of this class, up to a stop
abbrev pub span_after : (class : ℕ) (two : Bool) (stop : ℕ → Bool) (cs : List ℕ) (d e : ℕ) → Span
span_after class two stop cs d e =
    cond (ltb (find cs class d e) e)
    (span (find cs class d e + cond two 2 1) (first (λ (i : ℕ). stop (class_at cs i)) (find cs class d e + cond two 2 1) e))
    (nowhere e)

module _ (class : ℕ) (two : Bool) (stop : ℕ → Bool) (value : ℕ → ℕ) (nonzero : (c : ℕ) → is_none (value c) ≡ false) where
  module _ (cs xs : List ℕ) (d : ℕ) (st : Stands cs d xs) (h : T (among (ends class two stop stop value 0 xs) complete)) where
    ls : List ℕ
    ls = told class two stop stop value 0 xs

    ls_long : length ls ≡ length xs
    unfolding ls
    ls_long = outputs_long (next class two stop stop value) (out class two stop stop value) 0 xs

    word_at : find cs class d (d + length xs) ≡ d + leading (λ (c : ℕ). not (eqb c class)) xs
    word_at = first_leading (λ (c : ℕ). eqb c class) cs xs d st

    stop_at : (k : ℕ) → k < length xs
        → first (λ (i : ℕ). stop (class_at cs i)) (d + k) (d + length xs) ≡ d + k + leading (λ (c : ℕ). not (stop c)) (drop k xs)
    stop_at k r =
        let end : d + length xs ≡ d + k + length (drop k xs) = omega (arith, length-drop k xs) in
        ap (first (λ (i : ℕ). stop (class_at cs i)) (d + k)) end
        ∙ first_leading stop cs (drop k xs) (d + k) (along_drop (class_at cs) d k xs st)

    -- the span of the field
    pub span_told : span_after class two stop cs d (d + length xs) ≡ marked_span d (told class two stop stop value 0 xs)
    unfolding ls
    span_told = go (sought class two stop stop value nonzero xs h)
      where
        go : Sought class two stop stop value xs → span_after class two stop cs d (d + length xs) ≡ marked_span d ls
        go (none a m) =
            second_branch _ _ (ltb (find cs class d (d + length xs)) (d + length xs))
            (le-ltb (find cs class d (d + length xs)) (d + length xs) (omega (arith, word_at)))
            ∙ ap (λ n. nowhere (d + n)) (sym ls_long)
            ∙ sym (second_branch _ _ (ltb (first_marked ls) (length ls)) (le-ltb (first_marked ls) (length ls) (omega (arith, ls_long))))
        go (found k a r m dr g) =
            let from : find cs class d (d + length xs) + cond two 2 1 ≡ d + k = omega (arith, word_at) in
            let first_good : stop (get_or (drop k xs) 0 0) ≡ false = ap stop (get_or-drop k xs 0 0 ∙ ap (λ i. get_or xs i 0) (add-zero k)) ∙ g in
            let runs = run_from class two stop stop value nonzero (drop k xs) (omega (arith, length-drop k xs)) first_good first_good in
            first_branch _ _ (ltb (find cs class d (d + length xs)) (d + length xs))
            (lt-ltb (find cs class d (d + length xs)) (d + length xs) (omega (arith, word_at)))
            ∙ ap (λ f. span f (first (λ (i : ℕ). stop (class_at cs i)) f (d + length xs))) from
            ∙ ap (span (d + k)) (stop_at k r ∙ ap (λ n. d + k + n) (sym runs ∙ ap (leading (λ (v : ℕ). not (is_none v))) (sym dr)))
            ∙ ap (λ f. span (d + f) (d + f + leading (λ (v : ℕ). not (is_none v)) (drop f ls))) (sym m)
            ∙ sym (first_branch _ _ (ltb (first_marked ls) (length ls)) (lt-ltb (first_marked ls) (length ls) (omega (arith, ls_long))))

-- a word behind the word of this class, by its number from `base` on
abbrev pub word_value : ℕ → ℕ → ℕ
word_value base c = c - base + 1

abbrev pub never_bad : ℕ → Bool
never_bad c = false

abbrev pub at_once : ℕ → Bool
at_once c = true

word_nonzero : (base c : ℕ) → is_none (word_value base c) ≡ false
word_nonzero base c = ne_eqb (word_value base c) 0 (λ e. omega arith)

module _ (class base : ℕ) (cs xs : List ℕ) (d : ℕ) (st : Stands cs d xs) where
  words : List ℕ
  words = told class false never_bad at_once (word_value base) 0 xs

  pub word_told : T (among (ends class false never_bad at_once (word_value base) 0 xs) complete)
      → word_after cs class base d (d + length xs) ≡ first_mark (told class false never_bad at_once (word_value base) 0 xs)
  unfolding word-behind words
  word_told h = go (sought class false never_bad at_once (word_value base) (word_nonzero base) xs h)
    where
      at : find cs class d (d + length xs) ≡ d + leading (λ (c : ℕ). not (eqb c class)) xs
      at = first_leading (λ (c : ℕ). eqb c class) cs xs d st

      long : length words ≡ length xs
      long = outputs_long (next class false never_bad at_once (word_value base)) (out class false never_bad at_once (word_value base)) 0 xs

      go : Sought class false never_bad at_once (word_value base) xs
          → cond (ltb (find cs class d (d + length xs)) (d + length xs)) (class_at cs (find cs class d (d + length xs) + 1) - base + 1) 0 ≡ first_mark words
      go (none a m) =
          second_branch _ _ (ltb (find cs class d (d + length xs)) (d + length xs))
          (le-ltb (find cs class d (d + length xs)) (d + length xs) (omega (arith, at)))
          ∙ sym (get_or-eq_default words 0 {n = first_marked words} (omega (arith, long)))
      go (found k a r m dr g) =
          let behind-it : find cs class d (d + length xs) + 1 ≡ d + k = omega (arith, at) in
          first_branch _ _ (ltb (find cs class d (d + length xs)) (d + length xs))
          (lt-ltb (find cs class d (d + length xs)) (d + length xs) (omega (arith, at)))
          ∙ ap (λ i. class_at cs i - base + 1) behind-it ∙ ap (word_value base) (st k r)
          ∙ sym (ap (λ l. get_or (told class false never_bad at_once (word_value base) 2 l) 0 0) (drop-cons xs k 0 r))
          ∙ sym (ap (λ l. get_or l 0 0) dr) ∙ get_or-drop k words 0 0 ∙ ap (λ i. get_or words i 0) (add-zero k ∙ sym m)

-- whether the word of this class is there at all: the machine has one state
module _ (class : ℕ) where
  abbrev pub is_there : ℕ → ℕ → ℕ
  is_there s c = cond (eqb c class) 1 0

  there_leading : (s : ℕ) (xs : List ℕ) → first_marked (outputs stays is_there s xs) ≡ leading (λ (c : ℕ). not (eqb c class)) xs
  there_leading s [] = refl
  there_leading s (x ∷ xs) = go (eqb x class) (there_leading s xs)
    where
      go : (b : Bool) → first_marked (outputs stays is_there s xs) ≡ leading (λ (c : ℕ). not (eqb c class)) xs
          → cond (is_none (cond b 1 0)) (suc (first_marked (outputs stays is_there s xs))) 0 ≡ cond (not b) (suc (leading (λ (c : ℕ). not (eqb c class)) xs)) 0
      go true ih = refl
      go false ih = ap suc ih

  pub there_told : (cs xs : List ℕ) (d : ℕ) → Stands cs d xs
      → ltb (find cs class d (d + length xs)) (d + length xs) ≡ some_marked (outputs stays is_there 0 xs)
  there_told cs xs d st =
      let at = first_leading (λ (c : ℕ). eqb c class) cs xs d st in
      let ls = outputs stays is_there 0 xs in
      let long = outputs_long stays is_there 0 xs in
      let lead = there_leading 0 xs in
      answers (ltb (first_marked ls) (length ls))
      (λ e. lt-ltb (find cs class d (d + length xs)) (d + length xs)
      (let l : first_marked ls < length ls = ltb-true (first_marked ls) (length ls) e in omega (arith, at, long, lead)) ∙ sym e)
      (λ e. le-ltb (find cs class d (d + length xs)) (d + length xs)
      (let l : length ls ≤ first_marked ls = ltb-false (first_marked ls) (length ls) e in omega (arith, at, long, lead)) ∙ sym e)
