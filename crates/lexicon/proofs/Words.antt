-- The look-up of words: each word's hash leads to its own slot, by one computed test, so a name that is a word is found in its
-- slot, and a name that is not its slot's word is none.
-- Assumes nothing.
use mathlib.Core.Path.{◌≡◌, refl, sym, ap, ◌∙◌}
use mathlib.Core.Bool.{Bool, true, false, cond, ◌&&◌}
use mathlib.Core.List.{List, [], ◌∷◌, ◌++◌, append-nil}
use Prim.Native.Nat.{ℕ, zero, suc, ◌+◌, ◌-◌, ◌≤◌, ◌<◌}
use native.Mathlib.Decide.{dec_lt}
use native.Mathlib.Numerals.{add-one}
use native.Mathlib.Omega.{arith}
use lib.Dec.{T, eqb, eqb→eq, ltb, ltb→lt}
use lib.ListN.{length, get_or, take, drop, length-append, length-take, length-drop}
use lib.Seq.{take-suc, get_or-drop, take-append_seam, drop-append_seam, drop-append-add, get_or-take, length-take-le}
use Rattle.std.proofs.lemmas.List.{take_all}
use borrow.Author.Tests.{eq-eqb, ne_eqb, eqb-true, lt-ltb, le-ltb}
use Rattle.std.specs.Prelude.{Option, None, Some}
use Rattle.std.specs.Bool.{then_some}
use Rattle.terminal.specs.Terminal.{terminals, first_word, word_count}
use Rattle.lexicon.specs.Word.{words, word_table, word_classes, word, bytes, same, some_place, place_in, joined, start_of}
use Rattle.lexicon.specs.Word.{between, Within, slot, slot_of, slot_count, SlotWord, row_start, lookup_size, LookupTable}
use Rattle.lexicon.proofs.Places.{byte_there}
use Rattle.index.proofs.Tested.{passes, tested}
use Rattle.index.proofs.Search.{true_false}

-- two spellings that are the same are equal
pub same_equal : (xs ys : List ℕ) → same xs ys ≡ true → xs ≡ ys
unfolding same
same_equal [] [] e = refl
same_equal [] (y ∷ ys) e = let z : ◌≡◌ {A = ℕ} 0 1 = cc in absurd (omega arith)
same_equal (x ∷ xs) [] e = let z : ◌≡◌ {A = ℕ} 0 1 = cc in absurd (omega arith)
same_equal (x ∷ xs) (y ∷ ys) e = go (eqb x y) refl (same_equal xs ys) e
  where
    go : (b : Bool) → eqb x y ≡ b → (same xs ys ≡ true → xs ≡ ys) → (b && same xs ys) ≡ true → x ∷ xs ≡ y ∷ ys
    go true p r q = λ i. eqb-true x y p i ∷ r q i
    go false p r q = let z : ◌≡◌ {A = ℕ} 0 1 = cc in absurd (omega arith)

pub same_refl : (xs : List ℕ) → same xs xs ≡ true
unfolding same
same_refl [] = refl
same_refl (x ∷ xs) = simp (eq-eqb x x refl, same_refl xs)

in_words : (k : ℕ) → k < word_count → k < length words
unfolding words word_table word bytes
in_words k h = h

-- a test that is passed is true
is_true : (b : Bool) → T b → b ≡ true
is_true true t = refl
is_true false t = absurd t

-- Four tests of a table of the look-up, each computed once: a slot holds a class, the slot of the word at k holds its class, and its row
-- has its length and its spelling.
unfoldable pub some_class : ℕ → ℕ → Bool
some_class slot class = ltb class terminals

unfoldable pub own_slot : List ℕ → ℕ → List ℕ → Bool
own_slot table k w = eqb (get_or table (slot_of w) 0) (first_word + k)

unfoldable pub own_size : List ℕ → ℕ → List ℕ → Bool
own_size table k w = eqb (get_or table (row_start k) 0) (length w)

unfoldable pub own_spelling : List ℕ → ℕ → List ℕ → Bool
own_spelling table k w = same (take (length w) (drop (row_start k + 1) table)) w

-- a table that passes them is one by which words are found
pub lookup_table : (table : List ℕ) → length table ≡ lookup_size → T (passes some_class 0 (take slot_count table))
    → T (passes (own_slot table) 0 words) → T (passes (own_size table) 0 words) → T (passes (own_spelling table) 0 words)
    → LookupTable table
unfolding some_class own_slot own_size own_spelling
lookup_table table long few own sized spelled =
    let size = length-take-le slot_count table (omega (arith, long)) in
    record {
      long = long;
      slots = λ slot h. record {
        few =
            rw (get_or-take slot_count table slot 0 h) at
            (ltb→lt (get_or (take slot_count table) slot 0) terminals
            (tested some_class 0 (take slot_count table) few slot (omega (arith, size))));
        own = λ k l e.
            ap (λ (i : ℕ). get_or table i 0) (sym e) ∙ eqb→eq _ _ (tested (own_slot table) [] words own k (in_words k l));
      };
      sizes = λ k l. eqb→eq _ _ (tested (own_size table) [] words sized k (in_words k l));
      spellings = λ k l. same_equal _ _ (is_true _ (tested (own_spelling table) [] words spelled k (in_words k l)));
    }

-- the words stand in the order of the terminals: the word at k has the class k after the first
own_class : ℕ → ℕ → Bool
own_class k class = eqb class (first_word + k)

pub word_class : (k : ℕ) → k < word_count → get_or word_classes k 0 ≡ first_word + k
unfolding own_class word_classes word_table word
word_class k h = eqb→eq (get_or word_classes k 0) (first_word + k) (tested own_class 0 word_classes tt k h)

-- a spelling's place is that of a word that is the same, or the list's length
place_same : (s : List ℕ) (ws : List (List ℕ)) → place_in s ws < length ws → same s (get_or ws (place_in s ws) []) ≡ true
unfolding place_in
place_same s [] h = absurd (omega arith)
place_same s (w ∷ ws) h = go (same s w) refl (place_same s ws) h
  where
    go : (b : Bool) → same s w ≡ b → (place_in s ws < length ws → same s (get_or ws (place_in s ws) []) ≡ true)
        → cond b 0 (suc (place_in s ws)) < suc (length ws)
        → same s (get_or (w ∷ ws) (cond b 0 (suc (place_in s ws))) []) ≡ true
    go true e r q = e
    go false e r q = r (omega arith)

place_bound : (s : List ℕ) (ws : List (List ℕ)) → place_in s ws ≤ length ws
unfolding place_in
place_bound s [] = omega arith
place_bound s (w ∷ ws) = go (same s w) (place_bound s ws)
  where
    go : (b : Bool) → place_in s ws ≤ length ws → cond b 0 (suc (place_in s ws)) ≤ suc (length ws)
    go true q = omega arith
    go false q = omega arith

place_first : (s : List ℕ) (ws : List (List ℕ)) (k : ℕ) → k < length ws → same s (get_or ws k []) ≡ true → place_in s ws ≤ k
unfolding place_in
place_first s [] k h e = absurd (omega arith)
place_first s (w ∷ ws) zero h e = simp e (omega arith)
place_first s (w ∷ ws) (suc k) h e = go (same s w) (place_first s ws k (omega arith) e)
  where
    go : (b : Bool) → place_in s ws ≤ k → cond b 0 (suc (place_in s ws)) ≤ suc k
    go true q = omega arith
    go false q = omega arith

-- a word is found in its slot
module _ (s : List ℕ) (class : ℕ) (held : SlotWord (slot_of s) class) where
  in_slot : place_in s words < word_count → class ≡ first_word + place_in s words
  in_slot h =
      let e : s ≡ get_or words (place_in s words) [] =
      same_equal s (get_or words (place_in s words) []) (place_same s words (in_words (place_in s words) h)) in
      held.own (place_in s words) h (ap slot_of (sym e))

  pub found : (k : ℕ) → class ≡ first_word + k → k < word_count → same s (get_or words k []) ≡ true → k ≡ place_in s words
  found k is h q =
      let first : place_in s words ≤ k = place_first s words k (in_words k h) q in
      omega (arith, is, in_slot (omega arith))

  pub not_found : ((k : ℕ) → class ≡ first_word + k → same s (get_or words k []) ≡ false) → word_count ≡ place_in s words
  unfolding words word_table word bytes
  not_found h = go (dec_lt (place_in s words) word_count)
    where
      go : Dec (place_in s words < word_count) → word_count ≡ place_in s words
      go (no q) = omega (arith, place_bound s words)
      go (yes q) =
          let f : same s (get_or words (place_in s words) []) ≡ false = h (place_in s words) (in_slot q) in
          let t : same s (get_or words (place_in s words) []) ≡ true = place_same s words q in
          absurd (true_false t f)

  -- so that the code's answer is the place, if the name is a word
  pub not_named : ((k : ℕ) → class ≡ first_word + k → same s (get_or words k []) ≡ false) → None ≡ some_place word_count (place_in s words)
  not_named h =
      let none : word_count ≤ place_in s words = omega (arith, not_found h) in
      simp (le-ltb _ _ none)

  pub named : (is : Bool) → first_word ≤ class → is ≡ same s (get_or words (class - first_word) [])
      → then_some is (class - first_word) ≡ some_place word_count (place_in s words)
  named true h q =
      let few = held.few in
      let e : class - first_word ≡ place_in s words = found (class - first_word) (omega arith) (omega arith) (sym q) in
      let inside : place_in s words < word_count = omega arith in
      rw e (simp (lt-ltb _ _ inside))
  named false h q = not_named (λ k e. let is : k ≡ class - first_word = omega arith in rw is (sym q))

-- what the answer says of the place
pub some_word : (place k : ℕ) → Some k ≡ some_place word_count place → (place < word_count) × (k ≡ place)
some_word place k e = go (dec_lt place word_count)
  where
    go : Dec (place < word_count) → (place < word_count) × (k ≡ place)
    go (yes h) =
        let is : Some k ≡ Some place = e ∙ simp (lt-ltb place word_count h) in
        (h, cc)
    go (no h) =
        let is : Some k ≡ None = e ∙ simp (le-ltb place word_count (omega arith)) in
        cc

pub no_word : (place : ℕ) → None ≡ some_place word_count place → word_count ≤ place
no_word place e = go (dec_lt place word_count)
  where
    go : Dec (place < word_count) → word_count ≤ place
    go (yes h) =
        let is : ◌≡◌ {A = Option ℕ} None (Some place) = e ∙ simp (lt-ltb place word_count h) in
        cc
    go (no h) = omega arith

-- among the joined spellings, a word's own stands where it starts
pub word_part : (ws : List (List ℕ)) (k : ℕ) → k < length ws
    → drop (start_of ws k) (joined ws) ≡ get_or ws k [] ++ drop (start_of ws (suc k)) (joined ws)
unfolding joined
word_part [] k h = absurd (omega arith)
word_part (w ∷ ws) zero h =
    let one : length (w ++ []) ≡ length w = rw append-nil refl in
    ap (λ (r : List ℕ). w ++ r) (sym (drop-append_seam w (joined ws))) ∙ ap (λ (n : ℕ). w ++ drop n (w ++ joined ws)) (sym one)
word_part (w ∷ ws) (suc k) h =
    simp (length-append, drop-append-add) (word_part ws k (omega arith))

-- and the next one starts where it ends
pub word_next : (ws : List (List ℕ)) (k : ℕ) → k < length ws → start_of ws (suc k) ≡ start_of ws k + length (get_or ws k [])
unfolding joined
word_next [] k h = absurd (omega arith)
word_next (w ∷ ws) zero h = rw append-nil (omega arith)
word_next (w ∷ ws) (suc k) h = simp length-append (omega (arith, word_next ws k (omega arith)))

pub start_inside : (ws : List (List ℕ)) (k : ℕ) → start_of ws k ≤ length (joined ws)
unfolding joined
start_inside [] zero = omega arith
start_inside [] (suc k) = omega arith
start_inside (w ∷ ws) zero = omega arith
start_inside (w ∷ ws) (suc k) = simp length-append (omega (arith, start_inside ws k))

-- spellings of different lengths are not the same
pub same_length : (xs ys : List ℕ) → (length xs ≡ length ys → ⊥) → same xs ys ≡ false
same_length xs ys h = go (same xs ys) refl
  where
    go : (b : Bool) → same xs ys ≡ b → same xs ys ≡ false
    go true e = absurd (h (ap length (same_equal xs ys e)))
    go false e = e

never : (b : Bool) → (b && false) ≡ false
never true = refl
never false = refl

both : (p q r : Bool) → (p && (q && r)) ≡ (q && (p && r))
both true true r = refl
both true false r = refl
both false true r = refl
both false false r = refl

-- those with a last byte each are the same where the last bytes are, and the bytes before them
pub same_last : (a b : List ℕ) (x y : ℕ) → same (a ++ (x ∷ [])) (b ++ (y ∷ [])) ≡ (eqb x y && same a b)
unfolding same
same_last [] [] x y = refl
same_last [] (v ∷ []) x y = never (eqb x v) ∙ sym (never (eqb x y))
same_last [] (v ∷ w ∷ b) x y = never (eqb x v) ∙ sym (never (eqb x y))
same_last (u ∷ []) [] x y = never (eqb u y) ∙ sym (never (eqb x y))
same_last (u ∷ v ∷ a) [] x y = never (eqb u y) ∙ sym (never (eqb x y))
same_last (u ∷ a) (v ∷ b) x y = ap (λ (t : Bool). eqb u v && t) (same_last a b x y) ∙ both (eqb u v) (eqb x y) (same a b)

-- a part of a list is what stands before its last byte, and that byte
pub part_last : (l : List ℕ) (i n last : ℕ) → n ≡ suc last → i + n ≤ length l → take n (drop i l) ≡ take last (drop i l) ++ (get_or l (i + last) 0 ∷ [])
part_last l i n last e h = rw (e, take-suc (drop i l) last 0 (omega (arith, length-drop i l)), get_or-drop)

-- the loop that compares two parts from their last bytes to the first: those passed are equal, so that what is left decides
abbrev pub Comparing : (a b : List ℕ) (i j n k : ℕ) → Type 0
Comparing a b i j n k = (k ≤ n) × (same (take n (drop i a)) (take n (drop j b)) ≡ same (take k (drop i a)) (take k (drop j b)))

module _ (a b : List ℕ) (i j n k : ℕ) (ha : i + n ≤ length a) (hb : j + n ≤ length b) (c : Comparing a b i j n k) where
  module _ (h : 0 < k) where
    by_last : same (take k (drop i a)) (take k (drop j b))
        ≡ (eqb (get_or a (i + (k - 1)) 0) (get_or b (j + (k - 1)) 0) && same (take (k - 1) (drop i a)) (take (k - 1) (drop j b)))
    by_last =
        let last : k ≡ suc (k - 1) = omega arith in
        let short : k ≤ n = c.0 in
        rw (part_last a i k (k - 1) last (omega arith), part_last b j k (k - 1) last (omega arith))
        (same_last (take (k - 1) (drop i a)) (take (k - 1) (drop j b)) _ _)

    pub last_agrees : get_or a (i + (k - 1)) 0 ≡ get_or b (j + (k - 1)) 0 → Comparing a b i j n (k - 1)
    last_agrees e = (omega (arith, c.0), c.1 ∙ by_last ∙ simp (eq-eqb _ _ e))

    pub last_differs : (get_or a (i + (k - 1)) 0 ≡ get_or b (j + (k - 1)) 0 → ⊥) → false ≡ same (take n (drop i a)) (take n (drop j b))
    last_differs e = sym (c.1 ∙ by_last ∙ simp (ne_eqb _ _ e))

  pub all_agree : k ≤ 0 → true ≡ same (take n (drop i a)) (take n (drop j b))
  unfolding same
  all_agree h = let none : k ≡ 0 = omega arith in sym (c.1 ∙ rw none)

-- where they stand among the joined spellings
module _ (ws : List (List ℕ)) where
  pub word_ends : (k : ℕ) → k < length ws → start_of ws (k + 1) ≡ start_of ws k + length (get_or ws k [])
  word_ends k h = rw (add-one k) (word_next ws k h)

  -- an entry of the starts is where the word at k starts
  unfoldable pub starts_there : ℕ → ℕ → Bool
  starts_there k start = eqb start (start_of ws k)

  -- starts that pass it say where each word's spelling starts, and where the last one ends
  pub starts_right : (starts : List ℕ) → length starts ≡ suc (length ws) → T (passes starts_there 0 starts) → (k : ℕ) → k ≤ length ws → get_or starts k 0 ≡ start_of ws k
  unfolding starts_there
  starts_right starts long t k h =
      eqb→eq (get_or starts k 0) (start_of ws k) (tested starts_there 0 starts t k (omega arith))

  -- the joined spellings, from where the word at k starts to where it ends
  module _ (spellings : List ℕ) (all : spellings ≡ joined ws) (k from to : ℕ) (h : k < length ws) (starts : from ≡ start_of ws k) (ends : to ≡ start_of ws (k + 1)) where
    pub word_within : Within spellings from to
    word_within =
        rw all (record { ordered = omega (arith, word_ends k h); inside = omega (arith, start_inside ws (k + 1)) })

    -- they are the word's own
    word_between : between spellings from to ≡ get_or ws k []
    word_between =
        let n : to - from ≡ length (get_or ws k []) = omega (arith, word_ends k h) in
        rw (n, starts, all, word_part ws k h)
        (take-append_seam (get_or ws k []) (drop (start_of ws (suc k)) (joined ws)))

    pub word_compared : (name : List ℕ) {r : Bool} → r ≡ same name (between spellings from to) → r ≡ same name (get_or ws k [])
    word_compared name q = q ∙ ap (same name) word_between

-- a part that is the whole text is the text
pub whole_text : (t : List ℕ) → between t 0 (length t) ≡ t
whole_text t = take_all (length t - 0) t (omega arith)

-- a part of a text has as many bytes as its ends lie apart
pub between_length : (t : List ℕ) (start end : ℕ) → Within t start end → length (between t start end) ≡ end - start
between_length t start end w = length-take-le (end - start) (drop start t) (omega (arith, length-drop start t, w.inside))

-- and its byte n on is the text's at the place k
pub between_byte : (t : List ℕ) (start end n k : ℕ) → start + n ≡ k → k < end → get_or (between t start end) n 0 ≡ get_or t k 0
between_byte t start end n k e h = get_or-take (end - start) (drop start t) n 0 (omega arith) ∙ byte_there t start n k e

-- the row of the word at k, whose first byte is the length that was read
module _ (table : List ℕ) (lookup : LookupTable table) (k size : ℕ) (h : k < word_count)
    (read : size ≡ get_or table (row_start k) 0) where
  -- the spelling behind it lies in the table
  pub row_within : Within table (row_start k + 1) (row_start k + 1 + size)
  row_within =
      let n = ap length (lookup.spellings k h) in
      record {
        ordered = omega arith;
        inside =
            omega (
              arith,
              n,
              length-take (length (get_or words k [])) (drop (row_start k + 1) table),
              length-drop (row_start k + 1) table,
              lookup.sizes k h,
              lookup.long,
            );
      }

  -- and is the word's own
  pub row_compared : (name : List ℕ) {r : Bool} → r ≡ same name (between table (row_start k + 1) (row_start k + 1 + size))
      → r ≡ same name (get_or words k [])
  row_compared name q =
      let n : row_start k + 1 + size - (row_start k + 1) ≡ length (get_or words k []) = omega (arith, lookup.sizes k h) in
      q ∙ ap (λ (m : ℕ). same name (take m (drop (row_start k + 1) table))) n ∙ ap (same name) (lookup.spellings k h)
