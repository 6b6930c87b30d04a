-- The first word of what is left of a line ends at the first separator, so a search for separators finds each word.
-- Assumes nothing.
use Prim.Native.Nat.{ℕ, zero, suc, ◌+◌, ◌-◌, ◌≤◌, ◌<◌}
use mathlib.Core.Path.{◌≡◌, refl, sym, ◌∙◌, ap, subst}
use mathlib.Core.Bool.{Bool, true, false, cond}
use mathlib.Core.List.{List, [], ◌∷◌}
use mathlib.Core.Logic.{◌⊎◌, inl, inr}
use native.Mathlib.Omega.{arith}
use native.Mathlib.Nat.{eq-or-lt_of_le}
use lib.Dec.{eqb}
use lib.ListN.{length, get_or, take, drop, length-take, length-drop}
use lib.Seq.{take_all, drop-drop}
use Rattle.std.specs.List.{position_or_len, slice_split, onto_first}
use Rattle.std.proofs.lemmas.List.Recursion.{is_position_or_len}
use Rattle.words.proofs.Left.{left}
use Rattle.words.specs.Words.{words, in_front, place, word_end, between, Stands, Found}
use Rattle.std.specs.Prelude.{Option, Some, None}
use Rattle.words.specs.declared.word.Place.{Place}

-- a place
abbrev at : ℕ → ℕ → Option Place
at from to = Some (record { from = from; to = to })

-- how many bytes stand before the first separator, where the first byte is one or not
abbrev index_after : Bool → ℕ → ℕ
index_after true k = 0
index_after false k = suc k

abbrev index_of : ℕ → List ℕ → ℕ
index_of s [] = 0
index_of s (b ∷ line) = index_after (eqb b s) (index_of s line)

-- a separator in the line ends the first word
parted : (s : ℕ) (line : List ℕ) → index_of s line < length line
    → words s line ≡ take (index_of s line) line ∷ words s (drop (suc (index_of s line)) line)
unfolding words
parted s [] inside = absurd (omega arith)
parted s (b ∷ line) inside = go (eqb b s) (parted s line) inside
  where
    k : ℕ
    k = index_of s line

    go : (t : Bool) → (k < length line → words s line ≡ take k line ∷ words s (drop (suc k) line))
        → index_after t k < suc (length line)
        → cond t ([] ∷ words s line) (in_front b (words s line))
        ≡ take (index_after t k) (b ∷ line) ∷ words s (drop (suc (index_after t k)) (b ∷ line))
    go true behind inside = refl
    go false behind inside = ap (in_front b) (behind (omega arith))

-- without one the line is one word
whole : (s : ℕ) (line : List ℕ) → length line ≤ index_of s line → words s line ≡ line ∷ []
unfolding words
whole s [] none = refl
whole s (b ∷ line) none = go (eqb b s) (whole s line) none
  where
    go : (t : Bool) → (length line ≤ index_of s line → words s line ≡ line ∷ [])
        → suc (length line) ≤ index_after t (index_of s line)
        → cond t ([] ∷ words s line) (in_front b (words s line)) ≡ (b ∷ line) ∷ []
    go true behind none = absurd (omega arith)
    go false behind none = ap (in_front b) (behind (omega arith))

-- a search that finds none ends at the line's end
reach : (s : ℕ) (line : List ℕ) → index_of s line ≤ length line
reach s [] = omega arith
reach s (b ∷ line) = go (eqb b s) (reach s line)
  where
    go : (t : Bool) → index_of s line ≤ length line → index_after t (index_of s line) ≤ suc (length line)
    go true behind = omega arith
    go false behind = omega arith

-- the words of what is left of a line from `from` on, whose first ends at `end`
module _ (s : ℕ) (line : List ℕ) (from end : ℕ) (low : from ≤ length line) (is : end ≡ from + index_of s (drop from line)) where
  words_left : end < length line → words s (drop from line) ≡ between from end line ∷ words s (drop (end + 1) line)
  words_left more =
      let k : ℕ = index_of s (drop from line) in
      let size : k ≡ end - from = omega arith in
      let next : from + suc k ≡ end + 1 = omega arith in
      parted s (drop from line) (omega (arith, length-drop from line))
      ∙ ap (λ (n : ℕ). take n (drop from line) ∷ words s (drop (suc k) (drop from line))) size
      ∙ ap (λ (l : List ℕ). between from end line ∷ words s l) (drop-drop (suc k) from line ∙ ap (λ (n : ℕ). drop n line) next)

  last_left : length line ≤ end → words s (drop from line) ≡ between from end line ∷ []
  last_left none =
      whole s (drop from line) (omega (arith, length-drop from line))
      ∙ ap (λ (l : List ℕ). l ∷ []) (sym (take_all (end - from) (drop from line) (omega (arith, length-drop from line))))

  word_size : end ≤ length line → from + length (between from end line) ≡ end
  word_size inside = omega (arith, length-take (end - from) (drop from line), length-drop from line)

  -- the place of a word behind the first
  pub place_next : (left : ℕ) → 0 < left → end < length line
      → place from (words s (drop from line)) left ≡ place (end + 1) (words s (drop (end + 1) line)) (left - 1)
  unfolding place
  place_next zero some more = absurd (omega arith)
  place_next (suc left) some more =
      let same : left ≡ suc left - 1 = omega arith in
      ap (λ (all : List (List ℕ)). place from all (suc left)) (words_left more)
      ∙ ap (λ (n : ℕ). place (n + 1) (words s (drop (end + 1) line)) left) (word_size (omega arith))
      ∙ ap (place (end + 1) (words s (drop (end + 1) line))) same

  pub place_none : (left : ℕ) → 0 < left → length line ≤ end → place from (words s (drop from line)) left ≡ None
  unfolding place
  place_none zero some none = absurd (omega arith)
  place_none (suc left) some none = ap (λ (all : List (List ℕ)). place from all (suc left)) (last_left none)

  -- in either case the first word comes first
  opened : (behind : List (List ℕ)) → words s (drop from line) ≡ between from end line ∷ behind
      → words s (drop from line) ≡ between from end line ∷ drop 1 (words s (drop from line))
  opened behind is = is ∙ ap (λ (all : List (List ℕ)). between from end line ∷ drop 1 all) (sym is)

  first_left : (end ≡ length line) ⊎ (end < length line)
      → words s (drop from line) ≡ between from end line ∷ drop 1 (words s (drop from line))
  first_left (inl none) = opened _ (last_left (omega arith))
  first_left (inr more) = opened _ (words_left more)

  -- the place of the first, and its bytes
  pub place_here : end ≤ length line → place from (words s (drop from line)) 0 ≡ Some (record { from = from; to = end })
  unfolding place
  place_here inside =
      ap (λ (all : List (List ℕ)). place from all 0) (first_left (eq-or-lt_of_le inside)) ∙ ap (λ (to : ℕ). at from to) (word_size inside)

  first_stands : end ≤ length line → Stands line (words s (drop from line)) 0 from end
  first_stands inside =
      let all = first_left (eq-or-lt_of_le inside) in
      record { ordered = omega arith; inside = inside; counted = rw all (omega arith); bytes = rw all }

-- a word more before the others
found_later : (line word : List ℕ) (all : List (List ℕ)) (index : ℕ) (found : Option Place) → Found line all index found
    → Found line (word ∷ all) (suc index) found
found_later line word all index (Some at) stands =
    record { ordered = stands.ordered; inside = stands.inside; counted = omega (arith, stands.counted); bytes = stands.bytes }
found_later line word all index None none = omega arith

-- at the place of the word of an index stand its bytes
abbrev FoundLeft : ℕ → List ℕ → ℕ → ℕ → Type 0
FoundLeft s line index from = Found line (words s (drop from line)) index (place from (words s (drop from line)) index)

found_next : (s : ℕ) (line : List ℕ) (index from end : ℕ) → from ≤ length line → end ≡ from + index_of s (drop from line)
    → ((at : ℕ) → at ≤ length line → FoundLeft s line index at) → (end ≡ length line) ⊎ (end < length line)
    → FoundLeft s line (suc index) from
found_next s line index from end low is behind (inl none) =
    let missing = place_none s line from end low is (suc index) (omega arith) (omega arith) in
    rw (missing, last_left s line from end low is (omega arith)) (omega arith)
found_next s line index from end low is behind (inr more) =
    let same : suc index - 1 ≡ index = omega arith in
    let next : List ℕ = drop (end + 1) line in
    rw (place_next s line from end low is (suc index) (omega arith) more, words_left s line from end low is more, same)
    (found_later line (between from end line) (words s next) index (place (end + 1) (words s next) index)
    (behind (end + 1) (omega arith)))

pub found_left : (s : ℕ) (line : List ℕ) (index from : ℕ) → from ≤ length line → FoundLeft s line index from
found_left s line zero from low =
    let end : ℕ = from + index_of s (drop from line) in
    let inside : end ≤ length line = omega (arith, reach s (drop from line), length-drop from line) in
    rw (place_here s line from end low refl inside) (first_stands s line from end low refl inside)
found_left s line (suc index) from low =
    let end : ℕ = from + index_of s (drop from line) in
    let inside : end ≤ length line = omega (arith, reach s (drop from line), length-drop from line) in
    found_next s line index from end low refl (found_left s line index) (eq-or-lt_of_le inside)

-- that is where std's search finds it
index_is : (s : ℕ) (line : List ℕ) → index_of s line ≡ position_or_len (λ b. eqb b s) line
index_is s line = is_position_or_len (index_of s) (λ b. eqb b s) refl (λ b rest. turn (eqb b s) (index_of s rest)) line
  where
    turn : (t : Bool) (k : ℕ) → index_after t k ≡ cond t 0 (1 + k)
    turn true k = refl
    turn false k = omega arith

-- a search in the line is one in what is left of it
pub searched : (s : ℕ) (line : List ℕ) (from end : ℕ) → end ≡ word_end s line from → end ≡ from + index_of s (drop from line)
searched s line from end is =
    is
    ∙ ap (λ (l : List ℕ). from + position_or_len (λ b. eqb b s) l) (take_all (length line - from) (drop from line) (omega (arith, length-drop from line)))
    ∙ ap (λ (k : ℕ). from + k) (sym (index_is s (drop from line)))

-- so the place is the whole answer
pub answered : (s : ℕ) (line : List ℕ) (index : ℕ) (found : Option Place) → found ≡ place 0 (words s line) index
    → (found ≡ place 0 (words s line) index) × Found line (words s line) index found
answered s line index found is = (is, rw is (found_left s line index 0 (omega arith)))

-- there is at least one word
pub some : (s : ℕ) (line : List ℕ) → 1 ≤ length (words s line)
unfolding words
some s [] = omega arith
some s (b ∷ line) = go (eqb b s) (words s line)
  where
    go : (t : Bool) (all : List (List ℕ)) → 1 ≤ length (cond t ([] ∷ all) (in_front b all))
    go true all = omega arith
    go false [] = omega arith
    go false (word ∷ all) = omega arith

-- the words are what std's `split` gives
pub split_words : (s : ℕ) (line : List ℕ) → words s line ≡ slice_split (λ b. eqb b s) line
unfolding words
split_words s [] = refl
split_words s (b ∷ line) = rw (split_words s line) (go (slice_split (λ b. eqb b s) line))
  where
    go : (all : List (List ℕ)) → cond (eqb b s) ([] ∷ all) (in_front b all) ≡ cond (eqb b s) ([] ∷ all) (onto_first b all)
    go [] = refl
    go (word ∷ all) = refl

-- what a caller knows that has matched on the answer
pub word_stands : (line : List ℕ) (all : List (List ℕ)) (index : ℕ) (found : Option Place) (at : Place) → found ≡ Some at
    → Found line all index found → Stands line all index at.from at.to
word_stands line all index found at is stands = subst (Found line all index) is stands

-- behind the last word there is none
past : (all : List (List ℕ)) (index : ℕ) → length all ≤ index → get_or all index [] ≡ []
past [] index none = refl
past (word ∷ all) zero none = absurd (omega arith)
past (word ∷ all) (suc index) none = past all index (omega arith)

pub no_word : (line : List ℕ) (all : List (List ℕ)) (index : ℕ) (found : Option Place) → found ≡ None → Found line all index found
    → get_or all index [] ≡ []
no_word line all index found missing is = past all index (subst (Found line all index) missing is)
