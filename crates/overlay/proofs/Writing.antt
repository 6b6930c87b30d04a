-- The laws of writing numbers to the start of a buffer: a loop that writes one after the other, and a second writer that is lent
-- the rest.
-- Assumes nothing.
use mathlib.Core.Path.{◌≡◌, refl, sym, ap, ◌∙◌}
use mathlib.Core.List.{List, [], ◌∷◌, ◌++◌, append_assoc, append-nil}
use Prim.Native.Nat.{ℕ, suc, ◌+◌, ◌-◌, ◌≤◌, ◌<◌}
use native.Mathlib.Nat.{add-zero}
use native.Mathlib.Numerals.{add-one}
use native.Mathlib.Omega.{arith}
use lib.ListN.{length, get_or, take, drop, set, length-append, length-drop, drop_of_length-le}
use lib.Seq.{drop-cons, set_at, take_at, drop_at, take-suc, take_all, drop-drop, get_or-drop, length-take-le}
use Rattle.token.specs.Table.{overlaid}
use Rattle.overlay.specs.Writing.{Written}

-- what is laid over the start of a buffer leaves its length
pub overlaid_length : (numbers before : List ℕ) → length numbers ≤ length before → length (overlaid numbers before) ≡ length before
overlaid_length numbers before room = simp (length-append, length-drop) (omega arith)

-- no numbers are written by doing nothing
pub written_none : (numbers before : List ℕ) → numbers ≡ [] → Written numbers 0 before before
written_none numbers before none = rw none (record { counted = refl; held = refl })

-- what is laid over the rest behind what lies at the start: both lie at the start, one behind the other
pub overlaid_rest : (a b before : List ℕ) → a ++ overlaid b (drop (length a) before) ≡ overlaid (a ++ b) before
overlaid_rest a b before = simp (length-append, drop-drop, append_assoc)

-- a store behind what lies at the start: one number more lies there
overlaid_next : (a before : List ℕ) (k number : ℕ) → length a ≡ k → k < length before → set (overlaid a before) k number ≡ overlaid (a ++ (number ∷ [])) before
overlaid_next a before k number long room =
    ap (λ (l : List ℕ). set (a ++ l) k number) (drop-cons before (length a) 0 (omega arith))
    ∙ set_at a (get_or before (length a) 0) (drop (suc (length a)) before) number k long
    ∙ simp (length-append, add-one, append_assoc)

-- ---- a loop that writes one number after the other

-- the first `count` of the numbers are written
pub record Writing (numbers : List ℕ) (count : ℕ) (before after : List ℕ) : Type 0 where
  pub some : count ≤ length numbers
  pub held : after ≡ overlaid (take count numbers) before

pub writing_start : (numbers before : List ℕ) → Writing numbers 0 before before
writing_start numbers before = record { some = omega arith; held = refl }

module _ (numbers : List ℕ) (count : ℕ) (before after : List ℕ) (room : length numbers ≤ length before) (w : Writing numbers count before after) where
  taken : length (take count numbers) ≡ count
  taken = length-take-le count numbers w.some

  pub writing_length : length after ≡ length before
  writing_length = ap length w.held ∙ overlaid_length (take count numbers) before (omega (arith, taken, w.some))

  pub writing_more : count < length numbers → (number : ℕ) → number ≡ get_or numbers count 0 → Writing numbers (count + 1) before (set after count number)
  writing_more more number is = record {
    some = omega arith;
    held =
        ap (λ (l : List ℕ). set l count number) w.held
        ∙ overlaid_next (take count numbers) before count number taken (omega arith)
        ∙ ap (λ (l : List ℕ). overlaid l before)
        (ap (λ (v : ℕ). take count numbers ++ (v ∷ [])) is ∙ sym (take-suc numbers count 0 more) ∙ ap (λ (k : ℕ). take k numbers) (sym (add-one count)));
  }

  pub writing_end : length numbers ≤ count → Written numbers count before after
  writing_end all = record {
    counted = omega (arith, w.some);
    held = w.held ∙ ap (λ (l : List ℕ). overlaid l before) (take_all count numbers all);
  }

-- ---- what is left of the numbers

module _ (numbers : List ℕ) (count number : ℕ) (rest : List ℕ) (left : drop count numbers ≡ number ∷ rest) where
  pub more_left : count < length numbers
  more_left = omega (arith, length-drop count numbers, ap length left)

  pub next_left : number ≡ get_or numbers count 0
  next_left =
      sym (ap (λ (l : List ℕ). get_or l 0 0) left) ∙ get_or-drop count numbers 0 0 ∙ ap (λ (k : ℕ). get_or numbers k 0) (add-zero count)

  pub rest_left : drop (count + 1) numbers ≡ rest
  rest_left = sym (drop-drop 1 count numbers) ∙ ap (drop 1) left

pub none_left : (numbers : List ℕ) (count : ℕ) → drop count numbers ≡ [] → length numbers ≤ count
none_left numbers count left = omega (arith, length-drop count numbers, ap length left)

-- ---- two writers in a row: the second is lent the rest of the buffer, behind the numbers of the first

-- the rest that is lent, and the buffer when it has come back
abbrev pub lent : List ℕ → ℕ → List ℕ
lent buffer from = take (length buffer - from) (drop from buffer)

abbrev pub returned : List ℕ → ℕ → List ℕ → List ℕ
returned buffer from rest = take from buffer ++ (rest ++ drop (length buffer - from) (drop from buffer))

module _ (a b before middle : List ℕ) (m : ℕ) (room : length (a ++ b) ≤ length before) (w : Written a m before middle) where
  middle_length : length middle ≡ length before
  middle_length = ap length w.held ∙ overlaid_length a before (omega (arith, length-append a b))

  -- the first one's numbers lie in the buffer
  pub first_inside : m ≤ length middle
  first_inside = omega (arith, middle_length, length-append a b, w.counted)

  lent_is : lent middle m ≡ drop (length a) before
  lent_is =
      take_all (length middle - m) (drop m middle) (omega (arith, length-drop m middle))
      ∙ ap (drop m) w.held ∙ drop_at a (drop (length a) before) m (sym w.counted)

  -- there is room for the second one's
  pub second_room : length b ≤ length (lent middle m)
  second_room = omega (arith, ap length lent_is, length-drop (length a) before, length-append a b)

  module _ (rest : List ℕ) (n : ℕ) (v : Written b n (lent middle m) rest) where
    returned_is : returned middle m rest ≡ overlaid (a ++ b) before
    returned_is =
        ap (λ (l : List ℕ). l ++ (rest ++ drop (length middle - m) (drop m middle)))
        (ap (take m) w.held ∙ take_at a (drop (length a) before) m (sym w.counted))
        ∙ ap (λ (l : List ℕ). a ++ (rest ++ l)) (drop_of_length-le (drop m middle) {i = length middle - m} (omega (arith, length-drop m middle)))
        ∙ ap (λ (l : List ℕ). a ++ l) (append-nil rest ∙ v.held ∙ ap (overlaid b) lent_is)
        ∙ overlaid_rest a b before

    pub returned_length : length (returned middle m rest) ≡ length before
    returned_length = ap length returned_is ∙ overlaid_length (a ++ b) before room

    -- both lie at the start, without a gap
    pub written_both : Written (a ++ b) (m + n) before (returned middle m rest)
    written_both = record {
      counted = omega (arith, w.counted, v.counted, length-append a b);
      held = returned_is;
    }
