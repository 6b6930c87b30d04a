-- Numbers that are laid into a buffer at an index: copied there one after the other, and written by a writer that is lent the rest.
-- Assumes nothing.
use mathlib.Core.Path.{◌≡◌, sym, ap, ◌∙◌}
use mathlib.Core.List.{List, [], ◌++◌, append_assoc, append-nil}
use Prim.Native.Nat.{ℕ, ◌+◌, ◌-◌, ◌≤◌, ◌<◌}
use native.Mathlib.Numerals.{add-one}
use native.Mathlib.Omega.{arith}
use lib.ListN.{length, get_or, take, drop, set, length-append, length-drop, drop_of_length-le, get_or-append}
use lib.Seq.{take_all, take_at, drop_at, drop-drop, get_or-take, get_or-drop, length-take-le, paste, paste-zero, paste-suc, length-paste, take-append_seam, drop-append_seam, take-length}
use Rattle.token.specs.Table.{overlaid}
use Rattle.overlay.specs.Writing.{Written}
use Rattle.oid_number.specs.Buffer.{laid_at}
use Rattle.overlay.proofs.Writing.{lent, returned, overlaid_rest}

-- nothing is laid by doing nothing
pub laid_none : (i : ℕ) (numbers before : List ℕ) → numbers ≡ [] → before ≡ laid_at i numbers before
laid_none i numbers before none = rw none (paste-zero before i [])

-- ---- a loop that copies one number after the other to behind them

-- the first j of `count` numbers from a on are copied to b
pub record Copying (before : List ℕ) (a b count j : ℕ) (after : List ℕ) : Type 0 where
  pub some : j ≤ count
  pub held : after ≡ paste before b (take count (drop a before)) j

module _ (before : List ℕ) (a b count : ℕ) (apart : a + count ≤ b) (room : b + count ≤ length before) where
  abbrev run : List ℕ
  run = take count (drop a before)

  run_length : length run ≡ count
  run_length = length-take-le count (drop a before) (omega (arith, length-drop a before))

  pub copying_start : Copying before a b count 0 before
  copying_start = record { some = omega arith; held = paste-zero before b run }

  module _ (j : ℕ) (after : List ℕ) (w : Copying before a b count j after) where
    pub copying_length : length after ≡ length before
    copying_length = ap length w.held ∙ length-paste before b run j (omega (arith, w.some)) (omega (arith, run_length, w.some))

    module _ (h : j < count) where
      -- what is read is as it was
      read : get_or after (a + j) 0 ≡ get_or run j 0
      read =
          let head = length-append (take b before) (take j run) in
          let taken = length-take-le b before (omega arith) in
          ap (λ (l : List ℕ). get_or l (a + j) 0) w.held
          ∙ get_or-append (take b before ++ take j run) (drop (b + j) before) 0 (a + j) (omega (arith, head, taken))
          ∙ get_or-append (take b before) (take j run) 0 (a + j) (omega (arith, taken))
          ∙ get_or-take b before (a + j) 0 (omega arith)
          ∙ sym (get_or-take count (drop a before) j 0 h ∙ get_or-drop a before j 0)

      pub copying_more : Copying before a b count (j + 1) (set after (b + j) (get_or after (a + j) 0))
      copying_more = record {
        some = omega arith;
        held =
            ap (set after (b + j)) read
            ∙ ap (λ (l : List ℕ). set l (b + j) (get_or run j 0)) w.held
            ∙ paste-suc before b run j 0 (omega arith) (omega (arith, run_length))
            ∙ ap (paste before b run) (sym (add-one j));
      }

    pub copying_end : count ≤ j → after ≡ laid_at b run before
    copying_end all =
        let same : j ≡ length run = omega (arith, run_length, w.some) in
        w.held ∙ ap (paste before b run) same ∙ ap (λ (l : List ℕ). take b before ++ l ++ drop (b + length run) before) (take-length run)

-- ---- a writer that is lent the rest, behind numbers that are laid

module _ (i : ℕ) (a b before middle : List ℕ) (m : ℕ) (room : i + length (a ++ b) ≤ length before) (held : middle ≡ laid_at i a before) (at : m ≡ i + length a) where
  abbrev first : List ℕ
  first = take i before ++ a

  first_length : length first ≡ m
  first_length = length-append (take i before) a ∙ omega (arith, length-take-le i before (omega (arith, length-append a b)))

  middle_is : middle ≡ first ++ drop m before
  middle_is = held ∙ ap (λ (n : ℕ). first ++ drop n before) (sym at)

  laid_length : length middle ≡ length before
  laid_length =
      ap length middle_is ∙ length-append first (drop m before)
      ∙ omega (arith, first_length, length-drop m before, length-append a b)

  pub laid_inside : m ≤ length middle
  laid_inside = omega (arith, laid_length, length-append a b)

  lent_is : lent middle m ≡ drop m before
  lent_is =
      take_all (length middle - m) (drop m middle) (omega (arith, length-drop m middle))
      ∙ ap (drop m) middle_is ∙ drop_at first (drop m before) m first_length

  pub laid_room : length b ≤ length (lent middle m)
  laid_room = omega (arith, ap length lent_is, length-drop m before, length-append a b)

  module _ (rest : List ℕ) (n : ℕ) (w : Written b n (lent middle m) rest) where
    pub laid_both : returned middle m rest ≡ laid_at i (a ++ b) before
    laid_both =
        let end : m + length b ≡ i + length (a ++ b) = omega (arith, length-append a b) in
        ap (λ (l : List ℕ). l ++ (rest ++ drop (length middle - m) (drop m middle)))
        (ap (take m) middle_is ∙ take_at first (drop m before) m first_length)
        ∙ ap (λ (l : List ℕ). first ++ (rest ++ l)) (drop_of_length-le (drop m middle) {i = length middle - m} (omega (arith, length-drop m middle)))
        ∙ ap (λ (l : List ℕ). first ++ l) (append-nil rest ∙ w.held ∙ ap (overlaid b) lent_is)
        ∙ ap (λ (l : List ℕ). first ++ (b ++ l)) (drop-drop (length b) m before ∙ ap (λ (k : ℕ). drop k before) end)
        ∙ sym (append_assoc first b (drop (i + length (a ++ b)) before))
        ∙ ap (λ (l : List ℕ). l ++ drop (i + length (a ++ b)) before) (append_assoc (take i before) a b)

    pub both_length : length (returned middle m rest) ≡ length before
    both_length =
        ap length laid_both
        ∙ length-append (take i before ++ (a ++ b)) (drop (i + length (a ++ b)) before)
        ∙ omega (
          arith,
          length-append (take i before) (a ++ b),
          length-take-le i before (omega arith),
          length-drop (i + length (a ++ b)) before,
        )

-- ---- numbers at the start, and more laid behind them

pub overlaid_more : (a b base buffer : List ℕ) (i : ℕ) → buffer ≡ overlaid a base → i ≡ length a → laid_at i b buffer ≡ overlaid (a ++ b) base
overlaid_more a b base buffer i held at =
    ap (λ (l : List ℕ). laid_at i b l) held
    ∙ ap (λ (n : ℕ). laid_at n b (overlaid a base)) at
    ∙ ap (λ (l : List ℕ). l ++ b ++ drop (length a + length b) (overlaid a base)) (take-append_seam a (drop (length a) base))
    ∙ ap (λ (l : List ℕ). a ++ b ++ l)
    (sym (drop-drop (length b) (length a) (overlaid a base)) ∙ ap (drop (length b)) (drop-append_seam a (drop (length a) base)))
    ∙ append_assoc a b (drop (length b) (drop (length a) base))
    ∙ overlaid_rest a b base

-- the numbers at the start of a buffer
pub overlaid_first : (a base buffer : List ℕ) → buffer ≡ overlaid a base → take (length a) buffer ≡ a
overlaid_first a base buffer held = ap (take (length a)) held ∙ take-append_seam a (drop (length a) base)
