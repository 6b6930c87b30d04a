-- One byte more of a word whose octets are read: it is passed over, an octet goes behind those that were put, or there are none.
-- Assumes nothing.
use Prim.Native.Nat.{ℕ, ◌+◌, ◌≤◌, ◌<◌}
use mathlib.Core.Path.{◌≡◌, refl, sym, ap, ◌∙◌}
use mathlib.Core.List.{List, [], ◌∷◌, ◌++◌, append_assoc, append-nil}
use native.Mathlib.Omega.{arith}
use native.Mathlib.Numerals.{add-one}
use lib.ListN.{length, get_or, take, drop, set}
use lib.Seq.{get_or-drop, take-suc-set}
use Rattle.words.proofs.Left.{left, ended}
use Rattle.words.specs.Octets.{Writing, octets, none, step, after, joined, in_front, octets_from}
use Rattle.words.specs.declared.octets.Before.{Before}
use Rattle.std.specs.Prelude.{Some, None}
use Rattle.words.specs.declared.octets.Step.TheVariants.{Pass, Put}

-- octets in front of those that the other bytes write
abbrev pub whole : List ℕ → Writing → Writing
whole put (octets others) = octets (put ++ others)
whole put none = none

pub whole_none : (writing : Writing) → whole [] writing ≡ writing
whole_none (octets others) = refl
whole_none none = refl

whole_more : (put : List ℕ) (octet : ℕ) (others : Writing) → whole put (in_front octet others) ≡ whole (put ++ (octet ∷ [])) others
unfolding in_front
whole_more put octet (octets others) = ap octets (sym (append_assoc put (octet ∷ []) others))
whole_more put octet none = refl

next_byte : (word : List ℕ) (i : ℕ) → get_or (drop i word) 0 0 ≡ get_or word i 0
next_byte word i = let here : i + 0 ≡ i = omega arith in get_or-drop i word 0 0 ∙ ap (λ (k : ℕ). get_or word k 0) here

-- what a byte does, and what the others write
from_here : (word : List ℕ) (i : ℕ) (before : Before) → i < length word
    → octets_from before (drop i word)
    ≡ joined (step before (get_or word i 0) (get_or word (i + 1) 0))
    (octets_from (after (step before (get_or word i 0) (get_or word (i + 1) 0))) (drop (i + 1) word))
unfolding octets_from
from_here word i before inside = simp (left word i inside, next_byte word (i + 1))

module _ (word put : List ℕ) (all : Writing) (i : ℕ) (before : Before) (inside : i < length word)
    (so_far : whole put (octets_from before (drop i word)) ≡ all) where
  here : whole put
      (joined (step before (get_or word i 0) (get_or word (i + 1) 0))
      (octets_from (after (step before (get_or word i 0) (get_or word (i + 1) 0))) (drop (i + 1) word)))
      ≡ all
  here = rw (from_here word i before inside) at so_far

  pub passed : (next : Before) → step before (get_or word i 0) (get_or word (i + 1) 0) ≡ Some (Pass next)
      → whole put (octets_from next (drop (i + 1) word)) ≡ all
  unfolding joined after
  passed next does = rw does at here

  pub octet_put : (octet : ℕ) (next : Before) → step before (get_or word i 0) (get_or word (i + 1) 0) ≡ Some (Put octet next)
      → whole (put ++ (octet ∷ [])) (octets_from next (drop (i + 1) word)) ≡ all
  unfolding joined after
  octet_put octet next does = sym (whole_more put octet (octets_from next (drop (i + 1) word))) ∙ (rw does at here)

  pub no_octets : step before (get_or word i 0) (get_or word (i + 1) 0) ≡ None → none ≡ all
  unfolding joined after
  no_octets does = rw does at here

-- all is read once the word has ended
pub all_read : (word put : List ℕ) (all : Writing) (i : ℕ) (before : Before) → i ≤ length word → length word ≤ i
    → whole put (octets_from before (drop i word)) ≡ all → octets put ≡ all
unfolding octets_from
all_read word put all i before low high so_far = ap octets (sym (append-nil put)) ∙ (simp (ended word i low high) at so_far)

-- an octet more in the buffer
pub stored : (out : List ℕ) (n octet : ℕ) → n < length out → take (n + 1) (set out n octet) ≡ take n out ++ (octet ∷ [])
stored out n octet room = rw (add-one, take-suc-set out n octet room)
