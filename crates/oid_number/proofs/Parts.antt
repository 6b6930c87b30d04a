-- The loop that writes the numbers of an OID's own parts, token by token.
-- Assumes nothing.
use mathlib.Core.Path.{◌≡◌, refl, ap, ◌∙◌}
use mathlib.Core.Bool.{true, false}
use mathlib.Core.List.{List, ◌∷◌, map}
use Prim.Native.Nat.{ℕ, suc, ◌+◌, ◌≤◌, ◌<◌}
use native.Mathlib.Numerals.{add-one}
use native.Mathlib.Omega.{arith}
use lib.ListN.{length, get_or, drop, set}
use Rattle.index.specs.First.{hits}
use Rattle.index.proofs.Hits.{hits_hit, hits_miss, hits_none}
use Rattle.definition.specs.declared.Span.{Span}
use Rattle.oid_number.specs.Number.{is_number, number_tokens, parts_in}
use Rattle.overlay.specs.Writing.{Written}
use Rattle.overlay.proofs.Writing.{Writing, writing_start, writing_length, writing_more, writing_end, more_left, next_left, rest_left, none_left}

module _ (classes values : List ℕ) (span : Span) where
  -- the numbers to be written
  abbrev parts : List ℕ
  parts = parts_in classes values span

  -- the values of these tokens
  abbrev values_at : List ℕ → List ℕ
  values_at tokens = map (λ (i : ℕ). get_or values i 0) tokens

  -- the loop is at token i and has written `count` numbers: those of the tokens from i on are left
  pub record WritingParts (before : List ℕ) (i count : ℕ) (after : List ℕ) : Type 0 where
    pub writing : Writing parts count before after
    pub left : drop count parts ≡ values_at (hits (is_number classes) i span.to)

  pub parts_start : (before : List ℕ) → WritingParts before span.from 0 before
  unfolding parts_in number_tokens
  parts_start before = record { writing = writing_start parts before; left = refl }

  module _ (before after : List ℕ) (i count : ℕ) (room : length parts ≤ length before) (w : WritingParts before i count after) where
    pub parts_length : length after ≡ length before
    parts_length = writing_length parts count before after room w.writing

    module _ (inside : i < span.to) where
      module _ (is : is_number classes i ≡ true) where
        left_here : drop count parts ≡ get_or values i 0 ∷ values_at (hits (is_number classes) (suc i) span.to)
        left_here = w.left ∙ ap values_at (hits_hit (is_number classes) i span.to inside is)

        -- there is room for the number of this token
        pub part_room : count < length after
        part_room = omega (arith, more_left parts count _ _ left_here, parts_length)

        pub parts_more : (v : ℕ) → v ≡ get_or values i 0 → WritingParts before (i + 1) (count + 1) (set after count v)
        parts_more v value = record {
          writing = writing_more parts count before after room w.writing (more_left parts count _ _ left_here) v (value ∙ next_left parts count _ _ left_here);
          left = rw (add-one i) (rest_left parts count _ _ left_here);
        }

      -- a token that is no number is passed
      pub parts_pass : is_number classes i ≡ false → WritingParts before (i + 1) count after
      parts_pass other = record {
        writing = w.writing;
        left = rw (add-one i) (w.left ∙ ap values_at (hits_miss (is_number classes) i span.to inside other));
      }

    pub parts_end : span.to ≤ i → Written parts count before after
    parts_end past =
        writing_end parts count before after room w.writing
        (none_left parts count (w.left ∙ ap values_at (hits_none (is_number classes) i span.to past)))
