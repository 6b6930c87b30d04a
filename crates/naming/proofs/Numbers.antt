-- The loop that stores the numbers of the imports.
-- Assumes nothing.
use mathlib.Core.Path.{◌≡◌, refl, sym, ap, ◌∙◌}
use mathlib.Core.Bool.{true, false}
use mathlib.Core.List.{List}
use Prim.Native.Nat.{ℕ, zero, suc, ◌+◌, ◌≤◌, ◌<◌}
use native.Mathlib.Decide.{ℕ_discrete}
use native.Mathlib.Omega.{arith}
use lib.IntN.{pos, neg_ℤ, nat_abs}
use lib.ListN.{length, get_or, set, length-set}
use lib.Seq.{get_or-set_same, get_or-set_other}
use Rattle.index.proofs.Search.{true_false}
use Rattle.lexicon.specs.Word.{is_name}
use Rattle.token.specs.Token.{Meaning}
use Rattle.token.specs.Cut.{said}
use Rattle.definition.specs.Landmark.{class_at}
use Rattle.scope.specs.Token.{classes_of}
use Rattle.scope.specs.Import.{imports_end}
use Rattle.naming.specs.Told.{NumbersFilled}

-- the magnitude of a negative number
pub magnitude_negative : (n : ℕ) → nat_abs (neg_ℤ (pos n)) ≡ n
magnitude_negative zero = refl
magnitude_negative (suc n) = refl

-- it is at token i
pub record Numbering (ms : List Meaning) (old : List ℕ) (i : ℕ) (values : List ℕ) : Type 0 where
  pub long : length values ≡ length old
  pub number : (j : ℕ) → j < i → is_name (class_at (classes_of ms) j) ≡ false → get_or values j 0 ≡ nat_abs (said ms j).value
  pub named : (j : ℕ) → is_name (class_at (classes_of ms) j) ≡ true → get_or values j 0 ≡ get_or old j 0
  pub behind : (j : ℕ) → i ≤ j → get_or values j 0 ≡ get_or old j 0

pub numbering_start : (ms : List Meaning) (old : List ℕ) → Numbering ms old 0 old
numbering_start ms old = record {
  long = refl;
  number = λ j h e. absurd (omega arith);
  named = λ j e. refl;
  behind = λ j h. refl;
}

module _ (ms : List Meaning) (old : List ℕ) (i : ℕ) (values : List ℕ) (n : Numbering ms old i values) where
  pub numbering_number : is_name (class_at (classes_of ms) i) ≡ false → i < length values → (w : ℕ) → w ≡ nat_abs (said ms i).value → Numbering ms old (i + 1) (set values i w)
  numbering_number e room w is = record {
    long = length-set values i w ∙ n.long;
    number = λ j h q. number j h q (ℕ_discrete j i);
    named = λ j q. get_or-set_other values i j w 0 (λ s. absurd (true_false q (ap (λ (x : ℕ). is_name (class_at (classes_of ms) x)) s ∙ e))) ∙ n.named j q;
    behind = λ j h. get_or-set_other values i j w 0 (λ s. omega arith) ∙ n.behind j (omega arith);
  }
    where
      number : (j : ℕ) → j < i + 1 → is_name (class_at (classes_of ms) j) ≡ false → Dec (j ≡ i) → get_or (set values i w) j 0 ≡ nat_abs (said ms j).value
      number j h q (yes same) = rw same (get_or-set_same values i w 0 room ∙ is)
      number j h q (no other) = get_or-set_other values i j w 0 other ∙ n.number j (omega arith) q

  pub numbering_skip : is_name (class_at (classes_of ms) i) ≡ true → Numbering ms old (i + 1) values
  numbering_skip e = record {
    long = n.long;
    number = λ j h q. number j h q (ℕ_discrete j i);
    named = n.named;
    behind = λ j h. n.behind j (omega arith);
  }
    where
      number : (j : ℕ) → j < i + 1 → is_name (class_at (classes_of ms) j) ≡ false → Dec (j ≡ i) → get_or values j 0 ≡ nat_abs (said ms j).value
      number j h q (yes same) = absurd (true_false e (ap (λ (x : ℕ). is_name (class_at (classes_of ms) x)) (sym same) ∙ q))
      number j h q (no other) = n.number j (omega arith) q

  pub numbering_end : i ≡ imports_end (classes_of ms) → NumbersFilled ms old values
  numbering_end is = record {
    number = λ j h e. n.number j (omega arith) e;
    named = n.named;
    behind = λ j h. n.behind j (omega arith);
  }
