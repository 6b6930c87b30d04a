-- The rule of the byte class table, tested once over its 256 entries and carried to each byte, and what classes there are.
-- Assumes nothing.
use mathlib.Core.Path.{◌≡◌}
use mathlib.Core.Bool.{Bool, true, false}
use mathlib.Core.List.{List}
use Prim.Native.Nat.{ℕ, ◌≤◌}
use lib.Dec.{T, eqb, eqb→eq}
use lib.ListN.{length, get_or}
use borrow.Author.Tests.{le-leb, lt-leb}
use native.Mathlib.Decide.{dec_le}
use native.Mathlib.Omega.{arith}
use Rattle.lexicon.specs.Byte.{ClassTable, class_of, classed}
use Rattle.index.proofs.Tested.{passes, tested}

-- an entry is its byte's class
unfoldable pub right : ℕ → ℕ → Bool
right b class = eqb class (class_of b)

-- a table of 256 entries that passes it gives each byte its class
pub class_table : (table : List ℕ) → length table ≡ 256 → T (passes right 0 table) → ClassTable table
unfolding right
class_table table long t =
    record { gives = λ b h. eqb→eq (get_or table b 0) (class_of b) (tested right 0 table t b (omega arith)) }

-- a byte has a class k, or it has not
pub classed_as : (k b next : ℕ) → class_of b ≡ k → classed k k b next ≡ true
classed_as k b next e = rw e (simp (le-leb k k (omega arith)))

pub classed_not : (k b next : ℕ) → (class_of b ≡ k → ⊥) → classed k k b next ≡ false
classed_not k b next n = go (dec_le k (class_of b)) (dec_le (class_of b) k)
  where
    go : Dec (k ≤ class_of b) → Dec (class_of b ≤ k) → classed k k b next ≡ false
    go (yes a) (yes d) = absurd (n (omega arith))
    go (yes a) (no d) = simp (le-leb k (class_of b) a, lt-leb (class_of b) k (omega arith))
    go (no a) d = simp (lt-leb k (class_of b) (omega arith))
