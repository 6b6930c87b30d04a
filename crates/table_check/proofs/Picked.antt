-- The first clause of a definition, by the first of each part.
-- Assumes nothing.
use mathlib.Core.Path.{◌≡◌, refl}
use mathlib.Core.Bool.{Bool, true, false, not}
use mathlib.Core.List.{List}
use Prim.Native.Nat.{ℕ}
use native.Mathlib.Omega.{arith}
use lib.Dec.{eqb, ltb}
use borrow.Author.Tests.{lt-ltb, le-ltb}
use Rattle.module_table.specs.Definition.{entry}
use Rattle.module_table.specs.declared.Definition.{Definition}
use Rattle.object_tree.specs.Words.{is_object}
use Rattle.index.specs.Choice.{when◌then◌else◌}
use Rattle.clause_table.specs.Clause.{rowless_table, stray_row, unindexed_row, indexed_object, repeating_row, misnaming_row, unlisted_column, unfounded_augments}
use Rattle.clause_table.specs.Held.{row_clause, name_clause}
use Rattle.table_check.specs.Found.{picked}
use Rattle.table_check.specs.Refusal.{clause_of}

pub clause_picked : (ds : List Definition) (values numbers : List ℕ) (k : ℕ) → picked (entry ds k) (row_clause ds numbers k) (name_clause ds values k) ≡ clause_of ds values numbers k
unfolding clause_of row_clause name_clause
clause_picked ds values numbers k =
    go (not (is_object (entry ds k))) (rowless_table ds numbers k) (stray_row ds numbers k) (unindexed_row (entry ds k)) (indexed_object (entry ds k))
  where
    rest : ℕ
    rest = when repeating_row ds values k then 5 else when misnaming_row ds values k then 6 else when unlisted_column ds values k then 7 else when unfounded_augments ds values (entry ds k) then 8 else 0

    go : (o a b c d : Bool) → (when o then 0 else when eqb (when a then 1 else when b then 2 else when c then 3 else when d then 4 else 0) 0 then rest else when a then 1 else when b then 2 else when c then 3 else when d then 4 else 0)
        ≡ (when o then 0 else when a then 1 else when b then 2 else when c then 3 else when d then 4 else rest)
    go true a b c d = refl
    go false true b c d = refl
    go false false true c d = refl
    go false false false true d = refl
    go false false false false true = refl
    go false false false false false = refl

-- a clause other than 0 is a breach
pub nonzero_breach : (n : ℕ) → (n ≡ 0 → ⊥) → ltb 0 n ≡ true
nonzero_breach n other = lt-ltb 0 n (omega arith)

pub zero_kept : (n : ℕ) → n ≡ 0 → ltb 0 n ≡ false
zero_kept n e = le-ltb 0 n (omega arith)

-- the same is picked of the same
pub picked_same : {d e : Definition} {a b x y : ℕ} → d ≡ e → a ≡ b → x ≡ y → picked d a x ≡ picked e b y
picked_same p q r = λ i. picked (p i) (q i) (r i)
