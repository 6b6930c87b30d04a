-- A name leads to one of 512 definitions at most.
-- Assumes nothing.
use mathlib.Core.Path.{◌≡◌, refl}
use mathlib.Core.Bool.{Bool, true, false, cond}
use mathlib.Core.List.{List}
use Prim.Native.Nat.{ℕ, ◌-◌, ◌≤◌}
use native.Mathlib.Omega.{arith}
use lib.Dec.{eqb, ltb}
use borrow.Author.Tests.{ltb-true}
use Rattle.module_table.specs.Lead.{lead_in, definition_number}
use Rattle.module_table.specs.Module.{most_definitions}
use Rattle.module_table.specs.declared.Lead.TheVariants.{Iso, Import, Definition, Nothing}
use Rattle.object_tree.specs.Words.{number_at}

word_few : (word : ℕ) → definition_number (lead_in word) ≤ most_definitions
unfolding lead_in
word_few word = go (eqb word 0) (eqb word 1) (ltb word 514) refl
  where
    go : (a b c : Bool) → ltb word 514 ≡ c
        → definition_number (cond a Nothing (cond b Iso (cond c (Definition (record { 0 = word - 2 })) (Import (word - 514))))) ≤ most_definitions
    go true b c e = omega arith
    go false true c e = omega arith
    go false false true e = omega (arith, ltb-true word 514 e)
    go false false false e = omega arith

pub number_few : (values : List ℕ) (i : ℕ) → number_at values i ≤ most_definitions
number_few values i = word_few _
