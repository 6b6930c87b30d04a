-- `names_module` is right because the name is compared with that of each module.
-- Assumes nothing.
use mathlib.Core.Path.{◌≡◌, refl}
use mathlib.Core.Bool.{Bool, true, false, cond, ◌||◌}
use mathlib.Core.List.{List, []}
use Prim.Native.Nat.{ℕ}
use native.Mathlib.Omega.{arith}
use lib.Dec.{ltb}
use lib.ListN.{get_or}
use Rattle.index.specs.First.{first, first_of, any}
use Rattle.lexicon.specs.Word.{bytes, same, joined}
use Rattle.lexicon.proofs.Words.{starts_there}
use Rattle.symbol.specs.Symbol.{modules, is_module}
use Rattle.symbol.proofs.Joined.{joined_table, part_within, part_compared}
use Rattle.symbol.proofs.part.names_module.Statement.{statement}
use Rattle.symbol.proofs.part.names_module.Tie as tie

-- one of the two
either_module : (s : List ℕ) → (same s (get_or modules 0 []) || same s (get_or modules 1 [])) ≡ is_module s
unfolding is_module any first first_of modules
either_module s = go (same s (get_or modules 0 [])) (same s (get_or modules 1 []))
  where
    go : (a b : Bool) → (a || b) ≡ ltb (cond a 0 (cond b 1 2)) 2
    go true b = refl
    go false true = refl
    go false false = refl

is-name-of-requires : tie.Need-is_name_of-requires
unfolding modules bytes joined starts_there
is-name-of-requires c κs =
    let s = c in
    (s.requires, (omega arith, part_within modules _ _ (joined_table modules _ _ refl refl tt) 0 (omega arith)))

is-name-of-requires-2 : tie.Need-is_name_of-requires-2
unfolding modules bytes joined starts_there
is-name-of-requires-2 c κs =
    let s = c in
    (s.requires, (omega arith, part_within modules _ _ (joined_table modules _ _ refl refl tt) 1 (omega arith)))

returns : tie.Need-returns
unfolding modules bytes joined starts_there
returns c =
    let first = part_compared modules _ _ (joined_table modules _ _ refl refl tt) 0 (omega arith) _ c.is_name_of.ensures in
    let second = part_compared modules _ _ (joined_table modules _ _ refl refl tt) 1 (omega arith) _ c.is_name_of-2.ensures in
    rw (first, second) (either_module _)

pub names_module_spec : {M : Type 1} → statement M
names_module_spec =
    tie.close
    (tie.spec
    is-name-of-requires
    is-name-of-requires-2
    returns)
