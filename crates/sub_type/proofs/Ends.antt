-- A span of tokens ends no further than the tokens go.
-- Assumes nothing.
use mathlib.Core.Path.{◌≡◌, refl}
use mathlib.Core.Bool.{Bool, true, false, cond}
use mathlib.Core.List.{List}
use Prim.Native.Nat.{ℕ, ◌≤◌}
use native.Mathlib.Omega.{arith}
use borrow.Author.Tests.{ltb-true}
use lib.Dec.{ltb}
use lib.ListN.{length}
use Rattle.definition.specs.declared.Span.{Span}
use Rattle.sub_type.specs.Number.{end_in}

pub end_inside : (cs : List ℕ) (s : Span) → end_in cs s ≤ length cs
end_inside cs s = go (ltb s.to (length cs)) refl
  where
    go : (b : Bool) → ltb s.to (length cs) ≡ b → cond b s.to (length cs) ≤ length cs
    go true e = omega (arith, ltb-true s.to (length cs) e)
    go false e = omega arith
