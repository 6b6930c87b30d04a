-- No definition starts inside another: a definition ends where the next of the definitions starts or, at END, before it.
-- Assumes nothing.
use mathlib.Core.Path.{◌≡◌}
use mathlib.Core.Bool.{true, or-true}
use mathlib.Core.List.{List}
use Prim.Native.Nat.{ℕ, suc, ◌+◌, ◌≤◌, ◌<◌}
use native.Mathlib.Decide.{dec_lt}
use native.Mathlib.Numerals.{add-one}
use native.Mathlib.Omega.{arith}
use lib.Dec.{eqb}
use lib.ListN.{length, get_or}
use Rattle.index.specs.First.{first}
use Rattle.index.proofs.Search.{true_false, first_inside, first_holds, first_passed, first_later}
use Rattle.index.proofs.Hits.{hit_inside, next_hit}
use Rattle.terminal.specs.Terminal.{END}
use Rattle.definition.specs.Landmark.{class_at, begins, closes, last_token, definitions, definition_end}

module _ (cs : List ℕ) (d : ℕ) (h : d < last_token cs) where
  -- the end lies after the name, and not after the last token
  pub end_inside : (d < definition_end cs d) × (definition_end cs d ≤ last_token cs)
  unfolding definition_end
  end_inside = let i = first_inside (closes cs) (d + 1) (last_token cs) (omega arith) in (omega (arith, i.0), i.1)

  -- it does not lie after the next start
  pub end_before_next : definition_end cs d ≤ first (begins cs) (d + 1) (last_token cs)
  unfolding definition_end closes
  end_before_next = go (dec_lt next (first (closes cs) (d + 1) (last_token cs)))
    where
      next : ℕ
      next = first (begins cs) (d + 1) (last_token cs)

      either : begins cs next ≡ true → closes cs next ≡ true
      either e = rw e (or-true (eqb (class_at cs next) END))

      go : Dec (next < first (closes cs) (d + 1) (last_token cs)) → first (closes cs) (d + 1) (last_token cs) ≤ next
      go (yes l) =
          let from = first_inside (begins cs) (d + 1) (last_token cs) (omega arith) in
          absurd (true_false
          (either (first_holds (begins cs) (d + 1) (last_token cs) (omega (arith, end_inside.1)) (omega arith)))
          (first_passed (closes cs) (d + 1) (last_token cs) next from.0 l))
      go (no l) = omega arith

  -- so the next start is the first from the end on
  pub next_from_end : first (begins cs) (definition_end cs d) (last_token cs) ≡ first (begins cs) (d + 1) (last_token cs)
  next_from_end =
      first_later (begins cs) (d + 1) (definition_end cs d) (last_token cs) (omega (arith, end_inside.0)) end_before_next end_inside.1

pub definition_next : (cs : List ℕ) (k : ℕ) → k < length (definitions cs)
    → definition_end cs (get_or (definitions cs) k 0) ≤ get_or (definitions cs) (suc k) (last_token cs)
unfolding definitions
definition_next cs k h =
    let d = get_or (definitions cs) k 0 in
    omega (arith, end_before_next cs d (hit_inside (begins cs) 0 (last_token cs) k h).1, rw (← add-one d) at (next_hit (begins cs) 0 (last_token cs) k (omega arith) h))
