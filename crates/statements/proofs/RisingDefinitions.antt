-- Where the definitions stand: each ends before the next begins, and its syntax lies inside it.
-- Assumes nothing.
use mathlib.Core.Path.{◌≡◌}
use mathlib.Core.List.{List}
use Prim.Native.Nat.{ℕ, suc, ◌≤◌, ◌<◌}
use native.Mathlib.Decide.{dec_lt}
use native.Mathlib.Omega.{arith}
use lib.ListN.{length, get_or}
use Rattle.index.proofs.Hits.{hit_inside, inside_same}
use Rattle.definition.specs.Landmark.{begins, last_token, definitions, definition_end}
use Rattle.definition.specs.Fields.{fields_of, fields_at}
use Rattle.definition.proofs.Inside.{Inside, syntax_inside}
use Rattle.definition.proofs.Next.{end_inside as ends-inside, definition_next}
use Rattle.index.proofs.Hits.{hits_rise}

module _ (cs : List ℕ) where
  -- definition k: its name's token, and where it ends
  abbrev pub name_of : ℕ → ℕ
  name_of k = get_or (definitions cs) k 0

  abbrev pub end_of : ℕ → ℕ
  end_of k = definition_end cs (name_of k)

  -- the names rise
  names_rise : (j k : ℕ) → j < k → k < length (definitions cs) → name_of j < name_of k
  unfolding definitions
  names_rise j k l h = hits_rise (begins cs) 0 (last_token cs) j k l h

  -- a definition ends before a later one begins
  pub ends_before : (j k : ℕ) → j < k → k < length (definitions cs) → end_of j ≤ name_of k
  ends_before j k l h = go (dec_lt (suc j) k)
    where
      next : end_of j ≤ name_of (suc j)
      next = omega (arith, definition_next cs j (omega arith), inside_same (definitions cs) (suc j) (last_token cs) 0 (omega arith))

      go : Dec (suc j < k) → end_of j ≤ name_of k
      go (yes m) = omega (arith, next, names_rise (suc j) k m h)
      go (no m) = let same : suc j ≡ k = omega arith in rw (← same) (omega (arith, next))

  module _ (k : ℕ) (h : k < length (definitions cs)) where
    -- it ends after its name, and not after the module's last token
    pub end_inside : (name_of k < end_of k) × (end_of k ≤ last_token cs)
    unfolding definitions
    end_inside = ends-inside cs (name_of k) (hit_inside (begins cs) 0 (last_token cs) k h).1

    -- its syntax lies inside it
    pub syntax_at_home : Inside (name_of k) (end_of k) (fields_at cs k).syntax
    unfolding fields_at fields_of
    syntax_at_home = syntax_inside cs (name_of k) (end_of k) (omega (arith, end_inside.0))
