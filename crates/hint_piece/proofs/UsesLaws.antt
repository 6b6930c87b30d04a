-- Laws of the uses of a piece: one step at a time, from any place; and where they start and end.
-- Assumes nothing.
use Prim.Native.Nat.{ℕ, zero, suc, ◌+◌, ◌-◌, ◌≤◌, ◌<◌, ◌*◌}
use native.Mathlib.Nat.{not-suc-le-zero, one-mul, mul-le-mul_right, le_trans, le_of_suc-le-suc}
use native.Mathlib.Numerals.{sub-one}
use native.Mathlib.Omega.{arith}
use mathlib.Core.Path.{◌≡◌, refl, ap}
use mathlib.Core.List.{List, []}
use mathlib.Core.Bool.{Bool, true, false, cond}
use lib.ListN.{length}
use borrow.Author.Tests.{le-leb, lt-leb}
use Rattle.hint_form.specs.declared.Piece.{Piece}
use Rattle.character.specs.Cut.{Cut, whole, stuck, stuck_at}
use Rattle.std.proofs.Common.{Option, Some, None}
use Rattle.std.specs.Option.{option_or}
use Rattle.hint_form.specs.Hint.{has_mark}
use Rattle.buffer.specs.Buffer.{byte_at}
use Rattle.hint_piece.specs.Use.{printed, joined, one_use, uses, fault, passed, repeats, uses_start, uses_end}

-- the first mark, or the second where there is none
pub or_mark : (first second : Option ℕ) → option_or first second ≡ cond (has_mark first) first second
or_mark (Some b) second = refl
or_mark None second = refl

-- no use prints nothing, nor does one where no octet is left
pub uses_none : (left : ℕ) (p : Piece) (value : List ℕ) (at : ℕ) → left ≡ 0 → uses left p value at ≡ printed []
unfolding uses
uses_none left p value at e = rw e

pub uses_past : (left : ℕ) (p : Piece) (value : List ℕ) (at : ℕ) → length value ≤ at → uses left p value at ≡ printed []
unfolding uses
uses_past zero p value at h = refl
uses_past (suc left) p value at h = rw (le-leb (length value) at h, uses)

-- a use more, where octets are left
pub uses_step : (left : ℕ) (p : Piece) (value : List ℕ) (at : ℕ) → 0 < left → at < length value
    → uses left p value at ≡ joined (one_use p (left - 1) value at) (uses (left - 1) p value (at + p.size))
unfolding uses
uses_step zero p value at some h = absurd (not-suc-le-zero some)
uses_step (suc left) p value at some h = rw (sub-one (suc left), lt-leb (length value) at h, uses)

-- where a search found something, or nothing, the cut is known
pub passed_stuck : (at : ℕ) (s : List ℕ) (c : Cut) (i : ℕ) → stuck_at c ≡ Some i → passed at s c ≡ fault (at + i)
unfolding stuck_at passed
passed_stuck at s (whole places) i h = let z : ◌≡◌ {A = ℕ} 0 1 = cc in absurd (omega arith)
passed_stuck at s (stuck j) i h = let e : j ≡ i = cc in ap (λ (k : ℕ). fault (at + k)) e

pub passed_whole : (at : ℕ) (s : List ℕ) (c : Cut) → stuck_at c ≡ None → passed at s c ≡ printed s
unfolding stuck_at passed
passed_whole at s (whole places) h = refl
passed_whole at s (stuck j) h = let z : ◌≡◌ {A = ℕ} 0 1 = cc in absurd (omega arith)

-- where the octets of a piece end
pub uses_end_is : (p : Piece) (value : List ℕ) (at : ℕ) → uses_start p at + repeats p value at * p.size ≡ uses_end p value at
unfolding uses_end
uses_end_is p value at = refl

-- a piece takes an octet at least
pub uses_end_after : (p : Piece) (value : List ℕ) (at : ℕ) → 0 < p.size → at < uses_end p value at
unfolding uses_end uses_start repeats
uses_end_after p value at some = go p.starred
  where
    go : (t : Bool) → at < cond t (at + 1) at + cond t (byte_at value at) 1 * p.size
    go true = omega arith
    go false = omega (arith, one-mul p.size)

-- where the uses of a piece start
pub uses_start_near : (p : Piece) (at : ℕ) → (at ≤ uses_start p at) × (uses_start p at ≤ at + 1)
unfolding uses_start
uses_start_near p at = go p.starred
  where
    go : (t : Bool) → (at ≤ cond t (at + 1) at) × (cond t (at + 1) at ≤ at + 1)
    go true = omega arith
    go false = omega arith

-- how many octets they take
pub uses_octets_small : (p : Piece) (value : List ℕ) (at : ℕ) → byte_at value at < 256 → p.size ≤ 255
    → repeats p value at * p.size ≤ 65025
unfolding repeats
uses_octets_small p value at octet small = go p.starred
  where
    go : (t : Bool) → cond t (byte_at value at) 1 * p.size ≤ 65025
    go true = le_trans (mul-le-mul_right p.size (le_of_suc-le-suc octet)) (omega arith)
    go false = omega (arith, one-mul p.size)
