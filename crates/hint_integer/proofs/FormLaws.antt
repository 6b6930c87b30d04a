-- The form that a hint for integers asks can be printed by.
-- Assumes nothing.
use Prim.Native.Nat.{ℕ, ◌≤◌}
use Prim.Native.Char.{code}
use mathlib.Core.Path.{◌≡◌, refl}
use mathlib.Core.Bool.{Bool, true, false, cond, not, ◌&&◌}
use mathlib.Core.List.{List}
use lib.Dec.{leb, ltb, eqb, lit≤}
use lib.ListN.{length}
use borrow.Author.Tests.{leb-true}
use Rattle.buffer.specs.Buffer.{byte_at}
use Rattle.hint_form.specs.Hint.{base_of, number_at, allowed, bounded}
use Rattle.hint_integer.specs.Form.{integer_format, read_form, read_point, Usable}
use Rattle.hint_integer.specs.declared.Form.TheVariants.{Base, Point}
use Rattle.std.proofs.Common.{Some, None}
use Rattle.hint_form.proofs.HintLaws.{and_left, and_right}

-- a hint's form is usable
base_usable : (letter : ℕ) → (2 ≤ base_of letter) × (base_of letter ≤ 16)
unfolding base_of
base_usable letter = go (eqb letter (code "x")) (eqb letter (code "o")) (eqb letter (code "b"))
  where
    go : (x o b : Bool) → (2 ≤ cond x 16 (cond o 8 (cond b 2 10))) × (cond x 16 (cond o 8 (cond b 2 10)) ≤ 16)
    go true o b = (lit≤ tt, lit≤ tt)
    go false true b = (lit≤ tt, lit≤ tt)
    go false false true = (lit≤ tt, lit≤ tt)
    go false false false = (lit≤ tt, lit≤ tt)

point_usable : (hint : List ℕ) → Usable (read_point hint)
unfolding read_point bounded allowed
point_usable hint = go (front && (leading && least) && end) refl
  where
    front : Bool
    front = eqb (byte_at hint 0) (code "d") && eqb (byte_at hint 1) (code "-")

    leading : Bool
    leading = not (eqb (byte_at hint 2) (code "0")) && ltb 0 (number_at hint 2).value

    least : Bool
    least = leb (number_at hint 2).value 10

    end : Bool
    end = eqb (number_at hint 2).next (length hint)

    go : (t : Bool) → (front && (leading && least) && end) ≡ t → Usable (cond t (Some (Point (number_at hint 2).value)) None)
    go true e =
        let number = and_right front (leading && least) (and_left (front && (leading && least)) end e) in
        leb-true (number_at hint 2).value 10 (and_right leading least number)
    go false e = tt

pub form_usable : (hint : List ℕ) → Usable (read_form hint)
unfolding read_form
form_usable hint = go (eqb (length hint) 1 && integer_format (byte_at hint 0))
  where
    go : (t : Bool) → Usable (cond t (Some (Base (base_of (byte_at hint 0)))) (read_point hint))
    go true = base_usable (byte_at hint 0)
    go false = point_usable hint
