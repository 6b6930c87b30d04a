-- An accepted value prints four bytes for each octet at most.
-- Assumes nothing.
use Prim.Native.Nat.{ℕ, zero, suc, ◌+◌, ◌-◌, ◌*◌, ◌≤◌, ◌<◌, min}
use Prim.Native.Char.{code}
use native.Mathlib.Nat.{suc-mul}
use native.Mathlib.Omega.{arith}
use mathlib.Core.Path.{◌≡◌, refl, ap, ◌∙◌}
use mathlib.Core.Bool.{Bool, true, false, cond}
use mathlib.Core.List.{List}
use Rattle.std.proofs.Common.{Option, Some, None}
use lib.Dec.{leb, eqb, lit≤}
use lib.ListN.{length, take, drop, length-take, length-drop}
use borrow.Author.Tests.{leb-true, leb-false, eqb-true}
use Rattle.digit.specs.Digits.{digits, big_endian}
use Rattle.hint_form.specs.Hint.{base_of, longest, numeric, passes}
use Rattle.character.specs.Cut.{Cut, whole, stuck}
use Rattle.character.specs.Character.{characters}
use Rattle.hint_form.specs.declared.Piece.{Piece}
use Rattle.hint_piece.specs.Use.{Outcome, printed, passed, use_text, optional, following, one_use, uses}
use Rattle.digit.proofs.Sizes.{Octets, octets_drop, octets_take, number_short}
use Rattle.hint_piece.proofs.Outcomes.{size_of, joined_size}

-- a format whose base is 8 to 16, and whose length is 8 at most
abbrev pub NumberFormat : ℕ → Type 0
NumberFormat format = (8 ≤ base_of format) × (base_of format ≤ 16) × (longest format ≤ 8)

-- a format that allows a length and doesn't pass characters on is x, d or o, and so such a one
pub number_format : (format : ℕ) → passes format ≡ false → 0 < longest format → NumberFormat format
unfolding passes longest numeric base_of
number_format format p l =
    go (eqb format (code "x")) (eqb format (code "o")) (eqb format (code "b")) (eqb format (code "d")) refl refl refl refl
  where
    go : (x o b d : Bool)
        → eqb format (code "x") ≡ x → eqb format (code "o") ≡ o → eqb format (code "b") ≡ b → eqb format (code "d") ≡ d
        → NumberFormat format
    go true o b d ex eo eb ed = rw (eqb-true format (code "x") ex) (lit≤ tt, lit≤ tt, lit≤ tt)
    go false true b d ex eo eb ed = rw (eqb-true format (code "o") eo) (lit≤ tt, lit≤ tt, lit≤ tt)
    go false false true d ex eo eb ed = absurd (omega (arith, ap longest (eqb-true format (code "b") eb)))
    go false false false true ex eo eb ed = rw (eqb-true format (code "d") ed) (lit≤ tt, lit≤ tt, lit≤ tt)
    go false false false false ex eo eb ed = let none : longest format ≡ 0 = simp (ex, eo, ed, p) in absurd (omega arith)

-- octets that are passed on
passed_size : (at : ℕ) (s : List ℕ) (c : Cut) → size_of (passed at s c) ≤ length s
unfolding passed
passed_size at s (whole places) = omega arith
passed_size at s (stuck i) = omega arith

-- a use prints three bytes for each octet at most
pub use_size : (format at : ℕ) (s : List ℕ) → 0 < length s → length s ≤ longest format → Octets s
    → size_of (use_text format at s) ≤ 3 * length s
unfolding use_text
use_size format at s some allowed h = go (passes format) refl
  where
    number : Outcome
    number = printed (digits (base_of format) (big_endian 0 s))

    go : (t : Bool) → passes format ≡ t → size_of (cond t (passed at s (characters format s)) number) ≤ 3 * length s
    go true e = omega (arith, passed_size at s (characters format s))
    go false e = number_short (base_of format) s (number_format format e (omega arith)).0 some h

-- a separator or terminator
pub optional_size : (mark : Option ℕ) → length (optional mark) ≤ 1
unfolding optional
optional_size (Some b) = lit≤ tt
optional_size None = lit≤ tt

-- a use has as many octets as its length says, or the fewer left
pub octets_size : (size at : ℕ) (value : List ℕ) → length (take size (drop at value)) ≡ min size (length value - at)
octets_size size at value = length-take size (drop at value) ∙ ap (min size) (length-drop at value)

module _ (p : Piece) (value : List ℕ) (some : 0 < p.size) (allowed : p.size ≤ longest p.format) (h : Octets value) where
  -- with what follows it, four
  pub one_size : (left at : ℕ) → at < length value → size_of (one_use p left value at) ≤ 4 * min p.size (length value - at)
  unfolding one_use
  one_size left at below =
      let s : List ℕ = take p.size (drop at value) in
      let long = octets_size p.size at value in
      let octets = octets_take p.size (drop at value) (octets_drop at value h) in
      let text = use_size p.format at s (omega arith) (omega arith) octets in
      let next : Option ℕ = following p left value (at + p.size) in
      omega (arith, text, optional_size next, joined_size (use_text p.format at s) (printed (optional next)))

  -- so many uses from a place on leave four bytes for each octet after them
  abbrev Fits : ℕ → ℕ → Type 0
  Fits left at = size_of (uses left p value at) + 4 * (length value - (at + left * p.size)) ≤ 4 * (length value - at)

  pub uses_size : (left at : ℕ) → Fits left at
  unfolding uses
  uses_size zero at = omega arith
  uses_size (suc left) at = go (uses_size left (at + p.size)) (leb (length value) at) refl
    where
      go : Fits left (at + p.size) → (t : Bool) → leb (length value) at ≡ t → Fits (suc left) at
      go rest true e = rw (e, uses) (omega (arith, leb-true (length value) at e))
      go rest false e =
          let first = one_size left at (leb-false (length value) at e) in
          let both = joined_size (one_use p left value at) (uses left p value (at + p.size)) in
          rw (e, uses) (omega (arith, first, both, suc-mul left p.size))
