-- Laws of the hint's grammar: what a digit is, and that a piece ends after it starts.
-- Assumes nothing.
use Prim.Native.Nat.{ℕ, zero, suc, ◌+◌, ◌-◌, ◌*◌, ◌^◌, ◌≤◌, ◌<◌}
use native.Mathlib.Nat.{pow-suc}
use native.Mathlib.Numerals.{add-one, sub-one}
use Prim.Native.Char.{code}
use native.Mathlib.Omega.{arith}
use mathlib.Core.Path.{◌≡◌, refl, ap}
use Rattle.std.specs.Option.{is_some}
use mathlib.Core.Bool.{Bool, true, false, cond, not, ◌&&◌}
use mathlib.Core.List.{List}
use lib.Dec.{leb, ltb, eqb, lit≤}
use lib.ListN.{length}
use borrow.Author.Tests.{leb-true, ltb-true, le-leb}
use Rattle.buffer.specs.Buffer.{byte_at}
use Rattle.character.specs.Cut.{Cut, whole, stuck, cut, stuck_at}
use Rattle.std.proofs.Common.{Option, Some, None}
use Rattle.hint_form.specs.Hint.{separator_of, terminator_of, numeric, passes, digit, number_after, number_at, allowed, bounded, longest, starred, length_place, format_place, mark_size, is_piece, piece_at, piece_end, piece_size, read_hint, pieces_of, found, is_pieces}
use Rattle.hint_form.specs.declared.Piece.{Piece}
use Rattle.hint_form.specs.declared.Number.{Number}

-- both halves of a conjunction that holds
pub and_left : (a b : Bool) → a && b ≡ true → a ≡ true
and_left true b e = refl
and_left false b e = e

pub and_right : (a b : Bool) → a && b ≡ true → b ≡ true
and_right true b e = e
and_right false b e = let z : ◌≡◌ {A = ℕ} 0 1 = cc in absurd (omega arith)

-- two numbers of a hint are equal by their parts
pub number_is : {v v₁ n n₁ : ℕ} → v ≡ v₁ → n ≡ n₁
    → ◌≡◌ {A = Number} (record { value = v; next = n }) (record { value = v₁; next = n₁ })
number_is p q = λ i. record { value = p i; next = q i }

-- a digit is not below 0
pub digit_low : (b : ℕ) → digit b ≡ true → code "0" ≤ b
unfolding digit
digit_low b e = leb-true (code "0") b (and_left (leb (code "0") b) (leb b (code "9")) e)

-- a number ends before a byte that is no digit
pub number_stop : (more n : ℕ) (hint : List ℕ) (i : ℕ) → digit (byte_at hint i) ≡ false
    → number_after more n hint i ≡ record { value = n; next = i }
unfolding number_after
number_stop zero n hint i e = refl
number_stop (suc more) n hint i e = simp e

-- and goes on with one that is
pub number_more : (more n : ℕ) (hint : List ℕ) (i : ℕ) → 1 ≤ more → digit (byte_at hint i) ≡ true
    → number_after more n hint i ≡ number_after (more - 1) (n * 10 + (byte_at hint i - code "0")) hint (i + 1)
unfolding number_after
number_more zero n hint i h e = absurd (omega arith)
number_more (suc more) n hint i h e = rw (e, sub-one (suc more))

-- a digit makes a number at most ten times as large, and 9 more
pub ten_more : (k n b : ℕ) → digit b ≡ true → n < 10 ^ k → n * 10 + (b - code "0") < 10 ^ (k + 1)
unfolding digit
ten_more k n b e h =
    let high = leb-true b (code "9") (and_right (leb (code "0") b) (leb b (code "9")) e) in
    rw (add-one, pow-suc 10 k) (omega arith)

-- a number ends at a place or after it, at most so many bytes on
abbrev pub Ends : ℕ → ℕ → Number → Type 0
Ends i more number = (i ≤ number.next) × (number.next ≤ i + more)

number_after_next : (more n : ℕ) (hint : List ℕ) (i : ℕ) → Ends i more (number_after more n hint i)
unfolding number_after
number_after_next zero n hint i = omega arith
number_after_next (suc more) n hint i =
    let value : ℕ = n * 10 + (byte_at hint i - code "0") in
    go (digit (byte_at hint i)) (number_after more value hint (i + 1)) (number_after_next more value hint (i + 1))
  where
    go : (t : Bool) (rest : Number) → Ends (i + 1) more rest → Ends i (suc more) (cond t rest (record { value = n; next = i }))
    go true rest h = omega arith
    go false rest h = omega arith

-- a number has three bytes at most
pub number_next : (hint : List ℕ) (i : ℕ) → Ends i 3 (number_at hint i)
unfolding number_at
number_next hint i = number_after_next 3 0 hint i

-- where a length starts
pub length_place_near : (hint : List ℕ) (i : ℕ) → (i ≤ length_place hint i) × (length_place hint i ≤ i + 1)
unfolding length_place
length_place_near hint i = go (starred hint i)
  where
    go : (t : Bool) → (i ≤ cond t (i + 1) i) × (cond t (i + 1) i ≤ i + 1)
    go true = omega arith
    go false = omega arith

-- the format of a piece stands at most four bytes after its start
pub format_near : (hint : List ℕ) (i start : ℕ) (number : Number) → start ≡ length_place hint i → number ≡ number_at hint start
    → number.next ≤ i + 4
format_near hint i start number e f = rw f (omega (arith, length_place_near hint i, number_next hint start))

-- a separator or terminator has one byte at most
pub mark_size_small : (mark : Option ℕ) → mark_size mark ≤ 1
unfolding mark_size
mark_size_small (Some b) = lit≤ tt
mark_size_small None = lit≤ tt

-- a piece ends after it starts
pub piece_end_after : (hint : List ℕ) (i : ℕ) → i < piece_end hint i
unfolding piece_end format_place
piece_end_after hint i = omega (arith, length_place_near hint i, number_next hint (length_place hint i))

-- how many bytes a piece has
pub piece_size_some : (hint : List ℕ) (i : ℕ) → is_piece hint i ≡ true → i + piece_size hint i ≡ piece_end hint i
unfolding piece_size
piece_size_some hint i e = rw e (omega (arith, piece_end_after hint i))

pub piece_size_none : (hint : List ℕ) (i : ℕ) → is_piece hint i ≡ false → piece_size hint i ≡ 0
unfolding piece_size
piece_size_none hint i e = rw e

-- a piece has seven bytes at most
pub piece_size_small : (hint : List ℕ) (i : ℕ) → piece_size hint i ≤ 7
unfolding piece_size piece_end format_place
piece_size_small hint i = go (is_piece hint i)
  where
    go : (t : Bool) → cond t (piece_end hint i - i) 0 ≤ 7
    go true =
        let one = mark_size_small (separator_of hint i) in
        let two = mark_size_small (terminator_of hint i) in
        omega (arith, length_place_near hint i, number_next hint (length_place hint i))
    go false = lit≤ tt

-- a piece that was found, and the place after it
abbrev pub standing : Piece → ℕ → Option (Piece × ℕ)
standing p n = Some (p, n)

-- what it says
pub found_whole : (hint : List ℕ) (i : ℕ) (p : Piece) (n : ℕ) → standing p n ≡ found hint i
    → (is_piece hint i ≡ true) × (p ≡ piece_at hint i) × (n ≡ piece_end hint i)
unfolding found
found_whole hint i p n h = go (is_piece hint i) h
  where
    go : (t : Bool) → standing p n ≡ cond t (standing (piece_at hint i) (piece_end hint i)) None
        → (t ≡ true) × (p ≡ piece_at hint i) × (n ≡ piece_end hint i)
    go true e =
        let both : ◌≡◌ {A = Piece × ℕ} (p, n) (piece_at hint i, piece_end hint i) = cc in
        (refl, ap (λ (x : Piece × ℕ). x.0) both, ap (λ (x : Piece × ℕ). x.1) both)
    go false e = let z : ◌≡◌ {A = ℕ} 0 1 = cc in absurd (omega arith)

-- and what a place says where none was found
pub found_nothing : (hint : List ℕ) (i : ℕ) → None ≡ found hint i → is_piece hint i ≡ false
unfolding found
found_nothing hint i h = go (is_piece hint i) h
  where
    go : (t : Bool) → None ≡ cond t (standing (piece_at hint i) (piece_end hint i)) None → t ≡ false
    go true e = let z : ◌≡◌ {A = ℕ} 0 1 = cc in absurd (omega arith)
    go false e = refl

-- a piece whose length its format allows; each piece of a hint is one
abbrev pub Allowed : Piece → Type 0
Allowed p = (0 < p.size) × (p.size ≤ longest p.format)

pub piece_allowed : (hint : List ℕ) (i : ℕ) → is_piece hint i ≡ true → Allowed (piece_at hint i)
unfolding is_piece bounded allowed piece_at
piece_allowed hint i e =
    let first : Bool = not (eqb (byte_at hint (length_place hint i)) (code "0")) in
    let some : Bool = ltb 0 (number_at hint (length_place hint i)).value in
    let least : Bool = leb (number_at hint (length_place hint i)).value (longest (byte_at hint (format_place hint i))) in
    (ltb-true 0 _ (and_right first some (and_left (first && some) least e)), leb-true _ _ (and_right (first && some) least e))

-- whether a search ended without finding
abbrev pub nowhere : Option ℕ → Bool
nowhere (Some i) = false
nowhere None = true

pub none_nowhere : (o : Option ℕ) (b : Bool) → is_some o ≡ not b → b ≡ nowhere o
none_nowhere (Some i) true e = e
none_nowhere (Some i) false e = refl
none_nowhere None true e = refl
none_nowhere None false e = e

-- a hint of 1 to 255 bytes is pieces where its cut is stuck nowhere
pub pieces_whole : (hint : List ℕ) → 1 ≤ length hint → length hint ≤ 255
    → is_pieces (read_hint hint) ≡ nowhere (stuck_at (cut (piece_size hint) (length hint)))
unfolding read_hint is_pieces pieces_of stuck_at
pieces_whole hint low high =
    simp (le-leb 1 (length hint) low, le-leb (length hint) 255 high) (go (cut (piece_size hint) (length hint)))
  where
    go : (c : Cut) → is_pieces (pieces_of hint c) ≡ nowhere (stuck_at c)
    go (whole places) = refl
    go (stuck i) = refl

-- no format allows more than 255
pub longest_small : (format : ℕ) → longest format ≤ 255
unfolding longest
longest_small format = go (numeric format) (passes format)
  where
    go : (number character : Bool) → cond number 8 (cond character 255 0) ≤ 255
    go true character = lit≤ tt
    go false true = lit≤ tt
    go false false = lit≤ tt
