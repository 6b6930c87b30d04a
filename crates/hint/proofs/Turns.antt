-- One turn of printing by pieces: what is known once the piece at the cursor was read and its uses were printed, and that what
-- follows the rest then follows the whole.
-- Assumes nothing.
use Prim.Native.Nat.{ℕ, ◌+◌, ◌-◌, ◌*◌, ◌≤◌, ◌<◌}
use native.Mathlib.Omega.{arith}
use mathlib.Core.Path.{◌≡◌, refl, sym, ap, subst, ◌∙◌}
use mathlib.Core.Bool.{true}
use mathlib.Core.List.{List}
use lib.ListN.{length}
use Rattle.std.proofs.Common.{Result, Ok, Err}
use Rattle.hint_form.specs.declared.Piece.{Piece}
use Rattle.hint_piece.specs.declared.BadOctet.{BadOctet}
use Rattle.hint_form.specs.Hint.{found, pieces_in, is_piece, piece_at, piece_end, read_hint}
use Rattle.hint_piece.specs.Use.{piece_text, uses, repeats, uses_start, uses_end}
use Rattle.hint_piece.specs.Followed.{Followed}
use Rattle.hint.specs.Print.{printing}
use Rattle.digit.proofs.Sizes.{Octets}
use Rattle.hint_form.proofs.HintLaws.{Allowed, standing, longest_small, found_whole, piece_allowed}
use Rattle.hint_form.proofs.PieceLaws.{Readable, pieces_from}
use Rattle.hint_piece.proofs.UsesLaws.{uses_start_near, uses_octets_small, uses_end_after, uses_end_is}
use Rattle.hint_piece.proofs.Bounds.{uses_size}
use Rattle.hint_piece.proofs.Outcomes.{followed_as, followed_next, followed_joined, followed_fault}
use Rattle.hint.proofs.PrintingLaws.{Turned, print_from, print_turn, turn_either}

-- where printing stands: what follows the rest follows the whole, and the buffer has room for the rest
pub record Printing (hint value out₀ out : List ℕ) (cursor at pos : ℕ) : Type 0 where
  pub follows : (r : Result ℕ BadOctet) (after : List ℕ) → Followed (print_from value (pieces_from hint cursor) at) pos r out after
      → Followed (printing (pieces_in (read_hint hint)) value) 0 r out₀ after
  pub room : pos + 4 * (length value - at) ≤ length out
  pub inside : cursor < length hint
  pub readable : Readable hint cursor

-- what was read in a turn: the piece at the cursor, its end, where its uses start, and how many they are
pub record Turn (hint value : List ℕ) (cursor at : ℕ) (piece : Piece) (next start count : ℕ) : Type 0 where
  pub stands : is_piece hint cursor ≡ true
  pub piece_is : piece ≡ piece_at hint cursor
  pub next_is : next ≡ piece_end hint cursor
  pub start_is : start ≡ uses_start piece at
  pub count_is : count ≡ repeats piece value at

pub turn_of : {hint value : List ℕ} {cursor at : ℕ} {piece : Piece} {next start count : ℕ}
    → standing piece next ≡ found hint cursor → start ≡ uses_start piece at → count ≡ repeats piece value at
    → Turn hint value cursor at piece next start count
turn_of {hint} {value} {cursor} {at} {piece} {next} f s c =
    let is = found_whole hint cursor piece next f in
    record { stands = is.0; piece_is = is.1; next_is = is.2; start_is = s; count_is = c }

module _ {hint value : List ℕ} {cursor at : ℕ} {piece : Piece} {next start count : ℕ} (t : Turn hint value cursor at piece next start count) where
  pub piece_fits : Allowed piece
  piece_fits = subst Allowed (sym t.piece_is) (piece_allowed hint cursor t.stands)

  -- the uses take few octets
  pub octets_few : Octets value → count * piece.size ≤ 65025
  octets_few octets =
      let small : piece.size ≤ 255 = omega (arith, piece_fits, longest_small piece.format) in
      omega (arith, ap (λ (n : ℕ). n * piece.size) t.count_is, uses_octets_small piece value at (octets at) small)

  -- where they end
  pub octets_end : start + count * piece.size ≡ uses_end (piece_at hint cursor) value at
  octets_end =
      ap (λ (n : ℕ). n + count * piece.size) t.start_is
      ∙ ap (λ (n : ℕ). uses_start piece at + n * piece.size) t.count_is
      ∙ uses_end_is piece value at
      ∙ ap (λ (p : Piece). uses_end p value at) t.piece_is

  -- that is an octet on at least
  pub octets_fall : at < length value → length value - (start + count * piece.size) < length value - at
  octets_fall below =
      omega (arith, octets_end, uses_end_after (piece_at hint cursor) value at (piece_allowed hint cursor t.stands).0)

  -- the uses are the text of the piece
  pub text_follows : {pos : ℕ} {r : Result ℕ BadOctet} {out after : List ℕ} → Followed (uses count piece value start) pos r out after
      → Followed (piece_text (piece_at hint cursor) value at) pos r out after
  text_follows f =
      followed_as
      (ap (λ (n : ℕ). uses n piece value start) t.count_is
      ∙ ap (λ (n : ℕ). uses (repeats piece value at) piece value n) t.start_is
      ∙ ap (λ (p : Piece). piece_text p value at) t.piece_is)
      refl f

  -- an octet at fault there is the first
  pub fault_follows : {out₀ out after : List ℕ} {pos : ℕ} {bad : BadOctet} → Printing hint value out₀ out cursor at pos → at < length value
      → Followed (uses count piece value start) pos (Err bad) out after
      → Followed (printing (pieces_in (read_hint hint)) value) 0 (Err bad) out₀ after
  fault_follows {after = after} {bad = bad} here below f =
      let turned = turn_either hint cursor here.inside here.readable in
      let step = print_turn hint value cursor at turned.0 here.inside here.readable below turned.1 in
      here.follows (Err bad) after
      (followed_as (sym step) refl
      (followed_fault (print_from value (pieces_from hint turned.0) (uses_end (piece_at hint cursor) value at)) (text_follows f)))

  -- after a turn, wherever the next one starts
  pub printing_on : {out₀ out after : List ℕ} {pos n : ℕ} → Printing hint value out₀ out cursor at pos → at < length value → Octets value
      → Followed (uses count piece value start) pos (Ok n) out after → length after ≡ length out
      → (again : ℕ) → Turned hint cursor again → again < length hint → Readable hint again
      → Printing hint value out₀ after again (start + count * piece.size) n
  printing_on here below octets f kept again turned inside readable =
      let P : Piece = piece_at hint cursor in
      let fits : Allowed P = piece_allowed hint cursor t.stands in
      let done = text_follows f in
      let size = uses_size P value fits.0 fits.1 octets (repeats P value at) (uses_start P at) in
      let place = followed_next done in
      let near = uses_start_near P at in
      let is = uses_end_is P value at in
      let end = octets_end in
      let room = here.room in
      let step = print_turn hint value cursor at again here.inside here.readable below turned in
      record {
        follows = λ r final g.
            here.follows r final
            (followed_as (sym step) refl
            (followed_joined (omega arith) done (followed_as (ap (print_from value (pieces_from hint again)) end) refl g)));
        room = omega arith;
        inside = inside;
        readable = readable;
      }
