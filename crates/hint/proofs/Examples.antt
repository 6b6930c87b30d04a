-- The paper's worked examples P6, P7 and P8, from the definitions.
-- Assumes nothing.
use Prim.Native.Nat.{ℕ}
use Prim.Native.Char.{code}
use Prim.Native.String.{String, [] as none, ◌∷◌ as char-and}
use mathlib.Core.Path.{◌≡◌, refl}
use mathlib.Core.List.{List, [], ◌∷◌}
use lib.IntN.{negsuc}
use Rattle.hint_form.specs.Hint.{base_of, digit, mark, mark_at, mark_size, number_after, number_at, allowed, bounded, longest, numeric, passes, starred, length_place, format_place, separator_of, terminator_of, is_piece, piece_at, piece_end, piece_size, pieces_of, read_hint}
use Rattle.hint_integer.specs.Form.{integer_format, read_point, read_form}
use Rattle.digit.specs.Digits.{glyph, digits_within, digits, pointed, big_endian}
use Rattle.character.specs.Cut.{before, cut_within, cut}
use Rattle.character.specs.Character.{between, tail, lead_size, second_low, second_high, tails, sequence_size, character_size}
use Rattle.hint_piece.specs.Use.{joined, passed, use_text, optional, following, one_use, uses, repeats, uses_start, uses_end}
use Rattle.hint_integer.specs.Signed.{magnitude, signed, in_range}
use Rattle.hint.specs.Print.{turn, printing_within, printing}
use Rattle.hint.specs.Answer.{text, refusal, of_outcome, by_pieces, octets_verdict, by_form, integer_verdict}

-- the bytes of a text
unfoldable pub bytes : String → List ℕ
bytes none = []
bytes (char-and c cs) = code c ∷ bytes cs

-- what the paper prints
pub record Examples : Type 0 where
  -- 02 0A 0B 05 under `*1d.:1d` is `10.11:5`
  pub P6 : octets_verdict 4096 (bytes "*1d.:1d") (0x02 ∷ 0x0A ∷ 0x0B ∷ 0x05 ∷ []) ≡ text (bytes "10.11:5")
  -- -5 under d-2 is `-0.05`
  pub P7 : integer_verdict 64 (bytes "d-2") (negsuc 4) ≡ text (bytes "-0.05")
  -- C3 A9 under 255t is both octets, and under 255a refusal 33 at place 0
  pub P8-text : octets_verdict 4096 (bytes "255t") (0xC3 ∷ 0xA9 ∷ []) ≡ text (0xC3 ∷ 0xA9 ∷ [])
  pub P8-ascii : octets_verdict 4096 (bytes "255a") (0xC3 ∷ 0xA9 ∷ []) ≡ refusal 33 0

pub examples : Examples
unfolding bytes octets_verdict by_pieces of_outcome read_hint pieces_of cut cut_within before piece_size piece_end piece_at is_piece
    terminator_of separator_of format_place length_place starred longest numeric bounded allowed number_at number_after
    mark_size mark_at mark digit
    printing printing_within turn uses_end uses_start repeats uses one_use following optional use_text passed passes joined
    character_size sequence_size tails second_high second_low lead_size tail between big_endian digits digits_within glyph base_of
    integer_verdict by_form in_range signed magnitude integer_format read_form read_point pointed
examples = record { P6 = refl; P7 = refl; P8-text = refl; P8-ascii = refl }
