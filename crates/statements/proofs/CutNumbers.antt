-- A text that does not cut into tokens is refused by a number from 3 to 6.
-- Assumes nothing.
use mathlib.Core.Path.{◌≡◌, subst}
use mathlib.Core.Bool.{Bool, true, false, cond, ◌&&◌, ◌||◌}
use mathlib.Core.List.{List}
use Prim.Native.Nat.{ℕ, ◌+◌, ◌≤◌}
use native.Mathlib.Omega.{arith}
use lib.Dec.{leb, eqb}
use lib.ListN.{length, get_or, take, drop}
use Rattle.terminal.specs.Terminal.{number, left_brace, bar}
use Rattle.lexicon.specs.Byte.{class_of, quote, hyphen, apostrophe, colon, dot, digit, blank_byte, digit_byte, hex_byte, text_byte, name_byte, alphanumeric}
use Rattle.lexicon.specs.Word.{longest_name}
use Rattle.piece.specs.Decimal.{decimal}
use Rattle.piece.specs.Piece.{Piece, gap, token, refusal, span, name, misfit, non_negative, below_zero, comment, after_hyphen, quoted, hex_string, after_colon, after_dot, punctuation, piece, largest_number, largest_negative}
use Rattle.token.specs.Cut.{Ending, whole, refused, Cut, cut}
use Rattle.token.proofs.Left.{left, left_whole}
use Rattle.token.proofs.Laws.{cut_induction}

-- a refusal of the cut has such a number
abbrev pub CutNumber : ℕ → Type 0
CutNumber n = (3 ≤ n) × (n ≤ 6)

abbrev Numbers : Piece → Type 0
Numbers (gap n) = Unit {0}
Numbers (token c n) = Unit {0}
Numbers (refusal r d) = CutNumber r

record Numbered (p : Piece) : Type 0 where
  number : Numbers p

no_refusal : {c n : ℕ} → Numbered (token c n)
no_refusal = record { number = tt }

-- what holds in either case of a test
either : (b : Bool) {p q : Piece} → Numbered p → Numbered q → Numbered (cond b p q)
either true f g = f
either false f g = g

name_numbered : (s : List ℕ) → Numbered (name s)
unfolding name
name_numbered s = either (leb (span name_byte s) longest_name) no_refusal (omega arith)

number_numbered : (s : List ℕ) → Numbered (non_negative s)
unfolding non_negative
number_numbered s =
    either (misfit s) (omega arith)
    (either (leb (decimal (take (span digit_byte s) s)) largest_number) no_refusal (omega arith))

negative_numbered : (s : List ℕ) → Numbered (below_zero s)
unfolding below_zero
negative_numbered s =
    either (eqb (get_or s 0 0) 48 || misfit s) (omega arith)
    (either (leb (decimal (take (span digit_byte s) s)) largest_negative) no_refusal (omega arith))

hyphen_numbered : (s : List ℕ) → Numbered (after_hyphen s)
unfolding after_hyphen comment
hyphen_numbered s =
    either (eqb (class_of (get_or s 0 0)) hyphen) (record { number = tt })
    (either (eqb (class_of (get_or s 0 0)) digit) (negative_numbered s) (omega arith))

quoted_numbered : (s : List ℕ) → Numbered (quoted s)
unfolding quoted
quoted_numbered s =
    either (leb (length s) (span text_byte s)) (omega arith)
    (either (eqb (class_of (get_or s (span text_byte s) 0)) quote) no_refusal (omega arith))

hex_numbered : (s : List ℕ) → Numbered (hex_string s)
unfolding hex_string
hex_numbered s =
    either (eqb (class_of (get_or s (span hex_byte s) 0)) apostrophe && eqb (get_or s (span hex_byte s + 1) 0) 72) no_refusal (omega arith)

colon_numbered : (s : List ℕ) → Numbered (after_colon s)
unfolding after_colon
colon_numbered s = either (eqb (get_or s 0 0) 58 && eqb (get_or s 1 0) 61) no_refusal (omega arith)

dot_numbered : (s : List ℕ) → Numbered (after_dot s)
unfolding after_dot
dot_numbered s = either (eqb (get_or s 0 0) 46) no_refusal (omega arith)

punctuation_numbered : (c : ℕ) (s : List ℕ) → Numbered (punctuation c s)
unfolding punctuation
punctuation_numbered c s =
    either (leb left_brace c && leb c bar) no_refusal
    (either (eqb c hyphen) (hyphen_numbered s)
    (either (eqb c quote) (quoted_numbered s)
    (either (eqb c colon) (colon_numbered s)
    (either (eqb c dot) (dot_numbered s) (either (eqb c apostrophe) (hex_numbered s) (omega arith))))))

piece_numbered : (s : List ℕ) → Numbered (piece s)
unfolding piece
piece_numbered s =
    either (alphanumeric (get_or s 0 0)) (either (eqb (class_of (get_or s 0 0)) digit) (number_numbered s) (name_numbered s))
    (either (blank_byte (get_or s 0 0) 0) (record { number = tt }) (punctuation_numbered (class_of (get_or s 0 0)) (drop 1 s)))

abbrev Ends : Ending → Type 0
Ends whole = Unit {0}
Ends (refused n p) = CutNumber n

left_numbered : (t : List ℕ) (at : ℕ) → Ends (left t at).ending
left_numbered t at =
    cut_induction t (λ (at : ℕ) (x : Cut). Ends x.ending)
    (λ at h. tt)
    (λ r d at h e. (subst Numbered e (piece_numbered (drop at t))).number)
    (λ m at h e f r. r)
    (λ c m at h e f r. r)
    at

pub cut_numbered : (t : List ℕ) (n p : ℕ) → (cut t).ending ≡ refused n p → CutNumber n
cut_numbered t n p e = subst Ends e (subst (λ (x : Cut). Ends x.ending) (left_whole t) (left_numbered t 0))
