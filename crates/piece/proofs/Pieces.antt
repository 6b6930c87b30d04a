-- What every piece of a text is: it has a byte at least and lies in the text, a token's class is a terminal, a name has at most
-- 64 bytes, and a number is in range. A refusal's place lies in the text.
-- Assumes nothing.
use mathlib.Core.Path.{◌≡◌, refl, ◌∙◌}
use mathlib.Core.Bool.{Bool, true, false, cond, ◌&&◌, ◌||◌}
use mathlib.Core.List.{List, [], ◌∷◌}
use Prim.Native.Nat.{ℕ, ◌+◌, ◌-◌, ◌≤◌, ◌<◌}
use native.Mathlib.Omega.{arith}
use lib.Dec.{T, leb, ltb, eqb, leb→le}
use lib.ListN.{length, get_or, take, drop, length-drop}
use borrow.Author.Tests.{leb-true, leb-false, ltb-true, eqb-true, lt-leb}
use Rattle.terminal.specs.Terminal.{number, negative, text, hex, assign, dots, left_brace, bar, lower, Upper, terminals}
use Rattle.terminal.specs.Terminal.{word_count}
use Rattle.lexicon.specs.Byte.{class_of, quote, newline, feed, hyphen, apostrophe, colon, dot, digit, capital_hex, capital}
use Rattle.lexicon.specs.Byte.{digit_byte, hex_byte, text_byte, name_byte, comment_byte, blank_byte, two_hyphens}
use Rattle.lexicon.specs.Word.{longest_name, is_name, words, word_classes, place_in, name_class}
use Rattle.piece.specs.Decimal.{decimal}
use Rattle.piece.specs.Piece.{Piece, gap, token, refusal, largest_number, largest_negative, span, name, misfit}
use Rattle.piece.specs.Piece.{non_negative, below_zero, closing, comment, after_hyphen, quoted, hex_string}
use Rattle.piece.specs.Piece.{after_colon, after_dot, punctuation, piece}
use Rattle.index.proofs.Search.{true_false}
use Rattle.lexicon.proofs.Places.{inside, byte_inside}
use Rattle.piece.proofs.Span.{span_in}
use Rattle.lexicon.proofs.Words.{word_class}

-- a token of the class c and n bytes, at the start of s
pub record TokenFits (s : List ℕ) (c n : ℕ) : Type 0 where
  pub some : 1 ≤ n
  pub inside : n ≤ length s
  pub terminal : c < terminals
  pub short_name : T (is_name c) → n ≤ longest_name
  pub number_range : c ≡ number → decimal (take n s) ≤ largest_number
  pub negative_range : c ≡ negative → decimal (drop 1 (take n s)) ≤ largest_negative
  pub text_quote : c ≡ text → class_of (get_or s 0 0) ≡ quote

abbrev pub Fits : List ℕ → Piece → Type 0
Fits s (gap n) = (1 ≤ n) × (n ≤ length s)
Fits s (token c n) = TokenFits s c n
Fits s (refusal r d) = d < length s

pub record Fit (s : List ℕ) (p : Piece) : Type 0 where
  pub fits : Fits s p

-- what holds in either case of a test
by_test : (s : List ℕ) (b : Bool) {p q : Piece} → (b ≡ true → Fit s p) → (b ≡ false → Fit s q) → Fit s (cond b p q)
by_test s true f g = f refl
by_test s false f g = g refl

both_true : (a b : Bool) → (a && b) ≡ true → (a ≡ true) × (b ≡ true)
both_true true b e = (refl, e)
both_true false b e = absurd (true_false e refl)

-- a token that is no name, no number and no text
other_fits : (s : List ℕ) (c n : ℕ) → 1 ≤ n → n ≤ length s → hex ≤ c → c ≤ bar → Fit s (token c n)
other_fits s c n some inside low high =
    record {
      fits = record {
        some = some;
        inside = inside;
        terminal = omega arith;
        short_name = λ t. absurd (omega (arith, leb→le lower c t));
        number_range = λ e. absurd (omega arith);
        negative_range = λ e. absurd (omega arith);
        text_quote = λ e. absurd (omega arith);
      };
    }

-- a name's class is a name's
name_class_fits : (s : List ℕ) → (lower ≤ name_class s) × (name_class s < terminals)
unfolding name_class
name_class_fits s = go (ltb (place_in s words) word_count) refl (leb capital_hex (class_of (get_or s 0 0)))
  where
    chosen : Bool → Bool → ℕ
    chosen a b = cond a (get_or word_classes (place_in s words) 0) (cond b Upper lower)

    go : (a : Bool) → ltb (place_in s words) word_count ≡ a → (b : Bool) → (lower ≤ chosen a b) × (chosen a b < terminals)
    go true e b =
        let h : place_in s words < word_count = ltb-true (place_in s words) word_count e in
        omega (arith, word_class (place_in s words) h)
    go false e true = omega arith
    go false e false = omega arith

name_fits : (s : List ℕ) → 1 ≤ span name_byte s → Fit s (name s)
unfolding name
name_fits s h =
    let k = name_class_fits (take (span name_byte s) s) in
    by_test s (leb (span name_byte s) longest_name)
    (λ e. record {
      fits = record {
        some = h;
        inside = span_in name_byte s;
        terminal = k.1;
        short_name = λ t. leb-true (span name_byte s) longest_name e;
        number_range = λ q. absurd (omega (arith, k.0));
        negative_range = λ q. absurd (omega (arith, k.0));
        text_quote = λ q. absurd (omega (arith, k.0));
      };
    })
    (λ e. omega (arith, span_in name_byte s))

number_fits : (s : List ℕ) → 1 ≤ span digit_byte s → Fit s (non_negative s)
unfolding non_negative
number_fits s h =
    let n : span digit_byte s ≤ length s = span_in digit_byte s in
    by_test s (misfit s) (λ e. omega arith)
    (λ e. by_test s (leb (decimal (take (span digit_byte s) s)) largest_number)
    (λ l. record {
      fits = record {
        some = h;
        inside = n;
        terminal = omega arith;
        short_name = λ t. absurd t;
        number_range = λ q. leb-true (decimal (take (span digit_byte s) s)) largest_number l;
        negative_range = λ q. absurd (omega arith);
        text_quote = λ q. absurd (omega arith);
      };
    })
    (λ l. omega arith))

negative_fits : (b : ℕ) (bs : List ℕ) → Fit (b ∷ bs) (below_zero bs)
unfolding below_zero
negative_fits b bs =
    let n : span digit_byte bs ≤ length bs = span_in digit_byte bs in
    by_test (b ∷ bs) (eqb (get_or bs 0 0) 48 || misfit bs) (λ e. omega arith)
    (λ e. by_test (b ∷ bs) (leb (decimal (take (span digit_byte bs) bs)) largest_negative)
    (λ l. record {
      fits = record {
        some = omega arith;
        inside = omega arith;
        terminal = omega arith;
        short_name = λ t. absurd t;
        number_range = λ q. absurd (omega arith);
        negative_range = λ q. leb-true (decimal (take (span digit_byte bs) bs)) largest_negative l;
        text_quote = λ q. absurd (omega arith);
      };
    })
    (λ l. omega arith))

closing_fits : (s : List ℕ) → closing s ≤ length s
closing_fits s = go (two_hyphens (get_or s 0 0) (get_or s 1 0)) refl
  where
    go : (b : Bool) → two_hyphens (get_or s 0 0) (get_or s 1 0) ≡ b → cond b 2 0 ≤ length s
    go true e =
        let two = both_true (eqb (class_of (get_or s 0 0)) hyphen) (eqb (class_of (get_or s 1 0)) hyphen) e in
        inside s 1 hyphen (eqb-true (class_of (get_or s 1 0)) hyphen two.1) (omega arith)
    go false e = omega arith

comment_fits : (b d : ℕ) (s : List ℕ) → Fit (b ∷ d ∷ s) (comment s)
unfolding comment
comment_fits b d s =
    let n : span comment_byte s ≤ length s = span_in comment_byte s in
    let m : closing (drop (span comment_byte s) s) ≤ length s - span comment_byte s =
    rw (← length-drop (span comment_byte s) s) (closing_fits (drop (span comment_byte s) s)) in
    record { fits = (omega arith, omega arith) }

hyphen_fits : (b : ℕ) (bs : List ℕ) → Fit (b ∷ bs) (after_hyphen bs)
unfolding after_hyphen
hyphen_fits b [] =
    by_test (b ∷ []) (eqb (class_of 0) hyphen)
    (λ e. let l : 0 < 0 = inside [] 0 hyphen (eqb-true (class_of 0) hyphen e) (omega arith) in absurd (omega arith))
    (λ e. by_test (b ∷ []) (eqb (class_of 0) digit) (λ q. negative_fits b []) (λ q. omega arith))
hyphen_fits b (d ∷ bs) =
    by_test (b ∷ d ∷ bs) (eqb (class_of d) hyphen) (λ e. comment_fits b d bs)
    (λ e. by_test (b ∷ d ∷ bs) (eqb (class_of d) digit) (λ q. negative_fits b (d ∷ bs)) (λ q. omega arith))

quoted_fits : (b : ℕ) (bs : List ℕ) → class_of b ≡ quote → Fit (b ∷ bs) (quoted bs)
unfolding quoted
quoted_fits b bs first =
    by_test (b ∷ bs) (leb (length bs) (span text_byte bs)) (λ e. omega arith)
    (λ e. let l : span text_byte bs < length bs = leb-false (length bs) (span text_byte bs) e in
    by_test (b ∷ bs) (eqb (class_of (get_or bs (span text_byte bs) 0)) quote)
    (λ q. record {
      fits = record {
        some = omega arith;
        inside = omega arith;
        terminal = omega arith;
        short_name = λ t. absurd t;
        number_range = λ z. absurd (omega arith);
        negative_range = λ z. absurd (omega arith);
        text_quote = λ z. first;
      };
    })
    (λ q. omega arith))

hex_fits : (b : ℕ) (bs : List ℕ) → Fit (b ∷ bs) (hex_string bs)
unfolding hex_string
hex_fits b bs =
    let n = span hex_byte bs in
    let closed = eqb (class_of (get_or bs n 0)) apostrophe in
    let letter = eqb (get_or bs (n + 1) 0) 72 in
    by_test (b ∷ bs) (closed && letter)
    (λ e. let l : n + 1 < length bs = byte_inside bs (n + 1) 72 (eqb-true _ _ (both_true closed letter e).1) (omega arith) in
    other_fits (b ∷ bs) hex (n + 3) (omega arith) (omega arith) (omega arith) (omega arith))
    (λ e. omega arith)

colon_fits : (b : ℕ) (bs : List ℕ) → Fit (b ∷ bs) (after_colon bs)
unfolding after_colon
colon_fits b bs =
    by_test (b ∷ bs) (eqb (get_or bs 0 0) 58 && eqb (get_or bs 1 0) 61)
    (λ e. let h = both_true (eqb (get_or bs 0 0) 58) (eqb (get_or bs 1 0) 61) e in
    let l : 1 < length bs = byte_inside bs 1 61 (eqb-true (get_or bs 1 0) 61 h.1) (omega arith) in
    other_fits (b ∷ bs) assign 3 (omega arith) (omega arith) (omega arith) (omega arith))
    (λ e. omega arith)

dot_fits : (b : ℕ) (bs : List ℕ) → Fit (b ∷ bs) (after_dot bs)
unfolding after_dot
dot_fits b bs =
    by_test (b ∷ bs) (eqb (get_or bs 0 0) 46)
    (λ e. let l : 0 < length bs = byte_inside bs 0 46 (eqb-true (get_or bs 0 0) 46 e) (omega arith) in
    other_fits (b ∷ bs) dots 2 (omega arith) (omega arith) (omega arith) (omega arith))
    (λ e. omega arith)

punctuation_fits : (c b : ℕ) (bs : List ℕ) → class_of b ≡ c → Fit (b ∷ bs) (punctuation c bs)
unfolding punctuation
punctuation_fits c b bs is =
    let s = b ∷ bs in
    by_test s (leb left_brace c && leb c bar)
    (λ e. let both = both_true (leb left_brace c) (leb c bar) e in
    other_fits s c 1 (omega arith) (omega arith) (omega (arith, leb-true left_brace c both.0)) (leb-true c bar both.1))
    (λ e. by_test s (eqb c hyphen) (λ q. hyphen_fits b bs)
    (λ q. by_test s (eqb c quote) (λ r. quoted_fits b bs (is ∙ eqb-true c quote r))
    (λ r. by_test s (eqb c colon) (λ u. colon_fits b bs)
    (λ u. by_test s (eqb c dot) (λ v. dot_fits b bs)
    (λ v. by_test s (eqb c apostrophe) (λ w. hex_fits b bs) (λ w. omega arith))))))

-- the first byte of a span belongs to it
starts_span : (p : ℕ → ℕ → Bool) (b : ℕ) (bs : List ℕ) → p b (get_or bs 0 0) ≡ true → 1 ≤ span p (b ∷ bs)
unfolding span
starts_span p b bs e = rw e (omega arith)

pub piece_fits : (b : ℕ) (bs : List ℕ) → Fit (b ∷ bs) (piece (b ∷ bs))
unfolding piece
piece_fits b bs =
    let s = b ∷ bs in
    by_test s (leb (class_of b) capital)
    (λ e. by_test s (eqb (class_of b) digit)
    (λ q. number_fits s (starts_span digit_byte b bs (rw (eqb-true (class_of b) digit q) refl)))
    (λ q. name_fits s (starts_span name_byte b bs (simp e))))
    (λ e. by_test s (leb newline (class_of b) && leb (class_of b) feed)
    (λ q. record { fits = (starts_span blank_byte b bs q, span_in blank_byte s) })
    (λ q. punctuation_fits (class_of b) b bs refl))

-- where the first byte is a blank, the piece is the blanks
pub blank_piece : (s : List ℕ) → blank_byte (get_or s 0 0) 0 ≡ true → piece s ≡ gap (span blank_byte s)
unfolding piece
blank_piece s e =
    let c = class_of (get_or s 0 0) in
    let low : newline ≤ c = leb-true newline c (both_true (leb newline c) (leb c feed) e).0 in
    simp (lt-leb c capital (omega arith), e)
