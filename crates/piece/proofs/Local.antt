-- A piece is decided by its own bytes, the byte after it, and the byte after that one unless the former is a quote.
-- Assumes nothing.
use mathlib.Core.Path.{◌≡◌, refl, sym, ap, subst, ◌∙◌}
use mathlib.Core.Bool.{Bool, true, false, cond, ◌&&◌, ◌||◌}
use mathlib.Core.List.{List, [], ◌∷◌}
use Prim.Native.Nat.{ℕ, zero, suc, ◌+◌, ◌≤◌, ◌<◌}
use native.Mathlib.Decide.{ℕ_discrete}
use native.Mathlib.Omega.{arith}
use lib.Dec.{leb, eqb}
use lib.ListN.{length, get_or, take, drop}
use Rattle.terminal.specs.Terminal.{number, negative, text, hex, assign, dots, left_brace, bar}
use Rattle.lexicon.specs.Byte.{class_of, quote, newline, feed, hyphen, apostrophe, colon, dot, small_hex, digit}
use Rattle.lexicon.specs.Byte.{capital_hex, capital, classed, digit_byte, hex_byte, text_byte, name_byte, comment_byte}
use Rattle.lexicon.specs.Byte.{blank_byte, two_hyphens}
use Rattle.lexicon.specs.Word.{longest_name, name_class}
use Rattle.lexicon.proofs.Places.{byte_there, first_byte}
use Rattle.piece.specs.Decimal.{decimal}
use Rattle.piece.specs.Piece.{Piece, gap, token, refusal, no_token, forbidden, long_name, out_of_range}
use Rattle.piece.specs.Piece.{largest_number, largest_negative, span, name, misfit, non_negative, below_zero, closing}
use Rattle.piece.specs.Piece.{comment, after_hyphen, quoted, hex_string, after_colon, after_dot, punctuation, piece}
use Rattle.piece.specs.Piece.{size}

-- two lists of equal length agree at the places up to m, and at the next unless a quote stands at m
pub record Near (a b : List ℕ) (m : ℕ) : Type 0 where
  pub long : length a ≡ length b
  pub near : (j : ℕ) → j ≤ m → get_or a j 0 ≡ get_or b j 0
  pub after : (class_of (get_or a m 0) ≡ quote → ⊥) → get_or a (suc m) 0 ≡ get_or b (suc m) 0

-- a test of a byte and the next that doesn't look past a quote
abbrev pub QuoteBlind : (ℕ → ℕ → Bool) → Type 0
QuoteBlind p = (b x y : ℕ) → class_of b ≡ quote → p b x ≡ p b y

name_blind : QuoteBlind name_byte
name_blind b x y e = rw e

comment_blind : QuoteBlind comment_byte
comment_blind b x y e = rw e

hyphens_blind : QuoteBlind two_hyphens
hyphens_blind b x y e = rw e

class_blind : (low high : ℕ) → QuoteBlind (classed low high)
class_blind low high b x y e = refl

-- such a test has the same answer in both lists at every place up to m
pair_local : (p : ℕ → ℕ → Bool) → QuoteBlind p → (a b : List ℕ) (m : ℕ) → Near a b m → (j : ℕ) → j ≤ m
    → p (get_or a j 0) (get_or a (suc j) 0) ≡ p (get_or b j 0) (get_or b (suc j) 0)
pair_local p blind a b m n j h = go (ℕ_discrete j m) (ℕ_discrete (class_of (get_or a j 0)) quote)
  where
    here : get_or a j 0 ≡ get_or b j 0
    here = n.near j h

    go : Dec (j ≡ m) → Dec (class_of (get_or a j 0) ≡ quote) → p (get_or a j 0) (get_or a (suc j) 0) ≡ p (get_or b j 0) (get_or b (suc j) 0)
    go d (yes q) = blind (get_or a j 0) (get_or a (suc j) 0) (get_or b (suc j) 0) q ∙ ap (λ (x : ℕ). p x (get_or b (suc j) 0)) here
    go (yes e) (no q) =
        let next : get_or a (suc j) 0 ≡ get_or b (suc j) 0 = rw e (n.after (λ r. q (rw e r))) in
        λ i. p (here i) (next i)
    go (no e) (no q) = let next = n.near (suc j) (omega arith) in λ i. p (here i) (next i)

near_tail : (x y : ℕ) (a b : List ℕ) (m : ℕ) → Near (x ∷ a) (y ∷ b) (suc m) → Near a b m
near_tail x y a b m n =
    record { long = omega (arith, n.long); near = λ j h. n.near (suc j) (omega arith); after = λ q. n.after q }

near_less : (a b : List ℕ) (m k : ℕ) → k < m → Near a b m → Near a b k
near_less a b m k h n =
    record { long = n.long; near = λ j l. n.near j (omega arith); after = λ q. n.near (suc k) (omega arith) }

-- a span is the same in both lists
span_local : (p : ℕ → ℕ → Bool) → QuoteBlind p → (a b : List ℕ) → Near a b (span p a) → span p b ≡ span p a
unfolding span
span_local p blind [] [] n = refl
span_local p blind [] (y ∷ b) n = absurd (omega (arith, n.long))
span_local p blind (x ∷ a) [] n = absurd (omega (arith, n.long))
span_local p blind (x ∷ a) (y ∷ b) n =
    let first = pair_local p blind (x ∷ a) (y ∷ b) (span p (x ∷ a)) n 0 (omega arith) in
    go (p x (get_or a 0 0)) refl first n (span_local p blind a b)
  where
    go : (t : Bool) → p x (get_or a 0 0) ≡ t → p x (get_or a 0 0) ≡ p y (get_or b 0 0)
        → Near (x ∷ a) (y ∷ b) (cond t (suc (span p a)) 0) → (Near a b (span p a) → span p b ≡ span p a)
        → cond (p y (get_or b 0 0)) (suc (span p b)) 0 ≡ cond t (suc (span p a)) 0
    go true e q n ih = rw (sym q ∙ e) (ap suc (ih (near_tail x y a b (span p a) n)))
    go false e q n ih = rw (sym q ∙ e)

-- the first bytes are the same in both lists
pub take_local : (a b : List ℕ) (k : ℕ) → length a ≡ length b → ((j : ℕ) → j < k → get_or a j 0 ≡ get_or b j 0) → take k b ≡ take k a
take_local [] [] k l h = refl
take_local [] (y ∷ b) k l h = absurd (omega arith)
take_local (x ∷ a) [] k l h = absurd (omega arith)
take_local (x ∷ a) (y ∷ b) zero l h = refl
take_local (x ∷ a) (y ∷ b) (suc k) l h =
    let rest = take_local a b k (omega arith) (λ j q. h (suc j) (omega arith)) in
    λ i. sym (h 0 (omega arith)) i ∷ rest i

near_least : (a b : List ℕ) (m k : ℕ) → k ≤ m → Near a b m → Near a b k
near_least a b m k h n = go (ℕ_discrete k m)
  where
    go : Dec (k ≡ m) → Near a b k
    go (yes e) = subst (λ (j : ℕ). Near a b j) (sym e) n
    go (no e) = near_less a b m k (omega arith) n

-- a piece that is a gap, or a token other than a text
abbrev pub Plain : Piece → Type 0
Plain (gap n) = Unit {0}
Plain (token c n) = c ≡ text → ⊥
Plain (refusal r d) = ⊥

name_local : (a b : List ℕ) → Plain (name a) → Near a b (size (name a)) → name b ≡ name a
unfolding name
name_local a b r n = go (leb (span name_byte a) longest_name) r n
  where
    reading : ℕ → List ℕ → Piece
    reading k bs = cond (leb k longest_name) (token (name_class bs) k) (refusal long_name 0)

    same : Near a b (span name_byte a) → name b ≡ name a
    same near =
        let k = span_local name_byte name_blind a b near in
        let bs = take_local a b (span name_byte a) near.long (λ j h. near.near j (omega arith)) in
        ap (λ (j : ℕ). reading j (take j b)) k ∙ ap (reading (span name_byte a)) bs

    choice : Bool → Piece
    choice t = cond t (token (name_class (take (span name_byte a) a)) (span name_byte a)) (refusal long_name 0)

    go : (t : Bool) → Plain (choice t) → Near a b (size (choice t)) → name b ≡ name a
    go true r near = same near
    go false r near = absurd r

misfit_local : (a b : List ℕ) → Near a b (span digit_byte a) → misfit b ≡ misfit a
unfolding misfit
misfit_local a b near =
    let k : span digit_byte b ≡ span digit_byte a = span_local digit_byte (class_blind digit digit) a b near in
    let first : get_or b 0 0 ≡ get_or a 0 0 = sym (near.near 0 (omega arith)) in
    let next : get_or b (span digit_byte a) 0 ≡ get_or a (span digit_byte a) 0 = sym (near.near (span digit_byte a) (omega arith)) in
    rw (k, first, next)

-- a number that is not negative, and one that is: they differ in what is none of a number, the limit, the class and the length
module _ (bad : List ℕ → Bool) (limit class : ℕ) (long : ℕ → ℕ) where
  abbrev reading : Bool → ℕ → List ℕ → Piece
  reading none k bs =
      cond none (refusal no_token 0)
      (cond (leb (decimal bs) limit) (token class (long k)) (refusal out_of_range 0))

  abbrev read : List ℕ → Piece
  read s = reading (bad s) (span digit_byte s) (take (span digit_byte s) s)

  digits_local : (a b : List ℕ) → (Near a b (span digit_byte a) → bad b ≡ bad a) → (Agree : ℕ → Type 0)
      → (Agree (long (span digit_byte a)) → Near a b (span digit_byte a)) → Plain (read a) → Agree (size (read a))
      → read b ≡ read a
  digits_local a b none Agree near r n = go (bad a) (leb (decimal (take (span digit_byte a) a)) limit) r n
    where
      same : Near a b (span digit_byte a) → read b ≡ read a
      same l =
          let k = span_local digit_byte (class_blind digit digit) a b l in
          let bs = take_local a b (span digit_byte a) l.long (λ j h. l.near j (omega arith)) in
          ap (λ (x : Bool). reading x (span digit_byte b) (take (span digit_byte b) b)) (none l)
          ∙ ap (λ (j : ℕ). reading (bad a) j (take j b)) k
          ∙ ap (reading (bad a) (span digit_byte a)) bs

      choice : Bool → Bool → Piece
      choice x y = cond x (refusal no_token 0) (cond y (token class (long (span digit_byte a))) (refusal out_of_range 0))

      go : (x y : Bool) → Plain (choice x y) → Agree (size (choice x y)) → read b ≡ read a
      go true y r n = absurd r
      go false true r n = same (near n)
      go false false r n = absurd r

number_local : (a b : List ℕ) → Plain (non_negative a) → Near a b (size (non_negative a)) → non_negative b ≡ non_negative a
unfolding non_negative
number_local a b r n = digits_local misfit largest_number number (λ k. k) a b (misfit_local a b) (Near a b) (λ l. l) r n

negative_local : (x y : ℕ) (a b : List ℕ) → Plain (below_zero a) → Near (x ∷ a) (y ∷ b) (size (below_zero a))
    → below_zero b ≡ below_zero a
unfolding below_zero
negative_local x y a b r n =
    digits_local (λ (s : List ℕ). eqb (get_or s 0 0) 48 || misfit s) largest_negative negative suc a b
    (λ l. λ i. eqb (sym (l.near 0 (omega arith)) i) 48 || misfit_local a b l i)
    (Near (x ∷ a) (y ∷ b))
    (near_tail x y a b (span digit_byte a))
    r
    n

comment_local : (x y z w : ℕ) (a b : List ℕ) → Near (x ∷ y ∷ a) (z ∷ w ∷ b) (size (comment a)) → comment b ≡ comment a
unfolding comment
comment_local x y z w a b n =
    let k = span comment_byte a in
    let end = k + closing (drop k a) in
    let all : Near (x ∷ y ∷ a) (z ∷ w ∷ b) (suc (suc end)) = subst (Near (x ∷ y ∷ a) (z ∷ w ∷ b)) (omega arith) n in
    let after : Near a b end = near_tail y w a b end (near_tail x z (y ∷ a) (w ∷ b) (suc end) all) in
    let near : Near a b k = near_least a b end k (omega arith) after in
    let e : span comment_byte b ≡ k = span_local comment_byte comment_blind a b near in
    let two : two_hyphens (get_or b k 0) (get_or b (suc k) 0) ≡ two_hyphens (get_or a k 0) (get_or a (suc k) 0) =
    sym (pair_local two_hyphens hyphens_blind a b k near k (omega arith)) in
    ap (λ (j : ℕ). gap (2 + j + closing (drop j b))) e
    ∙ ap (λ (t : Bool). gap (2 + k + cond t 2 0)) (ends b k ∙ two ∙ sym (ends a k))
  where
    ends : (s : List ℕ) (k : ℕ)
        → two_hyphens (get_or (drop k s) 0 0) (get_or (drop k s) 1 0) ≡ two_hyphens (get_or s k 0) (get_or s (suc k) 0)
    ends s k =
        let p = first_byte s k in
        let q = byte_there s k 1 (suc k) (omega arith) in
        λ i. two_hyphens (p i) (q i)

hyphen_local : (x y : ℕ) (a b : List ℕ) → Plain (after_hyphen a) → Near (x ∷ a) (y ∷ b) (size (after_hyphen a))
    → 1 ≤ size (after_hyphen a) → after_hyphen b ≡ after_hyphen a
unfolding after_hyphen
hyphen_local x y [] [] r n h = refl
hyphen_local x y [] (w ∷ b) r n h = absurd (omega (arith, n.long))
hyphen_local x y (z ∷ a) [] r n h = absurd (omega (arith, n.long))
hyphen_local x y (z ∷ a) (w ∷ b) r n h =
    rw (sym (n.near 1 h)) (go (eqb (class_of z) hyphen) (eqb (class_of z) digit) r n (sym (n.near 1 h)))
  where
    choice : Bool → Bool → List ℕ → Piece
    choice p q s = cond p (comment s) (cond q (below_zero (z ∷ s)) (refusal no_token 0))

    go : (p q : Bool) → Plain (choice p q a) → Near (x ∷ z ∷ a) (y ∷ w ∷ b) (size (choice p q a)) → w ≡ z
        → choice p q b ≡ choice p q a
    go true q r n e = comment_local x z y w a b n
    go false true r n e = ap (λ (j : ℕ). below_zero (j ∷ b)) (sym e) ∙ negative_local x y (z ∷ a) (w ∷ b) r n
    go false false r n e = absurd r

-- a token where a test holds, and no token where it doesn't
abbrev tested : ℕ → Bool → ℕ → Piece
tested class t n = cond t (token class n) (refusal no_token 0)

tested_local : (class m n : ℕ) (t u : Bool) (Agree : ℕ → Type 0) → (Agree n → (u ≡ t) × (m ≡ n))
    → Plain (tested class t n) → Agree (size (tested class t n)) → tested class u m ≡ tested class t n
tested_local class m n true u Agree f r s = λ i. tested class ((f s).0 i) ((f s).1 i)
tested_local class m n false u Agree f r s = absurd r

hex_local : (x y : ℕ) (a b : List ℕ) → Plain (hex_string a) → Near (x ∷ a) (y ∷ b) (size (hex_string a))
    → hex_string b ≡ hex_string a
unfolding hex_string
hex_local x y a b r n =
    tested_local hex (l + 3) (k + 3) (ends k a) (ends l b) (Near (x ∷ a) (y ∷ b)) same r n
  where
    k : ℕ
    k = span hex_byte a

    l : ℕ
    l = span hex_byte b

    ends : ℕ → List ℕ → Bool
    ends j s = eqb (class_of (get_or s j 0)) apostrophe && eqb (get_or s (j + 1) 0) 72

    same : Near (x ∷ a) (y ∷ b) (k + 3) → (ends l b ≡ ends k a) × (l + 3 ≡ k + 3)
    same n =
        let tail : Near a b (k + 2) = near_tail x y a b (k + 2) (subst (Near (x ∷ a) (y ∷ b)) (omega arith) n) in
        let as_long : l ≡ k =
        span_local hex_byte (class_blind small_hex capital_hex) a b (near_less a b (k + 2) k (omega arith) tail) in
        let here : get_or b k 0 ≡ get_or a k 0 = sym (tail.near k (omega arith)) in
        let next : get_or b (k + 1) 0 ≡ get_or a (k + 1) 0 = sym (tail.near (k + 1) (omega arith)) in
        (rw (as_long, here, next), rw as_long)

colon_local : (x y : ℕ) (a b : List ℕ) → Plain (after_colon a) → Near (x ∷ a) (y ∷ b) (size (after_colon a))
    → after_colon b ≡ after_colon a
unfolding after_colon
colon_local x y a b r n = tested_local assign 3 3 (ends a) (ends b) (Near (x ∷ a) (y ∷ b)) same r n
  where
    ends : List ℕ → Bool
    ends s = eqb (get_or s 0 0) 58 && eqb (get_or s 1 0) 61

    same : Near (x ∷ a) (y ∷ b) 3 → (ends b ≡ ends a) × (◌≡◌ {A = ℕ} 3 3)
    same n =
        let first : get_or b 0 0 ≡ get_or a 0 0 = sym (n.near 1 (omega arith)) in
        let second : get_or b 1 0 ≡ get_or a 1 0 = sym (n.near 2 (omega arith)) in
        (rw (first, second), refl)

dot_local : (x y : ℕ) (a b : List ℕ) → Plain (after_dot a) → Near (x ∷ a) (y ∷ b) (size (after_dot a)) → after_dot b ≡ after_dot a
unfolding after_dot
dot_local x y a b r n =
    tested_local dots 2 2 (eqb (get_or a 0 0) 46) (eqb (get_or b 0 0) 46) (Near (x ∷ a) (y ∷ b))
    (λ n. (ap (λ (z : ℕ). eqb z 46) (sym (n.near 1 (omega arith))), refl))
    r
    n

-- a text is no plain piece
quoted_plain : (a : List ℕ) → Plain (quoted a) → ⊥
unfolding quoted
quoted_plain a r = go (leb (length a) (span text_byte a)) (eqb (class_of (get_or a (span text_byte a) 0)) quote) r
  where
    choice : Bool → Bool → Piece
    choice p q =
        cond p (refusal no_token 0)
        (cond q (token text (span text_byte a + 2)) (refusal forbidden (span text_byte a + 1)))

    go : (p q : Bool) → Plain (choice p q) → ⊥
    go true q r = r
    go false true r = r refl
    go false false r = r

punctuation_local : (c x y : ℕ) (a b : List ℕ) → Plain (punctuation c a) → Near (x ∷ a) (y ∷ b) (size (punctuation c a))
    → 1 ≤ size (punctuation c a) → punctuation c b ≡ punctuation c a
unfolding punctuation
punctuation_local c x y a b r n h =
    go (leb left_brace c && leb c bar) (eqb c hyphen) (eqb c quote) (eqb c colon) (eqb c dot) (eqb c apostrophe) r n h
  where
    choice : Bool → Bool → Bool → Bool → Bool → Bool → List ℕ → Piece
    choice p q t u v w s =
        cond p (token c 1)
        (cond q (after_hyphen s)
        (cond t (quoted s)
        (cond u (after_colon s) (cond v (after_dot s) (cond w (hex_string s) (refusal no_token 0))))))

    go : (p q t u v w : Bool) → Plain (choice p q t u v w a) → Near (x ∷ a) (y ∷ b) (size (choice p q t u v w a))
        → 1 ≤ size (choice p q t u v w a) → choice p q t u v w b ≡ choice p q t u v w a
    go true q t u v w r n h = refl
    go false true t u v w r n h = hyphen_local x y a b r n h
    go false false true u v w r n h = absurd (quoted_plain a r)
    go false false false true v w r n h = colon_local x y a b r n
    go false false false false true w r n h = dot_local x y a b r n
    go false false false false false true r n h = hex_local x y a b r n
    go false false false false false false r n h = absurd r

-- a plain piece is the same in both lists
pub piece_local : (x y : ℕ) (a b : List ℕ) → Plain (piece (x ∷ a)) → Near (x ∷ a) (y ∷ b) (size (piece (x ∷ a)))
    → 1 ≤ size (piece (x ∷ a)) → piece (y ∷ b) ≡ piece (x ∷ a)
unfolding piece
piece_local x y a b r n h =
    ap (λ (z : ℕ). by_class (class_of z) y b) first
    ∙ go (leb (class_of x) capital) (eqb (class_of x) digit) (leb newline (class_of x) && leb (class_of x) feed) r n h
  where
    first : y ≡ x
    first = sym (n.near 0 (omega arith))

    choice : Bool → Bool → Bool → ℕ → List ℕ → Piece
    choice p q t z s =
        cond p (cond q (non_negative (z ∷ s)) (name (z ∷ s)))
        (cond t (gap (span blank_byte (z ∷ s))) (punctuation (class_of z) s))

    by_class : ℕ → ℕ → List ℕ → Piece
    by_class c z s = choice (leb c capital) (eqb c digit) (leb newline c && leb c feed) z s

    go : (p q t : Bool) → Plain (choice p q t x a) → Near (x ∷ a) (y ∷ b) (size (choice p q t x a))
        → 1 ≤ size (choice p q t x a) → choice p q t y b ≡ choice p q t x a
    go true true t r n h = number_local (x ∷ a) (y ∷ b) r n
    go true false t r n h = name_local (x ∷ a) (y ∷ b) r n
    go false q true r n h = ap gap (span_local blank_byte (class_blind newline feed) (x ∷ a) (y ∷ b) n)
    go false q false r n h =
        ap (λ (z : ℕ). punctuation (class_of z) b) first ∙ punctuation_local (class_of x) x y a b r n h
