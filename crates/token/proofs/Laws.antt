-- The laws of the cut for the layers above: its tokens are sound and rise, there are at most as many as bytes, and arrays that
-- hold them are read as the list of them.
-- Assumes nothing.
use mathlib.Core.Path.{◌≡◌, refl, sym, ap, subst, ◌∙◌}
use mathlib.Core.Bool.{Bool, true, false, cond}
use mathlib.Core.List.{List, [], ◌∷◌, map}
use Prim.Native.Nat.{ℕ, zero, suc, ◌+◌, ◌-◌, ◌≤◌, ◌<◌}
use native.Mathlib.Decide.{dec_lt}
use native.Mathlib.Omega.{arith}
use lib.Dec.{T}
use lib.IntN.{pos, neg_ℤ, nat_abs, neg_ℤ-neg_ℤ}
use lib.ListN.{length, get_or, take, drop, length-drop, length-map, get_or-append, get_or-map}
use lib.Seq.{length-take-le, drop-cons}
use borrow.Author.Tests.{ne_eqb}
use Rattle.terminal.specs.Terminal.{number, negative}
use Rattle.lexicon.specs.Byte.{class_of}
use Rattle.piece.specs.Decimal.{decimal}
use Rattle.lexicon.specs.Word.{is_name}
use Rattle.token.specs.Token.{Tok, tok, meaning, spelling_of, value_of}
use Rattle.piece.specs.Piece.{Piece, gap, token, refusal, largest_number, largest_negative, piece, size}
use Rattle.token.specs.Cut.{whole, Cut, cut}
use Rattle.lexicon.specs.Word.{between, Within}
use Rattle.token.specs.Table.{overlaid}
use Rattle.token.specs.Law.{Sound, Rising}
use Rattle.piece.proofs.Pieces.{Fits, Fit}
use Rattle.lexicon.proofs.Places.{first_byte}
use Rattle.token.proofs.Left.{left, from_piece, ended, left_whole, step_gap, step_token, step_refusal, step_end, fit_at}

-- what holds of what is left after a piece p holds of what is left at it
abbrev pub Step : List ℕ → (ℕ → Cut → Type 0) → Piece → Type 0
Step t P p =
    (at : ℕ) → at < length t → piece (drop at t) ≡ p → Fits (drop at t) p
    → P (at + size p) (left t (at + size p)) → P at (from_piece t at p)

-- what holds at the end and at a refusal, and is kept by a gap and by a token before, holds of the cut of what is left
module _
    (t : List ℕ) (P : ℕ → Cut → Type 0)
    (at_end : (at : ℕ) → length t ≤ at → P at (ended whole))
    (at-refusal : (r d at : ℕ) → at < length t → piece (drop at t) ≡ refusal r d → P at (from_piece t at (refusal r d)))
    (at_gap : (m : ℕ) → Step t P (gap m))
    (at_token : (c m : ℕ) → Step t P (token c m))
  where
    bounded : (k at : ℕ) → length t ≤ at + k → P at (left t at)
    bounded zero at h = subst (P at) (sym (step_end t at (omega arith))) (at_end at (omega arith))
    bounded (suc k) at h = go (dec_lt at (length t)) (bounded k)
      where
        next : at < length t → (x : Piece) → piece (drop at t) ≡ x → Fit (drop at t) x
            → ((j : ℕ) → length t ≤ j + k → P j (left t j)) → P at (left t at)
        next l (gap m) e f ih =
            subst (P at) (sym (step_gap t at m l e f.fits.0))
            (at_gap m at l e f.fits (ih (at + m) (omega (arith, f.fits.0))))
        next l (token c m) e f ih =
            subst (P at) (sym (step_token t at c m l e f.fits.some))
            (at_token c m at l e f.fits (ih (at + m) (omega (arith, f.fits.some))))
        next l (refusal r d) e f ih = subst (P at) (sym (step_refusal t at r d l e)) (at-refusal r d at l e)

        go : Dec (at < length t) → ((j : ℕ) → length t ≤ j + k → P j (left t j)) → P at (left t at)
        go (yes l) ih = next l (piece (drop at t)) refl (fit_at t at l) ih
        go (no l) ih = subst (P at) (sym (step_end t at (omega arith))) (at_end at (omega arith))

    pub cut_induction : (at : ℕ) → P at (left t at)
    cut_induction at = bounded (length t) at (omega arith)

spelling_length : (c : ℕ) (bs : List ℕ) → T (is_name c) → length (spelling_of c bs) ≡ length bs
unfolding spelling_of
spelling_length c bs h = go (is_name c) h
  where
    go : (b : Bool) → T b → length (cond b bs []) ≡ length bs
    go true q = refl
    go false q = absurd q

number_value : (c : ℕ) (bs : List ℕ) → c ≡ number → value_of c bs ≡ pos (decimal bs)
unfolding value_of
number_value c bs e = rw e

negative_value : (c : ℕ) (bs : List ℕ) → c ≡ negative → value_of c bs ≡ neg_ℤ (pos (decimal (drop 1 bs)))
unfolding value_of
negative_value c bs e = rw e

sound_token : (t : List ℕ) (at c m : ℕ) → at < length t → Fits (drop at t) (token c m)
    → Sound t (tok c at (at + m) (take m (drop at t)))
unfolding tok meaning
sound_token t at c m h f =
    let n : at + m - at ≡ m = omega arith in
    let long : length (take m (drop at t)) ≡ m = length-take-le m (drop at t) f.inside in
    record {
      made = rw n;
      nonempty = omega (arith, f.some);
      inside = omega (arith, f.inside, length-drop at t);
      terminal = f.terminal;
      name_bytes = λ q.
          let s = spelling_length c (take m (drop at t)) q in
          (omega (arith, s, f.some), omega (arith, s, f.short_name q));
      text_quote = λ q. ap class_of (sym (first_byte t at)) ∙ f.text_quote q;
      number_range = λ q. (decimal (take m (drop at t)), number_value c (take m (drop at t)) q, f.number_range q);
      negative_range = λ q. (decimal (drop 1 (take m (drop at t))), negative_value c (take m (drop at t)) q, f.negative_range q);
    }

-- tokens that start at a place or later start after any place before it
later : (t : List ℕ) (from to : ℕ) (ts : List Tok) → from ≤ to → Rising t to ts → Rising t from ts
later t from to [] h r = tt
later t from to (x ∷ ts) h r = (omega (arith, r.0), r.1, r.2)

-- the tokens of what is left of a text are sound, and rise from there
pub rising_left : (t : List ℕ) (at : ℕ) → Rising t at (left t at).tokens
unfolding tok meaning
rising_left t at =
    cut_induction t (λ (at : ℕ) (x : Cut). Rising t at x.tokens)
    (λ at h. tt)
    (λ r d at h e. tt)
    (λ m at h e f r. later t at (at + m) (left t (at + m)).tokens (omega arith) r)
    (λ c m at h e f r. (omega arith, sound_token t at c m h f, r))
    at

-- the tokens of a text are sound, and rise
pub rising : (t : List ℕ) → Rising t 0 (cut t).tokens
rising t = subst (λ (x : Cut). Rising t 0 x.tokens) (left_whole t) (rising_left t 0)

-- there are at most as many tokens as bytes
rising_few : (t : List ℕ) (from : ℕ) (ts : List Tok) → Rising t from ts → from ≤ length t → from + length ts ≤ length t
rising_few t from [] r h = omega arith
rising_few t from (x ∷ ts) r h = omega (arith, r.0, r.1.nonempty, rising_few t x.end ts r.2 r.1.inside)

pub few : (t : List ℕ) → length (cut t).tokens ≤ length t
few t = omega (arith, rising_few t 0 (cut t).tokens (rising t) (omega arith))

-- the token at an index
pub sound_at : (t : List ℕ) (from : ℕ) (ts : List Tok) → Rising t from ts → (i : ℕ) (d : Tok) → i < length ts
    → Sound t (get_or ts i d)
sound_at t from [] r i d h = absurd (omega arith)
sound_at t from (x ∷ ts) r zero d h = r.1
sound_at t from (x ∷ ts) r (suc i) d h = sound_at t x.end ts r.2 i d (omega arith)

-- an array that holds a field of each token, at the index of one
pub held_at : (field : Tok → ℕ) (ts : List Tok) (old : List ℕ) (i : ℕ) (d : Tok) → field d ≡ 0 → i < length ts
    → get_or (overlaid (map field ts) old) i 0 ≡ field (get_or ts i d)
held_at field ts old i d z h =
    get_or-append (map field ts) (drop (length (map field ts)) old) 0 i (rw length-map h)
    ∙ ap (λ (y : ℕ). get_or (map field ts) i y) (sym z)
    ∙ get_or-map field ts i d

-- numbers below zero of the same value have the same magnitude
magnitude : (m n : ℕ) → neg_ℤ (pos m) ≡ neg_ℤ (pos n) → m ≡ n
magnitude m n e = ap nat_abs (sym (neg_ℤ-neg_ℤ (pos m)) ∙ ap neg_ℤ e ∙ neg_ℤ-neg_ℤ (pos n))

-- a number's value and a negative number's, of the bytes and of those after the hyphen, in range
abbrev pub Number : ℕ → List ℕ → Type 0
Number class bs = (value_of class bs ≡ pos (decimal bs)) × (decimal bs ≤ largest_number)

abbrev pub Negative : ℕ → List ℕ → List ℕ → Type 0
Negative class bs digits = (value_of class bs ≡ neg_ℤ (pos (decimal digits))) × (decimal digits ≤ largest_negative)

-- a token that its place in the text makes: its place and its value
module _ (t : List ℕ) (class start end : ℕ) (sound : Sound t (tok class start end (between t start end))) where
  pub token_within : Within t start end
  unfolding tok
  token_within = record { ordered = omega (arith, sound.nonempty); inside = sound.inside }

  pub token_place : (start < end) × (end ≤ length t)
  unfolding tok
  token_place = (sound.nonempty, sound.inside)

  pub number_is : class ≡ number → Number class (between t start end)
  unfolding tok meaning
  number_is e =
      let v = number_value class (between t start end) e in
      let r = sound.number_range e in
      let same : decimal (between t start end) ≡ r.0 = ap nat_abs (sym v ∙ r.1) in
      (v, omega (arith, r.2))

  after_hyphen : drop 1 (between t start end) ≡ between t (start + 1) end
  after_hyphen =
      let a : end - start ≡ suc (end - (start + 1)) = omega (arith, token_place) in
      let b : suc start ≡ start + 1 = omega arith in
      rw (a, drop-cons t start 0 (omega (arith, token_place)), b)

  pub negative_is : class ≡ negative → Negative class (between t start end) (between t (start + 1) end)
  unfolding tok meaning
  negative_is e =
      let digits = between t (start + 1) end in
      let v : value_of class (between t start end) ≡ neg_ℤ (pos (decimal digits)) =
      negative_value class (between t start end) e ∙ ap (λ (bs : List ℕ). neg_ℤ (pos (decimal bs))) after_hyphen in
      let r = sound.negative_range e in
      let same : decimal digits ≡ r.0 = magnitude (decimal digits) r.0 (sym v ∙ r.1) in
      (v, omega (arith, r.2))

pub other_value : (class : ℕ) (bs : List ℕ) → (class ≡ number → ⊥) → (class ≡ negative → ⊥) → value_of class bs ≡ pos 0
unfolding value_of
other_value class bs p q = simp (ne_eqb class number p, ne_eqb class negative q)
