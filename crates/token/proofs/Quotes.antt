-- The quotes law: texts that differ only strictly inside text tokens, by bytes allowed there, have equal cuts. It goes from
-- piece to piece: a plain piece is decided by bytes that both texts have, and a text token ends at the same quote.
-- Assumes nothing.
use mathlib.Core.Path.{◌≡◌, refl, sym, ap, subst, ◌∙◌}
use mathlib.Core.Logic.{◌⊎◌, inl, inr, ⊎_elim}
use mathlib.Core.Bool.{Bool, true, false, cond}
use mathlib.Core.List.{List, [], ◌∷◌}
use Prim.Native.Nat.{ℕ, zero, suc, ◌+◌, ◌≤◌, ◌<◌}
use native.Mathlib.Decide.{dec_lt, ℕ_discrete}
use native.Mathlib.Omega.{arith}
use lib.Dec.{leb, eqb}
use lib.ListN.{length, get_or, take, drop, length-drop, get_or-eq_default}
use lib.Seq.{get_or-drop, ext_get_or}
use borrow.Author.Tests.{leb-false, lt-leb, eqb-true}
use Rattle.terminal.specs.Terminal.{text}
use Rattle.lexicon.specs.Byte.{class_of, small, space, quote, classed, text_byte}
use Rattle.token.specs.Token.{Tok, tok, meaning, spelling_of, value_of}
use Rattle.piece.specs.Piece.{Piece, gap, token, refusal, no_token, forbidden, span, quoted, punctuation, piece, size}
use Rattle.token.specs.Cut.{whole, Cut, cut}
use Rattle.token.specs.Law.{Rising, InsideText, QuotedChange}
use Rattle.token.proofs.Laws.{Step, cut_induction, rising_left}
use Rattle.token.proofs.Left.{left, from_piece, ended, step_gap, step_token, step_refusal, step_end}
use Rattle.lexicon.proofs.Places.{byte_there}
use Rattle.piece.proofs.Local.{Near, Plain, piece_local, take_local}

-- ---- the text token

-- the bytes of a span are of its classes
span_holds : (low high : ℕ) (s : List ℕ) (j : ℕ) → j < span (classed low high) s → classed low high (get_or s j 0) 0 ≡ true
unfolding span
span_holds low high [] j h = absurd (omega arith)
span_holds low high (b ∷ bs) j h = go (classed low high b 0) refl j h (span_holds low high bs)
  where
    go : (t : Bool) → classed low high b 0 ≡ t → (j : ℕ) → j < cond t (suc (span (classed low high) bs)) 0
        → ((k : ℕ) → k < span (classed low high) bs → classed low high (get_or bs k 0) 0 ≡ true)
        → classed low high (get_or (b ∷ bs) j 0) 0 ≡ true
    go true e zero h ih = e
    go true e (suc j) h ih = ih j (omega arith)
    go false e j h ih = absurd (omega arith)

-- a run of bytes of its classes, then another byte, is a span
span_exact : (low high : ℕ) (s : List ℕ) (n : ℕ) → n < length s → ((j : ℕ) → j < n → classed low high (get_or s j 0) 0 ≡ true)
    → classed low high (get_or s n 0) 0 ≡ false → span (classed low high) s ≡ n
unfolding span
span_exact low high [] n h f e = absurd (omega arith)
span_exact low high (b ∷ bs) zero h f e = rw e
span_exact low high (b ∷ bs) (suc n) h f e =
    rw (f 0 (omega arith)) (ap suc (span_exact low high bs n (omega arith) (λ j q. f (suc j) (omega arith)) e))

-- at a quote stands what comes after it as a text
piece_quoted : (x : ℕ) (a : List ℕ) → class_of x ≡ quote → piece (x ∷ a) ≡ quoted a
unfolding piece punctuation
piece_quoted x a e = rw e

-- a text: its last byte is a quote
record Quoted (a : List ℕ) (c m : ℕ) : Type 0 where
  inside : span text_byte a < length a
  closed : class_of (get_or a (span text_byte a) 0) ≡ quote
  bytes : m ≡ span text_byte a + 2
  class : c ≡ text

quoted_is : (a : List ℕ) (c m : ℕ) → quoted a ≡ token c m → Quoted a c m
unfolding quoted
quoted_is a c m e = go (leb (length a) n) refl (eqb (class_of (get_or a n 0)) quote) refl e
  where
    n : ℕ
    n = span text_byte a

    choice : Bool → Bool → Piece
    choice p q = cond p (refusal no_token 0) (cond q (token text (n + 2)) (refusal forbidden (n + 1)))

    go : (p : Bool) → leb (length a) n ≡ p → (q : Bool) → eqb (class_of (get_or a n 0)) quote ≡ q → choice p q ≡ token c m
        → Quoted a c m
    go true f q g e = let z : ◌≡◌ {A = ℕ} 0 1 = cc in absurd (omega arith)
    go false f true g e = record { inside = leb-false (length a) n f; closed = eqb-true _ _ g; bytes = (cc); class = (cc) }
    go false f false g e = let z : ◌≡◌ {A = ℕ} 0 1 = cc in absurd (omega arith)

-- a text token is the same where the bytes inside are allowed and its last quote is there
quoted_local : (a b : List ℕ) (c m : ℕ) → quoted a ≡ token c m → length a ≡ length b
    → ((j : ℕ) → j + 2 < m → text_byte (get_or b j 0) 0 ≡ true) → ((j : ℕ) → j + 2 ≡ m → get_or a j 0 ≡ get_or b j 0)
    → quoted b ≡ token c m
unfolding quoted
quoted_local a b c m e l inner last =
    let is = quoted_is a c m e in
    let n = span text_byte a in
    let end : get_or a n 0 ≡ get_or b n 0 = last n (omega (arith, is.bytes)) in
    let closes : class_of (get_or b n 0) ≡ quote = ap class_of (sym end) ∙ is.closed in
    let stops : text_byte (get_or b n 0) 0 ≡ false = rw closes in
    let same : span text_byte b ≡ n =
    span_exact small space b n (omega (arith, is.inside)) (λ j h. inner j (omega (arith, is.bytes))) stops in
    rw (same, lt-leb (length b) n (omega (arith, is.inside)), closes) (λ i. token (sym is.class i) (sym is.bytes i))

-- the same of the whole token, from its first quote on
text_near : (a b : List ℕ) (c m : ℕ) → piece a ≡ token c m → 0 < length a → class_of (get_or a 0 0) ≡ quote
    → length a ≡ length b → get_or a 0 0 ≡ get_or b 0 0
    → ((j : ℕ) → 0 < j → j + 1 < m → (get_or a j 0 ≡ get_or b j 0) ⊎ (text_byte (get_or b j 0) 0 ≡ true))
    → ((j : ℕ) → j + 1 ≡ m → get_or a j 0 ≡ get_or b j 0) → piece b ≡ token c m
text_near [] b c m e h q l first inner last = absurd (omega arith)
text_near (x ∷ a) [] c m e h q l first inner last = absurd (omega arith)
text_near (x ∷ a) (y ∷ b) c m e h q l first inner last =
    let reads : quoted a ≡ token c m = sym (piece_quoted x a q) ∙ e in
    let is = quoted_is a c m reads in
    let allowed : (j : ℕ) → j + 2 < m → get_or a j 0 ≡ get_or b j 0 → text_byte (get_or b j 0) 0 ≡ true =
    λ j r s. ap (λ (z : ℕ). text_byte z 0) (sym s) ∙ span_holds small space a j (omega (arith, is.bytes)) in
    piece_quoted y b (ap class_of (sym first) ∙ q)
    ∙ quoted_local a b c m reads (omega arith)
    (λ j r. ⊎_elim (allowed j r) (λ s. s) (inner (suc j) (omega arith) (omega arith)))
    (λ j r. last (suc j) (omega arith))

-- ---- tokens after a place

-- a place inside a text token lies after the place where the tokens start
inside_after : (t : List ℕ) (from : ℕ) (ts : List Tok) (i : ℕ) → Rising t from ts → InsideText i ts → from < i
inside_after t from [] i r n = absurd n
inside_after t from (x ∷ ts) i r (inl n) = omega (arith, r.0, n.1)
inside_after t from (x ∷ ts) i r (inr n) = omega (arith, r.0, r.1.nonempty, inside_after t x.end ts i r.2 n)

-- and where it is the next place, a quote stands there
inside_quote : (t : List ℕ) (from : ℕ) (ts : List Tok) → Rising t from ts → InsideText (suc from) ts
    → class_of (get_or t from 0) ≡ quote
inside_quote t from [] r n = absurd n
inside_quote t from (x ∷ ts) r (inl n) =
    let e : x.start ≡ from = omega (arith, r.0, n.1) in
    subst (λ (k : ℕ). class_of (get_or t k 0) ≡ quote) e (r.1.text_quote n.0)
inside_quote t from (x ∷ ts) r (inr n) =
    absurd (omega (arith, r.0, r.1.nonempty, inside_after t x.end ts (suc from) r.2 n))

-- the piece of two lists that are near
piece_near : (a b : List ℕ) (p : Piece) → piece a ≡ p → 0 < length a → Plain p → 1 ≤ size p → Near a b (size p) → piece b ≡ p
piece_near [] b p e h r s n = absurd (omega arith)
piece_near (x ∷ a) [] p e h r s n = absurd (omega (arith, n.long))
piece_near (x ∷ a) (y ∷ b) p e h r s n =
    piece_local x y a b (rw e r) (rw e n) (rw e s) ∙ e

-- ---- from piece to piece

module _ (a b : List ℕ) (long : length a ≡ length b) where
  -- from the place `at` on, the texts have the same bytes but inside the text tokens ts, where b's bytes are allowed
  abbrev Agree : ℕ → List Tok → Type 0
  Agree at ts =
      (i : ℕ) → at ≤ i → i < length a → (get_or a i 0 ≡ get_or b i 0) ⊎ (InsideText i ts × (text_byte (get_or b i 0) 0 ≡ true))

  -- where no place of a text is inside a token, the bytes are the same; past the end both have none
  same_byte : (at : ℕ) (ts : List Tok) → Agree at ts → (i : ℕ) → at ≤ i → (InsideText i ts → ⊥) → get_or a i 0 ≡ get_or b i 0
  same_byte at ts agree i h out = go (dec_lt i (length a))
    where
      go : Dec (i < length a) → get_or a i 0 ≡ get_or b i 0
      go (yes l) = ⊎_elim (λ e. e) (λ n. absurd (out n.0)) (agree i h l)
      go (no l) = get_or-eq_default a 0 (omega arith) ∙ sym (get_or-eq_default b 0 (omega arith))

  -- a byte of what is left is the same where it is the same in the texts
  same_left : (at j k : ℕ) → at + j ≡ k → get_or a k 0 ≡ get_or b k 0 → get_or (drop at a) j 0 ≡ get_or (drop at b) j 0
  same_left at j k e s = byte_there a at j k e ∙ s ∙ sym (byte_there b at j k e)

  -- the bytes up to the place after a piece, and the next unless a quote stands there, are the same
  agree_near : (at m : ℕ) (ts : List Tok) → Agree at ts → ((i : ℕ) → i ≤ at + m → InsideText i ts → ⊥)
      → ((class_of (get_or a (at + m) 0) ≡ quote → ⊥) → InsideText (suc (at + m)) ts → ⊥) → Near (drop at a) (drop at b) m
  agree_near at m ts agree out next =
      record {
        long = omega (arith, length-drop at a, length-drop at b);
        near = λ j h. same_left at j (at + j) refl (same_byte at ts agree (at + j) (omega arith) (out (at + j) (omega arith)));
        after = λ q.
            same_left at (suc m) (suc (at + m)) (omega arith)
            (same_byte at ts agree (suc (at + m)) (omega arith) (next (λ r. q (ap class_of (get_or-drop at a m 0) ∙ r))));
      }

  abbrev Same : ℕ → Cut → Type 0
  Same at c = Agree at c.tokens → c ≡ left b at

  same_end : (at : ℕ) → length a ≤ at → Same at (ended whole)
  same_end at h agree = sym (step_end b at (omega arith))

  same_refusal : (r d at : ℕ) → at < length a → piece (drop at a) ≡ refusal r d → Same at (from_piece a at (refusal r d))
  same_refusal r d at h e agree =
      let rest : drop at a ≡ drop at b =
      ext_get_or 0 (drop at a) (drop at b) (omega (arith, length-drop at a, length-drop at b))
      (λ j q. same_left at j (at + j) refl (same_byte at [] agree (at + j) (omega arith) (λ n. n))) in
      sym (step_refusal b at r d (omega arith) (ap piece (sym rest) ∙ e))

  same_gap : (m : ℕ) → Step a Same (gap m)
  same_gap m at h e f ih agree =
      let ts = (left a (at + m)).tokens in
      let up = rising_left a (at + m) in
      let near =
      agree_near at m ts agree (λ i l n. absurd (omega (arith, inside_after a (at + m) ts i up n)))
      (λ q n. q (inside_quote a (at + m) ts up n)) in
      let p : piece (drop at b) ≡ gap m =
      piece_near (drop at a) (drop at b) (gap m) e (omega (arith, length-drop at a)) tt f.0 near in
      ih (λ i l q. agree i (omega arith) q) ∙ sym (step_gap b at m (omega arith) p f.0)

  -- a text token is the same whatever stands in it
  text_token : (c at end : ℕ) (bs bs' : List ℕ) → c ≡ text → tok c at end bs ≡ tok c at end bs'
  unfolding tok meaning spelling_of value_of
  text_token c at end bs bs' e = rw e

  -- the token at `at` and what comes after it, in both texts
  same_rest : (at c m : ℕ) → at < length a → piece (drop at b) ≡ token c m → 1 ≤ m
      → tok c at (at + m) (take m (drop at a)) ≡ tok c at (at + m) (take m (drop at b)) → left a (at + m) ≡ left b (at + m)
      → from_piece a at (token c m) ≡ left b at
  same_rest at c m h p s t rest =
      (λ i. record { tokens = t i ∷ (rest i).tokens; ending = (rest i).ending }) ∙ sym (step_token b at c m (omega arith) p s)

  same_token : (c m : ℕ) → Step a Same (token c m)
  unfolding tok meaning
  same_token c m at h e f ih agree = go (ℕ_discrete c text)
    where
      ts : List Tok
      ts = (left a (at + m)).tokens

      all : List Tok
      all = (from_piece a at (token c m)).tokens

      up : Rising a (at + m) ts
      up = rising_left a (at + m)

      -- a place inside a text token lies in this one, or after it
      inside : {A : Type 0} (i : ℕ) → ((c ≡ text) × (at < i) × (suc i < at + m) → A) → (at + m < i → A) → InsideText i all → A
      inside i f g t = ⊎_elim f (λ u. g (inside_after a (at + m) ts i up u)) t

      here : (j : ℕ) → (InsideText (at + j) all → ⊥) → get_or (drop at a) j 0 ≡ get_or (drop at b) j 0
      here j out = same_left at j (at + j) refl (same_byte at all agree (at + j) (omega arith) out)

      inner : (j : ℕ) → 0 < j → j + 1 < m
          → (get_or (drop at a) j 0 ≡ get_or (drop at b) j 0) ⊎ (text_byte (get_or (drop at b) j 0) 0 ≡ true)
      inner j q r =
          ⊎_elim (λ s. inl (same_left at j (at + j) refl s))
          (λ s. inr (ap (λ (z : ℕ). text_byte z 0) (get_or-drop at b j 0) ∙ s.1))
          (agree (at + j) (omega arith) (omega (arith, f.inside, length-drop at a)))

      after : Agree (at + m) ts
      after i l q =
          ⊎_elim inl (λ n. ⊎_elim (λ t. absurd (omega (arith, t.2))) (λ t. inr (t, n.1)) n.0) (agree i (omega arith) q)

      some : 0 < length (drop at a)
      some = omega (arith, length-drop at a)

      go : Dec (c ≡ text) → from_piece a at (token c m) ≡ left b at
      go (no n) =
          let near =
          agree_near at m all agree (λ i l. inside i (λ u. n u.0) (λ u. omega arith))
          (λ q t. ⊎_elim (λ u. n u.0) (λ u. q (inside_quote a (at + m) ts up u)) t) in
          let p : piece (drop at b) ≡ token c m = piece_near (drop at a) (drop at b) (token c m) e some n f.some near in
          let bs = take_local (drop at a) (drop at b) m near.long (λ j q. near.near j (omega arith)) in
          same_rest at c m h p f.some (ap (tok c at (at + m)) (sym bs)) (ih after)
      go (yes is) =
          let p : piece (drop at b) ≡ token c m =
          text_near (drop at a) (drop at b) c m e some (f.text_quote is) (omega (arith, length-drop at a, length-drop at b))
          (here 0 (inside (at + 0) (λ u. omega (arith, u.1)) (λ u. omega arith)))
          inner
          (λ j q. here j (inside (at + j) (λ u. omega (arith, u.2)) (λ u. omega arith))) in
          same_rest at c m h p f.some (text_token c at (at + m) (take m (drop at a)) (take m (drop at b)) is) (ih after)

  pub same_cut : (at : ℕ) → Same at (left a at)
  same_cut at = cut_induction a Same same_end same_refusal same_gap same_token at

-- two texts of equal length that differ only at bytes strictly inside text tokens of the first, the new bytes allowed there, have
-- equal cuts
pub quotes : (a b : List ℕ) → QuotedChange a b → cut a ≡ cut b
unfolding cut
quotes a b q = same_cut a b q.same_length 0 (λ i h l. q.same_or_quoted i l)
