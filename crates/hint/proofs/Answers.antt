-- Laws of the two calls' answers: what a buffer holds after a refusal and after a text, and which verdict is met.
-- Assumes nothing.
use Prim.Native.Nat.{ℕ, zero, suc, ◌+◌, ◌-◌, ◌≤◌, ◌<◌}
use native.Mathlib.Nat.{zero-add, zero-sub, sub-zero, suc-sub-suc}
use native.Mathlib.Omega.{arith}
use mathlib.Core.Path.{◌≡◌, refl, sym, ap, ◌∙◌}
use mathlib.Core.Bool.{true, false}
use mathlib.Core.List.{List, ◌++◌, append_assoc}
use lib.Dec.{eqb}
use lib.IntN.{ℤ}
use lib.ListN.{length, take, drop, replicate, length-replicate, length-append}
use lib.Seq.{take_at, drop_at}
use borrow.Author.Tests.{lt-ltb, le-ltb}
use Rattle.buffer.specs.Buffer.{written, Wrote}
use Rattle.hint_form.specs.Hint.{Reading, pieces, none, read_hint, is_pieces, pieces_in}
use Rattle.hint_integer.specs.Form.{read_form}
use Rattle.hint_piece.specs.Use.{Outcome}
use Rattle.hint_piece.specs.Followed.{Followed, wrote, failed}
use Rattle.hint_integer.specs.Signed.{in_range, signed}
use Rattle.hint_integer.specs.declared.Form.{Form}
use Rattle.std.proofs.Common.{Some, None, Ok, Err}
use Rattle.hint.specs.Print.{printing}
use Rattle.hint.specs.Answer.{Answer, Verdict, text, refusal, Answered, number, place, size, buffer, number_of, place_of, length_of, of_outcome, by_pieces, octets_verdict, by_form, integer_verdict}
use Rattle.hint.specs.declared.Refusal.TheVariants.{ShortBuffer}

-- a short buffer stays as it was
pub answered_short : (part : ℕ) (v : Verdict) (o : List ℕ) → v ≡ refusal 30 0 → Answered part v (Err ShortBuffer) o o
unfolding number place size buffer
answered_short part v o e = rw e (record { number_is = refl; place_is = refl; length_is = refl; buffer_is = refl })

-- any other refusal leaves a part of zeros
pub answered_refusal : (part : ℕ) (v : Verdict) (answer : Answer) (o after : List ℕ) (n at : ℕ) → v ≡ refusal n at
    → number_of answer ≡ n → place_of answer ≡ at → length_of answer ≡ 0
    → eqb n 30 ≡ false → after ≡ replicate part 0 ++ drop part o
    → Answered part v answer o after
unfolding number place size buffer
answered_refusal part v answer o after n at e num pla len other zeros =
    rw e (record { number_is = num; place_is = pla; length_is = len; buffer_is = rw other zeros })

-- zeros without the first ones are zeros
drop_replicate : (k n a : ℕ) → drop k (replicate n a) ≡ replicate (n - k) a
drop_replicate zero n a = ap (λ (m : ℕ). replicate m a) (sym (sub-zero n))
drop_replicate (suc k) zero a = ap (λ (m : ℕ). replicate m a) (sym (zero-sub (suc k)))
drop_replicate (suc k) (suc n) a = drop_replicate k n a ∙ ap (λ (m : ℕ). replicate m a) (sym (suc-sub-suc n k))

module _ (part : ℕ) (o cleared : List ℕ) (zeros : cleared ≡ replicate part 0 ++ drop part o) where
  -- the part of a cleared buffer, and what follows it
  pub part_zeros : take part cleared ≡ replicate part 0
  part_zeros = ap (take part) zeros ∙ take_at (replicate part 0) (drop part o) part (length-replicate part 0)

  pub rest_kept : drop part cleared ≡ drop part o
  rest_kept = ap (drop part) zeros ∙ drop_at (replicate part 0) (drop part o) part (length-replicate part 0)

  -- a text that was written to the part of a cleared buffer
  pub answered_text : {v : Verdict} {t w : List ℕ} {n : ℕ} → v ≡ text t → Wrote t 0 n (take part cleared) w
      → Answered part v (Ok n) o (w ++ drop part cleared)
  unfolding number place size buffer written
  answered_text {t = t} {w = w} {n = n} e done =
      let zeros₁ : List ℕ = replicate (part - length t) 0 in
      let written₁ =
      done.buffer_is
      ∙ ap (λ (l : List ℕ). t ++ drop (0 + length t) l) part_zeros
      ∙ ap (λ (k : ℕ). t ++ drop k (replicate part 0)) (zero-add (length t))
      ∙ ap (λ (l : List ℕ). t ++ l) (drop_replicate (length t) part 0) in
      rw e
      (record {
        number_is = refl;
        place_is = refl;
        length_is = done.next_is ∙ zero-add (length t);
        buffer_is =
            ap (λ (l : List ℕ). l ++ drop part cleared) written₁
            ∙ append_assoc t zeros₁ (drop part cleared)
            ∙ ap (λ (l : List ℕ). t ++ (zeros₁ ++ l)) rest_kept;
      })

  -- the same of what printing came to
  pub answered_printed : {v : Verdict} {out : Outcome} {w : List ℕ} {n : ℕ}
      → v ≡ of_outcome out → Followed out 0 (Ok n) (take part cleared) w
      → Answered part v (Ok n) o (w ++ drop part cleared)
  unfolding of_outcome
  answered_printed e (wrote done) = answered_text e done

  -- the part zeroed again
  pub zeros_again : (w after : List ℕ) → length w ≡ part → after ≡ replicate part 0 ++ drop part (w ++ drop part cleared)
      → after ≡ replicate part 0 ++ drop part o
  zeros_again w after long e = e ∙ ap (λ (l : List ℕ). replicate part 0 ++ l) (drop_at w (drop part cleared) part long ∙ rest_kept)

-- a fault is refusal 33
pub fault_refusal : {out : Outcome} {at : ℕ} {before after : List ℕ} → Followed out 0 (Err (record { 0 = at })) before after
    → of_outcome out ≡ refusal 33 at
unfolding of_outcome
fault_refusal failed = refl

-- which verdict a call for octets meets
module _ (room : ℕ) (hint value : List ℕ) where
  pub octets_short : room < 4096 → octets_verdict room hint value ≡ refusal 30 0
  unfolding octets_verdict
  octets_short h = simp (lt-ltb room 4096 h)

  pub octets_long : 4096 ≤ room → 1024 < length value → octets_verdict room hint value ≡ refusal 31 0
  unfolding octets_verdict
  octets_long h l = simp (le-ltb room 4096 h, lt-ltb 1024 (length value) l)

  pub octets_hint : 4096 ≤ room → length value ≤ 1024 → is_pieces (read_hint hint) ≡ false
      → octets_verdict room hint value ≡ refusal 32 0
  unfolding octets_verdict by_pieces is_pieces
  octets_hint h l b = simp (le-ltb room 4096 h, le-ltb 1024 (length value) l) (go (read_hint hint) b)
    where
      go : (r : Reading) → is_pieces r ≡ false → by_pieces r value ≡ refusal 32 0
      go (pieces ps) e = let z : ◌≡◌ {A = ℕ} 0 1 = cc in absurd (omega arith)
      go none e = refl

  pub octets_printed : 4096 ≤ room → length value ≤ 1024 → is_pieces (read_hint hint) ≡ true
      → octets_verdict room hint value ≡ of_outcome (printing (pieces_in (read_hint hint)) value)
  unfolding octets_verdict by_pieces is_pieces pieces_in
  octets_printed h l b = simp (le-ltb room 4096 h, le-ltb 1024 (length value) l) (go (read_hint hint) b)
    where
      go : (r : Reading) → is_pieces r ≡ true → by_pieces r value ≡ of_outcome (printing (pieces_in r) value)
      go (pieces ps) e = refl
      go none e = let z : ◌≡◌ {A = ℕ} 0 1 = cc in absurd (omega arith)

-- which verdict a call for an integer meets
module _ (room : ℕ) (hint : List ℕ) (value : ℤ) where
  pub integer_short : room < 64 → integer_verdict room hint value ≡ refusal 30 0
  unfolding integer_verdict
  integer_short h = simp (lt-ltb room 64 h)

  pub integer_hint : 64 ≤ room → read_form hint ≡ None → integer_verdict room hint value ≡ refusal 32 0
  unfolding integer_verdict by_form
  integer_hint h e = simp (le-ltb room 64 h, e)

  pub integer_range : {form : Form} → 64 ≤ room → read_form hint ≡ Some form → in_range value ≡ false
      → integer_verdict room hint value ≡ refusal 34 0
  unfolding integer_verdict by_form
  integer_range h e r = simp (le-ltb room 64 h, e, r)

  pub integer_text : {form : Form} → 64 ≤ room → read_form hint ≡ Some form → in_range value ≡ true
      → integer_verdict room hint value ≡ text (signed (Some form) value)
  unfolding integer_verdict by_form
  integer_text h e r = simp (le-ltb room 64 h, e, r)

-- the text of an answer lies in the buffer
pub length_fits : (part : ℕ) (v : Verdict) (answer : Answer) (o after : List ℕ) → Answered part v answer o after
    → length_of answer ≤ length after
unfolding size buffer
length_fits part (text t) answer o after a =
    omega (arith, a.length_is, ap length a.buffer_is ∙ length-append t (replicate (part - length t) 0 ++ drop part o))
length_fits part (refusal n at) answer o after a = omega (arith, a.length_is)
