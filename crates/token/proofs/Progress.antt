-- How the loop of the cut goes on: what it stored, then what is left, is what the cut stores in all.
-- Assumes nothing.
use mathlib.Core.Path.{◌≡◌, refl, sym, ap, ◌∙◌}
use mathlib.Core.Bool.{true}
use mathlib.Core.List.{List, ◌++◌, map}
use Prim.Native.Nat.{ℕ, ◌+◌, ◌≤◌, ◌<◌}
use native.Mathlib.Nat.{zero-add}
use native.Mathlib.Numerals.{add-one}
use native.Mathlib.Omega.{arith}
use lib.ListN.{length, get_or, drop, set, length-set, length-map, length-drop}
use lib.Seq.{sets, sets-eq}
use Rattle.lexicon.specs.Byte.{blank_byte}
use Rattle.token.specs.Token.{Tok, tok, meaning, class_of_token}
use Rattle.piece.specs.Piece.{Piece, gap, token, refusal, piece}
use Rattle.token.specs.Cut.{Ending, refused, Cut, cut}
use Rattle.std.specs.Prelude.{Result, Ok, Err}
use Rattle.piece.specs.Found.{found_at}
use Rattle.token.specs.Table.{longest_text, Lent, overlaid, answer_to, Held}
use Rattle.piece.specs.declared.Found.{Found}
use Rattle.piece.proofs.Pieces.{Fit}
use Rattle.token.proofs.Left.{left, ended, step_blank, step_gap, step_token, step_refusal, fit_at}

-- an array that holds n entries, when `rest` has been stored after them
abbrev stored : (Tok → ℕ) → List ℕ → ℕ → Cut → List ℕ
stored field array n rest = sets array n (map field rest.tokens)

abbrev start_field : Tok → ℕ
start_field t = t.start

abbrev end_field : Tok → ℕ
end_field t = t.end

pub record Progress (t classes₀ starts₀ ends₀ classes starts ends : List ℕ) (at n : ℕ) : Type 0 where
  pub inside : at ≤ length t
  pub few : n ≤ at
  pub count : n + length (left t at).tokens ≡ length (cut t).tokens
  pub ending : (left t at).ending ≡ (cut t).ending
  pub classes_on : stored class_of_token classes n (left t at) ≡ stored class_of_token classes₀ 0 (cut t)
  pub starts_on : stored start_field starts n (left t at) ≡ stored start_field starts₀ 0 (cut t)
  pub ends_on : stored end_field ends n (left t at) ≡ stored end_field ends₀ 0 (cut t)
  pub classes_length : length classes ≡ length classes₀
  pub starts_length : length starts ≡ length starts₀
  pub ends_length : length ends ≡ length ends₀

pub progress_start : (t classes starts ends : List ℕ) → Progress t classes starts ends classes starts ends 0 0
unfolding cut
progress_start t classes starts ends =
    record {
      inside = omega arith;
      few = omega arith;
      count = zero-add (length (cut t).tokens);
      ending = refl;
      classes_on = refl;
      starts_on = refl;
      ends_on = refl;
      classes_length = refl;
      starts_length = refl;
      ends_length = refl;
    }

module _
    (t classes₀ starts₀ ends₀ classes starts ends : List ℕ) (at n : ℕ)
    (p : Progress t classes₀ starts₀ ends₀ classes starts ends at n)
  where
    -- what leaves the same, and stores nothing, is passed
    progress_past : (next : ℕ) → at < next → next ≤ length t → left t at ≡ left t next
        → Progress t classes₀ starts₀ ends₀ classes starts ends next n
    progress_past next h inside e =
        let q : left t next ≡ left t at = sym e in
        record {
          inside = inside;
          few = omega (arith, p.few);
          count = rw q p.count;
          ending = rw q p.ending;
          classes_on = rw q p.classes_on;
          starts_on = rw q p.starts_on;
          ends_on = rw q p.ends_on;
          classes_length = p.classes_length;
          starts_length = p.starts_length;
          ends_length = p.ends_length;
        }

    pub progress_blank : at < length t → blank_byte (get_or t at 0) 0 ≡ true
        → Progress t classes₀ starts₀ ends₀ classes starts ends (at + 1) n
    progress_blank h e = progress_past (at + 1) (omega arith) (omega arith) (step_blank t at h e)

    pub progress_gap : (m : ℕ) → at < length t → piece (drop at t) ≡ gap m → (1 ≤ m) × (m ≤ length (drop at t))
        → Progress t classes₀ starts₀ ends₀ classes starts ends (at + m) n
    progress_gap m h e f =
        progress_past (at + m) (omega (arith, f.0)) (omega (arith, length-drop at t, f.1)) (step_gap t at m h e f.0)

    pub progress_token : (c m : ℕ) → at < length t → piece (drop at t) ≡ token c m → (1 ≤ m) × (m ≤ length (drop at t))
        → Progress t classes₀ starts₀ ends₀ (set classes n c) (set starts n at) (set ends n (at + m)) (at + m) (n + 1)
    unfolding tok meaning
    progress_token c m h e f =
        let q = step_token t at c m h e f.0 in
        record {
          inside = omega (arith, p.inside, length-drop at t, f.1);
          few = omega (arith, p.few, f.0);
          count = omega (arith, p.count, ap (λ (x : Cut). length x.tokens) q);
          ending = sym (ap (λ (x : Cut). x.ending) q) ∙ p.ending;
          classes_on = rw (add-one n) (sym (ap (λ (x : Cut). stored class_of_token classes n x) q) ∙ p.classes_on);
          starts_on = rw (add-one n) (sym (ap (λ (x : Cut). stored start_field starts n x) q) ∙ p.starts_on);
          ends_on = rw (add-one n) (sym (ap (λ (x : Cut). stored end_field ends n x) q) ∙ p.ends_on);
          classes_length = length-set classes n c ∙ p.classes_length;
          starts_length = length-set starts n at ∙ p.starts_length;
          ends_length = length-set ends n (at + m) ∙ p.ends_length;
        }

    -- where nothing is left, the arrays hold the tokens
    module _ (lent : Lent t classes₀ starts₀ ends₀) (ending : Ending) (q : left t at ≡ ended ending) where
      all : n ≡ length (cut t).tokens
      all = omega (arith, p.count, ap (λ (x : Cut). length x.tokens) q)

      overlay : (field : Tok → ℕ) (array array₀ : List ℕ) → length array₀ ≡ longest_text
          → stored field array n (left t at) ≡ stored field array₀ 0 (cut t)
          → array ≡ overlaid (map field (cut t).tokens) array₀
      overlay field array array₀ long e =
          let room : 0 + length (map field (cut t).tokens) ≤ length array₀ =
          simp length-map (omega (arith, all, p.few, p.inside, lent.short)) in
          sym (ap (λ (x : Cut). stored field array n x) q)
          ∙ e
          ∙ sets-eq (map field (cut t).tokens) array₀ 0 room
          ∙ ap (λ (k : ℕ). map field (cut t).tokens ++ drop k array₀) (zero-add (length (map field (cut t).tokens)))

      pub progress_done : (answer : Result ℕ (ℕ × ℕ)) → answer ≡ answer_to n ending
          → Held t answer classes₀ starts₀ ends₀ classes starts ends
      progress_done answer e =
          let end : ending ≡ (cut t).ending = sym (ap (λ (x : Cut). x.ending) q) ∙ p.ending in
          let cs = overlay class_of_token classes classes₀ lent.classes_long p.classes_on in
          let ss = overlay start_field starts starts₀ lent.starts_long p.starts_on in
          let es = overlay end_field ends ends₀ lent.ends_long p.ends_on in
          record {
            answered = e ∙ ap (λ (k : ℕ). answer_to k ending) all ∙ ap (λ (x : Ending). answer_to (length (cut t).tokens) x) end;
            classes_held = cs;
            starts_held = ss;
            ends_held = es;
          }

-- what the code found at a place says of the piece there
module _
    (t classes₀ starts₀ ends₀ classes starts ends : List ℕ) (at n : ℕ)
    (p : Progress t classes₀ starts₀ ends₀ classes starts ends at n) (h : at < length t)
  where
    pub read_gap : (f : Found) (e : ℕ) → Ok f ≡ found_at at (piece (drop at t)) → f ≡ Found.Gap e
        → (at < e) × Progress t classes₀ starts₀ ends₀ classes starts ends e n
    read_gap f e found is = go (piece (drop at t)) refl (ap Ok (sym is) ∙ found) (fit_at t at h)
      where
        go : (x : Piece) → piece (drop at t) ≡ x → Ok (Found.Gap e) ≡ found_at at x → Fit (drop at t) x
            → (at < e) × Progress t classes₀ starts₀ ends₀ classes starts ends e n
        go (gap m) r q f =
            let w : e ≡ at + m = cc in
            (omega (arith, f.fits.0), rw w (progress_gap _ _ _ _ _ _ _ at n p m h r f.fits))
        go (token k m) r q f = cc
        go (refusal k d) r q f = cc

    pub read_token : (f : Found) (c e : ℕ) → Ok f ≡ found_at at (piece (drop at t)) → f ≡ Found.Token c e
        → (at < e) × Progress t classes₀ starts₀ ends₀ (set classes n c) (set starts n at) (set ends n e) e (n + 1)
    read_token f c e found is = go (piece (drop at t)) refl (ap Ok (sym is) ∙ found) (fit_at t at h)
      where
        go : (x : Piece) → piece (drop at t) ≡ x → Ok (Found.Token c e) ≡ found_at at x → Fit (drop at t) x
            → (at < e) × Progress t classes₀ starts₀ ends₀ (set classes n c) (set starts n at) (set ends n e) e (n + 1)
        go (gap m) r q f = cc
        go (token k m) r q f =
            let v : c ≡ k = cc in
            let w : e ≡ at + m = cc in
            (omega (arith, f.fits.some), rw (v, w) (progress_token _ _ _ _ _ _ _ at n p k m h r (f.fits.some, f.fits.inside)))
        go (refusal k d) r q f = cc

    -- a refusal is the answer, and the cut ends there
    pub read_refusal : Lent t classes₀ starts₀ ends₀ → (number place : ℕ) → Err (number, place) ≡ found_at at (piece (drop at t))
        → Held t (Err (number, place)) classes₀ starts₀ ends₀ classes starts ends
    read_refusal lent number place q = go (piece (drop at t)) refl q
      where
        go : (x : Piece) → piece (drop at t) ≡ x → Err (number, place) ≡ found_at at x
            → Held t (Err (number, place)) classes₀ starts₀ ends₀ classes starts ends
        go (gap m) r q = cc
        go (token c m) r q = cc
        go (refusal j d) r q =
            let none = step_refusal t at j d h r in
            let e : ◌≡◌ {A = Result ℕ (ℕ × ℕ)} (Err (number, place)) (Err (j, at + d)) = cc in
            progress_done _ _ _ _ _ _ _ at n p lent (refused j (at + d)) none (Err (number, place)) e
