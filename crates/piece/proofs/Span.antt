-- The law of every scanning loop: what was passed, plus the span of the rest, is the span of the whole.
-- Assumes nothing.
use mathlib.Core.Path.{◌≡◌, sym, ap, subst, ◌∙◌}
use mathlib.Core.Bool.{Bool, true, false, cond}
use mathlib.Core.List.{List, [], ◌∷◌}
use Prim.Native.Nat.{ℕ, zero, suc, ◌+◌, ◌-◌, ◌≤◌, ◌<◌}
use native.Mathlib.Decide.{dec_lt}
use native.Mathlib.Numerals.{add-one}
use native.Mathlib.Omega.{arith}
use lib.ListN.{length, get_or, drop, drop_of_length-le}
use lib.Seq.{drop-cons, get_or-drop}
use Rattle.piece.specs.Piece.{span}
use Rattle.piece.specs.Run.{EndsRun}

-- the byte after the one at i is the first of what is left after it
pub next_byte : (t : List ℕ) (i : ℕ) → get_or (drop (suc i) t) 0 0 ≡ get_or t (i + 1) 0
next_byte t i = get_or-drop (suc i) t 0 0 ∙ ap (λ (k : ℕ). get_or t k 0) (omega arith)

span_here : (p : ℕ → ℕ → Bool) (t : List ℕ) (i : ℕ) → i < length t
    → span p (drop i t) ≡ cond (p (get_or t i 0) (get_or t (i + 1) 0)) (suc (span p (drop (suc i) t))) 0
unfolding span
span_here p t i h = rw (drop-cons t i 0 h, next_byte t i)

pub span_more : (p : ℕ → ℕ → Bool) (t : List ℕ) (i : ℕ) → i < length t → p (get_or t i 0) (get_or t (i + 1) 0) ≡ true
    → span p (drop i t) ≡ suc (span p (drop (suc i) t))
span_more p t i h e = span_here p t i h ∙ ap (λ (b : Bool). cond b (suc (span p (drop (suc i) t))) 0) e

pub span_stop : (p : ℕ → ℕ → Bool) (t : List ℕ) (i : ℕ) → i < length t → p (get_or t i 0) (get_or t (i + 1) 0) ≡ false
    → span p (drop i t) ≡ 0
span_stop p t i h e = span_here p t i h ∙ ap (λ (b : Bool). cond b (suc (span p (drop (suc i) t))) 0) e

pub span_end : (p : ℕ → ℕ → Bool) (t : List ℕ) (i : ℕ) → length t ≤ i → span p (drop i t) ≡ 0
unfolding span
span_end p t i h = rw (drop_of_length-le t h)

-- a span stays in its list
pub span_in : (p : ℕ → ℕ → Bool) (s : List ℕ) → span p s ≤ length s
unfolding span
span_in p [] = omega arith
span_in p (b ∷ bs) = go (p b (get_or bs 0 0)) (span_in p bs)
  where
    go : (r : Bool) → span p bs ≤ length bs → cond r (suc (span p bs)) 0 ≤ suc (length bs)
    go true h = omega arith
    go false h = omega arith

-- a loop that started at `at` has passed the bytes before i, and they belong to the span
abbrev pub Reached : (ℕ → ℕ → Bool) → List ℕ → ℕ → ℕ → Type 0
Reached p t at i = (at ≤ i) × (i ≤ length t) × (i + span p (drop i t) ≡ at + span p (drop at t))

pub reached_more : (p : ℕ → ℕ → Bool) (t : List ℕ) (at i : ℕ) → Reached p t at i → i < length t
    → p (get_or t i 0) (get_or t (i + 1) 0) ≡ true → Reached p t at (i + 1)
reached_more p t at i r h q =
    let m : span p (drop i t) ≡ suc (span p (drop (i + 1) t)) = rw (add-one i) (span_more p t i h q) in
    (omega arith, omega arith, omega arith)

pub reached_stop : (p : ℕ → ℕ → Bool) (t : List ℕ) (at i : ℕ) → Reached p t at i → i < length t
    → p (get_or t i 0) (get_or t (i + 1) 0) ≡ false → i ≡ at + span p (drop at t)
reached_stop p t at i r h q = let m : span p (drop i t) ≡ 0 = span_stop p t i h q in omega arith

pub reached_end : (p : ℕ → ℕ → Bool) (t : List ℕ) (at i : ℕ) → Reached p t at i → length t ≤ i → i ≡ at + span p (drop at t)
reached_end p t at i r h = let m : span p (drop i t) ≡ 0 = span_end p t i h in omega arith

-- the end of a run whose test answers as p does is that of the span
module _ (p : ℕ → ℕ → Bool) (answers : ℕ → Bool → Type 0) (t : List ℕ) (at end : ℕ)
    (run : EndsRun answers (length t) at end)
    (told : (i : ℕ) → i < length t → (r : Bool) → answers i r → r ≡ p (get_or t i 0) (get_or t (i + 1) 0)) where
  reached : (n : ℕ) → at + n ≤ end → Reached p t at (at + n)
  reached zero h =
      let none : at ≡ at + 0 = omega arith in
      subst (Reached p t at) none (omega arith, omega (arith, run.from, run.inside), omega arith)
  reached (suc n) h =
      let inside : at + n < length t = omega (arith, run.inside) in
      let passed = told (at + n) inside true (run.passed (at + n) (omega arith) (omega arith)) in
      let next : at + n + 1 ≡ at + suc n = omega arith in
      subst (Reached p t at) next (reached_more p t at (at + n) (reached n (omega arith)) inside (sym passed))

  pub run_span : end ≡ at + span p (drop at t)
  run_span =
      let all : at + (end - at) ≡ end = omega (arith, run.from) in
      let r : Reached p t at end = subst (Reached p t at) all (reached (end - at) (omega (arith, run.from))) in
      go (dec_lt end (length t)) r
    where
      go : Dec (end < length t) → Reached p t at end → end ≡ at + span p (drop at t)
      go (yes h) r = reached_stop p t at end r h (sym (told end h false (run.stopped h)))
      go (no h) r = reached_end p t at end r (omega arith)
