-- Laws of writing to the output buffer: a write keeps its length, and two writes in a row are one.
-- Assumes nothing.
use Prim.Native.Nat.{ℕ, ◌+◌, ◌≤◌, ◌<◌}
use native.Mathlib.Nat.{add-zero, add_assoc, le_of_lt}
use native.Mathlib.Numerals.{add-one}
use native.Mathlib.Omega.{arith}
use mathlib.Core.Path.{◌≡◌, sym, ap, subst, ◌∙◌}
use mathlib.Core.List.{List, [], ◌∷◌, ◌++◌, append_assoc}
use lib.ListN.{length, get_or, take, drop, set, length-append, length-take, length-drop, take-append-drop}
use lib.Seq.{take_at, drop-append-add, drop-drop, set_split, take-suc, length-take-le}
use Rattle.buffer.specs.Buffer.{written, Wrote}

-- no bytes change nothing
pub written_none : (o : List ℕ) (at : ℕ) → written o at [] ≡ o
unfolding written
written_none o at = rw (add-zero at) (take-append-drop at o)

-- a write within the buffer keeps its length
pub length_written : (o : List ℕ) (at : ℕ) (a : List ℕ) → at + length a ≤ length o → length (written o at a) ≡ length o
unfolding written
length_written o at a h = simp (length-append, length-take, length-drop) (omega arith)

-- one store is the write of one byte
pub written_one : (o : List ℕ) (at b : ℕ) → at < length o → set o at b ≡ written o at (b ∷ [])
unfolding written
written_one o at b h = rw (add-one) (set_split o at b h)

-- two writes in a row are one
pub written_more : (o : List ℕ) (at : ℕ) (a b : List ℕ) → at + length a ≤ length o
    → written (written o at a) (at + length a) b ≡ written o at (a ++ b)
unfolding written
written_more o at a b h =
    let front : List ℕ = take at o ++ a in
    let rest : List ℕ = drop (at + length a) o in
    let long : length front ≡ at + length a = simp (length-append, length-take) (omega arith) in
    let taken : take (at + length a) (take at o ++ (a ++ rest)) ≡ front =
    rw (← append_assoc (take at o) a rest) (take_at front rest (at + length a) long) in
    let dropped : drop (at + length a + length b) (take at o ++ (a ++ rest)) ≡ drop (at + length a + length b) o =
    rw (← append_assoc (take at o) a rest)
    (ap (λ (k : ℕ). drop (k + length b) (front ++ rest)) (sym long) ∙ drop-append-add front rest (length b)
    ∙ drop-drop (length b) (at + length a) o) in
    rw (taken, dropped) (simp (append_assoc, length-append, add_assoc))

-- two calls in a row that write: the second starts where the first ended
pub wrote_more : {a b o o₁ o₂ : List ℕ} {at n n₁ : ℕ}
    → at + length a ≤ length o → Wrote a at n o o₁ → Wrote b n n₁ o₁ o₂ → Wrote (a ++ b) at n₁ o o₂
wrote_more {a} {b} {o} {o₁} {o₂} {at} {n} {n₁} h p q =
    record {
      next_is =
          q.next_is ∙ ap (λ (k : ℕ). k + length b) p.next_is ∙ add_assoc at (length a) (length b)
          ∙ ap (λ (k : ℕ). at + k) (sym (length-append a b));
      buffer_is =
          q.buffer_is ∙ ap (λ (l : List ℕ). written l n b) p.buffer_is ∙ ap (λ (k : ℕ). written (written o at a) k b) p.next_is
          ∙ written_more o at a b h;
    }

-- bytes that are equal are written alike, and no bytes by doing nothing
pub wrote_as : {a b o o₁ : List ℕ} {at n : ℕ} → a ≡ b → Wrote a at n o o₁ → Wrote b at n o o₁
wrote_as {o = o} {o₁ = o₁} {at = at} {n = n} e w = subst (λ (l : List ℕ). Wrote l at n o o₁) e w

pub wrote_none : (o : List ℕ) (at : ℕ) → Wrote [] at at o o
wrote_none o at = record { next_is = sym (add-zero at); buffer_is = sym (written_none o at) }

-- one byte more of those to be written
pub written_next : (o : List ℕ) (at : ℕ) (s : List ℕ) (i : ℕ) → at + length s ≤ length o → i < length s
    → set (written o at (take i s)) (at + i) (get_or s i 0) ≡ written o at (take (i + 1) s)
written_next o at s i h l =
    let part : length (take i s) ≡ i = length-take-le i s (le_of_lt l) in
    let kept : length (written o at (take i s)) ≡ length o = length_written o at (take i s) (omega arith) in
    written_one (written o at (take i s)) (at + i) (get_or s i 0) (omega arith)
    ∙ ap (λ (k : ℕ). written (written o at (take i s)) (at + k) (get_or s i 0 ∷ [])) (sym part)
    ∙ written_more o at (take i s) (get_or s i 0 ∷ []) (omega arith)
    ∙ ap (λ (l₁ : List ℕ). written o at l₁) (sym (take-suc s i 0 l) ∙ ap (λ (k : ℕ). take k s) (sym (add-one i)))
