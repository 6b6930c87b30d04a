-- A start and a count that are cut to what a list has take the same part of it.
-- Assumes nothing.
use mathlib.Core.Path.{◌≡◌, refl, sym, ap, ◌∙◌}
use mathlib.Core.Bool.{cond}
use mathlib.Core.List.{List, [], ◌∷◌}
use Prim.Native.Nat.{ℕ, zero, suc, ◌-◌, ◌≤◌}
use native.Mathlib.Omega.{arith}
use lib.Dec.{ltb}
use lib.ListN.{length, take, drop, length-drop}
use lib.Seq.{take_all, drop-length}
use borrow.Author.Tests.{ltb-true, ltb-false}
use Rattle.index.proofs.Search.{answers}

-- past the end there is nothing
drop_past : (l : List ℕ) (n : ℕ) → length l ≤ n → drop n l ≡ []
drop_past [] zero h = refl
drop_past [] (suc n) h = refl
drop_past (x ∷ l) zero h = absurd (omega arith)
drop_past (x ∷ l) (suc n) h = drop_past l n (omega arith)

-- the lesser of two numbers
abbrev pub lesser : ℕ → ℕ → ℕ
lesser a b = cond (ltb b a) b a

pub lesser_inside : (a b : ℕ) → lesser a b ≤ b
lesser_inside a b =
    answers (ltb b a)
    (λ e. let is : lesser a b ≡ b = rw e in omega arith)
    (λ e. let is : lesser a b ≡ a = rw e in omega (arith, ltb-false b a e))

drop_clipped : (l : List ℕ) (n : ℕ) → drop (lesser n (length l)) l ≡ drop n l
drop_clipped l n =
    answers (ltb (length l) n)
    (λ e. rw e (drop-length l ∙ sym (drop_past l n (omega (arith, ltb-true (length l) n e)))))
    (λ e. rw e)

take_clipped : (l : List ℕ) (n : ℕ) → take (lesser n (length l)) l ≡ take n l
take_clipped l n =
    answers (ltb (length l) n)
    (λ e. rw e (take_all (length l) l (omega arith) ∙ sym (take_all n l (omega (arith, ltb-true (length l) n e)))))
    (λ e. rw e)

pub part_clipped : (l : List ℕ) (start count from : ℕ) → from ≡ lesser start (length l) → take (lesser count (length l - from)) (drop from l) ≡ take count (drop start l)
part_clipped l start count from is =
    ap (λ (n : ℕ). take (lesser count n) (drop from l)) (sym (length-drop from l))
    ∙ take_clipped (drop from l) count
    ∙ ap (take count) (ap (λ (n : ℕ). drop n l) is ∙ drop_clipped l start)
