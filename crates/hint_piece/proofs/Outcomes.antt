-- Laws of outcomes: how much an outcome prints, and that following one after another is following them joined.
-- Assumes nothing.
use Prim.Native.Nat.{ℕ, ◌+◌, ◌≤◌}
use native.Mathlib.Omega.{arith}
use mathlib.Core.Path.{◌≡◌, subst}
use mathlib.Core.List.{List, []}
use lib.ListN.{length, length-append}
use Rattle.hint_piece.specs.Use.{Outcome, printed, fault, joined}
use Rattle.hint_piece.specs.Followed.{Followed, wrote, failed}
use Rattle.std.proofs.Common.{Result, Ok, Err}
use Rattle.hint_piece.specs.declared.BadOctet.{BadOctet}
use Rattle.buffer.proofs.Writing.{wrote_none, wrote_more}

-- how many bytes an outcome prints
abbrev pub size_of : Outcome → ℕ
size_of (printed t) = length t
size_of (fault place) = 0

pub joined_size : (o₁ o₂ : Outcome) → size_of (joined o₁ o₂) ≤ size_of o₁ + size_of o₂
unfolding joined
joined_size (printed a) (printed b) = omega (arith, length-append a b)
joined_size (printed a) (fault place) = omega arith
joined_size (fault place) o₂ = omega arith

-- an outcome that is equal, and an answer that is equal, are followed alike
pub followed_as : {o o₁ : Outcome} {pos : ℕ} {r r₁ : Result ℕ BadOctet} {before after : List ℕ}
    → o ≡ o₁ → r ≡ r₁ → Followed o pos r before after → Followed o₁ pos r₁ before after
followed_as {o₁ = o₁} {pos = pos} {r = r} {before = before} {after = after} p q f =
    subst (λ (x : Result ℕ BadOctet). Followed o₁ pos x before after) q (subst (λ (x : Outcome). Followed x pos r before after) p f)

-- nothing printed is followed by doing nothing
pub followed_none : (pos : ℕ) (o : List ℕ) → Followed (printed []) pos (Ok pos) o o
followed_none pos o = wrote (wrote_none o pos)

-- the place that is answered
pub followed_next : {o : Outcome} {pos n : ℕ} {before after : List ℕ} → Followed o pos (Ok n) before after → n ≡ pos + size_of o
followed_next (wrote w) = w.next_is

-- one after another; the first fault decides
pub followed_joined : {o₁ o₂ : Outcome} {pos n : ℕ} {r : Result ℕ BadOctet} {before between after : List ℕ}
    → pos + size_of o₁ ≤ length before
    → Followed o₁ pos (Ok n) before between → Followed o₂ n r between after → Followed (joined o₁ o₂) pos r before after
unfolding joined
followed_joined h (wrote p) (wrote q) = wrote (wrote_more h p q)
followed_joined h (wrote p) failed = failed

pub followed_fault : {o₁ : Outcome} (o₂ : Outcome) {pos place : ℕ} {before between after : List ℕ}
    → Followed o₁ pos (Err (record { 0 = place })) before between → Followed (joined o₁ o₂) pos (Err (record { 0 = place })) before after
unfolding joined
followed_fault o₂ failed = failed
