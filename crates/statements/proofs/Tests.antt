-- What a test that holds says in plain words, and back: conjunctions, alternatives, searches, and the first of some clauses.
-- Assumes nothing.
use mathlib.Core.Path.{◌≡◌, refl}
use mathlib.Core.Logic.{◌⊎◌, inl, inr}
use mathlib.Core.Bool.{Bool, true, false, cond, not, ◌&&◌, ◌||◌}
use Prim.Native.Nat.{ℕ, suc, ◌≤◌, ◌<◌}
use native.Mathlib.Omega.{arith}
use lib.Dec.{ltb}
use borrow.Author.Tests.{lt-ltb}
use Rattle.index.specs.First.{any}
use Rattle.index.proofs.Search.{true_false, answers, any_index, any_some}

pub both : (a b : Bool) → (a && b) ≡ true → (a ≡ true) × (b ≡ true)
both true b e = (refl, e)
both false b e = absurd (true_false e refl)

pub joined : {a b : Bool} → a ≡ true → b ≡ true → (a && b) ≡ true
joined p q = rw (p, q)

pub either : (a b : Bool) → (a || b) ≡ true → (a ≡ true) ⊎ (b ≡ true)
either true b e = inl refl
either false b e = inr e

pub left : {a : Bool} (b : Bool) → a ≡ true → (a || b) ≡ true
left b p = rw p

pub right : (a : Bool) {b : Bool} → b ≡ true → (a || b) ≡ true
right true q = refl
right false q = q

pub deny : {b : Bool} → b ≡ false → not b ≡ true
deny e = rw e

-- a test that cannot hold fails
pub fails : (b : Bool) → (b ≡ true → ⊥) → b ≡ false
fails b never = answers b (λ e. absurd (never e)) (λ e. e)

-- a test that fails does not hold
pub never : {b : Bool} → b ≡ false → b ≡ true → ⊥
never f e = true_false e f

-- an index of a search that succeeds
pub found : (test : ℕ → Bool) (a b : ℕ) → any test a b ≡ true → (i : ℕ) × (a ≤ i) × (i < b) × (test i ≡ true)
found test a b e = any_index test a b (any_some test a b e) e

-- a search that finds nothing
pub unfound : (test : ℕ → Bool) (a b : ℕ) → ((i : ℕ) → a ≤ i → i < b → test i ≡ true → ⊥) → any test a b ≡ false
unfound test a b none = fails (any test a b) (λ e. let f = found test a b e in none f.0 f.1 f.2 f.3)

-- the first of some clauses, by its number: it is this one or a later one
pub clause_told : {P : Type 0} (b : Bool) (c x : ℕ) → ltb 0 (cond b (suc c) x) ≡ true → (b ≡ true → P) → (ltb 0 x ≡ true → P) → P
clause_told true c x e here later = here refl
clause_told false c x e here later = later e

-- and there is none behind the last
pub clause_none : {P : Type 0} → ltb 0 0 ≡ true → P
clause_none e = absurd (true_false e refl)

pub clause_here : (b : Bool) (c x : ℕ) → b ≡ true → ltb 0 (cond b (suc c) x) ≡ true
clause_here b c x e = rw e (lt-ltb 0 (suc c) (omega arith))

pub clause_later : (b : Bool) (c x : ℕ) → ltb 0 x ≡ true → ltb 0 (cond b (suc c) x) ≡ true
clause_later true c x e = lt-ltb 0 (suc c) (omega arith)
clause_later false c x e = e

-- clauses of what passes a test
pub clause_passed : (b : Bool) (x : ℕ) → ltb 0 (cond b x 0) ≡ true → (b ≡ true) × (ltb 0 x ≡ true)
clause_passed true x e = (refl, e)
clause_passed false x e = absurd (true_false e refl)

pub clause_passing : (b : Bool) (x : ℕ) → b ≡ true → ltb 0 x ≡ true → ltb 0 (cond b x 0) ≡ true
clause_passing b x p q = rw p q

-- clauses of what does not fail one
pub clause_kept : (b : Bool) (x : ℕ) → ltb 0 (cond (not b) 0 x) ≡ true → (b ≡ true) × (ltb 0 x ≡ true)
clause_kept true x e = (refl, e)
clause_kept false x e = absurd (true_false e refl)

pub clause_keeping : (b : Bool) (x : ℕ) → b ≡ true → ltb 0 x ≡ true → ltb 0 (cond (not b) 0 x) ≡ true
clause_keeping b x p q = rw p q
