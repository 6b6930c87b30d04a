-- Of rules that are in order, the first that is broken is broken no later than any other.
-- Assumes nothing.
use mathlib.Core.Path.{◌≡◌, refl, sym, ap, subst, ◌∙◌}
use mathlib.Core.Logic.{inl, inr}
use mathlib.Core.List.{List, [], ◌∷◌}
use Prim.Native.Nat.{ℕ, ◌≤◌, ◌<◌}
use native.Mathlib.Decide.{dec_lt}
use native.Mathlib.Omega.{arith}
use Rattle.rule.specs.declared.Finding.{Finding}
use Rattle.rule.specs.Rule.{Rule}
use Rattle.index.proofs.Search.{true_false}
use Rattle.rule.proofs.Judged.{AllKept, NeverBroken, BrokenAt, FirstBroken, here, later}
use Rattle.statements.specs.Order.{rank}
use Rattle.statements.proofs.Ordered.{NoLater, Broken, Rises, Before, BeforeAll, InOrder, Placed, ◌listed_in◌, BrokenIn}

-- where a rule is broken first, it is broken
broken_here : {r : Rule} {f : Finding} → (b : BrokenAt r f) → Broken r b.index
broken_here b = record { from = b.inside.0; below = b.inside.1; breaks = b.breaks }

-- its number and its place
its_number : {r : Rule} {f : Finding} → BrokenAt r f → r.number ≡ f.number
its_number b = ap (λ (x : Finding). x.number) b.found

its_place : {r : Rule} {f : Finding} → (b : BrokenAt r f) → r.place b.index ≡ f.token.0
its_place b = ap (λ (x : Finding). x.token.0) b.found

-- the first rule that is broken is one that is
pub first_found : {f : Finding} {rs : List Rule} → FirstBroken f rs → BrokenIn rs f.number f.token.0
first_found (here {r = r} b) = record {
  rule = r;
  listed = inl refl;
  numbered = its_number b;
  index = b.index;
  broken = broken_here b;
  placed = its_place b;
}
first_found (later never g) =
    let x = first_found g in
    record {
      rule = x.rule;
      listed = inr x.listed;
      numbered = x.numbered;
      index = x.index;
      broken = x.broken;
      placed = x.placed;
    }

-- a rule that is kept has no breach
never_here : {r : Rule} {k : ℕ} → NeverBroken r → Broken r k → ⊥
never_here {k = k} never b = true_false b.breaks (never k b.from b.below)

-- rules that are kept have none
pub kept_none : (rs : List Rule) → AllKept rs → (s : Rule) → s listed_in rs → (k : ℕ) → Broken s k → ⊥
kept_none [] kept s none k b = elim none [ ]
kept_none (r ∷ rs) kept s (inl same) k b = never_here kept.0 (subst (λ (x : Rule). Broken x k) same b)
kept_none (r ∷ rs) kept s (inr l) k b = kept_none rs kept.1 s l k b

-- a rule comes before each that is listed after it
pub before_listed : (r : Rule) (rs : List Rule) → BeforeAll r rs → (s : Rule) → s listed_in rs → Before r s
before_listed r [] all s none = elim none [ ]
before_listed r (x ∷ rs) all s (inl same) = subst (Before r) (sym same) all.0
before_listed r (x ∷ rs) all s (inr l) = before_listed r rs all.1 s l

-- where each of a list is broken at one of the first n tokens, so is one that is listed
pub placed_listed : (n : ℕ) (rs : List Rule) → Placed n rs → (s : Rule) → s listed_in rs → (k : ℕ) → Broken s k → s.place k < n
placed_listed n [] all s none k b = elim none [ ]
placed_listed n (r ∷ rs) all s (inl same) k b =
    subst (λ (x : Rule). Broken x k → x.place k < n) (sym same) (all.0 k) b
placed_listed n (r ∷ rs) all s (inr l) k b = placed_listed n rs all.1 s l k b

-- of one rule
least_here : {f : Finding} (r : Rule) → BrokenAt r f → Rises r → (k : ℕ) → Broken r k → NoLater f.number f.token.0 r.number (r.place k)
least_here {f} r b rises k broken = inr (ap rank (sym (its_number b)), go (dec_lt k b.index) (dec_lt b.index k), λ same. sym (its_number b))
  where
    go : Dec (k < b.index) → Dec (b.index < k) → f.token.0 ≤ r.place k
    go (yes earlier) d = absurd (true_false broken.breaks (b.none_before k broken.from earlier))
    go (no n) (yes h) = omega (arith, its_place b, rises b.index k h (broken_here b) broken)
    go (no n) (no m) =
        let same : b.index ≡ k = omega arith in
        omega (arith, sym (its_place b) ∙ ap r.place same)

-- of one rule and a later one
least_after : {f : Finding} (r s : Rule) → BrokenAt r f → Before r s → (k : ℕ) → Broken s k → NoLater f.number f.token.0 s.number (s.place k)
least_after {f} r s b before k broken =
    rw (← its_number b, ← its_place b) (before b.index k (broken_here b) broken)

-- of all of them
pub first_least : {f : Finding} (rs : List Rule) → FirstBroken f rs → InOrder rs
    → (s : Rule) → s listed_in rs → (k : ℕ) → Broken s k → NoLater f.number f.token.0 s.number (s.place k)
first_least {f = f} [] found order s none k broken = elim found [ ]
first_least {f} (r ∷ rs) (here b) order s (inl same) k broken =
    subst (λ (x : Rule). Broken x k → NoLater f.number f.token.0 x.number (x.place k)) (sym same) (least_here r b order.0 k) broken
first_least (r ∷ rs) (here b) order s (inr l) k broken = least_after r s b (before_listed r rs order.1 s l) k broken
first_least (r ∷ rs) (later never g) order s (inl same) k broken =
    absurd (never_here never (subst (λ (x : Rule). Broken x k) same broken))
first_least (r ∷ rs) (later never g) order s (inr l) k broken = first_least rs g order.2 s l k broken
