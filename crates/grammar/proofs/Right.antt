-- When a verdict on a class sequence is right, by cases, and how that is carried from what is left of a rule to the rule.
-- Assumes nothing.
use mathlib.Core.Path.{◌≡◌, refl, sym, ◌∙◌, ap, subst}
use mathlib.Core.Bool.{Bool, true, false}
use mathlib.Core.List.{List, [], ◌∷◌, ◌++◌, append_assoc, append_cancel_left}
use Prim.Native.Nat.{ℕ, suc, ◌+◌, ◌<◌, ◌≤◌, zero-le, suc-le-suc}
use native.Mathlib.Nat.{le_of_suc-le-suc, not-suc-le-zero}
use native.Mathlib.Numerals.{add-one}
use native.Mathlib.Omega.{arith}
use lib.ListN.{length, take}
use lib.Seq.{take-length}
use Rattle.grammar.specs.Rule.{Rule, never, Tree, yield}
use Rattle.grammar.specs.Answer.{Verdict, derived, refused, Derives, Begins, Answers}
use Rattle.grammar.specs.Automaton.{at_the_end, one_later}
use Rattle.grammar.proofs.Derivative.{matched}
use Rattle.grammar.proofs.Left.{Silent}
use Rattle.grammar.proofs.Part.{After, Same, Blank}

-- no two derivations of ts
abbrev pub Unique : Rule → List ℕ → Type 0
Unique r ts = (t u : Tree r) → yield r t ≡ ts → yield r u ≡ ts → t ≡ u

-- the verdict is right, by cases
abbrev pub Right : Rule → List ℕ → Verdict → Type 0
Right r ts derived = Derives r ts
Right r ts (refused i) =
    (i ≤ length ts) × Begins r (take i ts) × (i < length ts → Begins r (take (suc i) ts) → ⊥) × (Derives r ts → ⊥)

-- from what is left of r after the classes w to r, and back
module _ (w : List ℕ) {r q : Rule} (a : After w r q) where
  left : (t : Tree r) (ts : List ℕ) → yield r t ≡ w ++ ts → (d : Tree q) × (a.back d ≡ t) × (yield q d ≡ ts)
  left t ts e =
      let o = a.onto t (ts, e) in
      (o.0, o.1, append_cancel_left w (yield q o.0) ts (sym (a.yields o.0) ∙ ap (yield r) o.1 ∙ e))

  derives_on : (ts : List ℕ) → Derives q ts → Derives r (w ++ ts)
  derives_on ts d = (a.back d.0, a.yields d.0 ∙ ap (λ l. w ++ l) d.1)

  derives_off : (ts : List ℕ) → Derives r (w ++ ts) → Derives q ts
  derives_off ts t = let d = left t.0 ts t.1 in (d.0, d.2)

  begins_on : (ts : List ℕ) → Begins q ts → Begins r (w ++ ts)
  begins_on ts b = (b.0, rw append_assoc (derives_on (ts ++ b.0) b.1))

  begins_off : (ts : List ℕ) → Begins r (w ++ ts) → Begins q ts
  begins_off ts b = (b.0, derives_off (ts ++ b.0) (rw append_assoc at b.1))

  pub unique_on : (ts : List ℕ) → Unique q ts → Unique r (w ++ ts)
  unique_on ts h t u e f =
      let x = left t ts e in
      let y = left u ts f in
      sym x.1 ∙ ap a.back (h x.0 y.0 x.2 y.2) ∙ y.1

pub right_on : {c : ℕ} {r q : Rule} → After (c ∷ []) r q → (ts : List ℕ) (v : Verdict) → Right q ts v
    → Right r (c ∷ ts) (one_later v)
right_on {c} a ts derived h = derives_on (c ∷ []) a ts h
right_on {c} a ts (refused i) h = (
  suc-le-suc h.0,
  begins_on (c ∷ []) a (take i ts) h.1,
  λ l b. h.2 (le_of_suc-le-suc l) (begins_off (c ∷ []) a (take (suc i) ts) b),
  λ d. h.3 (derives_off (c ∷ []) a ts d),
)

pub right_same : {r q : Rule} → Same r q → (ts : List ℕ) (v : Verdict) → Right q ts v → Right r ts v
right_same a ts derived h = derives_on [] a ts h
right_same a ts (refused i) h = (
  h.0,
  begins_on [] a (take i ts) h.1,
  λ l b. h.2 l (begins_off [] a (take (suc i) ts) b),
  λ d. h.3 (derives_off [] a ts d),
)

-- no tree of r yields c first
abbrev pub Dead : ℕ → Rule → Type 0
Dead c r = (t : Tree r) (more : List ℕ) → yield r t ≡ c ∷ more → ⊥

-- what is left of r after c is ∅
pub nothing_left : {c : ℕ} {r q : Rule} → After (c ∷ []) r q → q ≡ never → Dead c r
nothing_left a e t more f = subst Tree e (a.onto t (more, f)).0

-- a rule that has a tree begins some derived sequence with no tokens
begins_empty : (r : Rule) → Tree r → Begins r []
begins_empty r t = (yield r t, (t, refl))

pub right_dead : {c : ℕ} (r : Rule) (ts : List ℕ) → Tree r → Dead c r → Right r (c ∷ ts) (refused 0)
right_dead {c} r ts t dead =
    (zero-le, begins_empty r t, λ l b. dead b.1.0 b.0 b.1.1, λ d. dead d.0 ts d.1)

pub unique_dead : {c : ℕ} (r : Rule) (ts : List ℕ) → Dead c r → Unique r (c ∷ ts)
unique_dead r ts dead t u e f = absurd (dead t ts e)

-- at the end of the sequence: r has one blank tree or none
module _ {r e : Rule} (a : Blank r e) where
  pub right_end : (b : Bool) → e ≡ matched b → Tree r → Silent e → Right r [] (at_the_end b)
  right_end true p t mute = let d = subst Tree (sym p) tt in (a.back d, a.yields d ∙ mute d)
  right_end false p t mute =
      (zero-le, begins_empty r t, λ l x. absurd (not-suc-le-zero l), λ d. subst Tree p (a.onto d.0 d.1).0)

  pub unique_end : (b : Bool) → e ≡ matched b → Unique r []
  unique_end b p t u f g =
      let x = a.onto t f in
      let y = a.onto u g in
      sym x.1 ∙ ap a.back (subst (λ q. (v w : Tree q) → v ≡ w) (sym p) (only b) x.0 y.0) ∙ y.1
    where
      only : (b : Bool) (v w : Tree (matched b)) → v ≡ w
      only true v w = refl
      only false v w = absurd v

derived_not_refused : {i : ℕ} → derived ≡ refused i → ⊥
derived_not_refused e = let z : ◌≡◌ {A = ℕ} 0 1 = cc in omega arith

same_index : {i j : ℕ} → refused i ≡ refused j → i ≡ j
same_index e = cc

-- the verdict, right by cases, is right as the statement has it
pub answers : (r : Rule) (ts : List ℕ) (v : Verdict) → Right r ts v → Unique r ts → Answers r ts v
answers r ts derived h u =
    record {
      accepts = (λ e. h, λ d. refl);
      spoiled = λ i e. absurd (derived_not_refused e);
      cut_short = λ e. absurd (derived_not_refused e);
      within = λ i e. absurd (derived_not_refused e);
      one_reading = u;
    }
answers r ts (refused i) h u =
    record {
      accepts = (λ e. absurd (derived_not_refused (sym e)), λ d. absurd (h.3 d));
      spoiled = λ j e.
          subst (λ (k : ℕ). k < length ts → Begins r (take k ts) × (Begins r (take (k + 1) ts) → ⊥)) (same_index e)
          (λ l. (h.1, λ b. h.2 l (rw add-one at b)));
      cut_short = λ e. (rw (same_index e, take-length) at h.1, h.3);
      within = λ j e. rw (← same_index e) h.0;
      one_reading = u;
    }
