-- A right verdict is the only one: what a right verdict is, in terms of derivations alone, leaves no choice. Of two refusals
-- the later says that some derived sequence begins with the token at fault of the earlier. So it is over classes and over tokens.
-- Assumes nothing.
use mathlib.Core.Path.{◌≡◌, refl, sym, ◌∙◌, ap, subst}
use mathlib.Core.List.{List, ◌++◌, append_assoc}
use Prim.Native.Nat.{ℕ, ◌+◌, ◌<◌, ◌≤◌}
use native.Mathlib.Decide.{dec_lt}
use native.Mathlib.Omega.{arith}
use lib.ListN.{length, take, drop, take-append-drop}
use lib.Seq.{take-take, take-length}
use Rattle.grammar.specs.Answer.{Verdict, derived, refused, ViablePrefix, RightVerdict}

module _ {D X : Type 0} (spelt : D → List X) (ts : List X) where
  -- some derived sequence begins with the first i
  abbrev Viable : ℕ → Type 0
  Viable i = ViablePrefix spelt (take i ts)

  -- v is right
  abbrev Right : Verdict → Type 0
  Right v = RightVerdict spelt ts v

  -- what begins some derived sequence, cut shorter, begins it too
  pub viable_shorter : (k j : ℕ) → k ≤ j → Viable j → Viable k
  viable_shorter k j h b =
      let whole : take k ts ++ drop k (take j ts) ≡ take j ts =
      ap (λ l. l ++ drop k (take j ts)) (sym (take-take k j ts h)) ∙ take-append-drop k (take j ts) in (
        drop k (take j ts) ++ b.0,
        (b.1.0, b.1.1 ∙ ap (λ l. l ++ b.0) (sym whole) ∙ append_assoc (take k ts) (drop k (take j ts)) b.0),
      )

  viable_before : (j : ℕ) → Right (refused j) → Viable j
  viable_before j a = go (dec_lt j (length ts))
    where
      go : Dec (j < length ts) → Viable j
      go (yes l) = (a.spoiled j refl l).0
      go (no n) =
          let e : length ts ≡ j = omega (arith, a.within j refl) in
          subst Viable e (subst (ViablePrefix spelt) (sym (take-length ts)) (a.cut_short (ap refused (sym e))).0)

  -- no right refusal is earlier than another
  none_earlier : (i j : ℕ) → Right (refused i) → Right (refused j) → i < j → ⊥
  none_earlier i j a b h =
      (a.spoiled i refl (omega (arith, b.within j refl))).1 (viable_shorter (i + 1) j (omega arith) (viable_before j b))

  same_place : (i j : ℕ) → Right (refused i) → Right (refused j) → i ≡ j
  same_place i j a b = go (dec_lt i j) (dec_lt j i)
    where
      go : Dec (i < j) → Dec (j < i) → i ≡ j
      go (yes h) d = absurd (none_earlier i j a b h)
      go (no n) (yes h) = absurd (none_earlier j i b a h)
      go (no n) (no m) = omega arith

  pub one_verdict : (v w : Verdict) → Right v → Right w → v ≡ w
  one_verdict derived w a b = sym (b.accepts.1 (a.accepts.0 refl))
  one_verdict (refused i) derived a b = a.accepts.1 (b.accepts.0 refl)
  one_verdict (refused i) (refused j) a b = ap refused (same_place i j a b)
