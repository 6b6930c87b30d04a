-- A right verdict says whether some derived sequence begins with a sequence: exactly where none of its tokens is at fault.
-- Assumes nothing.
use mathlib.Core.Path.{◌≡◌, refl, sym, ◌∙◌, ap, subst}
use mathlib.Core.Bool.{Bool, true, false}
use mathlib.Core.Logic.{◌↔◌}
use mathlib.Core.List.{List, [], append-nil}
use Prim.Native.Nat.{ℕ, ◌+◌, ◌<◌}
use native.Mathlib.Omega.{arith}
use borrow.Author.Tests.{leb-true, leb-false}
use lib.Dec.{leb}
use lib.ListN.{length}
use lib.Seq.{take-length}
use Rattle.index.proofs.Search.{true_false}
use Rattle.grammar.specs.Allowed.{unspoiled}
use Rattle.grammar.specs.Answer.{Verdict, derived, refused, ViablePrefix, RightVerdict}
use Rattle.grammar.proofs.OneVerdict.{viable_shorter}

module _ {D X : Type 0} (spelt : D → List X) (ts : List X) where
  abbrev Viable : Type 0
  Viable = ViablePrefix spelt ts

  -- refused at token i, by whether that is the end
  at_token : (i : ℕ) → RightVerdict spelt ts (refused i) → (b : Bool) → leb (length ts) i ≡ b → (b ≡ true) ↔ Viable
  at_token i right true e =
      let end : i ≡ length ts = omega (arith, right.within i refl, leb-true (length ts) i e) in
      (λ t. (right.cut_short (ap refused end)).0, λ v. refl)
  at_token i right false e =
      let before : i < length ts = leb-false (length ts) i e in (
        λ t. absurd (true_false t refl),
        λ v. absurd ((right.spoiled i refl before).1
            (viable_shorter spelt ts (i + 1) (length ts) (omega arith) (subst (ViablePrefix spelt) (sym (take-length ts)) v))),
      )

  -- none of the tokens is at fault exactly where some derived sequence begins with them
  pub begun : (v : Verdict) → RightVerdict spelt ts v → (unspoiled (length ts) v ≡ true) ↔ Viable
  begun derived right =
      let d = right.accepts.0 refl in
      (λ t. ([], (d.0, d.1 ∙ sym (append-nil ts))), λ v. refl)
  begun (refused i) right = at_token i right (leb (length ts) i) refl
