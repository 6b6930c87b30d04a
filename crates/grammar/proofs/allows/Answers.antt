-- `grammar::allows` meets its contract: the verdict on the first classes and this one is right, and says it.
-- Assumes nothing.
use Rattle.std.proofs.Common.{◌≡◌, ◌+◌, ◌<◌, ◌∙◌, ◌++◌, ◌∷◌, [], sym, ap, subst, true, length, take, set, List, ℕ, suc, arith, length-set, add-one}
use mathlib.Core.Logic.{◌↔◌}
use lib.Dec.{leb, ltb}
use lib.Seq.{take-suc-set, length-take-le}
use Rattle.grammar.specs.Answer.{refused, Begins, RightVerdict}
use Rattle.grammar.specs.Grammar.{smi_module}
use Rattle.grammar.specs.Rule.{yield}
use Rattle.grammar.proofs.Begun.{begun}
use Rattle.grammar.proofs.allows.Goals as goal

-- a right verdict on the first classes and this one says whether some derived sequence begins with them
says : (classes : List ℕ) (n x i : ℕ) → n < length classes
    → RightVerdict (yield smi_module) (take (n + 1) (set classes n x)) (refused i)
    → (ltb n i ≡ true) ↔ Begins smi_module (take n classes ++ x ∷ [])
says classes n x i room right =
    let ts = take n classes ++ x ∷ [] in
    let asked : take (n + 1) (set classes n x) ≡ ts = rw (add-one, take-suc-set) in
    let sized : length ts ≡ suc n =
    ap length (sym asked) ∙ length-take-le (n + 1) (set classes n x) (simp length-set (omega arith)) ∙ add-one n in
    let right : RightVerdict (yield smi_module) ts (refused i) = subst (λ s. RightVerdict (yield smi_module) s (refused i)) asked right in
    subst (λ k. (leb k i ≡ true) ↔ Begins smi_module ts) sized (begun (yield smi_module) ts (refused i) right)

pub returns-in-Err-clause-right : goal.returns-in-Err-clause-right
returns-in-Err-clause-right c =
    says c.args.classes.now c.args.n c.args.class c.in-Err.fault.0 c.requires c.in-Err.ensures.right
