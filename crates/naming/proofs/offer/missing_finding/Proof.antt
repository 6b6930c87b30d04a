-- `missing_finding` is right: it says what is read.
-- Assumes nothing.
use mathlib.Core.Path.{ap, ◌∙◌}
use mathlib.Core.List.{List}
use Prim.Native.Nat.{ℕ}
use native.Mathlib.Omega.{arith}
use Rattle.rule.specs.declared.Finding.{Finding}
use Rattle.token.specs.Cut.{meanings_in}
use Rattle.scope.specs.Import.{source}
use Rattle.scope.proofs.Tokens.{classes_are, few_classes}
use Rattle.naming.specs.Rules.{offer_clause}
use borrow.Author.Rules.{rules}
use Rattle.naming.proofs.offer.missing_finding.Statement.{statement}
use Rattle.naming.proofs.offer.missing_finding.Tie as tie

abbrev said : ℕ → ℕ → ℕ → Finding
said i clause at = record { number = 10; clause = clause; token = record { 0 = i }; other = record { 0 = at } }

source-requires : tie.Need-source-module-requires
source-requires c κs =
    let s = c in
    (few_classes _ _ _ _ s.requires.0, omega (arith, s.requires.1))

offer-clause-requires : tie.Need-offer_clause-requires
offer-clause-requires c κs = search rules

returns : tie.Need-returns
returns c =
    let m = c in
    let s = m in
    let i = s.args.i in
    ap (λ (x : ℕ). said i x m.source-module.result) c.offer_clause.ensures
    ∙ ap (λ (at : ℕ). said i (offer_clause (meanings_in s.args.text.now) at) at) (m.source-module.ensures ∙ ap (λ (cs : List ℕ). source cs i) (classes_are _ _ _ _ s.requires.0))

pub missing_finding_spec : {M : Type 1} → statement M
missing_finding_spec = tie.close (tie.spec
    source-requires
    offer-clause-requires
    returns)
