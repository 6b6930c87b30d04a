-- `unfit_finding` is right: where all imports are offered, what the name leads to tells the number.
-- Assumes nothing.
use mathlib.Core.Path.{◌≡◌, ap, ◌∙◌}
use mathlib.Core.List.{List}
use Prim.Native.Nat.{ℕ}
use lib.Seq.{take-length}
use Rattle.rule.specs.declared.Finding.{Finding}
use Rattle.token.specs.Cut.{meanings_in}
use Rattle.name_kind.specs.Clause.{use_clause}
use Rattle.scope.proofs.Tokens.{classes_are}
use Rattle.naming.specs.Rules.{use_number, unfit_use}
use Rattle.naming.specs.Told.{lead_number}
use Rattle.naming.proofs.Known.{known_number}
use borrow.Author.Rules.{rules}
use Rattle.naming.proofs.unfit.unfit_finding.Statement.{statement}
use Rattle.naming.proofs.unfit.unfit_finding.Tie as tie

abbrev said : ℕ → ℕ → ℕ → ℕ → Finding
said i number clause other = record { number = number; clause = clause; token = record { 0 = i }; other = record { 0 = other } }

lead-number-requires : tie.Need-lead_number-requires
lead-number-requires c κs = search rules

use-clause-requires : tie.Need-use_clause-requires
use-clause-requires c κs = search rules

introducer-requires : tie.Need-introducer-requires
introducer-requires c κs = search rules

returns : tie.Need-returns
unfolding unfit_use
returns c =
    let u = c in
    let n = u in
    let s = n in
    let i = s.args.i in
    let number : n.lead_number.result ≡ use_number (meanings_in s.args.text.now) i =
    n.lead_number.ensures ∙ ap lead_number s.requires.1.1.0 ∙ known_number _ _ s.requires.1.0 in
    let clause = u.use_clause.ensures ∙ ap (λ (cs : List ℕ). use_clause cs i) (take-length s.args.classes.now ∙ classes_are _ _ _ _ s.requires.0) in
    ap (λ (x : ℕ). said i x u.use_clause.result c.introducer.result) number
    ∙ ap (λ (x : ℕ). said i (use_number (meanings_in s.args.text.now) i) x c.introducer.result) clause
    ∙ ap (said i (use_number (meanings_in s.args.text.now) i) _) c.introducer.ensures

pub unfit_finding_spec : {M : Type 1} → statement M
unfit_finding_spec =
    tie.close (tie.spec
    lead-number-requires
    use-clause-requires
    introducer-requires
    returns)
