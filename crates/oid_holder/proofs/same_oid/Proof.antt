-- `same_oid` is right: the runs hold the definitions' OIDs.
-- Assumes nothing.
use mathlib.Core.Path.{ap, ◌∙◌}
use mathlib.Core.List.{List}
use Prim.Native.Nat.{ℕ}
use Rattle.lexicon.specs.Word.{same}
use Rattle.module_table.specs.Module.{oid_in}
use Rattle.oid_run.specs.Run.{run}
use borrow.Author.Rules.{rules}
use Rattle.oid_holder.proofs.same_oid.Statement.{statement}
use Rattle.oid_holder.proofs.same_oid.Tie as tie

run-of-requires : tie.Need-run_of-requires
run-of-requires c κs = search rules

run-of-requires-2 : tie.Need-run_of-requires-2
run-of-requires-2 c κs = search rules

same-requires : tie.Need-same-requires
same-requires c κs = (c.run_of.ensures.inside, c.run_of-2.ensures.inside)

returns : tie.Need-returns
returns c =
    let b = c in
    let a = b in
    let s = a in
    let numbers = s.args.numbers.now in
    c.same.ensures ∙ ap (λ (l : List ℕ). same l (run numbers b.run_of-2.result.from.0 b.run_of-2.result.count)) a.run_of.ensures.held
    ∙ ap (same (oid_in numbers s.args.a)) b.run_of-2.ensures.held

pub same_oid_spec : {M : Type 1} → statement M
same_oid_spec = tie.close (tie.spec
    run-of-requires
    run-of-requires-2
    same-requires
    returns)
