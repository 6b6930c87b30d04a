-- `judge_access` is right: its first breach is the earlier of two that are searched for.
-- Assumes nothing.
use mathlib.Core.Bool.{Bool}
use Prim.Native.Nat.{ℕ}
use lib.Dec.{ltb}
use Rattle.index.specs.First.{first}
use Rattle.module_table.specs.Definition.{entry}
use mathlib.Core.Path.{◌≡◌, refl, sym, ap, ◌∙◌}
use native.Mathlib.Omega.{arith}
use Rattle.module_table.specs.Definition.{definitions_in}
use Rattle.access_check.specs.Access.{clashes, access_clause, access_other, access_broken}
use Rattle.access_check.specs.Found.{own_clause, found}
use Rattle.access_check.proofs.Faults.{first_broken, none_broken, first_earlier, second_earlier, neither, access_clash, access_own, access_either}
use borrow.Author.Rules.{rules}
use Rattle.access_check.proofs.judge.judge_access.Statement.{statement}
use Rattle.access_check.proofs.judge.judge_access.Tie as tie

abbrev start : tie.After-first_fault-fault → tie.Start
start f = f.before.before.before.before.before.before

abbrev own : tie.After-first_fault-fault → ℕ → Bool
own f k = ltb 0 (own_clause (definitions_in (start f).args.definitions.now) (entry (definitions_in (start f).args.definitions.now) k))

-- the two searches
clash_is : (f : tie.After-first_fault-fault) → f.first_clash-clash.result ≡ first (clashes (definitions_in (start f).args.definitions.now) (start f).args.values.now) 0 f.count-n.result
clash_is f = f.first_clash-clash.ensures ∙ ap (first (clashes (definitions_in (start f).args.definitions.now) (start f).args.values.now) 0) (sym f.count-n.ensures)

fault_is : (f : tie.After-first_fault-fault) → f.first_fault-fault.result ≡ first (own f) 0 f.count-n.result
fault_is f = f.first_fault-fault.ensures ∙ ap (first (own f) 0) (sym f.count-n.ensures)

-- the rule is broken by a clash or by an object itself
abbrev breach : tie.After-first_fault-fault → ℕ → Bool
breach f k = ltb 0 (access_clause (definitions_in (start f).args.definitions.now) (start f).args.values.now k)

count-requires : tie.Need-count-n-requires
count-requires c κs = search rules

first-clash-requires : tie.Need-first_clash-clash-requires
first-clash-requires c κs = search rules

first-fault-requires : tie.Need-first_fault-fault-requires
first-fault-requires c κs = search rules

access-other-requires : tie.Need-access_other-other-requires
access-other-requires c κs = search rules

found-requires : tie.Need-found-requires
found-requires c κs = search rules

returns : tie.Need-returns-then-clash-n
unfolding access_broken
returns c =
    let o = c in
    let f = o in
    let s = start f.before.before.before in
    let ds = definitions_in s.args.definitions.now in
    let e = first_earlier _ (own f.before.before.before) (breach f.before.before.before) _ _ _ (access_either ds s.args.values.now) (clash_is f.before.before.before) (fault_is f.before.before.before) o.if-clash-n.true in
    first_broken (access_broken ds s.args.values.now) _ _ refl (sym f.count-n.ensures) e.1 e.0 _
    (c.found.ensures ∙ ap (found ds 21 1 f.first_clash-clash.result) o.access_other-other.ensures
    ∙ ap (λ (x : ℕ). found ds 21 x f.first_clash-clash.result (access_other ds s.args.values.now f.first_clash-clash.result x)) (access_clash ds s.args.values.now f.first_clash-clash.result e.2))

clause-at-requires : tie.Need-clause_at-clause-requires
clause-at-requires c κs = search rules

access-other-requires-2 : tie.Need-access_other-other-requires-then-fault-n
access-other-requires-2 c κs = search rules

found-requires-2 : tie.Need-found-requires-then-fault-n
found-requires-2 c κs = search rules

returns-2 : tie.Need-returns-then-fault-n
unfolding access_broken
returns-2 c =
    let o = c in
    let a = o in
    let t = a in
    let f = t in
    let s = start f.before.before.before.before.before in
    let ds = definitions_in s.args.definitions.now in
    let e = second_earlier _ (own f.before.before.before.before.before) (breach f.before.before.before.before.before) _ _ _ (access_either ds s.args.values.now) (clash_is f.before.before.before.before.before) (fault_is f.before.before.before.before.before) t.if-clash-n.false t.if-fault-n.true in
    first_broken (access_broken ds s.args.values.now) _ _ refl (sym f.count-n.ensures) e.0 t.if-fault-n.true _
    (c.found-then-fault-n.ensures ∙ ap (found ds 21 a.clause_at-clause.result f.first_fault-fault.result) o.access_other-other-then-fault-n.ensures
    ∙ ap (λ (x : ℕ). found ds 21 x f.first_fault-fault.result (access_other ds s.args.values.now f.first_fault-fault.result x)) (a.clause_at-clause.ensures ∙ access_own ds s.args.values.now f.first_fault-fault.result e.1))

returns-3 : tie.Need-returns
unfolding access_broken
returns-3 c =
    let f = c in
    let s = start f.before.before in
    let ds = definitions_in s.args.definitions.now in
    none_broken (access_broken ds s.args.values.now) _ _ refl (sym f.count-n.ensures)
    (neither _ (own f.before.before) (breach f.before.before) _ _ _ (access_either ds s.args.values.now) (clash_is f.before.before) (fault_is f.before.before) c.if-clash-n.false c.if-fault-n.false) (omega arith)

pub judge_access_spec : {M : Type 1} → statement M
judge_access_spec =
    tie.close
    (tie.spec
    count-requires
    first-clash-requires
    first-fault-requires
    access-other-requires
    found-requires
    returns
    clause-at-requires
    access-other-requires-2
    found-requires-2
    returns-2
    returns-3)
