-- `find_import` is right by the law of searching loops.
-- Assumes nothing.
use mathlib.Core.Path.{sym, ◌∙◌}
use Prim.Native.Nat.{◌-◌}
use native.Mathlib.Omega.{arith}
use borrow.Author.Rules.{rules}
use lib.ListN.{length}
use Rattle.index.proofs.Search.{Searched, searched_start, searched_miss, searched_end}
use Rattle.lexicon.specs.Word.{between}
use Rattle.token.specs.Cut.{meanings_in}
use Rattle.scope.specs.Lead.{imports_name}
use Rattle.scope.proofs.Leads.{import_found, none_found}
use Rattle.scope.proofs.lookup.find_import.Statement.{statement}
use Rattle.scope.proofs.lookup.find_import.Tie as tie

abbrev invariant-loop : tie.invariant-loop-i
invariant-loop text starts ends values name i₀ i =
    Searched (imports_name (meanings_in text) (between text name.start name.end)) 0 (length values) i

abbrev decreases-loop : tie.decreases-loop-i
decreases-loop text starts ends values name i₀ i = length values - i

abbrev start_of : tie.At-loop-i invariant-loop decreases-loop → tie.Start invariant-loop decreases-loop
start_of l = l.before.before.before.before.before

loop-holds : tie.Need-loop-i-init invariant-loop decreases-loop
loop-holds c = searched_start _ 0 _ (omega arith)

mul-imports-name : tie.Need-offset_bounds-values-i invariant-loop decreases-loop
mul-imports-name c = search rules

shared-slice-read-imports-name : tie.Need-bounds-values-i invariant-loop decreases-loop
shared-slice-read-imports-name c = search rules

imports-name-requires : tie.Need-imports_name-requires invariant-loop decreases-loop
imports-name-requires c κs =
    let l = c in
    let s = start_of l.before.before in
    (s.requires.0, (s.requires.1.0.held l.loop-i.i c.loop-i-test.true, s.requires.1.1))

mul-result : tie.Need-offset_bounds-values-i-then-imports_name invariant-loop decreases-loop
mul-result c = search rules

shared-slice-read-result : tie.Need-bounds-values-i-then-imports_name invariant-loop decreases-loop
shared-slice-read-result c = search rules

returns : tie.Need-returns-then-imports_name invariant-loop decreases-loop
returns c =
    let e = c in
    let l = e in
    let s = start_of l.before.before.before.before.before in
    let h = e.loop-i-test.true in
    s.requires.1.0.held l.loop-i.i h
    ∙ import_found (meanings_in s.args.text.now) (between s.args.text.now s.args.name.start s.args.name.end) l.loop-i.i (omega (arith, s.requires.1.0.counted, h)) (sym e.imports_name.ensures ∙ e.if-imports_name.true)

add-i : tie.Need-overflow_add-i invariant-loop decreases-loop
add-i c = search rules

loop-less : tie.Need-loop-i-smaller invariant-loop decreases-loop
loop-less c = search rules

loop-again : tie.Need-loop-i-preserved invariant-loop decreases-loop
loop-again c =
    let l = c in
    searched_miss _ 0 _ _ l.loop-i.invariant c.loop-i-test.true (sym c.imports_name.ensures ∙ c.if-imports_name.false)

returns-2 : tie.Need-returns invariant-loop decreases-loop
returns-2 c =
    let l = c in
    let s = start_of l.before in
    none_found (meanings_in s.args.text.now) (between s.args.text.now s.args.name.start s.args.name.end) (rw (← s.requires.1.0.counted) (searched_end _ 0 _ _ l.loop-i.invariant c.loop-i-test.false))

pub find_import_spec : {M : Type 1} → statement M
find_import_spec =
    tie.close
    (tie.spec
    invariant-loop
    decreases-loop
    loop-holds
    mul-imports-name
    shared-slice-read-imports-name
    imports-name-requires
    mul-result
    shared-slice-read-result
    returns
    add-i
    loop-less
    loop-again
    returns-2)
