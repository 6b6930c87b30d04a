-- `introducer` is right by the law of searching loops.
-- Assumes nothing.
use mathlib.Core.Path.{◌≡◌, sym, ap, ◌∙◌}
use mathlib.Core.Logic.{⊎_elim}
use mathlib.Core.Bool.{Bool, false}
use mathlib.Core.List.{List}
use Prim.Native.Nat.{ℕ, ◌-◌, ◌<◌}
use native.Mathlib.Omega.{arith}
use borrow.Author.Rules.{rules}
use lib.ListN.{length}
use Rattle.index.proofs.Search.{Searched, searched_start, searched_miss, searched_hit, searched_end}
use Rattle.lexicon.specs.Word.{same}
use Rattle.token.specs.Token.{Meaning}
use Rattle.token.specs.Cut.{meanings_in}
use Rattle.name_tree.specs.Tree.{part_at}
use Rattle.name_tree.proofs.Both.{not_first}
use Rattle.scope.specs.Token.{classes_of}
use Rattle.scope.specs.Lead.{introduces}
use Rattle.scope.proofs.Tokens.{classes_are, said_counted, starts_long, ends_long, few_classes, held_said, named_is, placed}
use Rattle.scope.proofs.Imports.{introduces_named}
use Rattle.scope.proofs.Leads.{compared}
use Rattle.naming.proofs.Known.{introduces_it, introducer_found, introducer_none}
use Rattle.naming.proofs.unfit.introducer.Statement.{statement}
use Rattle.naming.proofs.unfit.introducer.Tie as tie

abbrev invariant-loop : tie.invariant-loop-j
invariant-loop text classes starts ends i end name j₀ j = Searched (introduces_it (meanings_in text) i) 0 (length (meanings_in text)) j

abbrev decreases-loop : tie.decreases-loop-j
decreases-loop text classes starts ends i end name j₀ j = length classes - j

abbrev start_of : tie.At-loop-j invariant-loop decreases-loop → tie.Start invariant-loop decreases-loop
start_of l = l.before.before.before.before.before.before.before

-- where the loop's test held: the token at hand is one of the text's
here : (t : tie.In-loop-j invariant-loop decreases-loop) → t.loop-j.j < length (meanings_in (start_of t.before).args.text.now)
here t = omega (arith, t.loop-j-test.true, said_counted _ _ _ _ (start_of t.before).requires.0)

-- what the two questions say of it
told : (a : tie.After-introduces invariant-loop decreases-loop) {b : Bool} → a.introduces.result ≡ b
    → (let s = start_of a.before.before in introduces (classes_of (meanings_in s.args.text.now)) a.loop-j.j ≡ b)
told a e =
    let s = start_of a.before.before in
    sym (a.introduces.ensures ∙ ap (λ (cs : List ℕ). introduces cs a.loop-j.j) (classes_are _ _ _ _ s.requires.0)) ∙ e

abbrev said_by : tie.In-loop-j invariant-loop decreases-loop → List Meaning
said_by t = meanings_in (start_of t.before).args.text.now

abbrev sought : tie.In-loop-j invariant-loop decreases-loop → ℕ → Bool
sought t = introduces_it (said_by t) (start_of t.before).args.i

named_told : (n : tie.After-is_named invariant-loop decreases-loop)
    → (let t = n in n.is_named.result ≡ sought t.before.before.before t.loop-j.j)
named_told n =
    let t = n in
    let s = start_of t.before.before.before.before in
    let j = t.loop-j.j in
    let own = told n.before.before n.if-introduces.true in
    let name = (named_is _ _ _ _ s.requires.0 _ s.requires.1 _ t.name_at-name.ensures).1 in
    rw own
    (compared _ _ _ (held_said _ _ _ _ s.requires.0) j (omega (arith, t.loop-j-test.true, ap length (classes_are _ _ _ _ s.requires.0))) (introduces_named _ j own) _ _
    (n.is_named.ensures ∙ ap (same (part_at s.args.text.now s.args.starts.now s.args.ends.now j)) (sym name)))

imports-end-requires : tie.Need-imports_end-end-requires invariant-loop decreases-loop
imports-end-requires c κs = tt

name-at-requires : tie.Need-name_at-name-requires invariant-loop decreases-loop
name-at-requires c κs =
    let s = c in
    (s.requires.1, omega (arith, s.requires.1, starts_long _ _ _ _ s.requires.0), omega (arith, s.requires.1, ends_long _ _ _ _ s.requires.0))

loop-holds : tie.Need-loop-j-init invariant-loop decreases-loop
loop-holds c = searched_start _ 0 _ (omega arith)

introduces-requires : tie.Need-introduces-requires invariant-loop decreases-loop
introduces-requires c κs =
    let l = c in
    (l.imports_end-end.ensures, omega (arith, c.loop-j-test.true, few_classes _ _ _ _ (start_of l.before).requires.0))

is-named-requires : tie.Need-is_named-requires invariant-loop decreases-loop
is-named-requires c κs =
    let t = c in
    let s = start_of t.before.before.before in
    (placed _ _ _ _ s.requires.0 _ (omega (arith, t.loop-j-test.true, s.requires.1)), (named_is _ _ _ _ s.requires.0 _ s.requires.1 _ t.name_at-name.ensures).0)

returns : tie.Need-returns-then-is_named invariant-loop decreases-loop
returns c =
    let t = c in
    let s = start_of t.before.before.before.before.before in
    let hit = sym (named_told c.before) ∙ c.if-is_named.true in
    introducer_found (said_by t.before.before.before.before) s.args.i _ (here t.before.before.before.before) hit (searched_hit (sought t.before.before.before.before) 0 _ _ t.loop-j.invariant (here t.before.before.before.before) hit)

add-j : tie.Need-overflow_add-j invariant-loop decreases-loop
add-j c = search rules

loop-less : tie.Need-loop-j-smaller invariant-loop decreases-loop
loop-less c = omega (arith, c.loop-j-test.true)

loop-again : tie.Need-loop-j-preserved invariant-loop decreases-loop
loop-again c =
    let a = c in
    let t = a in
    let j = t.loop-j.j in
    let miss : sought t.before.before j ≡ false =
    ⊎_elim
    (λ w. sym (named_told (record { before = record { before = c.before; if-introduces = w.if-introduces }; is_named = w.is_named })) ∙ w.if-is_named.false)
    (λ w. not_first _ _ (told c.before w.if-introduces.false))
    c.if-introduces.branch-raw in
    searched_miss (sought t.before.before) 0 _ _ t.loop-j.invariant (here t.before.before) miss

returns-2 : tie.Need-returns invariant-loop decreases-loop
returns-2 c =
    let l = c in
    let s = start_of l.before in
    introducer_none (meanings_in s.args.text.now) s.args.i
    (searched_end (introduces_it (meanings_in s.args.text.now) s.args.i) 0 _ _ l.loop-j.invariant (omega (arith, c.loop-j-test.false, said_counted _ _ _ _ s.requires.0)))

pub introducer_spec : {M : Type 1} → statement M
introducer_spec =
    tie.close
    (tie.spec
    invariant-loop
    decreases-loop
    imports-end-requires
    name-at-requires
    loop-holds
    introduces-requires
    is-named-requires
    returns
    add-j
    loop-less
    loop-again
    returns-2)
