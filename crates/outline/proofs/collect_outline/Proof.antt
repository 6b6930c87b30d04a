-- `collect_outline` is right by the law of the loop that collects definitions.
-- Assumes nothing.
use mathlib.Core.Path.{◌≡◌, sym, ap, ◌∙◌}
use mathlib.Core.List.{List}
use Prim.Native.Nat.{ℕ, ◌-◌, ◌≤◌, ◌<◌}
use native.Mathlib.Omega.{arith}
use lib.ListN.{length, get_or, take}
use lib.Seq.{take-length}
use Rattle.index.proofs.Search.{first_inside, first_from}
use Rattle.definition.specs.Landmark.{begins, last_token, definitions, definition_end}
use Rattle.definition.proofs.Next.{end_inside}
use Rattle.module_table.specs.Module.{most_definitions}
use Rattle.outline.proofs.Outline.{Collecting, collecting_start, collecting_more, collecting_end, one_more, its_name, room_left, all_stored, outline_counted}
use Rattle.outline.proofs.collect_outline.Statement.{statement}
use Rattle.outline.proofs.collect_outline.Tie as tie

abbrev invariant-loop : tie.invariant-loop-d
invariant-loop classes definitions₀ count₀ d₀ definitions count d =
    Collecting classes definitions count d × (d ≤ last_token classes)

abbrev decreases-loop : tie.decreases-loop-d
decreases-loop classes definitions₀ count₀ d₀ definitions count d = length classes - d

next-beginning-requires : tie.Need-next_beginning-d-requires invariant-loop decreases-loop
next-beginning-requires c κs = let s = c in (s.requires.0, omega arith)

loop-holds : tie.Need-loop-d-init invariant-loop decreases-loop
loop-holds c =
    let s = c in
    let is = c.next_beginning-d.ensures in
    (collecting_start _ _ _ s.requires.1 is, omega (arith, is, first_inside (begins s.args.classes.now) 0 (last_token s.args.classes.now) (omega arith)))

add-loop : tie.Need-overflow_add-d invariant-loop decreases-loop
add-loop c = omega (arith, c.loop-d.invariant.1)

same_length : tie.Need-shape_of-definitions-then-count-eq-MOST_DEFINITIONS invariant-loop decreases-loop
same_length c =
    let l = c in
    let s = l in
    l.loop-d.invariant.0.long ∙ sym s.requires.1

returns : tie.Need-returns-then-count-eq-MOST_DEFINITIONS invariant-loop decreases-loop
returns c =
    let l = c in
    let s = l in
    let cs = s.args.classes.now in
    let h : l.loop-d.d < last_token cs = omega (arith, c.loop-d-test.true) in
    let most : l.loop-d.count ≡ most_definitions = c.if-count-eq-MOST_DEFINITIONS.true in
    let more = one_more cs l.loop-d.definitions l.loop-d.count l.loop-d.d l.loop-d.invariant.0 h in
    let name = its_name cs l.loop-d.definitions l.loop-d.count l.loop-d.d l.loop-d.invariant.0 h in
    (l.loop-d.invariant.0.long ∙ sym s.requires.1, (omega arith, sym name ∙ ap (λ (k : ℕ). get_or (definitions cs) k 0) most))

-- what `definition_end` answers
answer : (cs : List ℕ) (d e : ℕ) → e ≡ definition_end (take (length cs) cs) d → e ≡ definition_end cs d
answer cs d e is = is ∙ ap (λ (l : List ℕ). definition_end l d) (take-length cs)

definition-end-requires : tie.Need-definition_end-e-requires invariant-loop decreases-loop
definition-end-requires c κs =
    let s = c in
    (omega arith, (s.requires.0, omega (arith, c.loop-d-test.true)))

definition-between-requires : tie.Need-definition_between-requires invariant-loop decreases-loop
definition-between-requires c κs =
    let l = c in
    let s = l in
    let cs = s.args.classes.now in
    let h : l.loop-d.d < last_token cs = omega (arith, c.loop-d-test.true) in
    let is = answer cs l.loop-d.d _ c.definition_end-e.ensures in
    (omega (arith, l.loop-d.invariant.1, s.requires.0), omega (arith, is, s.requires.0, (end_inside cs l.loop-d.d h).1))

store-requires : tie.Need-store-requires invariant-loop decreases-loop
store-requires c κs =
    let l = c in
    room_left _ _ _ _ l.loop-d.invariant.0 c.if-count-eq-MOST_DEFINITIONS.false

add-count : tie.Need-overflow_add-count invariant-loop decreases-loop
add-count c = omega (arith, c.loop-d.invariant.0.few)

next-beginning-requires-2 : tie.Need-next_beginning-d-requires-in-loop-d invariant-loop decreases-loop
next-beginning-requires-2 c κs =
    let e = c in
    let l = e in
    let s = l in
    let cs = s.args.classes.now in
    let h : l.loop-d.d < last_token cs = omega (arith, e.loop-d-test.true) in
    let is = answer cs l.loop-d.d _ e.definition_end-e.ensures in
    (s.requires.0, omega (arith, is, (end_inside cs l.loop-d.d h).1))

loop-less : tie.Need-loop-d-smaller invariant-loop decreases-loop
loop-less c =
    let e = c in
    let l = e in
    let cs = l.args.classes.now in
    let h : l.loop-d.d < last_token cs = omega (arith, e.loop-d-test.true) in
    let is = answer cs l.loop-d.d _ e.definition_end-e.ensures in
    omega (arith, c.next_beginning-d-in-loop-d.ensures, is, first_from (begins cs) e.definition_end-e.result (last_token cs), (end_inside cs l.loop-d.d h).0)

loop-again : tie.Need-loop-d-preserved invariant-loop decreases-loop
loop-again c =
    let e = c in
    let l = e in
    let s = l in
    let cs = s.args.classes.now in
    let h : l.loop-d.d < last_token cs = omega (arith, e.loop-d-test.true) in
    let is = answer cs l.loop-d.d _ e.definition_end-e.ensures in (
      collecting_more cs l.loop-d.definitions l.loop-d.count l.loop-d.d l.loop-d.invariant.0 h e.if-count-eq-MOST_DEFINITIONS.false e.definition_end-e.result is _
          (rw (← c.definition_between.ensures) c.store.ensures)
          c.next_beginning-d-in-loop-d.result c.next_beginning-d-in-loop-d.ensures,
      omega (arith, c.next_beginning-d-in-loop-d.ensures, first_inside (begins cs) e.definition_end-e.result (last_token cs) (omega (arith, is, (end_inside cs l.loop-d.d h).1))),
    )

same-length-2 : tie.Need-shape_of-definitions invariant-loop decreases-loop
same-length-2 c =
    let l = c in
    let s = l in
    l.loop-d.invariant.0.long ∙ sym s.requires.1

returns-2 : tie.Need-returns invariant-loop decreases-loop
returns-2 c =
    let l = c in
    let s = l in
    let cs = s.args.classes.now in
    let h : last_token cs ≤ l.loop-d.d = omega (arith, c.loop-d-test.false) in
    let all = all_stored cs l.loop-d.definitions l.loop-d.count l.loop-d.d l.loop-d.invariant.0 h in
    (l.loop-d.invariant.0.long ∙ sym s.requires.1, (all ∙ sym (outline_counted cs), l.loop-d.invariant.0.few, collecting_end _ _ _ _ l.loop-d.invariant.0 h))

pub collect_outline_spec : {M : Type 1} → statement M
collect_outline_spec =
    tie.close
    (tie.spec
    invariant-loop
    decreases-loop
    next-beginning-requires
    loop-holds
    add-loop
    same_length
    returns
    definition-end-requires
    definition-between-requires
    store-requires
    add-count
    next-beginning-requires-2
    loop-less
    loop-again
    same-length-2
    returns-2)
