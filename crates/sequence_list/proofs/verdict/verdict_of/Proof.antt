-- `verdict_of` is right, test by test.
-- Assumes nothing.
use native.Mathlib.Omega.{arith}
use mathlib.Core.Path.{◌≡◌, ap, ◌∙◌}
use Prim.Native.Nat.{◌<◌}
use mathlib.Core.Bool.{false}
use Rattle.definition.specs.declared.Span.{Span}
use Rattle.module_table.specs.Definition.{definitions_in}
use Rattle.sequence_list.specs.Named.{columns_of, repeats, first_stranger}
use Rattle.sequence_list.specs.Held.{first_named, parent_named}
use Rattle.sequence_list.proofs.Verdicts.{repeats_found, repeats_none, stranger_found, stranger_none, verdict_twice, verdict_none, verdict_mixed, verdict_alike}
use borrow.Author.Rules.{rules}
use Rattle.sequence_list.proofs.verdict.verdict_of.Statement.{statement}
use Rattle.sequence_list.proofs.verdict.verdict_of.Tie as tie

abbrev start_of : tie.After-search_repeated → tie.Start
start_of r = r.before.before.before.before.before

columns-of-requires : tie.Need-columns_of-list-requires
columns-of-requires c κs = search rules

search-repeated-requires : tie.Need-search_repeated-requires
search-repeated-requires c κs = search rules

-- where the list ends
end_is : (r : tie.After-search_repeated) → (let s = start_of r in r.columns_of-list.result.to ≡ (columns_of (definitions_in s.args.definitions.now) s.args.number).to)
end_is r = ap (λ (a : Span). a.to) r.columns_of-list.ensures

returns : tie.Need-returns-then-search_repeated-list
returns c =
    let r = c in
    let told = r.search_repeated.ensures in
    record { is = verdict_twice _ _ _ (repeats_found _ _ _ (omega (arith, c.if-search_repeated-list.true, told.is, end_is r.before.before))); stamped = told.stamped }

-- no object is named twice
once : (e : tie.Else-search_repeated-list) → (let s = start_of e.before.before in repeats (definitions_in s.args.definitions.now) s.args.values.now s.args.number ≡ false)
once e =
    let r = e in
    repeats_none _ _ _ (omega (arith, e.if-search_repeated-list.false, r.search_repeated.ensures.is, end_is r.before.before))

first-named-requires : tie.Need-first_named-requires
first-named-requires c κs = search rules

returns-2 : tie.Need-returns-then-list-first_named
returns-2 c =
    let f = c in
    let e = f in
    let r = e in
    record { is = verdict_none _ _ _ (once e.before.before.before) (omega (arith, c.if-list-first_named.true, f.first_named.ensures, end_is r.before.before.before.before.before)); stamped = r.search_repeated.ensures.stamped }

-- one is named
some : (e : tie.Else-list-first_named) → (let s = start_of e.before.before.before.before.before in first_named (definitions_in s.args.definitions.now) s.args.values.now s.args.number < (columns_of (definitions_in s.args.definitions.now) s.args.number).to)
some e =
    let f = e in
    omega (arith, e.if-list-first_named.false, f.first_named.ensures, end_is f.before.before.before.before.before)

-- the search for one of another parent
stranger_is : (t : tie.After-first_stranger)
    → (let s = start_of t.before.before.before.before.before.before.before in
    t.first_stranger.result ≡ first_stranger (definitions_in s.args.definitions.now) s.args.values.now s.args.number (parent_named (definitions_in s.args.definitions.now) s.args.values.now s.args.number))
stranger_is t =
    let s = start_of t.before.before.before.before.before.before.before in
    t.first_stranger.ensures ∙ ap (first_stranger (definitions_in s.args.definitions.now) s.args.values.now s.args.number) t.parent_named-parent.ensures

parent-named-requires : tie.Need-parent_named-parent-requires
parent-named-requires c κs = search rules

first-stranger-requires : tie.Need-first_stranger-requires
first-stranger-requires c κs = search rules

returns-3 : tie.Need-returns-then-first_stranger-list
returns-3 c =
    let t = c in
    let e = t in
    let r = e in
    record {
      is = verdict_mixed _ _ _ (once e.before.before.before.before.before.before.before) (some e.before.before.before.before) (stranger_found _ _ _ _ (omega (arith, c.if-first_stranger-list.true, stranger_is t.before.before, end_is r.before.before.before.before.before.before.before.before.before)));
      stamped = r.search_repeated.ensures.stamped;
    }

returns-4 : tie.Need-returns
returns-4 c =
    let t = c in
    let e = t in
    let r = e in
    record {
      is = verdict_alike _ _ _ (once e.before.before.before.before.before.before.before) (some e.before.before.before.before) (stranger_none _ _ _ _ (omega (arith, c.if-first_stranger-list.false, stranger_is t.before.before, end_is r.before.before.before.before.before.before.before.before.before)));
      stamped = r.search_repeated.ensures.stamped;
    }

pub verdict_of_spec : {M : Type 1} → statement M
verdict_of_spec =
    tie.close
    (tie.spec
    columns-of-requires
    search-repeated-requires
    returns
    first-named-requires
    returns-2
    parent-named-requires
    first-stranger-requires
    returns-3
    returns-4)
