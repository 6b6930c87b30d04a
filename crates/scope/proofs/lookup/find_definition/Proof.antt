-- `find_definition` is right because a name has at most one definition: one that is found anywhere is the first of all.
-- Assumes nothing.
use mathlib.Core.Path.{◌≡◌, ◌∙◌, ap}
use Prim.Native.Nat.{◌/◌}
use native.Mathlib.Omega.{arith}
use lib.ListN.{length}
use Rattle.index.specs.First.{first}
use Rattle.token.specs.Cut.{meanings_in}
use Rattle.definition.specs.Landmark.{definitions}
use Rattle.scope.specs.Token.{classes_of}
use Rattle.scope.specs.Tag.{name_words}
use Rattle.scope.proofs.Leads.{only_defined}
use borrow.Author.Rules.{rules}
use Rattle.scope.proofs.lookup.find_definition.Statement.{statement}
use Rattle.scope.proofs.lookup.find_definition.Tie as tie

-- there are as many as the code counts
all : (s : tie.Start) → length s.args.names.now / name_words ≡ length (definitions (classes_of (meanings_in s.args.text.now)))
all s = omega (arith, s.requires.1.0.counted)

abbrev start_of : tie.After-end_near-to → tie.Start
start_of c = c.before.before.before.before.before.before.before.before

end-near-requires : tie.Need-end_near-to-requires
end-near-requires c κs = search rules

search-in-requires : tie.Need-search_in-k-requires
search-in-requires c κs =
    let s = start_of c in
    (s.requires.0, (s.requires.1.0, (s.requires.1.1.1, (c.end_near-to.ensures.0, omega (arith, c.end_near-to.ensures.1, all s)))))

returns : tie.Need-returns-then-k-to
returns c =
    let k = c in
    let e = k in
    let s = start_of e.before.before.before in
    only_defined (meanings_in s.args.text.now) s.requires.1.1.0 _ _ _ _ k.search_in-k.ensures c.if-k-to.true e.end_near-to.ensures.0
    (omega (arith, e.end_near-to.ensures.1, all s))

search-in-requires-2 : tie.Need-search_in-requires
search-in-requires-2 c κs =
    let s = c in
    (s.requires.0, (s.requires.1.0, (s.requires.1.1.1, (omega arith, omega (arith, all s.before.before.before.before.before.before.before)))))

returns-2 : tie.Need-returns
returns-2 c = c.search_in.ensures ∙ ap (first _ 0) (all c.before.before.before.before.before.before.before.before)

pub find_definition_spec : {M : Type 1} → statement M
find_definition_spec =
    tie.close
    (tie.spec
    end-near-requires
    search-in-requires
    returns
    search-in-requires-2
    returns-2)
