-- `leads_to` is right because it asks in the definition's order.
-- Assumes nothing.
use mathlib.Core.Path.{◌≡◌, sym, ◌∙◌}
use Prim.Native.Nat.{◌/◌}
use native.Mathlib.Omega.{arith}
use lib.ListN.{length}
use Rattle.token.specs.Cut.{meanings_in}
use Rattle.definition.specs.Landmark.{definitions}
use Rattle.scope.specs.Token.{classes_of}
use Rattle.scope.specs.Lead.{leads_to}
use Rattle.scope.specs.Tag.{name_words}
use Rattle.scope.proofs.Leads.{lead_import, lead_definition, lead_nothing}
use borrow.Author.Rules.{rules}
use Rattle.scope.proofs.lookup.leads_to.Statement.{statement}
use Rattle.scope.proofs.lookup.leads_to.Tie as tie

-- there are as many definitions as the code counts
all : (s : tie.Start) → length s.args.names.now / name_words ≡ length (definitions (classes_of (meanings_in s.args.text.now)))
all s = omega (arith, s.requires.0.definitions.counted)

abbrev start_of : tie.After-find_import-word → tie.Start
start_of f = f.before.before.before.before.before.before.before.before.before

names-iso-requires : tie.Need-names_iso-requires
names-iso-requires c κs = search rules

returns : tie.Need-returns-then-names_iso
unfolding leads_to
returns c = simp (sym c.names_iso.ensures ∙ c.if-names_iso.true)

find-import-requires : tie.Need-find_import-word-requires
find-import-requires c κs = search rules

lead-in-requires : tie.Need-lead_in-requires
lead-in-requires c κs = search rules

returns-2 : tie.Need-returns-then-word-ne0
returns-2 c =
    let f = c in
    let s = start_of f.before.before in
    c.lead_in.ensures ∙ lead_import (meanings_in s.args.text.now) _ (sym f.names_iso.ensures ∙ f.if-names_iso.false) _ f.find_import-word.ensures s.requires.0.imports.offers c.if-word-ne0.true

find-definition-requires : tie.Need-find_definition-d-requires
find-definition-requires c κs = search rules

returns-3 : tie.Need-returns-then-d-names
returns-3 c =
    let f = c in
    let s = start_of f.before.before.before.before in
    lead_definition (meanings_in s.args.text.now) _ (sym f.names_iso.ensures ∙ f.if-names_iso.false) _ f.find_import-word.ensures c.if-word-ne0.false
    _ c.find_definition-d.ensures (omega (arith, c.if-d-names.true, all s))

returns-4 : tie.Need-returns
returns-4 c =
    let f = c in
    let s = start_of f.before.before.before.before in
    lead_nothing (meanings_in s.args.text.now) _ (sym f.names_iso.ensures ∙ f.if-names_iso.false) _ f.find_import-word.ensures c.if-word-ne0.false
    _ c.find_definition-d.ensures (omega (arith, c.if-d-names.false, all s))

pub leads_to_spec : {M : Type 1} → statement M
leads_to_spec =
    tie.close
    (tie.spec
    names-iso-requires
    returns
    find-import-requires
    lead-in-requires
    returns-2
    find-definition-requires
    returns-3
    returns-4)
