-- `serves` is right because each case of a lead asks what the definition asks.
-- Assumes nothing.
use mathlib.Core.Path.{sym, ap, ◌∙◌}
use Rattle.module_table.specs.declared.Definition.{Definition as Defined}
use Rattle.module_table.specs.declared.Lead.{Lead}
use Rattle.module_table.specs.Definition.{definitions_in}
use Rattle.name_kind.specs.Serve.{serves, kind_serves}
use borrow.Author.Rules.{rules}
use Rattle.name_kind.proofs.serves.Statement.{statement}
use Rattle.name_kind.proofs.serves.Tie as tie

enum_told : tie.Need-enum_told-1
enum_told c = search rules

iso-serves-requires : tie.Need-iso_serves-requires
iso-serves-requires c κs = search rules

enum-known-lead : tie.Need-enum_known-lead
enum-known-lead c = search rules

symbol-serves-requires : tie.Need-symbol_serves-requires
symbol-serves-requires c κs = search rules

enum-known-lead-2 : tie.Need-enum_known-lead-in-Definition-1
enum-known-lead-2 c = search rules

definition-at-requires : tie.Need-definition_at-requires
definition-at-requires c κs = search rules

kind-serves-requires : tie.Need-kind_serves-requires
kind-serves-requires c κs = search rules

enum-told-2 : tie.Need-enum_told-in-Nothing
enum-told-2 c = search rules

nothing-serves-requires : tie.Need-nothing_serves-requires
nothing-serves-requires c κs = search rules

returns : tie.Need-returns-in-Iso
unfolding serves
returns c =
    let s = c in
    c.iso_serves.ensures ∙ sym (ap (λ (l : Lead). serves (definitions_in s.args.definitions.now) l s.args.need) c.in-Iso.is)

returns-2 : tie.Need-returns-in-Import
unfolding serves
returns-2 c =
    let s = c in
    c.symbol_serves.ensures ∙ sym (ap (λ (l : Lead). serves (definitions_in s.args.definitions.now) l s.args.need) c.in-Import.is)

returns-3 : tie.Need-returns-in-Definition
unfolding serves
returns-3 c =
    let s = c in
    c.kind_serves.ensures
    ∙ ap (λ (d : Defined). kind_serves d.kind s.args.need) c.definition_at.ensures
    ∙ sym (ap (λ (l : Lead). serves (definitions_in s.args.definitions.now) l s.args.need) c.in-Definition.is)

returns-4 : tie.Need-returns-in-Nothing
unfolding serves
returns-4 c =
    let s = c in
    c.nothing_serves.ensures ∙ sym (ap (λ (l : Lead). serves (definitions_in s.args.definitions.now) l s.args.need) c.in-Nothing.is)

pub serves_spec : {M : Type 1} → statement M
serves_spec =
    tie.close
    (tie.spec
    enum_told
    iso-serves-requires
    enum-known-lead
    symbol-serves-requires
    enum-known-lead-2
    definition-at-requires
    kind-serves-requires
    enum-told-2
    nothing-serves-requires
    returns
    returns-2
    returns-3
    returns-4)
