-- `number_at` is right by what the name leads to.
-- Assumes nothing.
use mathlib.Core.Path.{sym, ap, ◌∙◌}
use native.Mathlib.Omega.{arith}
use Rattle.module_table.specs.Lead.{definition_number}
use Rattle.object_tree.proofs.Numbers.{number_few}
use borrow.Author.Rules.{rules}
use Rattle.object_tree.proofs.words.number_at.Statement.{statement}
use Rattle.object_tree.proofs.words.number_at.Tie as tie

lead-at-requires : tie.Need-lead_at-requires
lead-at-requires c κs = search rules

enum_told : tie.Need-enum_told-1
enum_told c = search rules

enum-told-2 : tie.Need-enum_told-in-Import
enum-told-2 c = search rules

enum-known-d : tie.Need-enum_known-d
enum-known-d c = search rules

add-result : tie.Need-overflow_add-result
add-result c =
    let s = c in
    let lead = c.lead_at.ensures in
    omega (arith, number_few s.args.values.now s.args.i.0, ap definition_number (sym lead ∙ c.in-Definition.is))

enum-told-3 : tie.Need-enum_told-in-Nothing
enum-told-3 c = search rules

returns : tie.Need-returns-in-Iso
returns c = sym (ap definition_number (sym c.lead_at.ensures ∙ c.in-Iso.is))

returns-2 : tie.Need-returns-in-Import
returns-2 c = sym (ap definition_number (sym c.lead_at.ensures ∙ c.in-Import.is))

returns-3 : tie.Need-returns-in-Definition
returns-3 c = sym (ap definition_number (sym c.lead_at.ensures ∙ c.in-Definition.is))

returns-4 : tie.Need-returns-in-Nothing
returns-4 c = sym (ap definition_number (sym c.lead_at.ensures ∙ c.in-Nothing.is))

pub number_at_spec : {M : Type 1} → statement M
number_at_spec =
    tie.close
    (tie.spec
    lead-at-requires
    enum_told
    enum-told-2
    enum-known-d
    add-result
    enum-told-3
    returns
    returns-2
    returns-3
    returns-4)
