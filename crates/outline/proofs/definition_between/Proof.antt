-- `definition_between` is right: all tokens are the module's.
-- Assumes nothing.
use mathlib.Core.Path.{ap, ◌∙◌}
use mathlib.Core.List.{List}
use Prim.Native.Nat.{ℕ}
use lib.Seq.{take-length}
use Rattle.definition.specs.Fields.{fields_of}
use Rattle.outline.specs.Outline.{outlined}
use borrow.Author.Rules.{rules}
use Rattle.outline.proofs.definition_between.Statement.{statement}
use Rattle.outline.proofs.definition_between.Tie as tie

fields-of-requires : tie.Need-fields_of-requires
fields-of-requires c κs = search rules

outlined-requires : tie.Need-outlined-requires
outlined-requires c κs = search rules

returns : tie.Need-returns
returns c =
    let s = c in
    c.outlined.ensures ∙ ap (outlined s.args.d)
    (c.fields_of.ensures ∙ ap (λ (cs : List ℕ). fields_of cs s.args.d s.args.e) (take-length s.args.classes.now))

pub definition_between_spec : {M : Type 1} → statement M
definition_between_spec = tie.close (tie.spec
    fields-of-requires
    outlined-requires
    returns)
