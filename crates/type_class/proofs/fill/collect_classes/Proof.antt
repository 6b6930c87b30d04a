-- `collect_classes` is right: the two stages one after the other.
-- Assumes nothing.
use Rattle.type_class.specs.Stage.{objects_classed}
use mathlib.Core.Path.{ap, ◌∙◌}
use borrow.Author.Rules.{rules}
use Rattle.type_class.proofs.fill.collect_classes.Statement.{statement}
use Rattle.type_class.proofs.fill.collect_classes.Tie as tie

collect-conventions-requires : tie.Need-collect_conventions-requires
collect-conventions-requires c κs = search rules

collect-objects-requires : tie.Need-collect_objects-requires
collect-objects-requires c κs = search rules

same_length : tie.Need-shape_of-definitions
same_length c = search rules

returns : tie.Need-returns
returns c =
    let objects = c in
    let conventions = objects in
    let s = conventions in (
      objects.collect_objects.ensures.0
          ∙ ap (objects_classed s.args.classes.now s.args.values.now) conventions.collect_conventions.ensures.0,
      objects.collect_objects.ensures.1 ∙ conventions.collect_conventions.ensures.1,
    )

pub collect_classes_spec : {M : Type 1} → statement M
collect_classes_spec =
    tie.close (tie.spec
    collect-conventions-requires
    collect-objects-requires
    same_length
    returns)
