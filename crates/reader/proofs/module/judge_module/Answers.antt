-- `judge_module` is right: each stage judges its rules of the text's own module, as far as it is understood there.
-- Assumes nothing.
use Rattle.std.proofs.Common.{rules, refl, sym, ap, subst, ◌≡◌, ◌∙◌, ◌<◌, ◌*◌, List, ℕ, length, get_or, take, arith, length-take}
use lib.Seq.{take_at, length-take-le}
use Rattle.rule.specs.Rule.{judge}
use Rattle.token.specs.Cut.{cut, meanings_in}
use Rattle.token.specs.Table.{overlaid}
use Rattle.module_table.proofs.Table.{table_counted}
use Rattle.scope.proofs.Tokens.{few_classes, classes_are}
use Rattle.naming.specs.Told.{judgement}
use Rattle.oid_tree.specs.Stage.{with_oids}
use Rattle.records.specs.Record.{records_before, AllFit}
use Rattle.reader.specs.Reading.{rules as all_rules}
use Rattle.reader.specs.Buffers.{counted}
use Rattle.reader.proofs.Counting as counting
use Rattle.reader.proofs.Derived as derived
use Rattle.reader.proofs.Fitting as fitting
use Rattle.reader.proofs.Stages as stages
use Rattle.std.specs.Prelude.{Ok, Err}
use Rattle.reader.proofs.module.judge_module.Goals as goal
use Rattle.reader.proofs.module.judge_module.Goals.{After-from_residual, After-from_residual-in_err-collect_oids, After-from_residual-in_err-judge_twins, After-from_residual-in_err-judge_syntaxes, After-from_residual-in_err-judge_objects}

-- ---- what is told where a stage's rule is broken

names_told : (c : After-from_residual) → judge (all_rules (meanings_in c.args.text.now)) ≡ Err c.in_err-count.field-0.0
names_told c =
    let broken = ap judgement c.in_err-count.was in
    sym (stages.names_broken (meanings_in c.args.text.now) _ _ broken c.read_names.ensures.judged) ∙ broken

oids_told : (c : After-from_residual-in_err-collect_oids) → judge (all_rules (meanings_in c.args.text.now)) ≡ Err c.in_err-collect_oids.field-0.0
oids_told c =
    let long = c.read_names.ensures.values_long ∙ length-take-le _ _ (omega (arith, few_classes _ _ _ _ c.requires.tokens, c.blank_values-values.ensures)) in
    let vs = take_at c.read_names.new.values _ _ long ∙ c.in_ok-count.ensures.holds.0 in
    sym (stages.oids_broken (meanings_in c.args.text.now) (sym c.in_ok-count.ensures.judged) _ _ c.in_err-collect_oids.was (derived.oids_judged _ _ _ _ c.requires.tokens _ _ vs c.in_ok-count.ensures.holds.2 _ _ _ _ c.collect_oids.ensures)) ∙ c.in_err-collect_oids.was

twins_told : (c : After-from_residual-in_err-judge_twins) → judge (all_rules (meanings_in c.args.text.now)) ≡ Err c.in_err-judge_twins.field-0.0
twins_told c =
    let long = c.read_names.ensures.values_long ∙ length-take-le _ _ (omega (arith, few_classes _ _ _ _ c.requires.tokens, c.blank_values-values.ensures)) in
    let vs = take_at c.read_names.new.values _ _ long ∙ c.in_ok-count.ensures.holds.0 in
    sym (stages.twins_broken (meanings_in c.args.text.now) (sym c.in_ok-count.ensures.judged) (sym (derived.oids_judged _ _ _ _ c.requires.tokens _ _ vs c.in_ok-count.ensures.holds.2 _ _ _ _ c.collect_oids.ensures) ∙ c.in_ok-collect_oids.was) _ _ c.in_err-judge_twins.was (derived.twins_judged _ _ _ _ c.requires.tokens _ _ vs c.in_ok-count.ensures.holds.2 _ _ _ _ c.collect_oids.ensures c.in_ok-collect_oids.was _ c.numbers_used-used.ensures _ c.judge_twins.ensures)) ∙ c.in_err-judge_twins.was

syntaxes_told : (c : After-from_residual-in_err-judge_syntaxes) → judge (all_rules (meanings_in c.args.text.now)) ≡ Err c.in_err-judge_syntaxes.field-0.0
syntaxes_told c =
    let long = c.read_names.ensures.values_long ∙ length-take-le _ _ (omega (arith, few_classes _ _ _ _ c.requires.tokens, c.blank_values-values.ensures)) in
    let vs = take_at c.read_names.new.values _ _ long ∙ c.in_ok-count.ensures.holds.0 in
    sym (stages.syntax_broken (meanings_in c.args.text.now) (sym c.in_ok-count.ensures.judged) (sym (derived.oids_judged _ _ _ _ c.requires.tokens _ _ vs c.in_ok-count.ensures.holds.2 _ _ _ _ c.collect_oids.ensures) ∙ c.in_ok-collect_oids.was) (sym (derived.twins_judged _ _ _ _ c.requires.tokens _ _ vs c.in_ok-count.ensures.holds.2 _ _ _ _ c.collect_oids.ensures c.in_ok-collect_oids.was _ c.numbers_used-used.ensures _ c.judge_twins.ensures) ∙ c.in_ok-judge_twins.was) _ _ c.in_err-judge_syntaxes.was (derived.syntaxes_judged _ _ _ _ c.requires.tokens _ _ vs c.in_ok-count.ensures.holds.2 _ _ _ _ c.collect_oids.ensures c.in_ok-collect_oids.was _ c.numbers_used-used.ensures _ _ c.judge_syntaxes.ensures)) ∙ c.in_err-judge_syntaxes.was

objects_told : (c : After-from_residual-in_err-judge_objects) → judge (all_rules (meanings_in c.args.text.now)) ≡ Err c.in_err-judge_objects.field-0.0
objects_told c =
    let long = c.read_names.ensures.values_long ∙ length-take-le _ _ (omega (arith, few_classes _ _ _ _ c.requires.tokens, c.blank_values-values.ensures)) in
    let vs = take_at c.read_names.new.values _ _ long ∙ c.in_ok-count.ensures.holds.0 in
    sym (stages.objects_judged (meanings_in c.args.text.now) (sym c.in_ok-count.ensures.judged) (sym (derived.oids_judged _ _ _ _ c.requires.tokens _ _ vs c.in_ok-count.ensures.holds.2 _ _ _ _ c.collect_oids.ensures) ∙ c.in_ok-collect_oids.was) (sym (derived.twins_judged _ _ _ _ c.requires.tokens _ _ vs c.in_ok-count.ensures.holds.2 _ _ _ _ c.collect_oids.ensures c.in_ok-collect_oids.was _ c.numbers_used-used.ensures _ c.judge_twins.ensures) ∙ c.in_ok-judge_twins.was) (sym (derived.syntaxes_judged _ _ _ _ c.requires.tokens _ _ vs c.in_ok-count.ensures.holds.2 _ _ _ _ c.collect_oids.ensures c.in_ok-collect_oids.was _ c.numbers_used-used.ensures _ _ c.judge_syntaxes.ensures) ∙ c.in_ok-judge_syntaxes.was) _ (derived.objects_found _ _ _ _ c.requires.tokens _ _ vs c.in_ok-count.ensures.holds.2 _ _ _ _ c.collect_oids.ensures c.in_ok-collect_oids.was _ c.numbers_used-used.ensures _ _ c.judge_syntaxes.ensures _ _ c.judge_objects.ensures)) ∙ c.in_err-judge_objects.was

pub returns-in_err-count-clause-told : goal.returns-in_err-count-clause-told
returns-in_err-count-clause-told c =
    let same : c.from_residual.result ≡ Err c.in_err-count.field-0.0 = search rules in
    same ∙ sym (ap (counted (meanings_in c.args.text.now)) (names_told c))

pub returns-in_err-count-clause-laid : goal.returns-in_err-count-clause-laid
returns-in_err-count-clause-laid c = derived.laid_broken (cut c.args.text.now).tokens _ _ (names_told c) _ _ _ refl

-- ---- the definitions, at most 512

pub overflow_mul-words : goal.overflow_mul-words
overflow_mul-words c =
    let h = c.in_ok-count.ensures.holds in
    omega (arith, table_counted (take (c.in_ok-count.count * 22) c.read_names.new.definitions), length-take (c.in_ok-count.count * 22) c.read_names.new.definitions, ap length h.2, h.1, c.read_names.ensures.definitions_long, c.blank_table-table.ensures)

pub slice_bounds-table-end : goal.slice_bounds-table-end
slice_bounds-table-end c =
    let h = c.in_ok-count.ensures.holds in
    omega (arith, table_counted (take (c.in_ok-count.count * 22) c.read_names.new.definitions), length-take (c.in_ok-count.count * 22) c.read_names.new.definitions, ap length h.2, h.1, c.read_names.ensures.definitions_long, c.blank_table-table.ensures)

pub slice_bounds-definitions-end : goal.slice_bounds-definitions-end
slice_bounds-definitions-end c =
    let h = c.in_ok-count.ensures.holds in
    sym (length-take-le _ _ (omega (arith, table_counted (take (c.in_ok-count.count * 22) c.read_names.new.definitions), length-take (c.in_ok-count.count * 22) c.read_names.new.definitions, ap length h.2, h.1, c.read_names.ensures.definitions_long, c.blank_table-table.ensures)))

pub returns-in_err-collect_oids-clause-told : goal.returns-in_err-collect_oids-clause-told
returns-in_err-collect_oids-clause-told c =
    let same : c.from_residual-in_err-collect_oids.result ≡ Err c.in_err-collect_oids.field-0.0 = search rules in
    same ∙ sym (ap (counted (meanings_in c.args.text.now)) (oids_told c))

pub returns-in_err-collect_oids-clause-laid : goal.returns-in_err-collect_oids-clause-laid
returns-in_err-collect_oids-clause-laid c = derived.laid_broken (cut c.args.text.now).tokens _ _ (oids_told c) _ _ _ c.collect_oids.ensures.numbers_long

pub numbers_used-used-requires : goal.numbers_used-used-requires
numbers_used-used-requires c =
    let long = c.read_names.ensures.values_long ∙ length-take-le _ _ (omega (arith, few_classes _ _ _ _ c.requires.tokens, c.blank_values-values.ensures)) in
    let vs = take_at c.read_names.new.values _ _ long ∙ c.in_ok-count.ensures.holds.0 in
    derived.numbers_few _ _ _ _ c.requires.tokens _ _ vs c.in_ok-count.ensures.holds.2 _ _ _ _ c.collect_oids.ensures c.in_ok-collect_oids.was

pub slice_bounds-numbers-end : goal.slice_bounds-numbers-end
slice_bounds-numbers-end c =
    let long = c.read_names.ensures.values_long ∙ length-take-le _ _ (omega (arith, few_classes _ _ _ _ c.requires.tokens, c.blank_values-values.ensures)) in
    let vs = take_at c.read_names.new.values _ _ long ∙ c.in_ok-count.ensures.holds.0 in
    omega (arith, c.numbers_used-used.ensures, derived.numbers_few _ _ _ _ c.requires.tokens _ _ vs c.in_ok-count.ensures.holds.2 _ _ _ _ c.collect_oids.ensures c.in_ok-collect_oids.was, c.collect_oids.ensures.numbers_long, c.requires.numbers)

pub slice_bounds-numbers-end-2 : goal.slice_bounds-numbers-end-2
slice_bounds-numbers-end-2 c =
    let long = c.read_names.ensures.values_long ∙ length-take-le _ _ (omega (arith, few_classes _ _ _ _ c.requires.tokens, c.blank_values-values.ensures)) in
    let vs = take_at c.read_names.new.values _ _ long ∙ c.in_ok-count.ensures.holds.0 in
    sym (length-take-le _ _ (omega (arith, c.numbers_used-used.ensures, derived.numbers_few _ _ _ _ c.requires.tokens _ _ vs c.in_ok-count.ensures.holds.2 _ _ _ _ c.collect_oids.ensures c.in_ok-collect_oids.was, c.collect_oids.ensures.numbers_long, c.requires.numbers)))

pub returns-in_err-judge_twins-clause-told : goal.returns-in_err-judge_twins-clause-told
returns-in_err-judge_twins-clause-told c =
    let same : c.from_residual-in_err-judge_twins.result ≡ Err c.in_err-judge_twins.field-0.0 = search rules in
    same ∙ sym (ap (counted (meanings_in c.args.text.now)) (twins_told c))

pub returns-in_err-judge_twins-clause-laid : goal.returns-in_err-judge_twins-clause-laid
returns-in_err-judge_twins-clause-laid c = derived.laid_broken (cut c.args.text.now).tokens _ _ (twins_told c) _ _ _ c.collect_oids.ensures.numbers_long

pub returns-in_err-judge_syntaxes-clause-told : goal.returns-in_err-judge_syntaxes-clause-told
returns-in_err-judge_syntaxes-clause-told c =
    let same : c.from_residual-in_err-judge_syntaxes.result ≡ Err c.in_err-judge_syntaxes.field-0.0 = search rules in
    same ∙ sym (ap (counted (meanings_in c.args.text.now)) (syntaxes_told c))

pub returns-in_err-judge_syntaxes-clause-laid : goal.returns-in_err-judge_syntaxes-clause-laid
returns-in_err-judge_syntaxes-clause-laid c = derived.laid_broken (cut c.args.text.now).tokens _ _ (syntaxes_told c) _ _ _ c.collect_oids.ensures.numbers_long

pub judge_objects-requires-clause-few : goal.judge_objects-requires-clause-few
judge_objects-requires-clause-few c =
    let long = c.read_names.ensures.values_long ∙ length-take-le _ _ (omega (arith, few_classes _ _ _ _ c.requires.tokens, c.blank_values-values.ensures)) in
    let vs = take_at c.read_names.new.values _ _ long ∙ c.in_ok-count.ensures.holds.0 in
    let h = c.in_ok-count.ensures.holds in
    omega (
      arith,
      ap length (derived.classes_held _ _ _ _ c.requires.tokens _ _ vs c.in_ok-count.ensures.holds.2 _ _ _ _ c.collect_oids.ensures c.in_ok-collect_oids.was _ c.numbers_used-used.ensures _ _ c.judge_syntaxes.ensures),
      counting.classed_counted (meanings_in c.args.text.now),
      h.1,
      table_counted (take (c.in_ok-count.count * 22) c.read_names.new.definitions),
      length-take (c.in_ok-count.count * 22) c.read_names.new.definitions,
      ap length h.2,
      c.read_names.ensures.definitions_long,
      c.blank_table-table.ensures,
    )

pub judge_objects-requires-clause-two : goal.judge_objects-requires-clause-two
judge_objects-requires-clause-two c =
    let long = c.read_names.ensures.values_long ∙ length-take-le _ _ (omega (arith, few_classes _ _ _ _ c.requires.tokens, c.blank_values-values.ensures)) in
    let vs = take_at c.read_names.new.values _ _ long ∙ c.in_ok-count.ensures.holds.0 in
    derived.two_related _ _ _ _ c.requires.tokens _ _ vs c.in_ok-count.ensures.holds.2 _ _ _ _ c.collect_oids.ensures c.in_ok-collect_oids.was _ c.numbers_used-used.ensures _ _ c.judge_syntaxes.ensures c.requires.grammar

pub returns-in_err-judge_objects-clause-told : goal.returns-in_err-judge_objects-clause-told
returns-in_err-judge_objects-clause-told c =
    let same : c.from_residual-in_err-judge_objects.result ≡ Err c.in_err-judge_objects.field-0.0 = search rules in
    same ∙ sym (ap (counted (meanings_in c.args.text.now)) (objects_told c))

pub returns-in_err-judge_objects-clause-laid : goal.returns-in_err-judge_objects-clause-laid
returns-in_err-judge_objects-clause-laid c = derived.laid_broken (cut c.args.text.now).tokens _ _ (objects_told c) _ _ _ c.collect_oids.ensures.numbers_long

-- ---- what is left

pub write_records-requires-clause-room : goal.write_records-requires-clause-room
write_records-requires-clause-room c =
    let long = c.read_names.ensures.values_long ∙ length-take-le _ _ (omega (arith, few_classes _ _ _ _ c.requires.tokens, c.blank_values-values.ensures)) in
    let vs = take_at c.read_names.new.values _ _ long ∙ c.in_ok-count.ensures.holds.0 in
    let h = c.in_ok-count.ensures.holds in
    omega (
      arith,
      ap length (derived.module_held _ _ _ _ c.requires.tokens _ _ vs c.in_ok-count.ensures.holds.2 _ _ _ _ c.collect_oids.ensures c.in_ok-collect_oids.was _ c.numbers_used-used.ensures _ _ c.judge_syntaxes.ensures _ _ c.judge_objects.ensures),
      counting.module_counted (meanings_in c.args.text.now),
      h.1,
      c.requires.records,
      table_counted (take (c.in_ok-count.count * 22) c.read_names.new.definitions),
      length-take (c.in_ok-count.count * 22) c.read_names.new.definitions,
      ap length h.2,
      c.read_names.ensures.definitions_long,
      c.blank_table-table.ensures,
    )

pub write_records-requires-clause-fits : goal.write_records-requires-clause-fits
write_records-requires-clause-fits c =
    let long = c.read_names.ensures.values_long ∙ length-take-le _ _ (omega (arith, few_classes _ _ _ _ c.requires.tokens, c.blank_values-values.ensures)) in
    let vs = take_at c.read_names.new.values _ _ long ∙ c.in_ok-count.ensures.holds.0 in
    subst AllFit (sym (derived.module_held _ _ _ _ c.requires.tokens _ _ vs c.in_ok-count.ensures.holds.2 _ _ _ _ c.collect_oids.ensures c.in_ok-collect_oids.was _ c.numbers_used-used.ensures _ _ c.judge_syntaxes.ensures _ _ c.judge_objects.ensures))
    (fitting.all_fit (meanings_in c.args.text.now) (λ i. subst (λ (cs : List ℕ). get_or cs i 0 < 256) (classes_are _ _ _ _ c.requires.tokens) (omega (arith, c.type_inv.classes i)))
    (omega (arith, derived.numbers_few _ _ _ _ c.requires.tokens _ _ vs c.in_ok-count.ensures.holds.2 _ _ _ _ c.collect_oids.ensures c.in_ok-collect_oids.was, derived.numbers_long _ _ _ _ c.requires.tokens _ _ vs c.in_ok-count.ensures.holds.2 _ _ _ _ c.collect_oids.ensures c.in_ok-collect_oids.was)))

pub returns-clause-told : goal.returns-clause-told
returns-clause-told c =
    let long = c.read_names.ensures.values_long ∙ length-take-le _ _ (omega (arith, few_classes _ _ _ _ c.requires.tokens, c.blank_values-values.ensures)) in
    let vs = take_at c.read_names.new.values _ _ long ∙ c.in_ok-count.ensures.holds.0 in
    let all = sym (stages.objects_judged (meanings_in c.args.text.now) (sym c.in_ok-count.ensures.judged) (sym (derived.oids_judged _ _ _ _ c.requires.tokens _ _ vs c.in_ok-count.ensures.holds.2 _ _ _ _ c.collect_oids.ensures) ∙ c.in_ok-collect_oids.was) (sym (derived.twins_judged _ _ _ _ c.requires.tokens _ _ vs c.in_ok-count.ensures.holds.2 _ _ _ _ c.collect_oids.ensures c.in_ok-collect_oids.was _ c.numbers_used-used.ensures _ c.judge_twins.ensures) ∙ c.in_ok-judge_twins.was) (sym (derived.syntaxes_judged _ _ _ _ c.requires.tokens _ _ vs c.in_ok-count.ensures.holds.2 _ _ _ _ c.collect_oids.ensures c.in_ok-collect_oids.was _ c.numbers_used-used.ensures _ _ c.judge_syntaxes.ensures) ∙ c.in_ok-judge_syntaxes.was) _ (derived.objects_found _ _ _ _ c.requires.tokens _ _ vs c.in_ok-count.ensures.holds.2 _ _ _ _ c.collect_oids.ensures c.in_ok-collect_oids.was _ c.numbers_used-used.ensures _ _ c.judge_syntaxes.ensures _ _ c.judge_objects.ensures)) ∙ c.in_ok-judge_objects.was in
    ap Ok (c.in_ok-count.ensures.holds.1 ∙ sym (counting.module_counted (meanings_in c.args.text.now))) ∙ sym (ap (counted (meanings_in c.args.text.now)) all)

pub returns-clause-laid : goal.returns-clause-laid
unfolding with_oids
returns-clause-laid c =
    let long = c.read_names.ensures.values_long ∙ length-take-le _ _ (omega (arith, few_classes _ _ _ _ c.requires.tokens, c.blank_values-values.ensures)) in
    let vs = take_at c.read_names.new.values _ _ long ∙ c.in_ok-count.ensures.holds.0 in
    let all = sym (stages.objects_judged (meanings_in c.args.text.now) (sym c.in_ok-count.ensures.judged) (sym (derived.oids_judged _ _ _ _ c.requires.tokens _ _ vs c.in_ok-count.ensures.holds.2 _ _ _ _ c.collect_oids.ensures) ∙ c.in_ok-collect_oids.was) (sym (derived.twins_judged _ _ _ _ c.requires.tokens _ _ vs c.in_ok-count.ensures.holds.2 _ _ _ _ c.collect_oids.ensures c.in_ok-collect_oids.was _ c.numbers_used-used.ensures _ c.judge_twins.ensures) ∙ c.in_ok-judge_twins.was) (sym (derived.syntaxes_judged _ _ _ _ c.requires.tokens _ _ vs c.in_ok-count.ensures.holds.2 _ _ _ _ c.collect_oids.ensures c.in_ok-collect_oids.was _ c.numbers_used-used.ensures _ _ c.judge_syntaxes.ensures) ∙ c.in_ok-judge_syntaxes.was) _ (derived.objects_found _ _ _ _ c.requires.tokens _ _ vs c.in_ok-count.ensures.holds.2 _ _ _ _ c.collect_oids.ensures c.in_ok-collect_oids.was _ c.numbers_used-used.ensures _ _ c.judge_syntaxes.ensures _ _ c.judge_objects.ensures)) ∙ c.in_ok-judge_objects.was in
    let module_held = derived.module_held _ _ _ _ c.requires.tokens _ _ vs c.in_ok-count.ensures.holds.2 _ _ _ _ c.collect_oids.ensures c.in_ok-collect_oids.was _ c.numbers_used-used.ensures _ _ c.judge_syntaxes.ensures _ _ c.judge_objects.ensures in
    derived.laid_kept (cut c.args.text.now).tokens _ all _ _ _ _
    (c.write_records.ensures.held ∙ (λ i. overlaid (records_before (c.requires.tokens.starts_held i) (c.requires.tokens.ends_held i) (module_held i) (length (module_held i))) c.args.records.now))
    (derived.numbers_held _ _ _ _ c.requires.tokens _ _ vs c.in_ok-count.ensures.holds.2 _ _ _ _ c.collect_oids.ensures c.in_ok-collect_oids.was)
