-- The whole case, stage by stage, computed from the definitions.
-- Assumes nothing.
use mathlib.Core.Path.{◌≡◌, refl}
use mathlib.Core.List.{◌++◌, map}
use Rattle.token.specs.Token.{tok, meaning, spelling_of, value_of, meanings, class_of_token}
use Rattle.grammar.specs.Answer.{derived}
use Rattle.grammar.specs.Automaton.{run, run_from}
use Rattle.grammar.specs.Table.{module_automaton}
use Rattle.reader.specs.Reading.{accepted, judged}
use Rattle.statements.specs.Card.{record_of_t, record_of_a, card_numbers}
use Rattle.statements.proofs.CardTokens.{card_tokens}
use Rattle.rule.specs.Rule as rule-Rule
use Rattle.index.specs.First as index-First
use Rattle.index.specs.Walk as index-Walk
use Rattle.symbol.specs.Symbol as symbol-Symbol
use Rattle.definition.specs.Fields as definition-Fields
use Rattle.definition.specs.Landmark as definition-Landmark
use Rattle.definition.specs.Members as definition-Members
use Rattle.module_table.specs.Definition as module-table-Definition
use Rattle.module_table.specs.Lead as module-table-Lead
use Rattle.outline.specs.Outline as outline-Outline
use Rattle.scope.specs.Import as scope-Import
use Rattle.scope.specs.Lead as scope-Lead
use Rattle.name_kind.specs.Need as name-kind-Need
use Rattle.name_kind.specs.Serve as name-kind-Serve
use Rattle.naming.specs.Rules as naming-Rules
use Rattle.naming.specs.Values as naming-Values
use Rattle.oid_number.specs.Number as oid-number-Number
use Rattle.oid_head.specs.Oid as oid-head-Oid
use Rattle.oid_head.specs.Unreached as oid-head-Unreached
use Rattle.oid_tree.specs.Refusal as oid-tree-Refusal
use Rattle.oid_tree.specs.Stage as oid-tree-Stage
use Rattle.oid_run.specs.Run as oid-run-Run
use Rattle.oid_holder.specs.Holder as oid-holder-Holder
use Rattle.type_class.specs.Class as type-class-Class
use Rattle.type_class.specs.Stage as type-class-Stage
use Rattle.sub_type.specs.Range as sub-type-Range
use Rattle.sub_type.specs.Refusal as sub-type-Refusal
use Rattle.range_list.specs.Misplaced as range-list-Misplaced
use Rattle.range_list.specs.Refusal as range-list-Refusal
use Rattle.enumeration.specs.Item as enumeration-Item
use Rattle.enumeration.specs.Refusal as enumeration-Refusal
use Rattle.syntax_check.specs.Refusal as syntax-check-Refusal
use Rattle.object_tree.specs.Tree as object-tree-Tree
use Rattle.sequence_list.specs.Named as sequence-list-Named
use Rattle.clause_table.specs.Clause as clause-table-Clause
use Rattle.table_check.specs.Refusal as table-check-Refusal
use Rattle.access_check.specs.Access as access-check-Access
use Rattle.access_check.specs.Found as access-check-Found
use Rattle.access_check.specs.Notification as access-check-Notification
use Rattle.records.specs.Record as records-Record
use Rattle.reader.specs.Reading as reader-Reading
use Rattle.lexicon.specs.Word as lexicon-Word
use Rattle.chain.specs.Chain as chain-Chain
use Rattle.chain.specs.Key as chain-Key
use Rattle.piece.specs.Decimal as piece-Decimal
use Rattle.piece.specs.Piece as piece-Piece
use Rattle.std.specs.Prelude.{Ok}

pub card_verdict : run module_automaton (map class_of_token card_tokens) ≡ derived
unfolding card_tokens tok meaning spelling_of value_of run_from module_automaton
card_verdict = refl

pub card_kept : rule-Rule.judge (reader-Reading.rules (meanings card_tokens)) ≡ Ok tt
unfolding card_tokens tok meaning spelling_of value_of
    rule-Rule.judge_one rule-Rule.judge rule-Rule.each_of rule-Rule.each index-First.first_of index-First.first index-First.any index-First.all
    index-First.hits_of index-First.hits index-Walk.after symbol-Symbol.modules symbol-Symbol.iso_name symbol-Symbol.iso_oid symbol-Symbol.of_smi symbol-Symbol.of_tc
    symbol-Symbol.internet symbol-Symbol.below_internet symbol-Symbol.symbols symbol-Symbol.symbol_names symbol-Symbol.symbol_of symbol-Symbol.no_symbol symbol-Symbol.symbol symbol-Symbol.module_name
    symbol-Symbol.what_is symbol-Symbol.numbers symbol-Symbol.numbers_of symbol-Symbol.sort_of symbol-Symbol.type_class symbol-Symbol.is_smi_type symbol-Symbol.start_in definition-Fields.braced_at
    definition-Fields.word_at definition-Fields.syntax_behind definition-Fields.columns_span definition-Fields.oid_span definition-Fields.fields_of definition-Fields.fields_at definition-Fields.restriction_at definition-Fields.syntax_at
    definition-Landmark.is_defining definition-Landmark.is_macro definition-Landmark.before_object_identifier definition-Landmark.begins definition-Landmark.closes definition-Landmark.definitions definition-Landmark.definition_end definition-Landmark.kind_at
    definition-Landmark.has_oid definition-Members.oid_numbers module-table-Definition.words module-table-Definition.absent module-table-Definition.definitions_from module-table-Definition.definitions_in
    module-table-Definition.changed_from module-table-Lead.lead_in outline-Outline.outline scope-Import.imports_end scope-Import.can_be_imported scope-Import.is_symbol scope-Import.is_import scope-Import.source
    scope-Import.offered scope-Lead.introduces scope-Lead.leads_to name-kind-Need.enclosing name-kind-Need.upper_need name-kind-Need.lists_objects name-kind-Need.lower_need name-kind-Need.need_at
    name-kind-Serve.serves naming-Rules.too_many naming-Rules.introduced_again naming-Rules.not_offered naming-Rules.is_unfit naming-Rules.unfit_use naming-Values.is_use naming-Values.values_from
    oid-number-Number.number_tokens oid-number-Number.parts_in oid-head-Oid.reaches oid-head-Oid.definition_numbers oid-head-Oid.resolved_oid oid-head-Oid.numbers_before oid-head-Unreached.unreached oid-tree-Refusal.too_long
    oid-tree-Refusal.past_room oid-tree-Refusal.counts_before oid-tree-Refusal.long_by_count oid-tree-Refusal.room_by_count oid-tree-Stage.with_oid oid-tree-Stage.with_oids oid-run-Run.is_below oid-holder-Holder.held_twice
    type-class-Class.syntax_in type-class-Class.convention_class type-class-Class.object_class type-class-Class.sequence_number type-class-Stage.convention_classed type-class-Stage.object_classed sub-type-Range.starts_range sub-type-Range.exceeds
    sub-type-Range.limit_clause sub-type-Refusal.limit_rule range-list-Misplaced.is_backward range-list-Misplaced.is_below range-list-Misplaced.shares range-list-Misplaced.is_misplaced range-list-Refusal.misplaced_range enumeration-Item.item_clause enumeration-Item.label_again
    enumeration-Item.number_misfit enumeration-Refusal.item_rule syntax-check-Refusal.is_untested syntax-check-Refusal.range_test syntax-check-Refusal.items_of syntax-check-Refusal.rules_over object-tree-Tree.is_parent object-tree-Tree.parents_added
    sequence-list-Named.named_at sequence-list-Named.lists sequence-list-Named.is_repeated sequence-list-Named.repeats sequence-list-Named.is_stranger sequence-list-Named.names_stranger clause-table-Clause.is_of clause-table-Clause.is_first_under
    clause-table-Clause.rowless_table clause-table-Clause.is_row_in clause-table-Clause.stray_row clause-table-Clause.repeating_row clause-table-Clause.misnaming_row clause-table-Clause.unlisted_column clause-table-Clause.unfounded_augments table-check-Refusal.clause_of
    table-check-Refusal.type_against table-check-Refusal.row_against table-check-Refusal.table_against table-check-Refusal.other_by table-check-Refusal.table_broken access-check-Access.has_access access-check-Access.creates access-check-Access.clashes
    access-check-Access.access_clause access-check-Access.access_broken access-check-Found.own_clause access-check-Found.written_type access-check-Notification.lists_hidden access-check-Notification.notification_clause access-check-Notification.notification_broken records-Record.offset_in
    records-Record.length_in records-Record.record_of records-Record.records_before reader-Reading.oid_rules reader-Reading.object_rules reader-Reading.later_rules reader-Reading.rules lexicon-Word.bytes
    lexicon-Word.word lexicon-Word.word_table lexicon-Word.words lexicon-Word.word_classes lexicon-Word.same lexicon-Word.place_in lexicon-Word.joined lexicon-Word.name_class
    chain-Chain.last_before chain-Key.list_key piece-Decimal.decimal_after piece-Piece.span piece-Piece.name piece-Piece.misfit piece-Piece.non_negative piece-Piece.below_zero
    piece-Piece.comment piece-Piece.after_hyphen piece-Piece.quoted piece-Piece.hex_string piece-Piece.after_colon piece-Piece.after_dot piece-Piece.punctuation piece-Piece.piece
card_kept = refl

pub card_read : judged card_tokens (Ok tt) ≡ accepted 2 (record_of_t ++ record_of_a) card_numbers
unfolding card_tokens tok meaning spelling_of value_of
    rule-Rule.judge_one rule-Rule.judge rule-Rule.each_of rule-Rule.each index-First.first_of index-First.first index-First.any index-First.all
    index-First.hits_of index-First.hits index-Walk.after symbol-Symbol.modules symbol-Symbol.iso_name symbol-Symbol.iso_oid symbol-Symbol.of_smi symbol-Symbol.of_tc
    symbol-Symbol.internet symbol-Symbol.below_internet symbol-Symbol.symbols symbol-Symbol.symbol_names symbol-Symbol.symbol_of symbol-Symbol.no_symbol symbol-Symbol.symbol symbol-Symbol.module_name
    symbol-Symbol.what_is symbol-Symbol.numbers symbol-Symbol.numbers_of symbol-Symbol.sort_of symbol-Symbol.type_class symbol-Symbol.is_smi_type symbol-Symbol.start_in definition-Fields.braced_at
    definition-Fields.word_at definition-Fields.syntax_behind definition-Fields.columns_span definition-Fields.oid_span definition-Fields.fields_of definition-Fields.fields_at definition-Fields.restriction_at definition-Fields.syntax_at
    definition-Landmark.is_defining definition-Landmark.is_macro definition-Landmark.before_object_identifier definition-Landmark.begins definition-Landmark.closes definition-Landmark.definitions definition-Landmark.definition_end definition-Landmark.kind_at
    definition-Landmark.has_oid definition-Members.oid_numbers module-table-Definition.words module-table-Definition.absent module-table-Definition.definitions_from module-table-Definition.definitions_in
    module-table-Definition.changed_from module-table-Lead.lead_in outline-Outline.outline scope-Import.imports_end scope-Import.can_be_imported scope-Import.is_symbol scope-Import.is_import scope-Import.source
    scope-Import.offered scope-Lead.introduces scope-Lead.leads_to name-kind-Need.enclosing name-kind-Need.upper_need name-kind-Need.lists_objects name-kind-Need.lower_need name-kind-Need.need_at
    name-kind-Serve.serves naming-Rules.too_many naming-Rules.introduced_again naming-Rules.not_offered naming-Rules.is_unfit naming-Rules.unfit_use naming-Values.is_use naming-Values.values_from
    oid-number-Number.number_tokens oid-number-Number.parts_in oid-head-Oid.reaches oid-head-Oid.definition_numbers oid-head-Oid.resolved_oid oid-head-Oid.numbers_before oid-head-Unreached.unreached oid-tree-Refusal.too_long
    oid-tree-Refusal.past_room oid-tree-Refusal.counts_before oid-tree-Refusal.long_by_count oid-tree-Refusal.room_by_count oid-tree-Stage.with_oid oid-tree-Stage.with_oids oid-run-Run.is_below oid-holder-Holder.held_twice
    type-class-Class.syntax_in type-class-Class.convention_class type-class-Class.object_class type-class-Class.sequence_number type-class-Stage.convention_classed type-class-Stage.object_classed sub-type-Range.starts_range sub-type-Range.exceeds
    sub-type-Range.limit_clause sub-type-Refusal.limit_rule range-list-Misplaced.is_backward range-list-Misplaced.is_below range-list-Misplaced.shares range-list-Misplaced.is_misplaced range-list-Refusal.misplaced_range enumeration-Item.item_clause enumeration-Item.label_again
    enumeration-Item.number_misfit enumeration-Refusal.item_rule syntax-check-Refusal.is_untested syntax-check-Refusal.range_test syntax-check-Refusal.items_of syntax-check-Refusal.rules_over object-tree-Tree.is_parent object-tree-Tree.parents_added
    sequence-list-Named.named_at sequence-list-Named.lists sequence-list-Named.is_repeated sequence-list-Named.repeats sequence-list-Named.is_stranger sequence-list-Named.names_stranger clause-table-Clause.is_of clause-table-Clause.is_first_under
    clause-table-Clause.rowless_table clause-table-Clause.is_row_in clause-table-Clause.stray_row clause-table-Clause.repeating_row clause-table-Clause.misnaming_row clause-table-Clause.unlisted_column clause-table-Clause.unfounded_augments table-check-Refusal.clause_of
    table-check-Refusal.type_against table-check-Refusal.row_against table-check-Refusal.table_against table-check-Refusal.other_by table-check-Refusal.table_broken access-check-Access.has_access access-check-Access.creates access-check-Access.clashes
    access-check-Access.access_clause access-check-Access.access_broken access-check-Found.own_clause access-check-Found.written_type access-check-Notification.lists_hidden access-check-Notification.notification_clause access-check-Notification.notification_broken records-Record.offset_in
    records-Record.length_in records-Record.record_of records-Record.records_before reader-Reading.oid_rules reader-Reading.object_rules reader-Reading.later_rules reader-Reading.rules lexicon-Word.bytes
    lexicon-Word.word lexicon-Word.word_table lexicon-Word.words lexicon-Word.word_classes lexicon-Word.same lexicon-Word.place_in lexicon-Word.joined lexicon-Word.name_class
    chain-Chain.last_before chain-Key.list_key piece-Decimal.decimal_after piece-Piece.span piece-Piece.name piece-Piece.misfit piece-Piece.non_negative piece-Piece.below_zero
    piece-Piece.comment piece-Piece.after_hyphen piece-Piece.quoted piece-Piece.hex_string piece-Piece.after_colon piece-Piece.after_dot piece-Piece.punctuation piece-Piece.piece
card_read = refl
