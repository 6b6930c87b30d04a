-- The two tables of the code hold what they are to hold: antt computes their tests.
-- Assumes nothing.
use mathlib.Core.Path.{refl}
use Rattle.lexicon.specs.Byte.{ClassTable, class_of, class_in, rows}
use Rattle.lexicon.specs.Word.{LookupTable, words, word_table, word, bytes, same}
use Rattle.lexicon.specs.declared.byte.TheConstants.{CLASSES}
use Rattle.lexicon.specs.declared.table.TheConstants.{LOOKUP}
use Rattle.lexicon.proofs.Bytes.{right, class_table}
use Rattle.lexicon.proofs.Words.{some_class, own_slot, own_size, own_spelling, lookup_table}

pub classes : ClassTable CLASSES
unfolding right class_of class_in rows
classes = class_table CLASSES refl tt

pub lookup : LookupTable LOOKUP
unfolding some_class own_slot own_size own_spelling words word_table word bytes same
lookup = lookup_table LOOKUP refl tt tt tt tt
