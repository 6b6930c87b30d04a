-- When a rule is broken at a place: the table of "Refusals of the reader" in document 01, as the requests of document 02 that have landed
-- change it, row by row, with "Places", "Rule 20" and "Rule 21", and with no word of the order in which the reader tests. And which breach is
-- the first.
--
-- A definition is meant by its index k in text order, from 0 on, and a token by its index i. `named ms`, `numbered ms`, `classed ms` and
-- `module_of ms` are the module that the tokens make: when its names are known, with its OIDs, with its classes, and whole.
-- Assumes nothing.
use Rattle.std.specs.Prelude.{◌≡◌, ◌⊎◌, true, false, List, [], ℕ, suc, ◌+◌, ◌-◌, ◌≤◌, ◌<◌, length, get_or, ℤ}
use Rattle.std.specs.Int.Signed.{lt_z}
use Rattle.token.specs.Token.{Meaning, class_of_token}
use Rattle.token.specs.Cut.{cut, whole, refused, meanings_in}
use Rattle.token.specs.Table.{longest_text}
use Rattle.grammar.specs.Grammar.{smi_module}
use Rattle.grammar.specs.Derivation.{DerivesTokens}
use Rattle.syntax.specs.Parsing.{Fault}
use Rattle.symbol.specs.Symbol.{iso_name, symbol_count, symbol_names, module_name}
use Rattle.definition.specs.Landmark.{definitions, convention}
use Rattle.definition.specs.Members.{is_name}
use Rattle.definition.specs.declared.Span.{Span}
use Rattle.definition.specs.declared.Restriction.TheVariants.{Ranges, Sizes, Enumeration}
use Rattle.definition.specs.declared.Syntax.{Syntax}
use Rattle.definition.specs.declared.Syntax.TheVariants as syntax
use Rattle.module_table.specs.declared.Definition.{Definition}
use Rattle.module_table.specs.Module.{Module, most_definitions, at, oid_of}
use Rattle.outline.specs.Outline.{outline}
use Rattle.scope.specs.Token.{classes_of, spelled}
use Rattle.scope.specs.Import.{imports_end, is_import, source}
use Rattle.scope.specs.Lead.{introduces, leads_to}
use Rattle.name_kind.specs.Need.{need_at}
use Rattle.name_kind.specs.Serve.{serves}
use Rattle.name_kind.specs.declared.need.Need.TheVariants.{NoName}
use Rattle.naming.specs.Values.{named}
use Rattle.oid_head.specs.Oid.{has_value, name_of, Reaches, resolved_oid, first_number}
use Rattle.oid_tree.specs.Refusal.{longest_oid, most_numbers}
use Rattle.oid_holder.specs.Holder.{is_holder}
use Rattle.type_class.specs.Class.{has_syntax, syntax_in, is_named, is_smi_lead, lead_of}
use Rattle.sub_type.specs.Number as number
use Rattle.sub_type.specs.Range.{starts_range, is_pair, low, high}
use Rattle.sub_type.specs.declared.Limits.{Limits}
use Rattle.sub_type.specs.declared.Limits.TheVariants as limits
use Rattle.enumeration.specs.Item.{item_number}
use Rattle.syntax_check.specs.Refusal.{restriction_of, is_untested}
use Rattle.object_tree.specs.Words.{counter32, counter64, not_accessible, accessible_for_notify, read_only, read_write, read_create, is_object, is_notification, is_table, is_row, is_given, numbered as definition-of-number, number_at}
use Rattle.sequence_list.specs.Named.{type_of, columns_of, named_at}
use Rattle.reader.specs.Reading.{numbered, classed, module_of, start_of}
use Rattle.reader.specs.Buffers.{record_words, number_words}
use Rattle.statements.specs.Order.{rank}

-- the buffers, of so many words, are long enough, and the text is not too long
pub record WithinLimits (text : List ℕ) (records numbers : ℕ) : Type 0 where
  pub record_room : record_words ≤ records
  pub number_room : number_words ≤ numbers
  pub short_text : length text ≤ longest_text

-- the text cuts into tokens
abbrev pub Cuts : List ℕ → Type 0
Cuts text = (cut text).ending ≡ whole

-- the grammar derives its tokens
abbrev pub Derives : List ℕ → Type 0
Derives text = DerivesTokens class_of_token smi_module (cut text).tokens

-- ---- Words for the rows

-- how many definitions there are, and the token of the name of definition k
abbrev pub definition_count : List Meaning → ℕ
definition_count ms = length (definitions (classes_of ms))

abbrev pub name_token : List Meaning → ℕ → ℕ
name_token ms k = get_or (definitions (classes_of ms)) k 0

-- the module that token i is imported from offers it: one of its built-in symbols has this name
abbrev pub Offers : List Meaning → ℕ → Type 0
Offers ms i =
    (k : ℕ) × (k < symbol_count) × (get_or symbol_names k [] ≡ spelled ms i) × (module_name k ≡ spelled ms (source (classes_of ms) i))

-- a name is known: it is `iso`, or a token introduces it, as a definition's name or as an imported symbol
pub data Known (ms : List Meaning) (s : List ℕ) : Type 0 where
  iso_itself : s ≡ iso_name → Known ms s
  introduced : (j : ℕ) → j < length ms → introduces (classes_of ms) j ≡ true → spelled ms j ≡ s → Known ms s

-- the syntax of definition k
abbrev pub syntax_of : Module → ℕ → Syntax
syntax_of m k = syntax_in m.classes (at m k).syntax

-- a token stands in a span of the module's tokens
abbrev pub Within : Module → Span → ℕ → Type 0
Within m s i = (s.from ≤ i) × (i < number.end_in m.classes s)

-- definition k has ranges, or sizes, between these brackets
abbrev pub HasRanges : Module → ℕ → Span → Type 0
HasRanges m k s = (has_syntax (at m k) ≡ true) × (restriction_of (syntax_of m k) ≡ Ranges s)

abbrev pub HasSizes : Module → ℕ → Span → Type 0
HasSizes m k s = (has_syntax (at m k) ≡ true) × (restriction_of (syntax_of m k) ≡ Sizes s)

-- a number lies in the range that starts at token i: it is not below the low, nor above the high, and a single number is both
abbrev pub LiesIn : Module → ℕ → ℤ → Type 0
LiesIn m i z = (lt_z z (low m.classes m.values i) ≡ false) × (lt_z (high m.classes m.values i) z ≡ false)

-- 16, of the range that starts at token i, between these brackets, as request 2 of document 02 has it
pub data Misplaced (m : Module) (s : Span) (i : ℕ) : Type 0 where
  -- "whose pair is wrong": its low is not below its high
  wrong_pair : is_pair m.classes i ≡ true → lt_z (low m.classes m.values i) (high m.classes m.values i) ≡ false → Misplaced m s i
  -- "that shares a number with an earlier one"
  shared : (j : ℕ) (z : ℤ) → s.from ≤ j → j < i → starts_range m.classes j ≡ true → LiesIn m j z → LiesIn m i z → Misplaced m s i

-- 17, of the range that starts at token i: its low or its high is outside these limits, as each number is where the class takes none
abbrev pub Outside : Module → Limits → ℕ → Type 0
Outside m l i =
    (number.is_outside l (low m.classes m.values i) ≡ true) ⊎ (number.is_outside l (high m.classes m.values i) ≡ true)

-- 17, of definition k: a range outside the limits of its class, or a size
pub data Misfit (m : Module) (k i : ℕ) : Type 0 where
  range : (s : Span) → HasRanges m k s → Within m s i → Outside m (number.range_limits (at m k).class) i → Misfit m k i
  size : (s : Span) → HasSizes m k s → Within m s i → Outside m (number.size_limits (at m k).class) i → Misfit m k i

-- definition k has an enumeration between these braces: an INTEGER's, with the numbers of class 1, or one of BITS, with none negative
pub data HasItems (m : Module) (k : ℕ) : Limits → Span → Type 0 where
  of_integer : (s : Span) → has_syntax (at m k) ≡ true → syntax_of m k ≡ syntax.Integer (Enumeration s) → HasItems m k limits.Integer s
  of_bits : (s : Span) → has_syntax (at m k) ≡ true → syntax_of m k ≡ syntax.Bits (Enumeration s) → HasItems m k limits.Unsigned s

-- 18, of the item whose label is token i, in these braces: an earlier label is spelled so, an earlier item has its number, or its number
-- is outside the limits
pub data Misnumbered (ms : List Meaning) (m : Module) (l : Limits) (s : Span) (i : ℕ) : Type 0 where
  label_twice : (j : ℕ) → s.from ≤ j → j < i → is_name m.classes j ≡ true → spelled ms j ≡ spelled ms i → Misnumbered ms m l s i
  number_twice : (j : ℕ) → s.from ≤ j → j < i → is_name m.classes j ≡ true
      → number.same_number (item_number m.classes m.values j) (item_number m.classes m.values i) ≡ true → Misnumbered ms m l s i
  outside : number.is_outside l (item_number m.classes m.values i) ≡ true → Misnumbered ms m l s i

-- the list of a SEQUENCE type, by the type's number, counted from 1
abbrev pub list_of : Module → ℕ → Span
list_of m type = columns_of m.definitions type

-- the object that token i names, by its number, counted from 1; 0 where it names none
abbrev pub object_at : Module → ℕ → ℕ
object_at m i = named_at m.definitions m.values i

-- the parent of definition k, by its number, counted from 1, and itself: the object whose OID is its own less the last number
abbrev pub parent : Module → ℕ → ℕ
parent m k = (at m k).parent

abbrev pub above : Module → ℕ → Definition
above m k = definition-of-number m.definitions (parent m k)

-- the object that token i names, and the definition that AUGMENTS of definition k names
abbrev pub named_object : Module → ℕ → Definition
named_object m i = definition-of-number m.definitions (object_at m i)

abbrev pub augmented : Module → ℕ → Definition
augmented m k = definition-of-number m.definitions (number_at m.values (at m k).augments.from)

-- the last number of its OID
abbrev pub last_number : Module → ℕ → ℕ
last_number m k = get_or (oid_of m k) (length (oid_of m k) - 1) 0

-- definition r is a row of the SEQUENCE type of this number, and each such row is r
pub record OneRow (m : Module) (type r : ℕ) : Type 0 where
  pub inside : r < length m.definitions
  pub is_one : (is_row (at m r) ≡ true) × (type_of (at m r) ≡ type)
  pub only : (s : ℕ) → s < length m.definitions → is_row (at m s) ≡ true → type_of (at m s) ≡ type → s ≡ r

-- "Rule 20": definition k, an object, is at fault
pub data TableFault (m : Module) (k : ℕ) : Type 0 where
  -- "a table's SEQUENCE type has exactly one row, at the table's OID followed by 1 (else the table)"
  rowless : is_table (at m k) ≡ true → ((r : ℕ) → OneRow m (type_of (at m k)) r → parent m r ≡ k + 1 → last_number m r ≡ 1 → ⊥)
      → TableFault m k
  -- "each row is at the OID, followed by 1, of a table of its type (else the row)"
  stray : is_row (at m k) ≡ true
      → (is_table (above m k) ≡ true → type_of (above m k) ≡ type_of (at m k) → last_number m k ≡ 1 → ⊥) → TableFault m k
  -- "rows have INDEX or AUGMENTS"
  unindexed : is_row (at m k) ≡ true → is_given (at m k).index ≡ false → is_given (at m k).augments ≡ false → TableFault m k
  -- "other objects neither"
  indexed : is_object (at m k) ≡ true → is_row (at m k) ≡ false
      → (is_given (at m k).index ≡ true) ⊎ (is_given (at m k).augments ≡ true) → TableFault m k
  -- "a row's SEQUENCE names differ"
  repeating : (i j : ℕ) → is_row (at m k) ≡ true → (list_of m (type_of (at m k))).from ≤ i → i < j → j < (list_of m (type_of (at m k))).to
      → (object_at m j ≡ 0 → ⊥) → object_at m i ≡ object_at m j → TableFault m k
  -- "and are objects at its OID plus one number (else the row)"
  misnaming : (i : ℕ) → is_row (at m k) ≡ true → (list_of m (type_of (at m k))).from ≤ i → i < (list_of m (type_of (at m k))).to
      → (object_at m i ≡ 0 → ⊥) → ((named_object m i).parent ≡ k + 1 → ⊥) → TableFault m k
  -- "each object there is listed (else that object)"
  unlisted : is_object (at m k) ≡ true → is_row (above m k) ≡ true
      → ((i : ℕ) → (list_of m (type_of (above m k))).from ≤ i → i < (list_of m (type_of (above m k))).to → object_at m i ≡ k + 1 → ⊥)
      → TableFault m k
  -- "AUGMENTS names a row with INDEX"
  unfounded : is_object (at m k) ≡ true → is_given (at m k).augments ≡ true
      → (is_row (augmented m k) ≡ true → is_given (augmented m k).index ≡ true → ⊥) → TableFault m k

-- "Rule 21": definition k, an object, is at fault
pub data AccessFault (m : Module) (k : ℕ) : Type 0 where
  -- "no read-write column in a row that has a read-create one (at the former)"
  clashing : (i : ℕ) → is_object (at m k) ≡ true → (at m k).access ≡ read_write → is_row (above m k) ≡ true
      → (list_of m (type_of (above m k))).from ≤ i → i < (list_of m (type_of (above m k))).to
      → (named_object m i).access ≡ read_create → AccessFault m k
  -- "tables and rows are not-accessible"
  accessible : (is_table (at m k) ≡ true) ⊎ (is_row (at m k) ≡ true) → ((at m k).access ≡ not_accessible → ⊥) → AccessFault m k
  -- "read-create only in columns"
  created : is_object (at m k) ≡ true → (at m k).access ≡ read_create → is_row (above m k) ≡ false → AccessFault m k
  -- "objects of classes 7 and 12 are read-only or accessible-for-notify"
  counter : is_object (at m k) ≡ true → ((at m k).class ≡ counter32) ⊎ ((at m k).class ≡ counter64)
      → ((at m k).access ≡ read_only → ⊥) → ((at m k).access ≡ accessible_for_notify → ⊥) → AccessFault m k
  -- ", without DEFVAL"
  defaulted : is_object (at m k) ≡ true → ((at m k).class ≡ counter32) ⊎ ((at m k).class ≡ counter64) → (at m k).default ≡ 1 → AccessFault m k

-- 22, of definition k, a notification, as request 8 of document 02 has it
pub data NotificationFault (m : Module) (k : ℕ) : Type 0 where
  -- "a notification's next-to-last number isn't 0"; there is one, since each OID has two at least (`two_numbers`)
  not_zero : (get_or (oid_of m k) (length (oid_of m k) - 2) 0 ≡ 0 → ⊥) → NotificationFault m k
  -- "or it lists a not-accessible object"
  hidden : (i : ℕ) → (at m k).objects.from ≤ i → i < (at m k).objects.to → (named_object m i).access ≡ not_accessible
      → NotificationFault m k

-- ---- The rows from 8 on

-- The rule of this number is broken at this token, by what the tokens of a text that is derived say.
pub data ModuleBreach (ms : List Meaning) : ℕ → ℕ → Type 0 where
  -- 8: a 513th definition
  definition_513 : {k : ℕ} → k < definition_count ms → k ≡ most_definitions → ModuleBreach ms 8 (name_token ms k)
  -- 9: a name (in imports a macro word too) defined or imported a second time, or `iso` (the later)
  iso_introduced : {i : ℕ} → i < length ms → introduces (classes_of ms) i ≡ true → spelled ms i ≡ iso_name → ModuleBreach ms 9 i
  introduced_twice : {i : ℕ} (j : ℕ) → i < length ms → introduces (classes_of ms) i ≡ true → j < i → introduces (classes_of ms) j ≡ true
      → spelled ms j ≡ spelled ms i → ModuleBreach ms 9 i
  -- 10: symbol that the module named doesn't offer
  unoffered : {i : ℕ} → i < imports_end (classes_of ms) → is_import (classes_of ms) i ≡ true → (Offers ms i → ⊥) → ModuleBreach ms 10 i
  -- 41, where a name is needed: "the name is neither defined nor imported, nor `iso`"
  unknown : {i : ℕ} → imports_end (classes_of ms) ≤ i → i < length ms → (need_at (classes_of ms) i ≡ NoName → ⊥)
      → (Known ms (spelled ms i) → ⊥) → ModuleBreach ms 41 i
  -- 42: "it is known but of another kind" than is needed: macro, type (SEQUENCE types in objects only), OID head; an object in INDEX,
  -- AUGMENTS, OBJECTS, SEQUENCE; a SEQUENCE type after OF
  other_kind : {i : ℕ} → imports_end (classes_of ms) ≤ i → i < length ms → Known ms (spelled ms i)
      → serves (outline (classes_of ms)) (leads_to ms (spelled ms i)) (need_at (classes_of ms) i) ≡ false → ModuleBreach ms 42 i
  -- 12: definition whose heads never reach a built-in name
  unreached : {k : ℕ} → k < definition_count ms → has_value (at (named ms) k) ≡ true → (Reaches (named ms) (name_of k) → ⊥)
      → ModuleBreach ms 12 (name_token ms k)
  -- 13: OID over 128 numbers
  long_oid : {k : ℕ} → k < definition_count ms → longest_oid < length (resolved_oid (named ms) k) → ModuleBreach ms 13 (name_token ms k)
  -- 14: definition with which the OID numbers pass 8,192
  many_numbers : {k : ℕ} → k < definition_count ms → first_number (named ms) k ≤ most_numbers
      → most_numbers < first_number (named ms) (suc k)
      → ModuleBreach ms 14 (name_token ms k)
  -- 15: OID already held by an earlier definition, both of kinds 1, 3, 4, 7
  held_twice : {k : ℕ} (j : ℕ) → k < definition_count ms → j < k → is_holder (at (numbered ms) k) ≡ true
      → is_holder (at (numbered ms) j) ≡ true
      → oid_of (numbered ms) j ≡ oid_of (numbered ms) k → ModuleBreach ms 15 (name_token ms k)
  -- 16: range that shares a number with an earlier one, or whose pair is wrong
  misplaced : {i : ℕ} (k : ℕ) (s : Span) → k < definition_count ms → HasRanges (classed ms) k s ⊎ HasSizes (classed ms) k s
      → Within (classed ms) s i
      → starts_range (classed ms).classes i ≡ true → Misplaced (classed ms) s i → ModuleBreach ms 16 i
  -- 17: ranges on a class other than 1, 8, 9, sizes on one other than 3, or outside: class 1 -2147483648..2147483647, 8 and 9
  -- 0..4294967295, sizes 0..65535; not tested in a convention that breaches 19, nor in an object naming one
  misfit : {i : ℕ} (k : ℕ) → k < definition_count ms
      → is_untested (classed ms).classes (classed ms).values (classed ms).definitions (at (classed ms) k) ≡ false
      → starts_range (classed ms).classes i ≡ true → Misfit (classed ms) k i → ModuleBreach ms 17 i
  -- 18: label or number twice in an enum; an INTEGER's number outside class 1; negative in BITS
  misnumbered : {i : ℕ} (k : ℕ) (l : Limits) (s : Span) → k < definition_count ms → HasItems (classed ms) k l s → Within (classed ms) s i
      → is_name (classed ms).classes i ≡ true → Misnumbered ms (classed ms) l s i → ModuleBreach ms 18 i
  -- 19: convention whose SYNTAX name isn't one of SMI's eight types, imported
  indirect : {k : ℕ} → k < definition_count ms → (at (classed ms) k).kind ≡ convention → is_named (syntax_of (classed ms) k) ≡ true
      → is_smi_lead (lead_of (classed ms).values (syntax_of (classed ms) k)) ≡ false → ModuleBreach ms 19 (at (classed ms) k).syntax.from
  -- 20: table rules
  table_rules : {k : ℕ} → k < definition_count ms → TableFault (module_of ms) k → ModuleBreach ms 20 (name_token ms k)
  -- 21: access rules
  access_rules : {k : ℕ} → k < definition_count ms → AccessFault (module_of ms) k → ModuleBreach ms 21 (name_token ms k)
  -- 22: a notification's next-to-last number isn't 0, or it lists a not-accessible object
  notification_rules : {k : ℕ} → k < definition_count ms → is_notification (at (module_of ms) k) ≡ true → NotificationFault (module_of ms) k
      → ModuleBreach ms 22 (name_token ms k)

-- ---- All rows

-- The rule of this number is broken at this place, by a text that is lent with a record buffer and a number buffer of so many words.
pub data InBreach (text : List ℕ) (records numbers : ℕ) : ℕ → ℕ → Type 0 where
  -- 1: a lent buffer too short
  short_buffer : (records < record_words) ⊎ (numbers < number_words) → InBreach text records numbers 1 0
  -- 2: text over 65,536 bytes
  long_text : longest_text < length text → InBreach text records numbers 2 0
  -- 3 to 6, taken together: what the cut into tokens, from the left, meets first
  not_cut : {number place : ℕ} → (cut text).ending ≡ refused number place → InBreach text records numbers number place
  -- 7: the grammar derives no such token sequence; the place is the third demand's
  not_derived : {place : ℕ} → Cuts text → (Derives text → ⊥) → Fault text place → InBreach text records numbers 7 place
  -- the rows above: the place is the start of the token
  in_module : {number token : ℕ} → Cuts text → Derives text → ModuleBreach (meanings_in text) number token
      → InBreach text records numbers number (start_of (cut text).tokens token)

-- By what says where a rule is broken: that of this number is, at this place; no rule of an earlier rank is broken anywhere, and none of its
-- own rank, whichever its number, at an earlier place.
pub record First (Broken : ℕ → ℕ → Type 0) (number place : ℕ) : Type 0 where
  pub broken : Broken number place
  pub no_earlier_rank : (m q : ℕ) → rank m < rank number → Broken m q → ⊥
  pub nowhere_earlier : (m q : ℕ) → rank m ≡ rank number → q < place → Broken m q → ⊥

-- the first breach of a text that is lent so
abbrev pub FirstBreach : List ℕ → ℕ → ℕ → ℕ → ℕ → Type 0
FirstBreach text records numbers = First (InBreach text records numbers)
