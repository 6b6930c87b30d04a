-- The words of SMI for a definition, read off its fields: what it is, what it has, and what stands for its access. The numbers are
-- those of "Records" in document 01.
-- Assumes nothing.
use Rattle.std.specs.Prelude.{Bool, cond, ◌&&◌, ◌||◌, List, ℕ, ◌-◌, ltb, eqb}
use Rattle.definition.specs.Landmark.{object, notification}
use Rattle.definition.specs.declared.Span.{Span}
use Rattle.module_table.specs.Definition.{absent, entry}
use Rattle.module_table.specs.Lead.{lead_at, definition_number}
use Rattle.module_table.specs.declared.Definition.{Definition}

-- the classes that the rules on tables and on access name

abbrev pub counter32 : ℕ
counter32 = 7

abbrev pub counter64 : ℕ
counter64 = 12

abbrev pub table : ℕ
table = 13

abbrev pub row : ℕ
row = 14

-- the numbers of access words

abbrev pub not_accessible : ℕ
not_accessible = 1

abbrev pub accessible_for_notify : ℕ
accessible_for_notify = 2

abbrev pub read_only : ℕ
read_only = 3

abbrev pub read_write : ℕ
read_write = 4

abbrev pub read_create : ℕ
read_create = 5

-- a definition is an object
abbrev pub is_object : Definition → Bool
is_object d = eqb d.kind object

-- it is a notification
abbrev pub is_notification : Definition → Bool
is_notification d = eqb d.kind notification

-- it is a table: an object of class 13
abbrev pub is_table : Definition → Bool
is_table d = is_object d && eqb d.class table

-- it is a row: an object of class 14
abbrev pub is_row : Definition → Bool
is_row d = is_object d && eqb d.class row

-- a list stands in a definition: it has a token at least
abbrev pub is_given : Span → Bool
is_given s = ltb s.from s.to

-- a definition has INDEX or AUGMENTS
abbrev pub is_indexed : Definition → Bool
is_indexed d = is_given d.index || is_given d.augments

-- the definition of a number, counted from 1; for 0, and past the last, what stands for none
abbrev pub numbered : List Definition → ℕ → Definition
numbered ds number = cond (eqb number 0) absent (entry ds (number - 1))

-- the number, counted from 1, of the definition that the name at token i leads to; 0 where it leads to none
abbrev pub number_at : List ℕ → ℕ → ℕ
number_at values i = definition_number (lead_at values i)
