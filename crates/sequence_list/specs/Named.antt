-- The objects that a SEQUENCE type names. A token of its list names an object where its value leads to one. Each name of the list leads to
-- an object, by 41 and 42, and the types there lead to none; names differ exactly where the objects do, by refusal 9.
-- Assumes nothing.
use Rattle.std.specs.Prelude.{Bool, cond, not, ◌&&◌, List, ℕ, suc, ltb, eqb}
use Rattle.index.specs.First.{first, any}
use Rattle.definition.specs.declared.Span.{Span}
use Rattle.module_table.specs.Module.{most_definitions}
use Rattle.module_table.specs.declared.Definition.{Definition}
use Rattle.object_tree.specs.Words.{is_object, numbered, number_at}

-- the SEQUENCE type of a table or a row by its number, counted from 1; 0 for none, and for a number that no definition can have
abbrev pub type_of : Definition → ℕ
type_of d = cond (ltb d.sequence (suc most_definitions)) d.sequence 0

-- the list of the SEQUENCE type of a number
abbrev pub columns_of : List Definition → ℕ → Span
columns_of ds type = (numbered ds type).columns

-- the object that token i names, by its number; 0 where it names none
unfoldable pub named_at : List Definition → List ℕ → ℕ → ℕ
named_at ds values i = cond (is_object (numbered ds (number_at values i))) (number_at values i) 0

-- token i names an object
abbrev pub names_object : List Definition → List ℕ → ℕ → Bool
names_object ds values i = not (eqb (named_at ds values i) 0)

-- token i names the object of this number
abbrev pub names : List Definition → List ℕ → ℕ → ℕ → Bool
names ds values number i = eqb (named_at ds values i) number

-- the SEQUENCE type of this number names the object of that number
unfoldable pub lists : List Definition → List ℕ → ℕ → ℕ → Bool
lists ds values type number = any (names ds values number) (columns_of ds type).from (columns_of ds type).to

-- token i names an object that a token before it names too, from `from` on
unfoldable pub is_repeated : List Definition → List ℕ → ℕ → ℕ → Bool
is_repeated ds values from i =
    names_object ds values i && any (names ds values (named_at ds values i)) from i

-- the SEQUENCE type names an object twice
unfoldable pub repeats : List Definition → List ℕ → ℕ → Bool
repeats ds values type =
    any (is_repeated ds values (columns_of ds type).from) (columns_of ds type).from (columns_of ds type).to

-- the first token of its list that names such an object; the end of the list where none does
abbrev pub first_repeated : List Definition → List ℕ → ℕ → ℕ
first_repeated ds values type =
    first (is_repeated ds values (columns_of ds type).from) (columns_of ds type).from (columns_of ds type).to

-- token i names an object that has another parent than the definition of this number
unfoldable pub is_stranger : List Definition → List ℕ → ℕ → ℕ → Bool
is_stranger ds values parent i =
    names_object ds values i && not (eqb (numbered ds (named_at ds values i)).parent parent)

-- the SEQUENCE type names one
unfoldable pub names_stranger : List Definition → List ℕ → ℕ → ℕ → Bool
names_stranger ds values type parent = any (is_stranger ds values parent) (columns_of ds type).from (columns_of ds type).to

-- the first token of its list that names one; the end of the list where none does
abbrev pub first_stranger : List Definition → List ℕ → ℕ → ℕ → ℕ
first_stranger ds values type parent = first (is_stranger ds values parent) (columns_of ds type).from (columns_of ds type).to
