-- The uses of names in a module, and the kind that each needs: refusals 41 and 42, document 01's row 11 as request 1 of
-- document 02 splits it.
-- Assumes nothing.
use Rattle.std.specs.Prelude.{Bool, ◌&&◌, ◌||◌, List, ℕ, zero, suc, ◌-◌, eqb}
use Rattle.index.specs.Choice.{when◌then◌else◌}
use Rattle.terminal.specs.Terminal.{terminals, Upper, left_brace, right_brace, assign, AUGMENTS, INDEX, OBJECT-TYPE, OBJECTS, OF, SEQUENCE, SYNTAX}
use Rattle.definition.specs.Landmark.{class_at, is_lower, is_macro}
use Rattle.name_kind.specs.declared.need.Need.{Need}
use Rattle.name_kind.specs.declared.need.Need.TheVariants.{NoName, Macro, TypeName, ObjectType, Head, Object, Sequence}

-- the class of the word directly before the braces that token i stands in, the innermost that are open; no terminal where it stands in
-- none, and behind inner braces that are closed, as they are in DEFVAL alone, where no name is looked up
unfoldable pub enclosing : List ℕ → ℕ → ℕ
enclosing cs zero = terminals
enclosing cs (suc i) =
    when eqb (class_at cs i) left_brace then class_at cs (i - 1)
    else when eqb (class_at cs i) right_brace then terminals
    else enclosing cs i

-- what an Upper at token i is used as: after OF a SEQUENCE type; after SYNTAX a type, in an object, where SYNTAX stands after
-- OBJECT-TYPE, or in a convention; after a lower the type of a column. Elsewhere it is no use: a definition's own name
unfoldable pub upper_need : List ℕ → ℕ → Need
upper_need cs i =
    when eqb (class_at cs (i - 1)) OF then Sequence
    else when eqb (class_at cs (i - 1)) SYNTAX then (when eqb (class_at cs (i - 2)) OBJECT-TYPE then ObjectType else TypeName)
    else when is_lower (class_at cs (i - 1)) then TypeName
    else NoName

-- the braces after these words hold names of objects: INDEX, AUGMENTS, OBJECTS, SEQUENCE
unfoldable pub lists_objects : ℕ → Bool
lists_objects word = eqb word INDEX || eqb word AUGMENTS || eqb word OBJECTS || eqb word SEQUENCE

-- what a lower at token i, in braces after this word, is used as: an object; or, first in the braces after `::=`, an OID's head.
-- Elsewhere it is no use: a definition's own name, a label, a value
unfoldable pub lower_need : List ℕ → ℕ → ℕ → Need
lower_need cs word i =
    when lists_objects word then Object
    else when eqb word assign && eqb (class_at cs (i - 1)) left_brace then Head
    else NoName

-- what token i is used as
unfoldable pub need_at : List ℕ → ℕ → Need
need_at cs i =
    when is_macro (class_at cs i) then Macro
    else when eqb (class_at cs i) Upper then upper_need cs i
    else when is_lower (class_at cs i) then lower_need cs (enclosing cs i) i
    else NoName
