-- Where definitions stand. Capital words are landmarks: within one definition each stands in one place of the grammar, so that the
-- classes of the tokens show what a derivation says; that they do is proved in crates/module_tree. All is said of `cs`, the classes of a module's tokens in order.
-- Assumes nothing.
use Rattle.std.specs.Prelude.{Bool, ◌&&◌, ◌||◌, List, ℕ, ◌+◌, ◌-◌, leb, eqb, length, get_or}
use Rattle.index.specs.Choice.{when◌then◌else◌}
use Rattle.index.specs.First.{first, hits}
use Rattle.terminal.specs.Terminal.{lower, Upper, current, read_create, assign, MODULE-IDENTITY, NOTIFICATION-TYPE, OBJECT, IDENTIFIER, OBJECT-IDENTITY, OBJECT-TYPE, TEXTUAL-CONVENTION, END}

-- the class of token i; past the last token 0, which is the class of a number and no landmark's
abbrev pub class_at : List ℕ → ℕ → ℕ
class_at cs i = get_or cs i 0

-- a *lower*: each status word and each access word is one too
abbrev pub is_lower : ℕ → Bool
is_lower class = eqb class lower || (leb current class && leb class read_create)

-- a macro whose name stands after a definition's name
unfoldable pub is_defining : ℕ → Bool
is_defining class =
    eqb class MODULE-IDENTITY || eqb class OBJECT-IDENTITY || eqb class OBJECT-TYPE || eqb class NOTIFICATION-TYPE

-- a macro word: one of the five macros
unfoldable pub is_macro : ℕ → Bool
is_macro class = is_defining class || eqb class TEXTUAL-CONVENTION

-- token i stands directly before OBJECT IDENTIFIER `::=`
unfoldable pub before_object_identifier : List ℕ → ℕ → Bool
before_object_identifier cs i =
    eqb (class_at cs (i + 1)) OBJECT && eqb (class_at cs (i + 2)) IDENTIFIER && eqb (class_at cs (i + 3)) assign

-- a definition starts at token i, which is its name: a *lower* directly before a macro's name or before OBJECT IDENTIFIER `::=`,
-- or an *Upper* directly before `::=`
unfoldable pub begins : List ℕ → ℕ → Bool
begins cs i =
    (is_lower (class_at cs i) && (is_defining (class_at cs (i + 1)) || before_object_identifier cs i))
    || (eqb (class_at cs i) Upper && eqb (class_at cs (i + 1)) assign)

-- the last token: no definition starts there
abbrev pub last_token : List ℕ → ℕ
last_token cs = length cs - 1

-- the definitions in text order, each by the index of its name
unfoldable pub definitions : List ℕ → List ℕ
definitions cs = hits (begins cs) 0 (last_token cs)

-- a definition that started before token i ends there: the token is END, or the next definition starts
unfoldable pub closes : List ℕ → ℕ → Bool
closes cs i = eqb (class_at cs i) END || begins cs i

-- a definition ends at END or where the next one starts, whichever comes first; at the last token where neither comes
unfoldable pub definition_end : List ℕ → ℕ → ℕ
definition_end cs d = first (closes cs) (d + 1) (last_token cs)

-- The kinds of definitions, from "Records".

abbrev pub identity : ℕ
identity = 1

abbrev pub plain : ℕ
plain = 2

abbrev pub object_identity : ℕ
object_identity = 3

abbrev pub object : ℕ
object = 4

abbrev pub convention : ℕ
convention = 5

abbrev pub sequence_type : ℕ
sequence_type = 6

abbrev pub notification : ℕ
notification = 7

-- the kind of the definition whose name is token d, by the words after the name
unfoldable pub kind_at : List ℕ → ℕ → ℕ
kind_at cs d =
    when eqb (class_at cs (d + 1)) MODULE-IDENTITY then identity
    else when eqb (class_at cs (d + 1)) OBJECT then plain
    else when eqb (class_at cs (d + 1)) OBJECT-IDENTITY then object_identity
    else when eqb (class_at cs (d + 1)) OBJECT-TYPE then object
    else when eqb (class_at cs (d + 1)) NOTIFICATION-TYPE then notification
    else when eqb (class_at cs (d + 2)) TEXTUAL-CONVENTION then convention
    else sequence_type

-- a definition of this kind has an OID
unfoldable pub has_oid : ℕ → Bool
has_oid kind = leb kind object || eqb kind notification
