-- What names lead to, as words: the value of a token that is used as a name.
-- Assumes nothing.
use Rattle.std.specs.Prelude.{List, ℕ, ◌+◌, ◌-◌, ◌<◌, eqb, ltb, get_or}
use Rattle.index.specs.Choice.{when◌then◌else◌}
use Rattle.module_table.specs.declared.Lead.{Lead}
use Rattle.module_table.specs.declared.Lead.TheVariants.{Iso, Import, Definition, Nothing}

-- what a word says: 0 nothing, 1 `iso`, then a number for each of 512 definitions, then one for each symbol
unfoldable pub lead_in : ℕ → Lead
lead_in word =
    when eqb word 0 then Nothing
    else when eqb word 1 then Iso
    else when ltb word 514 then Definition (record { 0 = word - 2 })
    else Import (word - 514)

-- the word that says where a name leads
abbrev pub word_of : Lead → ℕ
word_of Iso = 1
word_of (Import k) = 514 + k
word_of (Definition d) = 2 + d.0
word_of Nothing = 0

-- what the name at token i leads to, by the values of all tokens
abbrev pub lead_at : List ℕ → ℕ → Lead
lead_at values i = lead_in (get_or values i 0)

-- there is a word for it
abbrev pub Small : Lead → Type 0
Small Iso = Unit {0}
Small (Import k) = k < 65536
Small (Definition d) = d.0 < 512
Small Nothing = Unit {0}

-- the number of the definition that a name leads to, counted from 1; 0 where it leads to none
abbrev pub definition_number : Lead → ℕ
definition_number Iso = 0
definition_number (Import k) = 0
definition_number (Definition d) = d.0 + 1
definition_number Nothing = 0
