-- The items of an enumeration, label ( number ), each by the token of its label: what breaks refusal 18.
-- `cs` are the classes of a module's tokens, `vs` their values, `x` the text that they stand in; an enumeration starts at token `from`.
-- Assumes nothing.
use Rattle.std.specs.Prelude.{Bool, ◌&&◌, ◌||◌, List, ℕ, ◌+◌, ltb, ℤ, get_or}
use Rattle.index.specs.First.{first, any}
use Rattle.lexicon.specs.Word.{same, between}
use Rattle.definition.specs.Members.{is_name}
use Rattle.index.specs.Choice.{when◌then◌else◌}
use Rattle.sub_type.specs.Number.{number_at, same_number, is_outside}
use Rattle.sub_type.specs.declared.Limits.{Limits}

-- how each token is spelled
abbrev pub Spelling : Type 0
Spelling = ℕ → List ℕ

-- by a text, and where its tokens start and end
abbrev pub spelling_in : List ℕ → List ℕ → List ℕ → Spelling
spelling_in text starts ends i = between text (get_or starts i 0) (get_or ends i 0)

-- the spelling of token i
abbrev pub spelled : Spelling → ℕ → List ℕ
spelled x i = x i

-- the number of the item whose label is token i: it stands behind the bracket
abbrev pub item_number : List ℕ → List ℕ → ℕ → ℤ
item_number cs vs i = number_at cs vs (i + 2)

-- token j is a label with the spelling of token i
abbrev pub has_label : Spelling → List ℕ → ℕ → ℕ → Bool
has_label x cs i j = is_name cs j && same (spelled x j) (spelled x i)

-- token j is the label of an item with the number of that of token i
abbrev pub has_number : List ℕ → List ℕ → ℕ → ℕ → Bool
has_number cs vs i j = is_name cs j && same_number (item_number cs vs j) (item_number cs vs i)

-- the first item that has the label of that of token i; token i itself where none before it has
abbrev pub first_label : Spelling → List ℕ → ℕ → ℕ → ℕ
first_label x cs from i = first (has_label x cs i) from i

-- the first item that has the number of that of token i; token i itself where none before it has
abbrev pub first_number : List ℕ → List ℕ → ℕ → ℕ → ℕ
first_number cs vs from i = first (has_number cs vs i) from i

-- 18, where token i is the label of an item: 1 where an earlier item has the label; else 2 where one has the number; else 3 where the
-- number is outside the limits
unfoldable pub item_clause : Spelling → List ℕ → List ℕ → Limits → ℕ → ℕ → ℕ
item_clause x cs vs limits from i =
    when is_name cs i then
    (when ltb (first_label x cs from i) i then 1 else when ltb (first_number cs vs from i) i then 2
    else when is_outside limits (item_number cs vs i) then 3 else 0)
    else 0

-- what it stands against: the first item that has the label, where one before it has; else the first that has the number, which is
-- itself where none before it has
abbrev pub item_other : Spelling → List ℕ → List ℕ → ℕ → ℕ → ℕ
item_other x cs vs from i = when ltb (first_label x cs from i) i then first_label x cs from i else first_number cs vs from i

-- token i is a label that an earlier item has
unfoldable pub label_again : Spelling → List ℕ → ℕ → ℕ → Bool
label_again x cs from i = is_name cs i && any (has_label x cs i) from i

-- token i is the label of an item whose number an earlier item has, or is outside the limits
unfoldable pub number_misfit : List ℕ → List ℕ → Limits → ℕ → ℕ → Bool
number_misfit cs vs limits from i = is_name cs i && (is_outside limits (item_number cs vs i) || any (has_number cs vs i) from i)
