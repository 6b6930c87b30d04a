-- A token: what it says, and where it stands.
-- Assumes nothing.
use Rattle.std.specs.Prelude.{cond, List, [], map, ℕ, eqb, ℤ, pos, neg_ℤ, drop}
use Rattle.index.specs.Choice.{when◌then◌else◌}
use Rattle.terminal.specs.Terminal.{number, negative}
use Rattle.lexicon.specs.Word.{is_name}
use Rattle.piece.specs.Decimal.{decimal}

-- What a token says. Everything that a module defines is a function of what its tokens say, and of nothing else of the text.
pub record Meaning : Type 0 where
  -- the terminal that it is, by its number
  pub class : ℕ
  -- a name's bytes; none for any other token
  pub spelling : List ℕ
  -- a number's value; 0 for any other token
  pub value : ℤ

pub record Tok : Type 0 where
  pub says : Meaning
  -- the place of its first byte
  pub start : ℕ
  -- the place after its last byte
  pub end : ℕ

-- the spelling of a token of this class that has these bytes
unfoldable pub spelling_of : ℕ → List ℕ → List ℕ
spelling_of class bytes = cond (is_name class) bytes []

-- the value of a token of this class that has these bytes: a negative number's first byte is the hyphen
unfoldable pub value_of : ℕ → List ℕ → ℤ
value_of class bytes =
    when eqb class number then pos (decimal bytes)
    else when eqb class negative then neg_ℤ (pos (decimal (drop 1 bytes)))
    else pos 0

-- what a token of this class that has these bytes says
unfoldable pub meaning : ℕ → List ℕ → Meaning
meaning class bytes = record { class = class; spelling = spelling_of class bytes; value = value_of class bytes }

-- the token of this class, from start to end, that has these bytes
unfoldable pub tok : ℕ → ℕ → ℕ → List ℕ → Tok
tok class start end bytes = record { says = meaning class bytes; start = start; end = end }

-- what tokens say, in order
abbrev pub meanings : List Tok → List Meaning
meanings ts = map (λ (t : Tok). t.says) ts

-- the class of a token
abbrev pub class_of_token : Tok → ℕ
class_of_token t = t.says.class

-- what stands for a token, and for what it says, where a list has none at an index
abbrev pub no_token : Tok
no_token = tok 0 0 0 []

abbrev pub no_meaning : Meaning
no_meaning = meaning 0 []
