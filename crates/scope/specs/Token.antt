-- What the tokens of a module say: their classes and their spellings; and the slices that hold where they stand.
-- Assumes nothing.
use Rattle.std.specs.Prelude.{◌≡◌, cond, List, map, ℕ, ◌≤◌, length, get_or}
use Rattle.lexicon.specs.Word.{is_name}
use Rattle.token.specs.Token.{Tok, Meaning, class_of_token}
use Rattle.token.specs.Cut.{cut, said}
use Rattle.token.specs.Table.{longest_text}
use Rattle.scope.specs.declared.Name.{Name}

-- the classes of what tokens say
abbrev pub classes_of : List Meaning → List ℕ
classes_of ms = map (λ (m : Meaning). m.class) ms

-- the spelling of token i
abbrev pub spelled : List Meaning → ℕ → List ℕ
spelled ms i = (said ms i).spelling

-- three slices hold the tokens of a text: their classes, where they start and where they end
pub record TokensHeld (text classes starts ends : List ℕ) : Type 0 where
  pub classes_held : classes ≡ map class_of_token (cut text).tokens
  pub starts_held : starts ≡ map (λ (t : Tok). t.start) (cut text).tokens
  pub ends_held : ends ≡ map (λ (t : Tok). t.end) (cut text).tokens
  pub few : length (cut text).tokens ≤ longest_text

-- where the spelling of token i stands, by the slices; a token that is no name has none, so its part is empty
abbrev pub name_in : List ℕ → List ℕ → List ℕ → ℕ → Name
name_in classes starts ends i = record {
  start = get_or starts i 0;
  end = cond (is_name (get_or classes i 0)) (get_or ends i 0) (get_or starts i 0);
}
