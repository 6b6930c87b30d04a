-- The examples P1 to P4 of document 01, established from the definitions.
-- Assumes nothing.
use mathlib.Core.Path.{◌≡◌, refl}
use mathlib.Core.List.{[], ◌∷◌}
use Rattle.terminal.specs.Terminal.{lower}
use Rattle.lexicon.specs.Byte.{class_of, class_in, rows}
use Rattle.lexicon.specs.Word.{bytes, word, word_table, words, word_classes, same, place_in, name_class}
use Rattle.piece.specs.Decimal.{decimal_after}
use Rattle.token.specs.Token.{tok, spelling_of, value_of}
use Rattle.piece.specs.Piece.{span, name, misfit, non_negative, below_zero, comment, after_hyphen, quoted, hex_string}
use Rattle.piece.specs.Piece.{after_colon, after_dot, punctuation, piece}
use Rattle.token.specs.Cut.{whole, refused, cut_from, cut}

-- P1 `----` no token. P2 `-----` refusal 3 at 4. P3 `a--b` the name a. P4 4294967296 refusal 6.
pub record Examples : Type 0 where
  pub P1 : cut (bytes "----") ≡ record { tokens = []; ending = whole }
  pub P2 : cut (bytes "-----") ≡ record { tokens = []; ending = refused 3 4 }
  pub P3 : cut (bytes "a--b") ≡ record { tokens = tok lower 0 1 (bytes "a") ∷ []; ending = whole }
  pub P4 : cut (bytes "4294967296") ≡ record { tokens = []; ending = refused 6 0 }

pub examples : Examples
unfolding bytes class_of class_in rows word word_table words word_classes same place_in name_class
    tok decimal_after spelling_of value_of span name misfit non_negative below_zero comment after_hyphen quoted hex_string
    after_colon after_dot punctuation piece cut_from cut
examples = record { P1 = refl; P2 = refl; P3 = refl; P4 = refl }
