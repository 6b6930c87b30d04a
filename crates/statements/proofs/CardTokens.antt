-- The tokens of the whole case, computed from the definitions.
-- Assumes nothing.
use mathlib.Core.Path.{◌≡◌, refl}
use mathlib.Core.List.{List, [], ◌∷◌}
use Rattle.terminal.specs.Terminal.{BEGIN, CONTACT-INFO, DEFINITIONS, DESCRIPTION, END, FROM, IDENTIFIER, IMPORTS, LAST-UPDATED, MODULE-IDENTITY, OBJECT, ORGANIZATION, Upper, assign, left_brace, lower, number, right_brace, semicolon, text}
use Rattle.lexicon.specs.Byte.{class_of, class_in, rows}
use Rattle.lexicon.specs.Word.{bytes, word, word_table, words, word_classes, same, place_in, name_class}
use Rattle.piece.specs.Decimal.{decimal_after}
use Rattle.piece.specs.Piece.{span, name, misfit, non_negative, below_zero, comment, after_hyphen, quoted, hex_string}
use Rattle.piece.specs.Piece.{after_colon, after_dot, punctuation, piece}
use Rattle.token.specs.Token.{Tok, tok, meaning, spelling_of, value_of}
use Rattle.token.specs.Cut.{whole, cut_from, cut}
use Rattle.statements.specs.Card.{card_text}

unfoldable pub card_tokens : List Tok
card_tokens =
    tok Upper 0 1 (bytes "T")
    ∷ tok DEFINITIONS 2 13 (bytes "DEFINITIONS")
    ∷ tok assign 14 17 (bytes "::=")
    ∷ tok BEGIN 18 23 (bytes "BEGIN")
    ∷ tok IMPORTS 24 31 (bytes "IMPORTS")
    ∷ tok MODULE-IDENTITY 32 47 (bytes "MODULE-IDENTITY")
    ∷ tok FROM 48 52 (bytes "FROM")
    ∷ tok Upper 53 63 (bytes "SNMPv2-SMI")
    ∷ tok semicolon 63 64 (bytes ";")
    ∷ tok lower 65 66 (bytes "t")
    ∷ tok MODULE-IDENTITY 67 82 (bytes "MODULE-IDENTITY")
    ∷ tok LAST-UPDATED 83 95 (bytes "LAST-UPDATED")
    ∷ tok text 96 98 (bytes "\"\"")
    ∷ tok ORGANIZATION 99 111 (bytes "ORGANIZATION")
    ∷ tok text 112 114 (bytes "\"\"")
    ∷ tok CONTACT-INFO 115 127 (bytes "CONTACT-INFO")
    ∷ tok text 128 130 (bytes "\"\"")
    ∷ tok DESCRIPTION 131 142 (bytes "DESCRIPTION")
    ∷ tok text 143 145 (bytes "\"\"")
    ∷ tok assign 146 149 (bytes "::=")
    ∷ tok left_brace 150 151 (bytes "{")
    ∷ tok lower 152 155 (bytes "iso")
    ∷ tok number 156 157 (bytes "9")
    ∷ tok right_brace 158 159 (bytes "}")
    ∷ tok lower 160 161 (bytes "a")
    ∷ tok OBJECT 162 168 (bytes "OBJECT")
    ∷ tok IDENTIFIER 169 179 (bytes "IDENTIFIER")
    ∷ tok assign 180 183 (bytes "::=")
    ∷ tok left_brace 184 185 (bytes "{")
    ∷ tok lower 186 187 (bytes "t")
    ∷ tok number 188 189 (bytes "1")
    ∷ tok right_brace 190 191 (bytes "}")
    ∷ tok END 192 195 (bytes "END")
    ∷ []

pub card_cut : cut card_text ≡ record { tokens = card_tokens; ending = whole }
unfolding card_text card_tokens bytes class_of class_in rows word word_table words word_classes same place_in name_class
    tok meaning decimal_after spelling_of value_of span name misfit non_negative below_zero comment after_hyphen quoted hex_string
    after_colon after_dot punctuation piece cut_from cut
card_cut = refl
