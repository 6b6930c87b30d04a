-- Each terminal is the class of a token of some text: one short text for each, by one computed test.
-- Assumes nothing.
use mathlib.Core.Path.{◌≡◌, refl}
use mathlib.Core.Bool.{Bool, true, false, ◌&&◌}
use mathlib.Core.List.{List, [], ◌∷◌}
use Prim.Native.Nat.{ℕ, ◌<◌}
use lib.Dec.{T, eqb, eqb→eq}
use lib.ListN.{length, get_or}
use Rattle.terminal.specs.Terminal.{terminals}
use Rattle.lexicon.specs.Byte.{class_of, class_in, rows}
use Rattle.lexicon.specs.Word.{bytes, word, word_table, words, word_classes, same, place_in, name_class}
use Rattle.piece.specs.Decimal.{decimal_after}
use Rattle.piece.specs.Piece.{span, name, misfit, non_negative, below_zero, comment, after_hyphen, quoted, hex_string}
use Rattle.piece.specs.Piece.{after_colon, after_dot, punctuation, piece}
use Rattle.token.specs.Token.{Tok, tok, meaning, spelling_of, value_of}
use Rattle.token.specs.Cut.{Ending, whole, refused, cut_from, cut}
use Rattle.index.proofs.Tested.{passes, tested, and_left, and_right}

-- a token that is all of some text
pub record Sample (class : ℕ) : Type 0 where
  pub text : List ℕ
  pub token : Tok
  pub cuts : cut text ≡ record { tokens = token ∷ []; ending = whole }
  pub classed : token.says.class ≡ class

-- the texts, in the order of the terminals: those that are no words, and then the words
samples : List (List ℕ)
samples =
    bytes "0" ∷ bytes "-1" ∷ (34 ∷ 34 ∷ []) ∷ bytes "''H" ∷ bytes "::=" ∷ bytes ".."
    ∷ bytes "{" ∷ bytes "}" ∷ bytes "(" ∷ bytes ")" ∷ bytes "," ∷ bytes ";" ∷ bytes "|" ∷ bytes "a" ∷ bytes "A" ∷ words

-- the tokens are one, of this class
one_of : ℕ → List Tok → Bool
one_of class [] = false
one_of class (t ∷ []) = eqb t.says.class class
one_of class (t ∷ u ∷ ts) = false

is_whole : Ending → Bool
is_whole whole = true
is_whole (refused n p) = false

-- the text is one token of this class
single : ℕ → List ℕ → Bool
single class text = one_of class (cut text).tokens && is_whole (cut text).ending

sampled : (class : ℕ) (text : List ℕ) (tokens : List Tok) (ending : Ending)
    → cut text ≡ record { tokens = tokens; ending = ending } → T (one_of class tokens) → T (is_whole ending) → Sample class
unfolding one_of is_whole
sampled class text [] ending is o w = absurd o
sampled class text (t ∷ []) whole is o w = record { text = text; token = t; cuts = is; classed = eqb→eq t.says.class class o }
sampled class text (t ∷ []) (refused n p) is o w = absurd w
sampled class text (t ∷ u ∷ ts) ending is o w = absurd o

enough : length samples ≡ terminals
unfolding samples words word_table
enough = refl

all_single : T (passes single 0 samples)
unfolding single one_of is_whole samples bytes class_of class_in rows word word_table words word_classes same place_in name_class
    tok meaning decimal_after spelling_of value_of span name misfit non_negative below_zero comment after_hyphen quoted hex_string
    after_colon after_dot punctuation piece cut_from cut
all_single = tt

pub sample : (class : ℕ) → class < terminals → Sample class
unfolding single
sample class h =
    let text = get_or samples class [] in
    let test = tested single [] samples all_single class (rw enough h) in
    sampled class text (cut text).tokens (cut text).ending refl
    (and_left (one_of class (cut text).tokens) (is_whole (cut text).ending) test)
    (and_right (one_of class (cut text).tokens) (is_whole (cut text).ending) test)
