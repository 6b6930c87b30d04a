-- The token table that a cut leaves, and what the layers above read of a table: entry i is token i, whose bytes lie in the text.
-- Assumes nothing.
use mathlib.Core.Path.{◌≡◌, refl, sym, ap}
use mathlib.Core.List.{List, map}
use Prim.Native.Nat.{ℕ, ◌≤◌, ◌<◌}
use native.Mathlib.Omega.{arith}
use lib.ListN.{length, get_or, length-map, length-append, length-drop}
use Rattle.lexicon.specs.Word.{between}
use Rattle.token.specs.Token.{Tok, tok, meaning, no_token, class_of_token}
use Rattle.token.specs.Cut.{Ending, whole, refused, cut}
use Rattle.token.specs.Law.{Sound}
use Rattle.token.specs.Table.{longest_text, token_entry, TokenTable, Lent, overlaid, answer_to, Held}
use Rattle.std.specs.Prelude.{Result, Ok}
use Rattle.token.proofs.Laws.{rising, few, sound_at, held_at}

-- an answer that counts tokens counts them all, and the whole text is cut
pub counted : (count n : ℕ) (ending : Ending) → Ok count ≡ answer_to n ending → (count ≡ n) × (ending ≡ whole)
counted count n whole e = (cc, refl)
counted count n (refused r p) e = let z : ◌≡◌ {A = ℕ} 0 1 = cc in absurd (omega arith)

-- what is laid over the start of an array leaves its length
overlaid_length : (field : Tok → ℕ) (ts : List Tok) (held old : List ℕ) → held ≡ overlaid (map field ts) old
    → length ts ≤ longest_text → length old ≡ longest_text → length held ≡ longest_text
overlaid_length field ts held old is room long =
    rw is (simp (length-append, length-drop, length-map) (omega arith))

-- and has each token's entry at its index
overlaid_at : (field : Tok → ℕ) (ts : List Tok) (held old : List ℕ) (i : ℕ) → field no_token ≡ 0
    → held ≡ overlaid (map field ts) old → i < length ts → get_or held i 0 ≡ field (get_or ts i no_token)
overlaid_at field ts held old i none is h = rw is (held_at field ts old i no_token none h)

-- the table of all tokens that the cut of a text read
module _
    (text : List ℕ) (answer : Result ℕ (ℕ × ℕ)) (classes starts ends classes' starts' ends' : List ℕ)
    (lent : Lent text classes starts ends) (held : Held text answer classes starts ends classes' starts' ends')
  where
    read : (i : ℕ) → i < length (cut text).tokens → token_entry text classes' starts' ends' i ≡ get_or (cut text).tokens i no_token
    unfolding token_entry tok meaning
    read i h =
        let ts = (cut text).tokens in
        let c = overlaid_at class_of_token ts classes' classes i refl held.classes_held h in
        let s = overlaid_at (λ (x : Tok). x.start) ts starts' starts i refl held.starts_held h in
        let e = overlaid_at (λ (x : Tok). x.end) ts ends' ends i refl held.ends_held h in
        rw (c, s, e) (sym (sound_at text 0 ts (rising text) i no_token h).made)

    pub cut_table : TokenTable text (cut text).tokens classes' starts' ends' (length (cut text).tokens)
    cut_table =
        let ts = (cut text).tokens in
        let room : length ts ≤ longest_text = omega (arith, few text, lent.short) in
        record {
          counted = refl;
          few = room;
          classes_long = overlaid_length class_of_token ts classes' classes held.classes_held room lent.classes_long;
          starts_long = overlaid_length (λ (t : Tok). t.start) ts starts' starts held.starts_held room lent.starts_long;
          ends_long = overlaid_length (λ (t : Tok). t.end) ts ends' ends held.ends_held room lent.ends_long;
          entry_is = read;
          sound = λ i h. sound_at text 0 ts (rising text) i no_token h;
        }

-- the entry at i of a table
module _
    (text : List ℕ) (ts : List Tok) (classes starts ends : List ℕ) (n : ℕ) (t : TokenTable text ts classes starts ends n)
    (i : ℕ) (h : i < n)
  where
    pub class_at : get_or classes i 0 ≡ (get_or ts i no_token).says.class
    unfolding token_entry tok meaning
    class_at = ap class_of_token (t.entry_is i h)

    pub start_at : get_or starts i 0 ≡ (get_or ts i no_token).start
    unfolding token_entry tok
    start_at = ap (λ (x : Tok). x.start) (t.entry_is i h)

    pub end_at : get_or ends i 0 ≡ (get_or ts i no_token).end
    unfolding token_entry tok
    end_at = ap (λ (x : Tok). x.end) (t.entry_is i h)

    entry_sound : Sound text
        (tok (get_or classes i 0) (get_or starts i 0) (get_or ends i 0) (between text (get_or starts i 0) (get_or ends i 0)))
    unfolding token_entry
    entry_sound = rw (t.entry_is i h) (t.sound i h)

    -- the token's bytes lie in the text, and it has one at least
    pub entry_place : (get_or starts i 0 < get_or ends i 0) × (get_or ends i 0 ≤ length text)
    unfolding tok
    entry_place = (entry_sound.nonempty, entry_sound.inside)
