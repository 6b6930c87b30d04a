-- What the slices of tokens hold, said of what the tokens say: classes, and where spellings stand; and the slices of a token table.
-- Assumes nothing.
use mathlib.Core.Path.{◌≡◌, refl, sym, ap, subst, ◌∙◌}
use mathlib.Core.Bool.{Bool, true, false, cond}
use mathlib.Core.List.{List, [], ◌∷◌, map}
use Prim.Native.Nat.{ℕ, ◌-◌, ◌≤◌, ◌<◌}
use native.Mathlib.Omega.{arith}
use lib.ListN.{length, get_or, take, length-map, get_or-map}
use lib.Seq.{length-take-le, get_or-take, ext_get_or}
use Rattle.lexicon.specs.Word.{between, Within, is_name}
use Rattle.token.specs.Token.{Tok, Meaning, tok, meaning, meanings, spelling_of, no_token, class_of_token}
use Rattle.token.specs.Cut.{cut, said, meanings_in}
use Rattle.token.specs.Law.{Sound}
use Rattle.token.specs.Table.{TokenTable}
use Rattle.token.proofs.Laws.{rising, sound_at}
use Rattle.token.proofs.Entries.{class_at, start_at, end_at}
use Rattle.name_tree.specs.Tree.{Placed, part_at}
use Rattle.scope.specs.declared.Name.{Name}
use Rattle.scope.specs.Token.{classes_of, spelled, TokensHeld, name_in}

-- the classes of tokens are those of what they say
pub map_said : (ts : List Tok) → map class_of_token ts ≡ classes_of (meanings ts)
map_said [] = refl
map_said (t ∷ ts) = ap (λ (cs : List ℕ). class_of_token t ∷ cs) (map_said ts)

module _ (text classes starts ends : List ℕ) (t : TokensHeld text classes starts ends) where
  pub classes_are : classes ≡ classes_of (meanings_in text)
  classes_are = t.classes_held ∙ map_said (cut text).tokens

  -- there is one of each for each token
  pub counted : length classes ≡ length (cut text).tokens
  counted = ap length t.classes_held ∙ simp length-map

  pub starts_long : length starts ≡ length classes
  starts_long = ap length t.starts_held ∙ (simp length-map) ∙ sym counted

  pub ends_long : length ends ≡ length classes
  ends_long = ap length t.ends_held ∙ (simp length-map) ∙ sym counted

  pub said_counted : length (meanings_in text) ≡ length classes
  said_counted = simp length-map (sym counted)

  pub few_classes : length classes ≤ 65536
  few_classes = omega (arith, counted, t.few)

  -- the slices hold the same whether the classes are told by them or by what the tokens say
  pub held_said : TokensHeld text (classes_of (meanings_in text)) starts ends
  held_said = record {
    classes_held = sym (map_said (cut text).tokens);
    starts_held = t.starts_held;
    ends_held = t.ends_held;
    few = t.few;
  }

  module _ (i : ℕ) (h : i < length classes) where
    abbrev token : Tok
    token = get_or (cut text).tokens i no_token

    class_is : get_or classes i 0 ≡ token.says.class
    unfolding tok meaning
    class_is = ap (λ (l : List ℕ). get_or l i 0) t.classes_held ∙ get_or-map class_of_token (cut text).tokens i no_token

    start_is : get_or starts i 0 ≡ token.start
    unfolding tok
    start_is = ap (λ (l : List ℕ). get_or l i 0) t.starts_held ∙ get_or-map (λ (x : Tok). x.start) (cut text).tokens i no_token

    end_is : get_or ends i 0 ≡ token.end
    unfolding tok
    end_is = ap (λ (l : List ℕ). get_or l i 0) t.ends_held ∙ get_or-map (λ (x : Tok). x.end) (cut text).tokens i no_token

    sound : Sound text token
    sound = sound_at text 0 (cut text).tokens (rising text) i no_token (omega (arith, counted))

    made : token ≡ tok (get_or classes i 0) (get_or starts i 0) (get_or ends i 0) (between text (get_or starts i 0) (get_or ends i 0))
    made = rw (class_is, start_is, end_is) sound.made

    -- the token is sound, so its bytes lie in the text, and it has one at least
    pub entry_sound : Sound text
        (tok (get_or classes i 0) (get_or starts i 0) (get_or ends i 0) (between text (get_or starts i 0) (get_or ends i 0)))
    entry_sound = rw made at sound

    pub entry_place : (get_or starts i 0 < get_or ends i 0) × (get_or ends i 0 ≤ length text)
    unfolding tok
    entry_place = (entry_sound.nonempty, entry_sound.inside)

    -- what it says is made by its class and its bytes
    pub said_is : said (meanings_in text) i ≡ meaning (get_or classes i 0) (between text (get_or starts i 0) (get_or ends i 0))
    unfolding tok
    said_is = get_or-map (λ (x : Tok). x.says) (cut text).tokens i no_token ∙ ap (λ (x : Tok). x.says) made

    spelled_is : spelled (meanings_in text) i ≡ spelling_of (get_or classes i 0) (between text (get_or starts i 0) (get_or ends i 0))
    unfolding meaning
    spelled_is = ap (λ (m : Meaning). m.spelling) said_is

    -- its name lies in the text, and is its spelling
    abbrev Spelled : ℕ → ℕ → Type 0
    Spelled start end = Within text start end × (spelled (meanings_in text) i ≡ between text start end)

    pub name_is : Spelled (name_in classes starts ends i).start (name_in classes starts ends i).end
    unfolding spelling_of
    name_is = go (is_name (get_or classes i 0)) refl
      where
        go : (b : Bool) → is_name (get_or classes i 0) ≡ b → Spelled (get_or starts i 0) (cond b (get_or ends i 0) (get_or starts i 0))
        go true e = (record { ordered = omega (arith, entry_place); inside = entry_place.1 }, spelled_is ∙ rw e)
        go false e =
            let none : get_or starts i 0 - get_or starts i 0 ≡ 0 = omega arith in
            (record { ordered = omega arith; inside = omega (arith, entry_place) }, spelled_is ∙ rw (e, none))

    pub named_is : (n : Name) → n ≡ name_in classes starts ends i → Spelled n.start n.end
    named_is n e = subst (λ (x : Name). Spelled x.start x.end) (sym e) name_is

    -- of a name these are its own start and end
    pub placed : Placed text starts ends i
    placed = record {
      has_start = omega (arith, starts_long);
      has_end = omega (arith, ends_long);
      within = record { ordered = omega (arith, entry_place); inside = entry_place.1 };
    }

    pub placed_name : is_name (get_or classes i 0) ≡ true → spelled (meanings_in text) i ≡ part_at text starts ends i
    unfolding spelling_of
    placed_name e = spelled_is ∙ rw e

-- the first entries of a token table are such slices
module _ (text classes starts ends : List ℕ) (n : ℕ) (t : TokenTable text (cut text).tokens classes starts ends n) where
  taken_held : (field : Tok → ℕ) (array : List ℕ) → n ≤ length array
      → ((i : ℕ) → i < n → get_or array i 0 ≡ field (get_or (cut text).tokens i no_token)) → field no_token ≡ 0
      → take n array ≡ map field (cut text).tokens
  taken_held field array room each none =
      let long : length (take n array) ≡ n = length-take-le n array room in
      ext_get_or 0 (take n array) (map field (cut text).tokens) (long ∙ sym t.counted ∙ simp length-map)
      (λ i h.
      let l : i < n = omega arith in
      get_or-take n array i 0 l ∙ each i l
      ∙ sym (ap (get_or (map field (cut text).tokens) i) (sym none) ∙ get_or-map field (cut text).tokens i no_token))

  pub table_held : TokensHeld text (take n classes) (take n starts) (take n ends)
  unfolding tok meaning
  table_held = record {
    classes_held =
        taken_held class_of_token classes (omega (arith, t.few, t.classes_long))
        (λ i h. class_at text (cut text).tokens classes starts ends n t i h) refl;
    starts_held =
        taken_held (λ (x : Tok). x.start) starts (omega (arith, t.few, t.starts_long))
        (λ i h. start_at text (cut text).tokens classes starts ends n t i h) refl;
    ends_held =
        taken_held (λ (x : Tok). x.end) ends (omega (arith, t.few, t.ends_long))
        (λ i h. end_at text (cut text).tokens classes starts ends n t i h) refl;
    few = omega (arith, t.counted, t.few);
  }
