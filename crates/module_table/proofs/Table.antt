-- What is read off the words of a table of definitions: each definition by its own words, and what a store changes.
-- Assumes nothing.
use mathlib.Core.Path.{◌≡◌, refl, sym, ap, ◌∙◌}
use mathlib.Core.Logic.{◌⊎◌, inl, inr}
use mathlib.Core.List.{List}
use Prim.Native.Nat.{ℕ, zero, suc, ◌+◌, ◌*◌, ◌/◌, ◌≤◌, ◌<◌}
use native.Mathlib.Decide.{dec_lt, ℕ_discrete}
use native.Mathlib.Omega.{arith}
use lib.Dec.{lit<}
use lib.ListN.{length, get_or, set, length-set, get_or-eq_default}
use lib.Seq.{get_or-set_same, get_or-set_other, ext_get_or}
use Rattle.module_table.specs.declared.Definition.{Definition}
use Rattle.module_table.specs.Definition.{width, words, definition_from, definitions_from, definitions_in, absent, entry, Stored}

-- ---- reading

-- equal words are read alike
pub read_alike : (new old : List ℕ) (b a : ℕ) → ((j : ℕ) → j < width → get_or new (b + j) 0 ≡ get_or old (a + j) 0)
    → definition_from new b ≡ definition_from old a
read_alike new old b a e =
    let bz : b + 0 ≡ b = omega arith in
    let az : a + 0 ≡ a = omega arith in
    let e₀ : get_or new b 0 ≡ get_or old a 0 = rw (bz, az) at (e 0 (lit< tt)) in
    λ i. record {
      kind = e₀ i;
      name = record { 0 = e 1 (lit< tt) i };
      status = e 2 (lit< tt) i;
      access = e 3 (lit< tt) i;
      default = e 4 (lit< tt) i;
      syntax = record { from = e 5 (lit< tt) i; to = e 6 (lit< tt) i };
      index = record { from = e 7 (lit< tt) i; to = e 8 (lit< tt) i };
      augments = record { from = e 9 (lit< tt) i; to = e 10 (lit< tt) i };
      objects = record { from = e 11 (lit< tt) i; to = e 12 (lit< tt) i };
      columns = record { from = e 13 (lit< tt) i; to = e 14 (lit< tt) i };
      oid = record { from = e 15 (lit< tt) i; to = e 16 (lit< tt) i };
      start = record { 0 = e 17 (lit< tt) i };
      count = e 18 (lit< tt) i;
      class = e 19 (lit< tt) i;
      sequence = e 20 (lit< tt) i;
      parent = e 21 (lit< tt) i;
    }

-- the words of a definition are read as that definition
pub read_back : (d : Definition) → definition_from (words d) 0 ≡ d
unfolding words
read_back d = refl

length_from : (ws : List ℕ) (b n : ℕ) → length (definitions_from ws b n) ≡ n
unfolding definitions_from
length_from ws b zero = refl
length_from ws b (suc n) = ap suc (length_from ws (b + width) n)

entry_from : (ws : List ℕ) (b n k : ℕ) → k < n → entry (definitions_from ws b n) k ≡ definition_from ws (b + k * width)
unfolding definitions_from
entry_from ws b zero k h = absurd (omega arith)
entry_from ws b (suc n) zero h = let same : b ≡ b + 0 * width = omega arith in ap (definition_from ws) same
entry_from ws b (suc n) (suc k) h =
    let same : b + width + k * width ≡ b + suc k * width = omega arith in
    entry_from ws (b + width) n k (omega arith) ∙ ap (definition_from ws) same

module _ (ws : List ℕ) where
  -- there are as many as there is room for
  pub table_counted : length (definitions_in ws) ≡ length ws / width
  unfolding definitions_in
  table_counted = length_from ws 0 (length ws / width)

  module _ (k : ℕ) (h : k < length (definitions_in ws)) where
    -- definition k lies within the words
    pub entry_room : k * width + width ≤ length ws
    entry_room = omega (arith, table_counted)

    -- and is read off its own
    pub entry_read : entry (definitions_in ws) k ≡ definition_from ws (k * width)
    unfolding definitions_in
    entry_read =
        let same : 0 + k * width ≡ k * width = omega arith in
        entry_from ws 0 (length ws / width) k (omega (arith, table_counted)) ∙ ap (definition_from ws) same

  pub entry_none : (k : ℕ) → length (definitions_in ws) ≤ k → entry (definitions_in ws) k ≡ absent
  entry_none k h = get_or-eq_default (definitions_in ws) absent h

-- ---- storing

-- the loop has stored the first j words of a row from b on
pub record Storing (old : List ℕ) (b : ℕ) (row : List ℕ) (j : ℕ) (new : List ℕ) : Type 0 where
  pub within : j ≤ width
  pub as_long : length new ≡ length old
  pub word : (i : ℕ) → i < j → get_or new (b + i) 0 ≡ get_or row i 0
  pub others : (i : ℕ) → (i < b) ⊎ (b + width ≤ i) → get_or new i 0 ≡ get_or old i 0

pub storing_start : (old : List ℕ) (b : ℕ) (row : List ℕ) → Storing old b row 0 old
storing_start old b row = record {
  within = omega arith;
  as_long = refl;
  word = λ i h. absurd (omega arith);
  others = λ i h. refl;
}

pub storing_more : (old : List ℕ) (b : ℕ) (row : List ℕ) (j : ℕ) (new : List ℕ) → Storing old b row j new → j < width → b + j < length new
    → Storing old b row (j + 1) (set new (b + j) (get_or row j 0))
storing_more old b row j new s h room = record {
  within = omega arith;
  as_long = length-set new (b + j) (get_or row j 0) ∙ s.as_long;
  word = λ i l. word_at i l (dec_lt i j);
  others = others;
}
  where
    word_at : (i : ℕ) → i < j + 1 → Dec (i < j) → get_or (set new (b + j) (get_or row j 0)) (b + i) 0 ≡ get_or row i 0
    word_at i l (yes m) = get_or-set_other new (b + j) (b + i) (get_or row j 0) 0 (λ q. omega arith) ∙ s.word i m
    word_at i l (no m) =
        let same : i ≡ j = omega arith in
        rw same (get_or-set_same new (b + j) (get_or row j 0) 0 room)

    others : (i : ℕ) → (i < b) ⊎ (b + width ≤ i) → get_or (set new (b + j) (get_or row j 0)) i 0 ≡ get_or old i 0
    others i (inl l) = get_or-set_other new (b + j) i (get_or row j 0) 0 (λ q. omega arith) ∙ s.others i (inl l)
    others i (inr l) = get_or-set_other new (b + j) i (get_or row j 0) 0 (λ q. omega arith) ∙ s.others i (inr l)

-- all words are stored: the table holds the definition, and the others as they were
pub storing_end : (old : List ℕ) (k : ℕ) (row : List ℕ) (j : ℕ) (new : List ℕ) (d : Definition) → Storing old (k * width) row j new → width ≤ j → row ≡ words d
    → k < length (definitions_in old) → Stored old k d new
storing_end old k row j new d s h is inside = record {
  as_long = s.as_long;
  held =
      ext_get_or absent (definitions_in new) (set (definitions_in old) k d) (counted ∙ sym (length-set (definitions_in old) k d))
      (λ i l. entry_at i (omega (arith, counted)) (ℕ_discrete i k));
}
  where
    counted : length (definitions_in new) ≡ length (definitions_in old)
    counted = table_counted new ∙ ap (λ (n : ℕ). n / width) s.as_long ∙ sym (table_counted old)

    own : (i : ℕ) → i < width → get_or new (k * width + i) 0 ≡ get_or (words d) (0 + i) 0
    own i l =
        let same : 0 + i ≡ i = omega arith in
        rw same (s.word i (omega (arith, s.within)) ∙ ap (λ (r : List ℕ). get_or r i 0) is)

    outside : (i t : ℕ) → (i ≡ k → ⊥) → t < width → (i * width + t < k * width) ⊎ (k * width + width ≤ i * width + t)
    outside i t other l = go (dec_lt i k)
      where
        go : Dec (i < k) → (i * width + t < k * width) ⊎ (k * width + width ≤ i * width + t)
        go (yes p) = inl (omega arith)
        go (no p) = inr (let q : k < i = beyond (dec_lt k i) in omega arith)
          where
            beyond : Dec (k < i) → k < i
            beyond (yes q) = q
            beyond (no q) = absurd (other (omega arith))

    entry_at : (i : ℕ) → i < length (definitions_in old) → Dec (i ≡ k) → entry (definitions_in new) i ≡ entry (set (definitions_in old) k d) i
    entry_at i l (yes same) =
        entry_read new i (omega (arith, counted)) ∙ ap (λ (x : ℕ). definition_from new (x * width)) same
        ∙ read_alike new (words d) (k * width) 0 own ∙ read_back d
        ∙ sym (ap (entry (set (definitions_in old) k d)) same ∙ get_or-set_same (definitions_in old) k d absent inside)
    entry_at i l (no other) =
        entry_read new i (omega (arith, counted))
        ∙ read_alike new old (i * width) (i * width) (λ t m. s.others (i * width + t) (outside i t other m))
        ∙ sym (entry_read old i l) ∙ sym (get_or-set_other (definitions_in old) k i d absent other)
