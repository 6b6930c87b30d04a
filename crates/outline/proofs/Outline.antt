-- The outline of a module: what its entries are, and the loop that stores them, each when its end is found. And the first
-- definitions of a table are those that its first words hold.
-- Assumes nothing.
use mathlib.Core.Path.{◌≡◌, refl, sym, ap, ◌∙◌}
use mathlib.Core.List.{List, [], ◌∷◌, map}
use Prim.Native.Nat.{ℕ, zero, suc, ◌+◌, ◌*◌, ◌≤◌, ◌<◌}
use native.Mathlib.Decide.{dec_lt, ℕ_discrete}
use native.Mathlib.Numerals.{add-one}
use native.Mathlib.Omega.{arith}
use lib.ListN.{length, get_or, set, take, length-map, get_or-eq_default}
use lib.Seq.{get_or-take, get_or-set_same, get_or-set_other, length-take-le, ext_get_or}
use Rattle.index.specs.First.{first}
use Rattle.index.proofs.Hits.{inside_same, hit_inside, first_hit_is, next_hit}
use Rattle.definition.specs.Landmark.{begins, last_token, definitions, definition_end}
use Rattle.definition.specs.Fields.{fields_of}
use Rattle.definition.proofs.Inside.{oid_inside}
use Rattle.definition.proofs.Next.{end_inside, next_from_end}
use Rattle.module_table.specs.declared.Definition.{Definition}
use Rattle.module_table.specs.Definition.{width, definitions_in, absent, entry, Stored}
use Rattle.module_table.specs.Module.{most_definitions}
use Rattle.module_table.proofs.Table.{read_alike, table_counted, entry_read}
use Rattle.outline.specs.Outline.{outlined, outlined_at, outline}

-- ---- the entries

map_entry : (f : ℕ → Definition) (l : List ℕ) (k : ℕ) → k < length l → entry (map f l) k ≡ f (get_or l k 0)
map_entry f [] k h = absurd (omega arith)
map_entry f (x ∷ xs) zero h = refl
map_entry f (x ∷ xs) (suc k) h = map_entry f xs k (omega arith)

module _ (cs : List ℕ) where
  pub outline_counted : length (outline cs) ≡ length (definitions cs)
  unfolding outline
  outline_counted = simp length-map

  pub outline_entry : (k : ℕ) → k < length (definitions cs) → entry (outline cs) k ≡ outlined_at cs (get_or (definitions cs) k 0)
  unfolding outline
  outline_entry k h = map_entry (outlined_at cs) (definitions cs) k h

  -- no OID ends behind the last token
  pub oid_ends : (k : ℕ) → k < length (outline cs) → (entry (outline cs) k).oid.to ≤ length cs
  unfolding definitions fields_of
  oid_ends k h =
      let d = get_or (definitions cs) k 0 in
      let inside : k < length (definitions cs) = omega (arith, outline_counted) in
      let before : d < last_token cs = (hit_inside (begins cs) 0 (last_token cs) k inside).1 in
      let end = end_inside cs d before in
      omega (
        arith,
        ap (λ (x : Definition). x.oid.to) (outline_entry k inside),
        (oid_inside cs d (definition_end cs d) (omega (arith, end.0))).ends,
        end.1,
      )

-- ---- the first words of a table

module _ (ws : List ℕ) (c : ℕ) (room : c * width ≤ length ws) where
  taken_long : length (take (c * width) ws) ≡ c * width
  taken_long = length-take-le (c * width) ws room

  -- hold as many definitions as they have room for
  pub taken_counted : length (definitions_in (take (c * width) ws)) ≡ c
  taken_counted = omega (arith, table_counted (take (c * width) ws), taken_long)

  -- and each is the table's
  pub taken_entry : (k : ℕ) → k < c → entry (definitions_in (take (c * width) ws)) k ≡ entry (definitions_in ws) k
  taken_entry k h =
      entry_read (take (c * width) ws) k (omega (arith, taken_counted))
      ∙ read_alike (take (c * width) ws) ws (k * width) (k * width)
      (λ j l. get_or-take (c * width) ws (k * width + j) 0 (omega arith))
      ∙ sym (entry_read ws k (omega (arith, table_counted ws)))

-- ---- the loop that collects the definitions

-- it has stored the first `count` of them, and is at the next one's name, d, or at the last token
pub record Collecting (cs words : List ℕ) (count d : ℕ) : Type 0 where
  pub long : length words ≡ most_definitions * width
  pub few : count ≤ most_definitions
  pub within : count ≤ length (definitions cs)
  pub at : d ≡ get_or (definitions cs) count (last_token cs)
  pub held : (j : ℕ) → j < count → entry (definitions_in words) j ≡ outlined_at cs (get_or (definitions cs) j 0)

pub collecting_start : (cs words : List ℕ) (d : ℕ) → length words ≡ most_definitions * width → d ≡ first (begins cs) 0 (last_token cs)
    → Collecting cs words 0 d
unfolding definitions
collecting_start cs words d long is = record {
  long = long;
  few = omega arith;
  within = omega arith;
  at = is ∙ sym (first_hit_is (begins cs) 0 (last_token cs) (omega arith));
  held = λ j h. absurd (omega arith);
}

module _ (cs words : List ℕ) (count d : ℕ) (c : Collecting cs words count d) where
  -- before the last token there is one more
  pub one_more : d < last_token cs → count < length (definitions cs)
  one_more h = go (dec_lt count (length (definitions cs)))
    where
      go : Dec (count < length (definitions cs)) → count < length (definitions cs)
      go (yes l) = l
      go (no l) = absurd (omega (arith, c.at, get_or-eq_default (definitions cs) (last_token cs) (let m : length (definitions cs) ≤ count = omega arith in m)))

  -- which is at d
  pub its_name : d < last_token cs → get_or (definitions cs) count 0 ≡ d
  its_name h = inside_same (definitions cs) count 0 (last_token cs) (one_more h) ∙ sym c.at

  pub room_left : (count ≡ most_definitions → ⊥) → count < length (definitions_in words)
  room_left other = omega (arith, table_counted words, c.long, c.few)

  -- the definition at d is stored
  pub collecting_more : d < last_token cs → (count ≡ most_definitions → ⊥) → (e : ℕ) → e ≡ definition_end cs d → (next : List ℕ)
      → Stored words count (outlined d (fields_of cs d e)) next → (following : ℕ) → following ≡ first (begins cs) e (last_token cs)
      → Collecting cs next (count + 1) following
  unfolding definitions
  collecting_more h other e is next stored following begun = record {
    long = stored.as_long ∙ c.long;
    few = omega (arith, c.few);
    within = omega (arith, one_more h);
    at = begun ∙ ap (λ (x : ℕ). first (begins cs) x (last_token cs)) is ∙ next_from_end cs d h ∙ at;
    held = λ j l. held j l (ℕ_discrete j count);
  }
    where
      at : first (begins cs) (d + 1) (last_token cs) ≡ get_or (definitions cs) (count + 1) (last_token cs)
      at =
          rw (add-one d, add-one count, ← its_name h)
          (sym (next_hit (begins cs) 0 (last_token cs) count (omega arith) (one_more h)))

      stored_at : (j : ℕ) → entry (definitions_in next) j ≡ entry (set (definitions_in words) count (outlined d (fields_of cs d e))) j
      stored_at j = ap (λ (ds : List Definition). entry ds j) stored.held

      held : (j : ℕ) → j < count + 1 → Dec (j ≡ count) → entry (definitions_in next) j ≡ outlined_at cs (get_or (definitions cs) j 0)
      held j l (yes same) =
          stored_at j ∙ ap (entry (set (definitions_in words) count (outlined d (fields_of cs d e)))) same
          ∙ get_or-set_same (definitions_in words) count (outlined d (fields_of cs d e)) absent (room_left other)
          ∙ ap (λ (x : ℕ). outlined d (fields_of cs d x)) is ∙ sym (ap (λ (x : ℕ). outlined_at cs (get_or (definitions cs) x 0)) same ∙ ap (outlined_at cs) (its_name h))
      held j l (no q) =
          stored_at j ∙ get_or-set_other (definitions_in words) count j (outlined d (fields_of cs d e)) absent q ∙ c.held j (omega arith)

  -- at the last token all are stored
  pub all_stored : last_token cs ≤ d → count ≡ length (definitions cs)
  unfolding definitions
  all_stored h = go (dec_lt count (length (definitions cs)))
    where
      go : Dec (count < length (definitions cs)) → count ≡ length (definitions cs)
      go (yes l) =
          absurd (omega (arith, c.at, inside_same (definitions cs) count 0 (last_token cs) l, (hit_inside (begins cs) 0 (last_token cs) count l).1))
      go (no l) = omega (arith, c.within)

  pub collecting_end : last_token cs ≤ d → definitions_in (take (count * width) words) ≡ outline cs
  collecting_end h =
      let room : count * width ≤ length words = omega (arith, c.long, c.few) in
      ext_get_or absent (definitions_in (take (count * width) words)) (outline cs)
      (taken_counted words count room ∙ all_stored h ∙ sym (outline_counted cs))
      (λ k l.
      let m : k < count = omega (arith, taken_counted words count room) in
      taken_entry words count room k m ∙ c.held k m ∙ sym (outline_entry cs k (omega (arith, all_stored h))))
