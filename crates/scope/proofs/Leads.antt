-- The look-up of a name among the imports and the definitions.
-- Assumes nothing.
use mathlib.Core.Path.{◌≡◌, refl, sym, ap, ◌∙◌}
use mathlib.Core.Bool.{Bool, true, false, cond, ◌&&◌}
use mathlib.Core.List.{List, []}
use Prim.Native.Nat.{ℕ, ◌+◌, ◌≤◌, ◌<◌}
use native.Mathlib.Omega.{arith}
use lib.ListN.{length, get_or}
use borrow.Author.Tests.{lt-ltb, le-ltb}
use Rattle.index.specs.First.{first, any}
use Rattle.index.proofs.Search.{answers, first_inside, first_holds, first_is, any_at, any_index}
use Rattle.index.proofs.Hits.{hit_inside, hit_holds}
use Rattle.lexicon.specs.Word.{same, is_name}
use Rattle.lexicon.proofs.Words.{same_equal}
use Rattle.token.specs.Token.{Meaning}
use Rattle.symbol.specs.Symbol.{iso_name, symbol_of, symbol_count, symbol_names}
use Rattle.definition.specs.Landmark.{class_at, begins, last_token, definitions}
use Rattle.module_table.specs.Definition.{definitions_in, entry}
use Rattle.module_table.specs.Lead.{lead_in, word_of}
use Rattle.module_table.specs.declared.Lead.TheVariants.{Import, Definition, Nothing}
use Rattle.module_table.proofs.Words.{word_read}
use Rattle.outline.specs.Outline.{outline}
use Rattle.outline.proofs.Outline.{outline_counted, outline_entry}
use Rattle.name_tree.proofs.Both.{both_first, both_second}
use Rattle.token.specs.Cut.{meanings_in}
use Rattle.name_tree.specs.Tree.{Placed, part_at}
use Rattle.scope.specs.Token.{classes_of, spelled, TokensHeld}
use Rattle.scope.specs.Import.{imports_end, is_import, offered}
use Rattle.scope.specs.Lead.{imports_name, is_imported, is_offered, defines_name, defined_as, leads_to}
use Rattle.scope.specs.Held.{import_word, found_word, AllOffered, Distinct}
use Rattle.scope.proofs.Imports.{end_inside, import_before, import_named, begins_named}
use Rattle.scope.proofs.Tokens.{placed, placed_name}

-- ---- the imports

-- a value of 0 is no symbol's
pub no_import : (ms : List Meaning) (i : ℕ) → import_word ms i ≡ 0 → is_import (classes_of ms) i ≡ false
no_import ms i = go (is_import (classes_of ms) i)
  where
    go : (b : Bool) → cond b (word_of (Import (symbol_of (spelled ms i)))) 0 ≡ 0 → b ≡ false
    go true e = absurd (omega arith)
    go false e = refl

pub some_import : (ms : List Meaning) (i : ℕ) → (import_word ms i ≡ 0 → ⊥) → is_import (classes_of ms) i ≡ true
some_import ms i = go (is_import (classes_of ms) i)
  where
    go : (b : Bool) → (cond b (word_of (Import (symbol_of (spelled ms i)))) 0 ≡ 0 → ⊥) → b ≡ true
    go true e = refl
    go false e = absurd (e refl)

module _ (ms : List Meaning) (s : List ℕ) where
  -- the import that is found says what the name leads to
  pub import_found : (i : ℕ) → i < imports_end (classes_of ms) → imports_name ms s i ≡ true → import_word ms i ≡ found_word ms s
  import_found i h e =
      let name : spelled ms i ≡ s = same_equal (spelled ms i) s (both_second (is_import (classes_of ms) i) _ e) in
      let there : is_imported ms s ≡ true = any_at (imports_name ms s) 0 (imports_end (classes_of ms)) i (omega arith) h e in
      let own : is_import (classes_of ms) i ≡ true = both_first (is_import (classes_of ms) i) _ e in
      rw (there, own, name)

  -- none is found
  pub none_found : imports_end (classes_of ms) ≡ first (imports_name ms s) 0 (imports_end (classes_of ms)) → 0 ≡ found_word ms s
  unfolding any
  none_found e = rw (← e) (simp (le-ltb (imports_end (classes_of ms)) (imports_end (classes_of ms)) (omega arith)))

  pub small : symbol_of s < 65536
  unfolding symbol_of
  small = omega (arith, first_inside (λ (k : ℕ). same s (get_or symbol_names k [])) 0 symbol_count (omega arith))

  -- an import is offered where all are
  pub import_offered : AllOffered ms → is_imported ms s ≡ true → is_offered ms s ≡ true
  import_offered offers e =
      let end = imports_end (classes_of ms) in
      let f = any_index (imports_name ms s) 0 end (omega arith) e in
      let own : offered ms f.0 ≡ true = offers f.0 (both_first (is_import (classes_of ms) f.0) _ f.3) in
      any_at (λ (i : ℕ). imports_name ms s i && offered ms i) 0 end f.0 f.1 f.2 (rw (f.3, own))

  -- ---- what the name leads to

  module _ (other : same s iso_name ≡ false) (word : ℕ) (is : word ≡ found_word ms s) where
    pub lead_import : AllOffered ms → (word ≡ 0 → ⊥) → lead_in word ≡ leads_to ms s
    unfolding leads_to
    lead_import offers some = go (is_imported ms s) refl
      where
        go : (b : Bool) → is_imported ms s ≡ b → lead_in word ≡ leads_to ms s
        go true e = simp (other, e, import_offered offers e) (rw (is, e) (word_read (Import (symbol_of s)) small))
        go false e = absurd (some (is ∙ rw e))

    module _ (none : word ≡ 0) where
      not_imported : is_imported ms s ≡ false
      not_imported = go (is_imported ms s) refl
        where
          go : (b : Bool) → is_imported ms s ≡ b → b ≡ false
          go true e = let z : 514 + symbol_of s ≡ 0 = sym (is ∙ rw e) ∙ none in absurd (omega arith)
          go false e = refl

      pub lead_definition : (d : ℕ) → d ≡ defined_as ms s → d < length (definitions (classes_of ms)) → Definition (record { 0 = d }) ≡ leads_to ms s
      unfolding leads_to
      lead_definition d at h =
          simp (other, not_imported) (rw (← at) (simp (lt-ltb d (length (definitions (classes_of ms))) h)))

      pub lead_nothing : (d : ℕ) → d ≡ defined_as ms s → length (definitions (classes_of ms)) ≤ d → Nothing ≡ leads_to ms s
      unfolding leads_to
      lead_nothing d at h =
          simp (other, not_imported) (rw (← at) (simp (le-ltb d (length (definitions (classes_of ms))) h)))

-- ---- the definitions

module _ (cs : List ℕ) (k : ℕ) (h : k < length (definitions cs)) where
  -- a definition's name is a token, and a name
  pub name_inside : get_or (definitions cs) k 0 < length cs
  unfolding definitions
  name_inside = omega (arith, hit_inside (begins cs) 0 (last_token cs) k h)

  pub name_named : is_name (class_at cs (get_or (definitions cs) k 0)) ≡ true
  unfolding definitions
  name_named = begins_named cs _ (hit_holds (begins cs) 0 (last_token cs) k h)

module _ (cs : List ℕ) (words : List ℕ) (held : definitions_in words ≡ outline cs) where
  pub defined_counted : length (definitions_in words) ≡ length (definitions cs)
  defined_counted = ap length held ∙ outline_counted cs

  pub name_read : (k : ℕ) → k < length (definitions cs) → (entry (definitions_in words) k).name.0 ≡ get_or (definitions cs) k 0
  name_read k h = rw (held, outline_entry cs k h)

-- ---- the one definition of a name, wherever the search for it starts

module _ (ms : List Meaning) (distinct : Distinct ms) (s : List ℕ) (from to k : ℕ) (at : k ≡ first (defines_name ms s) from to) where
  pub only_defined : k < to → from ≤ to → to ≤ length (definitions (classes_of ms)) → k ≡ defined_as ms s
  only_defined inside l h =
      let n = length (definitions (classes_of ms)) in
      let test = defines_name ms s in
      let holds : defines_name ms s k ≡ true = ap test at ∙ first_holds test from to (omega (arith, at)) l in
      sym (first_is test 0 n k (omega arith) (omega arith) holds
      (λ i p q. answers (test i) (λ e. absurd (omega (arith, distinct s i k (omega arith) (omega arith) e holds))) (λ e. e)))

-- ---- what the look-up compares: the names of tokens that introduce some, by where they stand

module _ (text starts ends : List ℕ) (t : TokensHeld text (classes_of (meanings_in text)) starts ends) (i : ℕ) where
  module _ (inside : i < length (classes_of (meanings_in text))) (name : is_name (class_at (classes_of (meanings_in text)) i) ≡ true) where
    pub compared : (s : List ℕ) (r : Bool) → r ≡ same (part_at text starts ends i) s → r ≡ same (spelled (meanings_in text) i) s
    compared s r e = e ∙ ap (λ (x : List ℕ). same x s) (sym (placed_name text (classes_of (meanings_in text)) starts ends t i inside name))

  module _ (own : is_import (classes_of (meanings_in text)) i ≡ true) where
    import_inside : i < length (classes_of (meanings_in text))
    import_inside = omega (arith, import_before (classes_of (meanings_in text)) i own, end_inside (classes_of (meanings_in text)))

    pub import_placed : Placed text starts ends i
    import_placed = placed text (classes_of (meanings_in text)) starts ends t i import_inside

    pub import_compared : (s : List ℕ) (r : Bool) → r ≡ same (part_at text starts ends i) s → r ≡ imports_name (meanings_in text) s i
    import_compared s r e = rw own (compared import_inside (import_named (classes_of (meanings_in text)) i own) s r e)
