-- A name that isn't known leads to nothing, and one that is leads somewhere, where all imports are offered; so what a name leads to tells
-- 41 from 42.
-- Assumes nothing.
use mathlib.Core.Path.{◌≡◌, refl, ap, ◌∙◌}
use mathlib.Core.Bool.{Bool, true, false, cond, ◌||◌}
use mathlib.Core.List.{List}
use Prim.Native.Nat.{ℕ, ◌<◌}
use native.Mathlib.Omega.{arith}
use lib.Dec.{ltb}
use lib.ListN.{length, get_or, length-map}
use borrow.Author.Tests.{lt-ltb, le-ltb}
use Rattle.index.specs.First.{first, any}
use Rattle.index.proofs.Search.{true_false, answers, first_end, any_at, any_index, any_first, any_none, none_any}
use Rattle.index.proofs.Hits.{hit_found, hit_inside, hit_holds}
use Rattle.lexicon.specs.Word.{same}
use Rattle.token.specs.Token.{Meaning}
use Rattle.symbol.specs.Symbol.{iso_name, symbol_of}
use Rattle.definition.specs.Landmark.{begins, last_token, definitions}
use Rattle.module_table.specs.declared.Lead.{Lead}
use Rattle.module_table.specs.declared.Lead.TheVariants.{Iso, Import, Definition, Nothing}
use Rattle.name_tree.proofs.Both.{both, both_first, both_second}
use Rattle.scope.specs.Token.{classes_of, spelled}
use Rattle.scope.specs.Import.{imports_end, is_import}
use Rattle.scope.specs.Lead.{introduces, imports_name, is_imported, is_offered, defines_name, defined_as, leads_to}
use Rattle.scope.specs.Held.{AllOffered}
use Rattle.scope.proofs.Imports.{either, end_inside, import_before, begins_inside}
use Rattle.scope.proofs.Leads.{import_offered}
use Rattle.naming.specs.Rules.{introduces_name, is_known, introducer}
use Rattle.naming.specs.Told.{lead_number}
use Rattle.naming.proofs.Twice.{or_second}

-- neither of two tests holds
neither : {P : Type 0} (a b : Bool) → (a || b) ≡ false → (a ≡ false → b ≡ false → P) → P
neither true b e f = absurd (true_false refl e)
neither false b e f = f refl e

-- a lead that is not nothing has the other number
some_number : (l : Lead) → (l ≡ Nothing → ⊥) → lead_number l ≡ 42
some_number Iso some = refl
some_number (Import k) some = refl
some_number (Definition r) some = refl
some_number Nothing some = absurd (some refl)

module _ (ms : List Meaning) (s : List ℕ) where
  abbrev cs : List ℕ
  cs = classes_of ms

  abbrev count : ℕ
  count = length (definitions (classes_of ms))

  counted : length (classes_of ms) ≡ length ms
  counted = length-map ms (λ (m : Meaning). m.class)

  -- what imports the name, and what defines it, introduces it
  import_introduces : (i : ℕ) → imports_name ms s i ≡ true → introduces_name ms s i ≡ true
  unfolding introduces
  import_introduces i e =
      let own = both_first (is_import cs i) _ e in
      both (introduces cs i) _ (rw own) (both_second (is_import cs i) _ e)

  definition_introduces : (k : ℕ) → k < count → defines_name ms s k ≡ true → introduces_name ms s (get_or (definitions cs) k 0) ≡ true
  unfolding introduces definitions
  definition_introduces k h e =
      let d = get_or (definitions cs) k 0 in
      both (introduces cs d) _ (or_second (is_import cs d) _ (hit_holds (begins cs) 0 (last_token cs) k h)) e

  name_inside : (k : ℕ) → k < count → get_or (definitions cs) k 0 < length ms
  unfolding definitions
  name_inside k h = omega (arith, hit_inside (begins cs) 0 (last_token cs) k h, counted)

  -- ---- a name that isn't known

  module _ (none : any (introduces_name ms s) 0 (length ms) ≡ false) where
    nowhere : (i : ℕ) → i < length ms → introduces_name ms s i ≡ true → ⊥
    nowhere i h e = true_false e (any_none (introduces_name ms s) 0 (length ms) i none (omega arith) h)

    not_imported : is_imported ms s ≡ false
    not_imported =
        none_any (imports_name ms s) 0 (imports_end cs) (omega arith)
        (λ i l h. answers (imports_name ms s i) (λ e. absurd (nowhere i (omega (arith, end_inside cs, counted)) (import_introduces i e))) (λ e. e))

    not_defined : defined_as ms s ≡ count
    not_defined =
        first_end (defines_name ms s) 0 count (omega arith)
        (λ k l h. answers (defines_name ms s k) (λ e. absurd (nowhere _ (name_inside k h) (definition_introduces k h e))) (λ e. e))

  pub unknown_nothing : is_known ms s ≡ false → leads_to ms s ≡ Nothing
  unfolding leads_to
  unknown_nothing e =
      neither (same s iso_name) _ e
      (λ other none. simp (other, not_imported none, le-ltb (defined_as ms s) count (omega (arith, not_defined none))))

  -- ---- a name that is

  -- what leads to nothing is neither `iso`, nor imported from a module that offers it, nor defined
  module _ (nothing : leads_to ms s ≡ Nothing) where
    record Nowhere : Type 0 where
      other : same s iso_name ≡ false
      unimported : is_imported ms s ≡ true → is_offered ms s ≡ true → ⊥
      undefined : is_imported ms s ≡ false → defined_as ms s < count → ⊥

    leads_nowhere : Nowhere
    unfolding leads_to
    leads_nowhere =
        go (same s iso_name) refl (is_imported ms s) refl (is_offered ms s) refl (ltb (defined_as ms s) count) refl nothing
      where
        go : (a : Bool) → same s iso_name ≡ a → (b : Bool) → is_imported ms s ≡ b → (o : Bool) → is_offered ms s ≡ o
            → (d : Bool) → ltb (defined_as ms s) count ≡ d
            → cond a Iso (cond b (cond o (Import (symbol_of s)) Nothing) (cond d (Definition (record { 0 = defined_as ms s })) Nothing)) ≡ Nothing
            → Nowhere
        go true p b q o r d t e = let z : ◌≡◌ {A = ℕ} 0 1 = cc in absurd (omega arith)
        go false p true q true r d t e = let z : ◌≡◌ {A = ℕ} 0 1 = cc in absurd (omega arith)
        go false p true q false r d t e =
            record { other = p; unimported = λ x y. true_false y r; undefined = λ x h. true_false q x }
        go false p false q o r true t e = let z : ◌≡◌ {A = ℕ} 0 1 = cc in absurd (omega arith)
        go false p false q o r false t e =
            record { other = p; unimported = λ x y. true_false x q; undefined = λ x h. true_false (lt-ltb _ _ h) t }

  module _ (offers : AllOffered ms) where
    -- a token that introduces it is an import or the name of a definition
    introduced_leads : (i : ℕ) → introduces_name ms s i ≡ true → leads_to ms s ≡ Nothing → ⊥
    unfolding introduces definitions
    introduced_leads i e nothing =
        let no = leads_nowhere nothing in
        let name = both_second (introduces cs i) _ e in
        let not_imported : is_imported ms s ≡ false =
        answers (is_imported ms s) (λ t. absurd (no.unimported t (import_offered ms s offers t))) (λ f. f) in
        either (is_import cs i) _ (both_first (introduces cs i) _ e)
        (λ own.
        true_false (any_at (imports_name ms s) 0 (imports_end cs) i (omega arith) (import_before cs i own) (both (is_import cs i) _ own name)) not_imported)
        (λ begun.
        let found = hit_found (begins cs) 0 (last_token cs) i (omega arith) (omega (arith, begins_inside cs i begun)) begun in
        no.undefined not_imported
        (any_first (defines_name ms s) 0 count
        (any_at (defines_name ms s) 0 count found.0 (omega arith) found.1 (ap (λ (d : ℕ). same (spelled ms d) s) found.2 ∙ name))))

    pub known_leads : is_known ms s ≡ true → leads_to ms s ≡ Nothing → ⊥
    known_leads e nothing =
        either (same s iso_name) _ e (λ iso. true_false iso (leads_nowhere nothing).other)
        (λ some. let f = any_index (introduces_name ms s) 0 (length ms) (omega arith) some in introduced_leads f.0 f.3 nothing)

    -- so the number of a use is told by what its name leads to
    pub known_number : lead_number (leads_to ms s) ≡ cond (is_known ms s) 42 41
    known_number =
        answers (is_known ms s)
        (λ e. some_number (leads_to ms s) (known_leads e) ∙ rw e)
        (λ e. ap lead_number (unknown_nothing e) ∙ rw e)

-- ---- the search for what introduces the name of token i

module _ (ms : List Meaning) (i : ℕ) where
  abbrev pub introduces_it : ℕ → Bool
  introduces_it = introduces_name ms (spelled ms i)

  pub introducer_found : (j : ℕ) → j < length ms → introduces_it j ≡ true → j ≡ first introduces_it 0 (length ms) → j ≡ introducer ms i
  introducer_found j h e is = rw (any_at introduces_it 0 (length ms) j (omega arith) h e) is

  pub introducer_none : length ms ≡ first introduces_it 0 (length ms) → i ≡ introducer ms i
  unfolding any
  introducer_none is = rw (← is) (simp (le-ltb (length ms) (length ms) (omega arith)))
