-- The laws that say a search in plain words.
-- Assumes nothing.
use mathlib.Core.Path.{◌≡◌, refl, sym, ap, ◌∙◌}
use mathlib.Core.Logic.{◌↔◌}
use mathlib.Core.Bool.{Bool, true, false, cond}
use mathlib.Core.List.{List}
use Prim.Native.Nat.{ℕ, ◌≤◌, ◌<◌}
use native.Mathlib.Decide.{dec_lt}
use native.Mathlib.Omega.{arith}
use lib.Dec.{ltb}
use lib.ListN.{length, length-map, get_or-eq_default}
use borrow.Author.Tests.{ltb-true}
use Rattle.index.specs.First.{any}
use Rattle.index.proofs.Search.{true_false, answers, any_at, first_holds}
use Rattle.index.proofs.Hits.{hit_holds, hit_inside, hits_rise}
use Rattle.lexicon.specs.Word.{same}
use Rattle.lexicon.proofs.Words.{same_equal}
use Rattle.token.specs.Token.{Meaning}
use Rattle.symbol.specs.Symbol.{iso_name, symbol_of, symbol_count, symbols, symbol, no_symbol, what_is, numbers, numbers_of}
use Rattle.definition.specs.Landmark.{begins, last_token, definitions}
use Rattle.module_table.specs.Module.{Module, at}
use Rattle.module_table.specs.declared.Lead.{Lead}
use Rattle.module_table.specs.declared.Lead.TheVariants.{Iso, Import, Definition, Nothing}
use Rattle.scope.specs.Token.{classes_of, spelled}
use Rattle.scope.specs.Import.{imports_end, is_import, offered}
use Rattle.scope.specs.Held.{AllOffered}
use Rattle.scope.proofs.Leads.{import_offered}
use Rattle.scope.specs.Lead.{introduces, imports_name, is_imported, is_offered, defines_name, defined_as, leads_to}
use Rattle.scope.proofs.Imports.{end_inside, import_before}
use Rattle.oid_head.specs.Oid.{HasOid, of_symbol}
use Rattle.oid_head.proofs.Meaning.{oid_reaches, reaches_oid}
use Rattle.oid_head.proofs.Unreached.{broken_never, never_broken}
use Rattle.clause_table.specs.Clause.{has_one_row}
use Rattle.clause_table.proofs.OneRow.{exactly_one, one_is_all}
use Rattle.statements.specs.Breach.{definition_count, name_token, Offers, OneRow, ModuleBreach, iso_introduced, introduced_twice, unoffered}
use Rattle.statements.specs.Searches.{Imported, Named, LeadsPlainly, Searches}
use Rattle.statements.proofs.Tests.{both, joined, left, right, never, found}
use Rattle.statements.proofs.NameBreaches.{spelled_same, offers_is, is_offers}
use Rattle.statements.proofs.Parents.{parents}
use Rattle.statements.proofs.TableBreaches.{row_of_type, of_type}

-- ---- what a name leads to

module _ (ms : List Meaning) (kept : (i : ℕ) → ModuleBreach ms 9 i → ⊥) (offering : (i : ℕ) → ModuleBreach ms 10 i → ⊥) where
  counted : length (classes_of ms) ≡ length ms
  counted = length-map ms (λ (m : Meaning). m.class)

  -- each import is offered
  all_offered : AllOffered ms
  all_offered i own =
      answers (offered ms i) (λ e. e)
      (λ f. absurd (offering i (unoffered (import_before (classes_of ms) i own) own (λ x. never f (offers_is ms i x)))))

  -- an imported symbol introduces its name, and so does a definition
  import_introduces : (i : ℕ) → is_import (classes_of ms) i ≡ true → (introduces (classes_of ms) i ≡ true) × (i < length ms)
  unfolding introduces
  import_introduces i e = (left _ e, omega (arith, import_before (classes_of ms) i e, end_inside (classes_of ms), counted))

  name_introduces : (k : ℕ) → k < definition_count ms → (introduces (classes_of ms) (name_token ms k) ≡ true) × (name_token ms k < length ms)
  unfolding introduces definitions
  name_introduces k h = (
    right (is_import (classes_of ms) (name_token ms k)) (hit_holds (begins (classes_of ms)) 0 (last_token (classes_of ms)) k h),
    omega (arith, hit_inside (begins (classes_of ms)) 0 (last_token (classes_of ms)) k h, counted),
  )

  names_rise : (j k : ℕ) → j < k → k < definition_count ms → name_token ms j < name_token ms k
  unfolding definitions
  names_rise j k l h = hits_rise (begins (classes_of ms)) 0 (last_token (classes_of ms)) j k l h

  module _ (s : List ℕ) where
    import_not_iso : s ≡ iso_name → Imported ms s → ⊥
    import_not_iso iso x =
        let t = import_introduces x.0 x.1 in
        kept x.0 (iso_introduced t.1 t.0 (x.2 ∙ iso))

    named_not_iso : s ≡ iso_name → (k : ℕ) → Named ms s k → ⊥
    named_not_iso iso k x =
        let t = name_introduces k x.0 in
        kept (name_token ms k) (iso_introduced t.1 t.0 (x.1 ∙ iso))

    later_not : (j k : ℕ) → j < k → Named ms s j → Named ms s k → ⊥
    later_not j k l x y =
        let t = name_introduces j x.0 in
        let u = name_introduces k y.0 in
        kept (name_token ms k) (introduced_twice (name_token ms j) u.1 u.0 (names_rise j k l y.0) t.0 (x.1 ∙ sym y.1))

    one_named : (j k : ℕ) → Named ms s j → Named ms s k → j ≡ k
    one_named j k x y = go (dec_lt j k) (dec_lt k j)
      where
        go : Dec (j < k) → Dec (k < j) → j ≡ k
        go (yes l) d = absurd (later_not j k l x y)
        go (no l) (yes h) = absurd (later_not k j h y x)
        go (no l) (no h) = omega arith

    index_of : Lead → ℕ
    index_of Iso = 0
    index_of (Import k) = 0
    index_of (Definition d) = d.0
    index_of Nothing = 0

    -- the four ends of the search
    data Ends : Type 0 where
      at_iso : s ≡ iso_name → leads_to ms s ≡ Iso → Ends
      at_import : (s ≡ iso_name → ⊥) → Imported ms s → leads_to ms s ≡ Import (symbol_of s) → Ends
      at_definition : (k : ℕ) → (s ≡ iso_name → ⊥) → (Imported ms s → ⊥) → Named ms s k → leads_to ms s ≡ Definition (record { 0 = k }) → Ends
      at_nothing : (s ≡ iso_name → ⊥) → (Imported ms s → ⊥) → ((k : ℕ) → Named ms s k → ⊥) → leads_to ms s ≡ Nothing → Ends

    imported_is : is_imported ms s ≡ true → Imported ms s
    imported_is e =
        let f = found (imports_name ms s) 0 (imports_end (classes_of ms)) e in
        let x = both (is_import (classes_of ms) f.0) _ f.3 in
        (f.0, x.0, same_equal _ _ x.1)

    is_imported_by : Imported ms s → is_imported ms s ≡ true
    is_imported_by x =
        any_at (imports_name ms s) 0 (imports_end (classes_of ms)) x.0 (omega arith) (import_before (classes_of ms) x.0 x.1) (joined x.1 (spelled_same _ _ x.2))

    defined_is : any (defines_name ms s) 0 (definition_count ms) ≡ true → Named ms s (defined_as ms s)
    unfolding any
    defined_is e =
        let h = ltb-true (defined_as ms s) (definition_count ms) e in
        (h, same_equal _ _ (first_holds (defines_name ms s) 0 (definition_count ms) h (omega arith)))

    none_defined : any (defines_name ms s) 0 (definition_count ms) ≡ false → (k : ℕ) → Named ms s k → ⊥
    none_defined f k x = never f (any_at (defines_name ms s) 0 (definition_count ms) k (omega arith) x.0 (spelled_same _ _ x.1))

    ends : Ends
    unfolding leads_to any
    ends =
        answers (same s iso_name)
        (λ iso. at_iso (same_equal _ _ iso) (rw iso))
        (λ other.
        let not_iso : s ≡ iso_name → ⊥ = λ e. never other (spelled_same _ _ e) in
        answers (is_imported ms s)
        (λ some. at_import not_iso (imported_is some) (rw (other, some, import_offered ms s all_offered some)))
        (λ none.
        let not_imported : Imported ms s → ⊥ = λ x. never none (is_imported_by x) in
        answers (any (defines_name ms s) 0 (definition_count ms))
        (λ here. at_definition (defined_as ms s) not_iso not_imported (defined_is here) (rw (other, none, here)))
        (λ nowhere. at_nothing not_iso not_imported (none_defined nowhere) (rw (other, none, nowhere)))))

    plainly : LeadsPlainly ms s
    unfolding index_of
    plainly = of ends
      where
        of : Ends → LeadsPlainly ms s
        of (at_iso iso is) = record {
          to_iso = (λ e. iso, λ e. is);
          to_import = λ k. (λ e. let z : ◌≡◌ {A = ℕ} 0 1 = cc in absurd (omega arith), λ x. absurd (import_not_iso iso x.0));
          to_definition = λ k. (λ e. let z : ◌≡◌ {A = ℕ} 0 1 = cc in absurd (omega arith), λ x. absurd (named_not_iso iso k x.0));
          to_nothing = (λ e. let z : ◌≡◌ {A = ℕ} 0 1 = cc in absurd (omega arith), λ x. absurd (x.0 iso));
        }
        of (at_import other some is) = record {
          to_iso = (λ e. let z : ◌≡◌ {A = ℕ} 0 1 = cc in absurd (omega arith), λ e. absurd (other e));
          to_import = λ k. (λ e. let same : symbol_of s ≡ k = cc in (some, same), λ x. is ∙ ap Import x.1);
          to_definition = λ k. (λ e. let z : ◌≡◌ {A = ℕ} 0 1 = cc in absurd (omega arith), λ x. absurd (x.1 some));
          to_nothing = (λ e. let z : ◌≡◌ {A = ℕ} 0 1 = cc in absurd (omega arith), λ x. absurd (x.1 some));
        }
        of (at_definition d other none here is) = record {
          to_iso = (λ e. let z : ◌≡◌ {A = ℕ} 0 1 = cc in absurd (omega arith), λ e. absurd (other e));
          to_import = λ k. (λ e. let z : ◌≡◌ {A = ℕ} 0 1 = cc in absurd (omega arith), λ x. absurd (none x.0));
          to_definition = λ k. (
            λ e. let same : d ≡ k = ap index_of (sym is ∙ e) in (rw same at here, none),
            λ x. let same : d ≡ k = one_named d k here x.0 in is ∙ ap (λ (j : ℕ). Definition (record { 0 = j })) same,
          );
          to_nothing = (λ e. let z : ◌≡◌ {A = ℕ} 0 1 = cc in absurd (omega arith), λ x. absurd (x.2 d here));
        }
        of (at_nothing other none nowhere is) = record {
          to_iso = (λ e. let z : ◌≡◌ {A = ℕ} 0 1 = cc in absurd (omega arith), λ e. absurd (other e));
          to_import = λ k. (λ e. let z : ◌≡◌ {A = ℕ} 0 1 = cc in absurd (omega arith), λ x. absurd (none x.0));
          to_definition = λ k. (λ e. let z : ◌≡◌ {A = ℕ} 0 1 = cc in absurd (omega arith), λ x. absurd (nowhere k x.0));
          to_nothing = (λ e. (other, none, nowhere), λ x. is);
        }

-- a name that leads to a symbol is imported from a module that offers it
offered_lead : (ms : List Meaning) (s : List ℕ) (k : ℕ) → leads_to ms s ≡ Import k
    → (i : ℕ) × (is_import (classes_of ms) i ≡ true) × (spelled ms i ≡ s) × Offers ms i
unfolding leads_to
offered_lead ms s k e = go (same s iso_name) (is_imported ms s) (is_offered ms s) refl (ltb (defined_as ms s) (definition_count ms)) e
  where
    go : (a b o : Bool) → is_offered ms s ≡ o → (c : Bool)
        → cond a Iso (cond b (cond o (Import (symbol_of s)) Nothing) (cond c (Definition (record { 0 = defined_as ms s })) Nothing)) ≡ Import k
        → (i : ℕ) × (is_import (classes_of ms) i ≡ true) × (spelled ms i ≡ s) × Offers ms i
    go true b o is c e = let z : ◌≡◌ {A = ℕ} 0 1 = cc in absurd (omega arith)
    go false true true is c e =
        let f = found _ 0 (imports_end (classes_of ms)) is in
        let x = both (imports_name ms s f.0) _ f.3 in
        let y = both (is_import (classes_of ms) f.0) _ x.0 in
        (f.0, y.0, same_equal _ _ y.1, is_offers ms f.0 x.1)
    go false true false is c e = let z : ◌≡◌ {A = ℕ} 0 1 = cc in absurd (omega arith)
    go false false o is true e = let z : ◌≡◌ {A = ℕ} 0 1 = cc in absurd (omega arith)
    go false false o is false e = let z : ◌≡◌ {A = ℕ} 0 1 = cc in absurd (omega arith)

-- ---- exactly one row

one_row : (m : Module) (type : ℕ) → (has_one_row m.definitions type ≡ true) ↔ ((r : ℕ) × OneRow m type r)
one_row m type = (
  λ e.
      let x = exactly_one m.definitions type e in
      (_, record { inside = x.0; is_one = row_of_type m 0 type _ x.1; only = λ s h is of. x.2 s h (of_type m 0 type s is of) }),
  λ x.
      let one = x.1 in
      (one_is_all m.definitions type x.0 one.inside (of_type m 0 type _ one.is_one.0 one.is_one.1)
      (λ s h e. let y = row_of_type m 0 type s e in one.only s h y.0 y.1)).0,
)

-- ---- an import that is no built-in symbol

no_symbol_oid : (m : Module) (k : ℕ) (oid : List ℕ) → symbol_count ≤ k → HasOid m (Import k) oid → ⊥
unfolding numbers_of what_is symbol numbers no_symbol symbols
no_symbol_oid m k oid h (of_symbol j has) = true_false has (rw (get_or-eq_default symbols no_symbol {n = j} (omega arith)))

pub searches : Searches
searches = record {
  one_row = one_row;
  parents = parents;
  never_reached = λ m k. (broken_never m k, λ x. never_broken m k x.0 x.1);
  has_oid = λ m l. (λ x. oid_reaches m x.1, reaches_oid m l);
  no_symbol = no_symbol_oid;
  offered = offered_lead;
  leads = plainly;
}
