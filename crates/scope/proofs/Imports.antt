-- Where imports stand, that what introduces a name is one, and which symbols a module offers.
-- Assumes nothing.
use mathlib.Core.Path.{◌≡◌, refl, sym, ap, ◌∙◌}
use mathlib.Core.Bool.{Bool, true, false, cond, not, ◌&&◌, ◌||◌}
use mathlib.Core.List.{List, []}
use Prim.Native.Nat.{ℕ, suc, ◌+◌, ◌-◌, ◌≤◌, ◌<◌, min}
use native.Mathlib.Decide.{dec_lt}
use native.Mathlib.Numerals.{add-one}
use native.Mathlib.Omega.{arith}
use lib.Dec.{T, eqb, leb, ltb}
use lib.ListN.{length, get_or-eq_default}
use borrow.Author.Tests.{eqb-true, leb-true, leb-false, ltb-true, le-leb, lt-ltb, le-ltb}
use Rattle.index.proofs.Search.{first_inside}
use Rattle.index.proofs.Tested.{passes, tested}
use Rattle.terminal.specs.Terminal.{lower, Upper, current, assign, semicolon, FROM, IDENTIFIER, IMPORTS, MODULE-IDENTITY, NOTIFICATION-TYPE, OBJECT, OBJECT-IDENTITY, OBJECT-TYPE, TEXTUAL-CONVENTION}
use Rattle.lexicon.specs.Word.{bytes, same, is_name}
use Rattle.token.specs.Token.{Meaning, meaning, spelling_of, no_meaning}
use Rattle.symbol.specs.Symbol.{symbol_of, symbol_count, symbol_names, symbols, symbol, of_smi, of_tc, module_name, modules}
use Rattle.symbol.proofs.Symbols.{counted}
use Rattle.name_tree.proofs.Both.{both_first, both_second}
use Rattle.definition.specs.Landmark.{class_at, is_lower, is_defining, is_macro, before_object_identifier, begins}
use Rattle.definition.specs.Fields.{find}
use Rattle.scope.specs.Token.{classes_of, spelled}
use Rattle.scope.specs.Import.{imports_start, imports_end, can_be_imported, is_symbol, is_import, source, offered}
use Rattle.scope.specs.Lead.{introduces}

-- one of two tests holds
pub either : {P : Type 0} (a b : Bool) → (a || b) ≡ true → (a ≡ true → P) → (b ≡ true → P) → P
either true b e f g = f refl
either false b e f g = g e

-- ---- where the imports end

module _ (cs : List ℕ) where
  pub end_inside : imports_end cs ≤ length cs
  unfolding imports_end
  end_inside = go (eqb (class_at cs (imports_start - 1)) IMPORTS) refl
    where
      word_there : class_at cs (imports_start - 1) ≡ IMPORTS → imports_start ≤ length cs
      word_there e = by (leb imports_start (length cs)) refl
        where
          by : (b : Bool) → leb imports_start (length cs) ≡ b → imports_start ≤ length cs
          by true q = leb-true imports_start (length cs) q
          by false q =
              let short : length cs ≤ imports_start - 1 = short_of q in
              absurd (omega (arith, e, get_or-eq_default cs 0 short))
            where
              short_of : leb imports_start (length cs) ≡ false → length cs ≤ imports_start - 1
              short_of q = omega (arith, leb-false imports_start (length cs) q)

      go : (b : Bool) → eqb (class_at cs (imports_start - 1)) IMPORTS ≡ b
          → cond b (find cs semicolon imports_start (length cs)) (min imports_start (length cs)) ≤ length cs
      go true e =
          (first_inside (λ (i : ℕ). eqb (class_at cs i) semicolon) imports_start (length cs)
          (word_there (eqb-true (class_at cs (imports_start - 1)) IMPORTS e))).1
      go false e = omega arith

  -- an import stands before it
  pub import_before : (i : ℕ) → is_import cs i ≡ true → i < imports_end cs
  unfolding is_import
  import_before i e =
      ltb-true i (imports_end cs) (both_second (leb imports_start i) _ (both_first (leb imports_start i && ltb i (imports_end cs)) _ e))

-- ---- what introduces a name is a name

lower_named : (class : ℕ) → is_lower class ≡ true → lower ≤ class
lower_named class e =
    either (eqb class lower) _ e (λ q. omega (arith, eqb-true class lower q))
    (λ q. omega (arith, leb-true current class (both_first (leb current class) _ q)))

defining_named : (class : ℕ) → is_defining class ≡ true → lower ≤ class
unfolding is_defining
defining_named class e =
    either (eqb class MODULE-IDENTITY || eqb class OBJECT-IDENTITY || eqb class OBJECT-TYPE) _ e
    (λ e₁.
    either (eqb class MODULE-IDENTITY || eqb class OBJECT-IDENTITY) _ e₁
    (λ e₂.
    either (eqb class MODULE-IDENTITY) _ e₂ (λ q. omega (arith, eqb-true class MODULE-IDENTITY q))
    (λ q. omega (arith, eqb-true class OBJECT-IDENTITY q)))
    (λ q. omega (arith, eqb-true class OBJECT-TYPE q)))
    (λ q. omega (arith, eqb-true class NOTIFICATION-TYPE q))

macro_named : (class : ℕ) → is_macro class ≡ true → lower ≤ class
unfolding is_macro
macro_named class e =
    either (is_defining class) _ e (defining_named class) (λ q. omega (arith, eqb-true class TEXTUAL-CONVENTION q))

module _ (cs : List ℕ) (i : ℕ) where
  pub import_named : is_import cs i ≡ true → is_name (class_at cs i) ≡ true
  unfolding is_import is_symbol can_be_imported
  import_named e =
      le-leb lower (class_at cs i)
      (either (eqb (class_at cs i) Upper || is_lower (class_at cs i)) _ (both_second (not (eqb (class_at cs (i - 1)) FROM)) _ (both_second (leb imports_start i && ltb i (imports_end cs)) _ e))
      (λ e₁. either (eqb (class_at cs i) Upper) _ e₁ (λ q. omega (arith, eqb-true (class_at cs i) Upper q)) (lower_named (class_at cs i)))
      (macro_named (class_at cs i)))

  pub begins_named : begins cs i ≡ true → is_name (class_at cs i) ≡ true
  unfolding begins
  begins_named e =
      le-leb lower (class_at cs i)
      (either (is_lower (class_at cs i) && (is_defining (class_at cs (i + 1)) || before_object_identifier cs i)) _ e
      (λ q. lower_named (class_at cs i) (both_first (is_lower (class_at cs i)) _ q))
      (λ q. omega (arith, eqb-true (class_at cs i) Upper (both_first (eqb (class_at cs i) Upper) _ q))))

  -- a definition's name is not the last token
  pub begins_inside : begins cs i ≡ true → i + 1 < length cs
  unfolding begins before_object_identifier
  begins_inside e = go (dec_lt (i + 1) (length cs))
    where
      next : ℕ
      next = class_at cs (i + 1)

      some : 0 < class_at cs (i + 1)
      some =
          either (is_lower (class_at cs i) && (is_defining next || before_object_identifier cs i)) _ e
          (λ q.
          either (is_defining next) _ (both_second (is_lower (class_at cs i)) _ q)
          (λ d. omega (arith, defining_named next d))
          (λ b. omega (arith, eqb-true next OBJECT (both_first (eqb next OBJECT) _ (both_first (eqb next OBJECT && eqb (class_at cs (i + 2)) IDENTIFIER) _ b)))))
          (λ q. omega (arith, eqb-true next assign (both_second (eqb (class_at cs i) Upper) _ q)))

      go : Dec (i + 1 < length cs) → i + 1 < length cs
      go (yes h) = h
      go (no h) = absurd (omega (arith, some, get_or-eq_default cs 0 {n = i + 1} (omega arith)))

  pub introduces_named : introduces cs i ≡ true → is_name (class_at cs i) ≡ true
  unfolding introduces
  introduces_named e = either (is_import cs i) _ e import_named begins_named

-- ---- what a module offers

-- past the last token there is no name
pub no_name : (ms : List Meaning) (i : ℕ) → length ms ≤ i → spelled ms i ≡ []
unfolding meaning spelling_of
no_name ms i h = ap (λ (m : Meaning). m.spelling) (get_or-eq_default ms no_meaning h)

-- each symbol's module has a name
has_module : ℕ → List ℕ → Bool
has_module k name = not (same [] (module_name k))

all_have : T (passes has_module 0 symbol_names)
unfolding has_module symbol_names symbols symbol of_smi of_tc module_name modules bytes same
all_have = tt

module_named : (k : ℕ) → k < symbol_count → same [] (module_name k) ≡ false
unfolding has_module
module_named k h = not_held (same [] (module_name k)) (tested has_module [] symbol_names all_have k (rw counted h))
  where
    not_held : (b : Bool) → T (not b) → b ≡ false
    not_held true t = absurd t
    not_held false t = refl

module _ (ms : List Meaning) (i k : ℕ) (is : k ≡ symbol_of (spelled ms i)) where
  pub no_symbol_offered : symbol_count ≤ k → false ≡ offered ms i
  unfolding offered
  no_symbol_offered h = rw (← is) (simp (le-ltb k symbol_count h))

  module _ (known : k < symbol_count) (at : ℕ) (stands : at ≡ source (classes_of ms) i) where
    pub module_offered : (r : Bool) → r ≡ same (spelled ms at) (module_name k) → r ≡ offered ms i
    unfolding offered
    module_offered r q = rw (← is, ← stands) (simp (lt-ltb k symbol_count known) q)

    -- no module has the empty name
    pub no_module_offered : length ms ≤ at → false ≡ offered ms i
    no_module_offered h = module_offered false (sym (ap (λ (s : List ℕ). same s (module_name k)) (no_name ms at h) ∙ module_named k known))

-- the module after FROM
pub source_is : (cs : List ℕ) (i at : ℕ) → at ≡ find cs FROM i (length cs) → at + 1 ≡ source cs i
unfolding source
source_is cs i at is = rw add-one (ap suc is)

pub source_inside : (cs : List ℕ) (i at : ℕ) → i ≤ length cs → at ≡ find cs FROM i (length cs) → at ≤ length cs
source_inside cs i at h is = omega (arith, is, first_inside (λ (j : ℕ). eqb (class_at cs j) FROM) i (length cs) h)
