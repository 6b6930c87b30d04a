-- The rows 8 to 10, 41 and 42 are the rules on names.
-- Assumes nothing.
use mathlib.Core.Path.{◌≡◌, refl, sym, subst, ap, ◌∙◌}
use mathlib.Core.Logic.{◌⊎◌, ⊎_elim}
use mathlib.Core.Bool.{Bool, true, false, cond}
use mathlib.Core.List.{List, []}
use Prim.Native.Nat.{ℕ, ◌≤◌, ◌<◌}
use native.Mathlib.Omega.{arith}
use lib.ListN.{length, get_or}
use borrow.Author.Tests.{eqb-true, eq-eqb, ltb-true, lt-ltb, not-true}
use lib.Dec.{ltb}
use Rattle.lexicon.specs.Word.{same}
use Rattle.lexicon.proofs.Words.{same_equal, same_refl}
use Rattle.token.specs.Token.{Meaning}
use Rattle.symbol.specs.Symbol.{iso_name, symbol_names, symbol_count, symbol_of}
use Rattle.symbol.proofs.Symbols.{found_again}
use Rattle.module_table.specs.Module.{most_definitions}
use Rattle.outline.specs.Outline.{outline}
use Rattle.scope.specs.Token.{classes_of, spelled}
use Rattle.scope.specs.Import.{imports_end, is_import, offered}
use Rattle.scope.specs.Lead.{introduces, leads_to}
use Rattle.name_kind.specs.Need.{need_at}
use Rattle.name_kind.specs.Serve.{nothing_serves, serves}
use Rattle.name_kind.specs.declared.need.Need.{Need}
use Rattle.name_kind.specs.declared.need.Need.TheVariants.{NoName, Macro, TypeName, ObjectType, Head, Object, Sequence}
use Rattle.name_kind.proofs.Served.{no_name_needed}
use Rattle.index.proofs.Search.{any_at, first_holds}
use Rattle.naming.specs.Rules.{too_many, introduces_name, introduced_again, not_offered, is_known, is_unfit, use_number, unfit_use}
use Rattle.naming.proofs.Known.{unknown_nothing}
use Rattle.statements.specs.Breach.{definition_count, name_token, Offers, Known, iso_itself, introduced, ModuleBreach, definition_513, iso_introduced, introduced_twice, unoffered, unknown, other_kind}
use Rattle.statements.proofs.Tests.{both, joined, either, left, right, deny, fails, never, found}
use Rattle.statements.proofs.Ordered.{Broken, BrokenBy}

-- two spellings that are the same
pub spelled_same : (xs ys : List ℕ) → xs ≡ ys → same xs ys ≡ true
spelled_same xs ys e = subst (λ (z : List ℕ). same xs z ≡ true) e (same_refl xs)

-- what leads to nothing serves no need
nothing_serves_none : (need : Need) → (need ≡ NoName → ⊥) → nothing_serves need ≡ false
nothing_serves_none NoName some = absurd (some refl)
nothing_serves_none Macro some = refl
nothing_serves_none TypeName some = refl
nothing_serves_none ObjectType some = refl
nothing_serves_none Head some = refl
nothing_serves_none Object some = refl
nothing_serves_none Sequence some = refl

module _ (ms : List Meaning) where
  pub many_told : (k : ℕ) → Broken (too_many ms) k → ModuleBreach ms 8 ((too_many ms).place k)
  unfolding too_many
  many_told k b = let is : k ≡ most_definitions = eqb-true k most_definitions b.breaks in definition_513 b.below (omega arith)

  pub many_broken : (k : ℕ) → k < definition_count ms → k ≡ most_definitions → BrokenBy (too_many ms) (name_token ms k)
  unfolding too_many
  many_broken k h is = record {
    index = k;
    broken = record { from = omega arith; below = h; breaks = eq-eqb k most_definitions is };
    placed = refl;
  }

  pub again_told : (i : ℕ) → Broken (introduced_again ms) i → ModuleBreach ms 9 ((introduced_again ms).place i)
  unfolding introduced_again
  again_told i b =
      let two = both (introduces (classes_of ms) i) _ b.breaks in
      ⊎_elim
      (λ iso. iso_introduced b.below two.0 (same_equal _ _ iso))
      (λ earlier.
      let f = found (introduces_name ms (spelled ms i)) 0 i earlier in
      let x = both (introduces (classes_of ms) f.0) _ f.3 in
      introduced_twice f.0 b.below two.0 f.2 x.0 (same_equal _ _ x.1))
      (either _ _ two.1)

  pub iso_broken : (i : ℕ) → i < length ms → introduces (classes_of ms) i ≡ true → spelled ms i ≡ iso_name → BrokenBy (introduced_again ms) i
  unfolding introduced_again
  iso_broken i h e is = record {
    index = i;
    broken = record { from = omega arith; below = h; breaks = joined e (left _ (spelled_same _ _ is)) };
    placed = refl;
  }

  pub twice_broken : (i j : ℕ) → i < length ms → introduces (classes_of ms) i ≡ true → j < i → introduces (classes_of ms) j ≡ true
      → spelled ms j ≡ spelled ms i → BrokenBy (introduced_again ms) i
  unfolding introduced_again
  twice_broken i j h e l f is = record {
    index = i;
    broken = record {
      from = omega arith;
      below = h;
      breaks = joined e (right (same (spelled ms i) iso_name) (any_at (introduces_name ms (spelled ms i)) 0 i j (omega arith) l (joined f (spelled_same _ _ is))));
    };
    placed = refl;
  }

  pub offers_is : (i : ℕ) → Offers ms i → offered ms i ≡ true
  unfolding offered
  offers_is i x =
      let k = x.0 in
      let is : symbol_of (spelled ms i) ≡ k = ap symbol_of (sym x.2) ∙ found_again k x.1 in
      rw is (joined (lt-ltb k symbol_count x.1) (spelled_same _ _ (sym x.3)))

  pub is_offers : (i : ℕ) → offered ms i ≡ true → Offers ms i
  unfolding offered symbol_of
  is_offers i e =
      let two = both (ltb (symbol_of (spelled ms i)) symbol_count) _ e in
      let inside = ltb-true (symbol_of (spelled ms i)) symbol_count two.0 in (
        symbol_of (spelled ms i),
        inside,
        sym (same_equal _ _ (first_holds (λ (k : ℕ). same (spelled ms i) (get_or symbol_names k [])) 0 symbol_count inside (omega arith))),
        sym (same_equal _ _ two.1),
      )

  pub offer_told : (i : ℕ) → Broken (not_offered ms) i → ModuleBreach ms 10 ((not_offered ms).place i)
  unfolding not_offered
  offer_told i b = let two = both (is_import (classes_of ms) i) _ b.breaks in unoffered b.below two.0 (λ x. never (not-true _ two.1) (offers_is i x))

  pub offer_broken : (i : ℕ) → i < imports_end (classes_of ms) → is_import (classes_of ms) i ≡ true → (Offers ms i → ⊥) → BrokenBy (not_offered ms) i
  unfolding not_offered
  offer_broken i h e f = record {
    index = i;
    broken = record { from = omega arith; below = h; breaks = joined e (deny (fails _ (λ o. f (is_offers i o)))) };
    placed = refl;
  }

  -- a name is known, as the row and as the rule say it
  known_is : (s : List ℕ) → Known ms s → is_known ms s ≡ true
  known_is s (iso_itself is) = left _ (spelled_same _ _ is)
  known_is s (introduced j h e is) =
      right (same s iso_name) (any_at (introduces_name ms s) 0 (length ms) j (omega arith) h (joined e (spelled_same _ _ is)))

  is_known_told : (s : List ℕ) → is_known ms s ≡ true → Known ms s
  is_known_told s e =
      ⊎_elim (λ iso. iso_itself (same_equal _ _ iso))
      (λ some.
      let f = found (introduces_name ms s) 0 (length ms) some in
      let x = both (introduces (classes_of ms) f.0) _ f.3 in
      introduced f.0 f.2 x.0 (same_equal _ _ x.1))
      (either _ _ e)

  module _ (i : ℕ) (l : imports_end (classes_of ms) ≤ i) (h : i < length ms) where
    -- a use that isn't known in the kind needed breaks the row of its number
    use_row : is_unfit ms i ≡ true → (b : Bool) → is_known ms (spelled ms i) ≡ b → ModuleBreach ms (cond b 42 41) i
    unfolding is_unfit
    use_row e true known = other_kind l h (is_known_told _ known) (not-true _ e)
    use_row e false none =
        unknown l h
        (λ no_name.
        never (not-true _ e) (ap (serves (outline (classes_of ms)) (leads_to ms (spelled ms i))) no_name ∙ no_name_needed _ _))
        (λ known. never none (known_is _ known))

    pub use_told : (j : ℕ) → Broken (unfit_use ms i) j → ModuleBreach ms (unfit_use ms i).number ((unfit_use ms i).place j)
    unfolding unfit_use
    use_told j b =
        let same : i ≡ j = omega (arith, b.from, b.below) in
        subst (λ (k : ℕ). ModuleBreach ms (use_number ms i) k) same (use_row (ap (is_unfit ms) same ∙ b.breaks) (is_known ms (spelled ms i)) refl)

    -- and the rule of the token is broken where a row says so, with that number
    at_token : is_unfit ms i ≡ true → BrokenBy (unfit_use ms i) i
    unfolding unfit_use
    at_token e = record { index = i; broken = record { from = omega arith; below = omega arith; breaks = e }; placed = refl }

    pub unknown_broken : (need_at (classes_of ms) i ≡ NoName → ⊥) → (Known ms (spelled ms i) → ⊥)
        → BrokenBy (unfit_use ms i) i × ((unfit_use ms i).number ≡ 41)
    unfolding unfit_use is_unfit serves
    unknown_broken some none =
        let not_known : is_known ms (spelled ms i) ≡ false = fails _ (λ e. none (is_known_told _ e)) in
        (at_token (rw (unknown_nothing ms (spelled ms i) not_known) (deny (nothing_serves_none (need_at (classes_of ms) i) some))), rw not_known)

    pub kind_broken : Known ms (spelled ms i)
        → serves (outline (classes_of ms)) (leads_to ms (spelled ms i)) (need_at (classes_of ms) i) ≡ false
        → BrokenBy (unfit_use ms i) i × ((unfit_use ms i).number ≡ 42)
    unfolding unfit_use is_unfit
    kind_broken known f = (at_token (deny f), rw (known_is _ known))
