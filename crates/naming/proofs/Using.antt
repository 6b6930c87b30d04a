-- Refusals 41 and 42, and the values of tokens behind the imports: the loop that looks each use up.
-- Assumes nothing.
use mathlib.Core.Path.{◌≡◌, refl, sym, ap, ◌∙◌}
use mathlib.Core.Bool.{Bool, true, false, cond}
use mathlib.Core.List.{List}
use Prim.Native.Nat.{ℕ, ◌+◌, ◌≤◌, ◌<◌}
use native.Mathlib.Decide.{ℕ_discrete}
use native.Mathlib.Omega.{arith}
use lib.Dec.{ltb}
use lib.IntN.{nat_abs}
use lib.ListN.{length, get_or, set, take, length-set}
use lib.Seq.{get_or-set_same, get_or-set_other, get_or-take, length-take-le}
use borrow.Author.Tests.{le-leb, ltb-true}
use Rattle.index.proofs.Search.{answers}
use Rattle.rule.specs.Rule.{finding, judge_one, judge, each}
use Rattle.rule.proofs.Judged.{never_broken, broken_at}
use Rattle.rule.proofs.Each.{Asked, asked_next, asked_broken, asked_end}
use Rattle.lexicon.specs.Word.{same}
use Rattle.token.specs.Token.{Meaning}
use Rattle.token.specs.Cut.{said}
use Rattle.symbol.specs.Symbol.{iso_name, symbol_of}
use Rattle.definition.specs.Landmark.{definitions}
use Rattle.module_table.specs.Lead.{word_of, Small}
use Rattle.module_table.specs.Module.{most_definitions}
use Rattle.module_table.specs.declared.Lead.TheVariants.{Iso, Import, Definition, Nothing}
use Rattle.name_kind.specs.Need.{need_at}
use Rattle.name_kind.specs.declared.need.Need.{Need}
use Rattle.name_kind.specs.declared.need.Need.TheVariants.{NoName, Macro, TypeName, ObjectType, Head, Object, Sequence}
use Rattle.scope.specs.Token.{classes_of, spelled}
use Rattle.scope.specs.Import.{imports_end, is_import}
use Rattle.scope.specs.Lead.{is_imported, is_offered, defined_as, leads_to}
use Rattle.scope.specs.Held.{ImportsHeld}
use Rattle.scope.proofs.Imports.{import_before}
use Rattle.scope.proofs.Leads.{small}
use Rattle.naming.specs.Rules.{is_unfit, unfit_use, use_rules}
use Rattle.naming.specs.Values.{is_name_need, is_use, value_at}
use Rattle.naming.specs.Told.{Filled}
use Rattle.std.specs.Prelude.{Ok, Err}

-- a need that is no use of a name
pub no_need : (need : Need) → is_name_need need ≡ false → need ≡ NoName
no_need NoName e = refl
no_need Macro e = let z : ◌≡◌ {A = ℕ} 0 1 = cc in absurd (omega arith)
no_need TypeName e = let z : ◌≡◌ {A = ℕ} 0 1 = cc in absurd (omega arith)
no_need ObjectType e = let z : ◌≡◌ {A = ℕ} 0 1 = cc in absurd (omega arith)
no_need Head e = let z : ◌≡◌ {A = ℕ} 0 1 = cc in absurd (omega arith)
no_need Object e = let z : ◌≡◌ {A = ℕ} 0 1 = cc in absurd (omega arith)
no_need Sequence e = let z : ◌≡◌ {A = ℕ} 0 1 = cc in absurd (omega arith)

-- ---- the value of a token behind the imports

module _ (ms : List Meaning) (i : ℕ) (after : imports_end (classes_of ms) ≤ i) where
  no_import : is_import (classes_of ms) i ≡ false
  no_import = answers (is_import (classes_of ms) i) (λ e. absurd (omega (arith, import_before (classes_of ms) i e))) (λ e. e)

  pub use_value : is_name_need (need_at (classes_of ms) i) ≡ true → word_of (leads_to ms (spelled ms i)) ≡ value_at ms i
  unfolding is_use
  use_value e = rw (no_import, le-leb (imports_end (classes_of ms)) i after, e)

  pub other_value : is_name_need (need_at (classes_of ms) i) ≡ false → nat_abs (said ms i).value ≡ value_at ms i
  unfolding is_use
  other_value e = rw (no_import, le-leb (imports_end (classes_of ms)) i after, e)

-- there is a word for what a name leads to
pub lead_small : (ms : List Meaning) (s : List ℕ) → length (definitions (classes_of ms)) ≤ most_definitions → Small (leads_to ms s)
unfolding leads_to
lead_small ms s few = go (same s iso_name) (is_imported ms s) (is_offered ms s) (ltb (defined_as ms s) (length (definitions (classes_of ms)))) refl
  where
    go : (a b o c : Bool) → ltb (defined_as ms s) (length (definitions (classes_of ms))) ≡ c
        → Small (cond a Iso (cond b (cond o (Import (symbol_of s)) Nothing) (cond c (Definition (record { 0 = defined_as ms s })) Nothing)))
    go true b o c e = tt
    go false true true c e = small ms s
    go false true false c e = tt
    go false false o true e = omega (arith, ltb-true (defined_as ms s) (length (definitions (classes_of ms))) e)
    go false false o false e = tt

-- ---- the loop

-- it is at token i: each use that it passed is known in the kind needed, and each token that it passed has its value
pub record Using (ms : List Meaning) (old : List ℕ) (i : ℕ) (values : List ℕ) : Type 0 where
  pub from : imports_end (classes_of ms) ≤ i
  pub inside : i ≤ length ms
  pub long : length values ≡ length old
  pub asked : Asked (unfit_use ms) (imports_end (classes_of ms)) (length ms) i
  pub before : (j : ℕ) → j < imports_end (classes_of ms) → get_or values j 0 ≡ get_or old j 0
  pub behind : (j : ℕ) → imports_end (classes_of ms) ≤ j → j < i → get_or values j 0 ≡ value_at ms j

pub using_start : (ms : List Meaning) (old : List ℕ) (i : ℕ) → i ≡ imports_end (classes_of ms) → i ≤ length ms → Using ms old i old
using_start ms old i is h = record {
  from = omega arith;
  inside = h;
  long = refl;
  asked = ap (λ (a : ℕ). judge (each (unfit_use ms) a (length ms))) is;
  before = λ j l. refl;
  behind = λ j l m. absurd (omega arith);
}

module _ (ms : List Meaning) (old : List ℕ) (i : ℕ) (values : List ℕ) (u : Using ms old i values) where
  -- the values of the imports are as they were
  pub imports_still : imports_end (classes_of ms) ≤ length old → ImportsHeld ms (take (imports_end (classes_of ms)) old) → ImportsHeld ms (take (imports_end (classes_of ms)) values)
  imports_still room held =
      let end = imports_end (classes_of ms) in
      let long : length (take (imports_end (classes_of ms)) values) ≡ imports_end (classes_of ms) =
      length-take-le (imports_end (classes_of ms)) values (omega (arith, u.long)) in
      let old-long : length (take (imports_end (classes_of ms)) old) ≡ imports_end (classes_of ms) =
      length-take-le (imports_end (classes_of ms)) old room in
      record {
        offers = held.offers;
        counted = long;
        held = λ j h.
            let l : j < imports_end (classes_of ms) = omega arith in
            get_or-take end values j 0 l ∙ u.before j l ∙ sym (get_or-take end old j 0 l) ∙ held.held j (omega arith);
      }

  module _ (h : i < length ms) where
    use_kept : is_unfit ms i ≡ false → Ok tt ≡ judge_one (unfit_use ms i)
    unfolding unfit_use
    use_kept e = never_broken (unfit_use ms i) (λ j l m. let same : j ≡ i = omega arith in ap (is_unfit ms) same ∙ e)

    use_broken : is_unfit ms i ≡ true → Err (finding (unfit_use ms i) i) ≡ judge_one (unfit_use ms i)
    unfolding unfit_use
    use_broken e =
        broken_at (unfit_use ms i) (finding (unfit_use ms i) i)
        (record {
          index = i;
          inside = (omega arith, omega arith);
          found = refl;
          breaks = e;
          none_before = λ j l m. absurd (omega arith);
        })

    pub using_next : is_unfit ms i ≡ false → i < length values → (w : ℕ) → w ≡ value_at ms i → Using ms old (i + 1) (set values i w)
    using_next e room w is = record {
      from = omega (arith, u.from);
      inside = omega arith;
      long = length-set values i w ∙ u.long;
      asked = asked_next (unfit_use ms) (imports_end (classes_of ms)) (length ms) i u.asked (Ok tt) (use_kept e) h refl;
      before = λ j l. get_or-set_other values i j w 0 (λ q. omega (arith, u.from)) ∙ u.before j l;
      behind = λ j l m. at j l m (ℕ_discrete j i);
    }
      where
        at : (j : ℕ) → imports_end (classes_of ms) ≤ j → j < i + 1 → Dec (j ≡ i) → get_or (set values i w) j 0 ≡ value_at ms j
        at j l m (yes same) = rw same (get_or-set_same values i w 0 room ∙ is)
        at j l m (no other) = get_or-set_other values i j w 0 other ∙ u.behind j l (omega arith)

    pub using_broken : is_unfit ms i ≡ true → Err (finding (unfit_use ms i) i) ≡ judge (use_rules ms)
    using_broken e =
        asked_broken (unfit_use ms) (imports_end (classes_of ms)) (length ms) i u.asked _ (use_broken e) h (finding (unfit_use ms i) i) refl

  pub using_kept : length ms ≤ i → Ok tt ≡ judge (use_rules ms)
  using_kept h = asked_end (unfit_use ms) (imports_end (classes_of ms)) (length ms) i u.asked h

  pub using_end : length ms ≤ i → length values ≤ length ms → Filled ms old values
  using_end h m = record { before = u.before; behind = λ j l k. u.behind j l (omega arith) }
