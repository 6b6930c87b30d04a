-- When the rules on names are kept, the values that the steps leave are those of the tokens.
-- Assumes nothing.
use mathlib.Core.Path.{◌≡◌, refl, sym, ap, ◌∙◌}
use mathlib.Core.Bool.{Bool, true, false}
use mathlib.Core.List.{List, [], ◌∷◌}
use Prim.Native.Nat.{ℕ, zero, suc, ◌+◌, ◌≤◌, ◌<◌}
use native.Mathlib.Decide.{dec_lt}
use native.Mathlib.Omega.{arith}
use lib.IntN.{nat_abs}
use lib.ListN.{length, length-map, get_or, take}
use lib.Seq.{ext_get_or, get_or-take, length-take-le}
use borrow.Author.Tests.{leb-true, lt-leb}
use Rattle.terminal.specs.Terminal.{lower, number}
use Rattle.index.proofs.Search.{true_false, answers, any_at}
use Rattle.index.proofs.Hits.{hits_rise, hit_inside, hit_holds}
use Rattle.rule.specs.Rule.{judge_one}
use Rattle.rule.proofs.Judged.{judge_alone, judged_kept}
use Rattle.lexicon.specs.Word.{same, is_name}
use Rattle.lexicon.proofs.Words.{same_equal, same_refl}
use Rattle.token.specs.Token.{Meaning, meaning}
use Rattle.token.specs.Cut.{said, meanings_in}
use Rattle.token.proofs.Laws.{other_value}
use Rattle.symbol.specs.Symbol.{iso_name, symbol_of}
use Rattle.definition.specs.Landmark.{class_at, begins, last_token, definitions}
use Rattle.module_table.specs.Lead.{word_of}
use Rattle.module_table.specs.declared.Lead.TheVariants.{Import}
use Rattle.name_tree.proofs.Both.{both}
use Rattle.scope.specs.Token.{classes_of, spelled, TokensHeld}
use Rattle.scope.specs.Import.{imports_end, is_import, offered}
use Rattle.scope.specs.Lead.{introduces, imports_name, is_imported, defines_name, leads_to}
use Rattle.scope.specs.Held.{import_word, AllOffered, ImportsHeld, Distinct}
use Rattle.scope.proofs.Tokens.{said_counted, said_is}
use Rattle.scope.proofs.Imports.{import_before, import_named, end_inside}
use Rattle.scope.proofs.Leads.{import_offered}
use Rattle.naming.specs.Rules.{is_again, introduced_again, not_offered}
use Rattle.naming.specs.Values.{is_use, value_at, values_from, values_of}
use Rattle.naming.specs.Told.{Filled, NumbersFilled}
use Rattle.naming.proofs.Twice.{or_second, name_again}
use Rattle.std.specs.Prelude.{Ok}

-- ---- the list of values

values_length : (ms : List Meaning) (i n : ℕ) → length (values_from ms i n) ≡ n
unfolding values_from
values_length ms i zero = refl
values_length ms i (suc n) = ap suc (values_length ms (suc i) n)

values_entry : (ms : List Meaning) (i n k : ℕ) → k < n → get_or (values_from ms i n) k 0 ≡ value_at ms (i + k)
unfolding values_from
values_entry ms i zero k h = absurd (omega arith)
values_entry ms i (suc n) zero h = let same : i ≡ i + 0 = omega arith in ap (value_at ms) same
values_entry ms i (suc n) (suc k) h =
    let same : suc i + k ≡ i + suc k = omega arith in
    values_entry ms (suc i) n k (omega arith) ∙ ap (value_at ms) same

pub values_are : (ms : List Meaning) (values : List ℕ) → length values ≡ length ms → ((i : ℕ) → i < length ms → get_or values i 0 ≡ value_at ms i) → values ≡ values_of ms
values_are ms values long each =
    ext_get_or 0 values (values_of ms) (long ∙ sym (values_length ms 0 (length ms)))
    (λ i h.
    let l : i < length ms = omega arith in
    let same : 0 + i ≡ i = omega arith in
    each i l ∙ sym (values_entry ms 0 (length ms) i l ∙ ap (value_at ms) same))

-- ---- the imports

module _ (ms : List Meaning) (kept : Ok tt ≡ judge_one (introduced_again ms)) where
  no_again : (i : ℕ) → i < length ms → is_again ms i ≡ false
  unfolding introduced_again
  no_again i h = (judged_kept (introduced_again ms ∷ []) (sym (kept ∙ judge_alone (introduced_again ms)))).0 i (omega arith) h

  -- no two definitions have the same name: the later one would break the rule
  not_twice : (s : List ℕ) (i j : ℕ) → i < j → j < length (definitions (classes_of ms)) → defines_name ms s i ≡ true → defines_name ms s j ≡ true → ⊥
  unfolding definitions introduces
  not_twice s i j l h p q =
      let cs = classes_of ms in
      let test = begins (classes_of ms) in
      let end = last_token (classes_of ms) in
      let d = get_or (definitions (classes_of ms)) i 0 in
      let e = get_or (definitions (classes_of ms)) j 0 in
      let names : spelled ms d ≡ spelled ms e = same_equal (spelled ms d) s p ∙ sym (same_equal (spelled ms e) s q) in
      let first : introduces cs d ≡ true = or_second (is_import cs d) _ (hit_holds test 0 end i (omega arith)) in
      let second : introduces cs e ≡ true = or_second (is_import cs e) _ (hit_holds test 0 end j h) in
      let again = name_again ms e d second (hits_rise test 0 end i j l h) (both (introduces cs d) _ first (rw names (same_refl (spelled ms e)))) in
      true_false again (no_again e (omega (arith, hit_inside test 0 end j h, length-map ms (λ (m : Meaning). m.class))))

  pub names_distinct : Distinct ms
  names_distinct s i j h k p q = go (dec_lt i j) (dec_lt j i)
    where
      go : Dec (i < j) → Dec (j < i) → i ≡ j
      go (yes l) d = absurd (not_twice s i j l k p q)
      go (no l) (yes m) = absurd (not_twice s j i m h q p)
      go (no l) (no m) = omega arith

  -- an imported symbol leads to itself, where all are offered
  module _ (offers : AllOffered ms) (i : ℕ) (h : i < length ms) (own : is_import (classes_of ms) i ≡ true) where
    not_iso : same (spelled ms i) iso_name ≡ false
    unfolding introduces
    not_iso = answers (same (spelled ms i) iso_name) (λ e. absurd (true_false (rw (own, e)) (no_again i h))) (λ e. e)

    own_lead : leads_to ms (spelled ms i) ≡ Import (symbol_of (spelled ms i))
    unfolding leads_to
    own_lead =
        let there : is_imported ms (spelled ms i) ≡ true =
        any_at (imports_name ms (spelled ms i)) 0 (imports_end (classes_of ms)) i (omega arith) (import_before (classes_of ms) i own)
        (both (is_import (classes_of ms) i) _ own (same_refl (spelled ms i))) in
        simp (not_iso, there, import_offered ms (spelled ms i) offers there)

    import_value : import_word ms i ≡ value_at ms i
    unfolding is_use
    import_value = rw own (ap word_of (sym own_lead))

-- where rule 10 is kept each import is offered
pub all_offered : (ms : List Meaning) → Ok tt ≡ judge_one (not_offered ms) → AllOffered ms
unfolding not_offered
all_offered ms kept i own =
    let none = (judged_kept (not_offered ms ∷ []) (sym (kept ∙ judge_alone (not_offered ms)))).0 i (omega arith) (import_before (classes_of ms) i own) in
    answers (offered ms i) (λ e. e) (λ f. absurd (true_false (rw (own, f)) none))

-- a token of the imports that is no symbol has its number
module _ (ms : List Meaning) (i : ℕ) (other : is_import (classes_of ms) i ≡ false) (before : i < imports_end (classes_of ms)) where
  plain_value : nat_abs (said ms i).value ≡ value_at ms i
  unfolding is_use
  plain_value = rw (other, lt-leb (imports_end (classes_of ms)) i before)

-- a name's number is 0
name_number : (text classes starts ends : List ℕ) → TokensHeld text classes starts ends → (i : ℕ) → i < length classes → is_name (get_or classes i 0) ≡ true
    → nat_abs (said (meanings_in text) i).value ≡ 0
unfolding meaning
name_number text classes starts ends t i h e =
    let high : lower ≤ get_or classes i 0 = leb-true lower (get_or classes i 0) e in
    ap (λ (m : Meaning). nat_abs m.value) (said_is text classes starts ends t i h)
    ∙ ap nat_abs (other_value (get_or classes i 0) _ (λ q. omega arith) (λ q. omega arith))

-- ---- all steps

module _ (text starts ends : List ℕ) (t : TokensHeld text (classes_of (meanings_in text)) starts ends) where
  abbrev ms : List Meaning
  ms = meanings_in text

  -- after rule 10 the imports have their values
  pub imports_held : AllOffered (meanings_in text) → (values : List ℕ) → length values ≡ length (classes_of (meanings_in text))
      → ((i : ℕ) → i < imports_end (classes_of (meanings_in text)) → get_or values i 0 ≡ import_word (meanings_in text) i)
      → ImportsHeld (meanings_in text) (take (imports_end (classes_of (meanings_in text))) values)
  imports_held offers values long filled =
      let end = imports_end (classes_of (meanings_in text)) in
      let taken : length (take (imports_end (classes_of (meanings_in text))) values) ≡ imports_end (classes_of (meanings_in text)) =
      length-take-le end values (omega (arith, end_inside (classes_of (meanings_in text)))) in
      record {
        offers = offers;
        counted = taken;
        held = λ i h. let l : i < imports_end (classes_of (meanings_in text)) = omega arith in get_or-take end values i 0 l ∙ filled i l;
      }

  module _ (one two three : List ℕ)
      (kept : Ok tt ≡ judge_one (introduced_again (meanings_in text)))
      (offers : AllOffered (meanings_in text))
      (imports : (i : ℕ) → i < imports_end (classes_of (meanings_in text)) → get_or one i 0 ≡ import_word (meanings_in text) i)
      (uses : Filled (meanings_in text) one two)
      (numbers : NumbersFilled (meanings_in text) two three)
      (two-long : length two ≡ length (meanings_in text))
      (three-long : length three ≡ length (meanings_in text))
    where
      counted : length (meanings_in text) ≡ length (classes_of (meanings_in text))
      counted = said_counted text (classes_of (meanings_in text)) starts ends t

      before_end : (i : ℕ) → i < length (meanings_in text) → i < imports_end (classes_of (meanings_in text)) → get_or three i 0 ≡ value_at (meanings_in text) i
      before_end i h l = named (is_name (class_at (classes_of (meanings_in text)) i)) refl
        where
          symbol : is_name (class_at (classes_of (meanings_in text)) i) ≡ true → (b : Bool) → is_import (classes_of (meanings_in text)) i ≡ b → import_word (meanings_in text) i ≡ value_at (meanings_in text) i
          symbol e true own = import_value (meanings_in text) kept offers i h own
          symbol e false other =
              let none : import_word (meanings_in text) i ≡ 0 = rw other in
              none ∙ sym (name_number text (classes_of (meanings_in text)) starts ends t i (omega (arith, counted)) e)
              ∙ plain_value (meanings_in text) i other l

          named : (b : Bool) → is_name (class_at (classes_of (meanings_in text)) i) ≡ b → get_or three i 0 ≡ value_at (meanings_in text) i
          named true e = numbers.named i e ∙ uses.before i l ∙ imports i l ∙ symbol e (is_import (classes_of (meanings_in text)) i) refl
          named false e =
              let other : is_import (classes_of (meanings_in text)) i ≡ false =
              answers (is_import (classes_of (meanings_in text)) i) (λ q. absurd (true_false (import_named (classes_of (meanings_in text)) i q) e)) (λ q. q) in
              numbers.number i l e ∙ plain_value (meanings_in text) i other l

      pub all_values : three ≡ values_of (meanings_in text)
      all_values = values_are (meanings_in text) three three-long (λ i h. each i h (dec_lt i (imports_end (classes_of (meanings_in text)))))
        where
          each : (i : ℕ) → i < length (meanings_in text) → Dec (i < imports_end (classes_of (meanings_in text))) → get_or three i 0 ≡ value_at (meanings_in text) i
          each i h (yes l) = before_end i h l
          each i h (no l) = numbers.behind i (omega arith) ∙ uses.behind i (omega arith) (omega arith)
