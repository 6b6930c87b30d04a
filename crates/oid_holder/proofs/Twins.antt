-- Refusal 15, test by test.
-- Assumes nothing.
use mathlib.Core.Path.{◌≡◌, refl, sym, ap, ◌∙◌}
use mathlib.Core.Bool.{Bool, true, false, ◌&&◌}
use mathlib.Core.List.{List}
use Prim.Native.Nat.{ℕ}
use Rattle.index.specs.First.{first, any}
use Rattle.index.proofs.Search.{true_false}
use Rattle.lexicon.specs.Word.{same}
use Rattle.lexicon.proofs.Words.{same_equal}
use Rattle.module_table.specs.Definition.{entry}
use Rattle.module_table.specs.Module.{oid_in, name_at, rule_of_definitions}
use Rattle.module_table.specs.declared.Definition.{Definition}
use Rattle.oid_holder.specs.Holder.{is_holder, holds_oid, held_twice}

and_right : (a b : Bool) → (a && b) ≡ true → b ≡ true
and_right true b e = e
and_right false b e = absurd (true_false refl (sym e))

module _ (ds : List Definition) (numbers : List ℕ) (k : ℕ) where
  -- one that holds the OID has the same
  pub holds_alike : (j : ℕ) → holds_oid ds numbers k j ≡ true → oid_in numbers (entry ds j) ≡ oid_in numbers (entry ds k)
  holds_alike j e = same_equal _ _ (and_right (is_holder (entry ds j)) _ e)

  -- the code has read definition k
  module _ (own : Definition) (is : own ≡ entry ds k) where
    pub twice_not : is_holder own ≡ false → false ≡ (held_twice ds numbers).breach k
    unfolding held_twice
    twice_not e = let none = sym (ap is_holder is) ∙ e in rw none

    pub twice_before : is_holder own ≡ true → any (holds_oid ds numbers k) 0 k ≡ (held_twice ds numbers).breach k
    unfolding held_twice
    twice_before e = let some = sym (ap is_holder is) ∙ e in rw some

-- numbers that hold the same OIDs are judged alike
pub held_alike : (ds : List Definition) (a b : List ℕ) → ((k : ℕ) → oid_in a (entry ds k) ≡ oid_in b (entry ds k)) → held_twice ds a ≡ held_twice ds b
unfolding held_twice
held_alike ds a b same-oids = λ i.
    rule_of_definitions 15 ds
    (λ k. is_holder (entry ds k) && any (λ j. is_holder (entry ds j) && same (same-oids j i) (same-oids k i)) 0 k)
    (λ k. 0)
    (λ k. name_at ds (first (λ j. is_holder (entry ds j) && same (same-oids j i) (same-oids k i)) 0 k))
