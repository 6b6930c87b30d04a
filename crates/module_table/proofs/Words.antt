-- Each lead has a word of its own, which is read as that lead.
-- Assumes nothing.
use mathlib.Core.Path.{◌≡◌, refl}
use Prim.Native.Nat.{ℕ, ◌+◌, ◌-◌, ◌<◌}
use native.Mathlib.Omega.{arith}
use borrow.Author.Tests.{ne_eqb, lt-ltb, le-ltb}
use Rattle.index.specs.declared.RecordIndex.{RecordIndex}
use Rattle.module_table.specs.Lead.{lead_in, word_of, Small}
use Rattle.module_table.specs.declared.Lead.{Lead}
use Rattle.module_table.specs.declared.Lead.TheVariants.{Iso, Import, Definition, Nothing}

definition_word : (d : RecordIndex) → d.0 < 512 → lead_in (2 + d.0) ≡ Definition d
unfolding lead_in
definition_word d h =
    let back : 2 + d.0 - 2 ≡ d.0 = omega arith in
    simp (ne_eqb (2 + d.0) 0 (λ e. omega arith), ne_eqb (2 + d.0) 1 (λ e. omega arith), lt-ltb (2 + d.0) 514 (omega arith), back)

symbol_word : (k : ℕ) → lead_in (514 + k) ≡ Import k
unfolding lead_in
symbol_word k =
    let back : 514 + k - 514 ≡ k = omega arith in
    simp (ne_eqb (514 + k) 0 (λ e. omega arith), ne_eqb (514 + k) 1 (λ e. omega arith), le-ltb (514 + k) 514 (omega arith), back)

pub word_read : (l : Lead) → Small l → lead_in (word_of l) ≡ l
unfolding lead_in
word_read Iso small = refl
word_read (Import k) small = symbol_word k
word_read (Definition d) small = definition_word d small
word_read Nothing small = refl
