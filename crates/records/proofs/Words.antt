-- The records one after the other.
-- Assumes nothing.
use mathlib.Core.Path.{◌≡◌, refl, sym, ap, ◌∙◌}
use mathlib.Core.List.{List, [], ◌++◌}
use Prim.Native.Nat.{ℕ, zero, suc, ◌+◌, ◌*◌, ◌<◌}
use native.Mathlib.Decide.{dec_lt}
use native.Mathlib.Numerals.{add-one}
use native.Mathlib.Omega.{arith}
use lib.ListN.{length, get_or, length-append, get_or-append}
use lib.Seq.{get_or-append-add}
use Rattle.module_table.specs.declared.Definition.{Definition}
use Rattle.module_table.specs.Definition.{entry}
use Rattle.records.specs.Record.{record_width, record_of, records_before}

module _ (starts ends : List ℕ) where
  -- ten words
  pub record_long : (d : Definition) → length (record_of starts ends d) ≡ record_width
  unfolding record_of
  record_long d = refl

  module _ (ds : List Definition) where
    -- the records before
    pub none_before : records_before starts ends ds 0 ≡ []
    unfolding records_before
    none_before = refl

    pub before_more : (k : ℕ) → records_before starts ends ds (k + 1) ≡ records_before starts ends ds k ++ record_of starts ends (entry ds k)
    unfolding records_before
    before_more k = rw add-one

    pub before_long : (k : ℕ) → length (records_before starts ends ds k) ≡ k * record_width
    unfolding records_before
    before_long zero = refl
    before_long (suc k) =
        omega (arith, length-append (records_before starts ends ds k) (record_of starts ends (entry ds k)), record_long (entry ds k), before_long k)

    -- word j of record k
    pub word_at : (n k j : ℕ) → k < n → j < record_width → get_or (records_before starts ends ds n) (k * record_width + j) 0 ≡ get_or (record_of starts ends (entry ds k)) j 0
    unfolding records_before
    word_at zero k j h l = absurd (omega arith)
    word_at (suc n) k j h l = go (dec_lt k n) (λ less. word_at n k j less l)
      where
        go : Dec (k < n) → (k < n → get_or (records_before starts ends ds n) (k * record_width + j) 0 ≡ get_or (record_of starts ends (entry ds k)) j 0)
            → get_or (records_before starts ends ds n ++ record_of starts ends (entry ds n)) (k * record_width + j) 0 ≡ get_or (record_of starts ends (entry ds k)) j 0
        go (yes less) before =
            get_or-append (records_before starts ends ds n) (record_of starts ends (entry ds n)) 0 (k * record_width + j) (omega (arith, before_long n))
            ∙ before less
        go (no more) before =
            let same : k ≡ n = omega arith in
            let at : k * record_width + j ≡ length (records_before starts ends ds n) + j = omega (arith, before_long n) in
            rw at (get_or-append-add (records_before starts ends ds n) (record_of starts ends (entry ds n)) j 0)
            ∙ ap (λ (i : ℕ). get_or (record_of starts ends (entry ds i)) j 0) (sym same)
