-- What "exactly one row" says, both ways: there is a row of the type, and each of them is that one.
-- Assumes nothing.
use mathlib.Core.Path.{◌≡◌, sym, ap, ◌∙◌}
use mathlib.Core.Bool.{true}
use mathlib.Core.List.{List}
use Prim.Native.Nat.{ℕ, ◌<◌}
use native.Mathlib.Omega.{arith}
use lib.ListN.{length, get_or}
use borrow.Author.Tests.{eqb-true, eq-eqb}
use Rattle.index.proofs.Hits.{hit_inside, hit_holds, hit_found, hits_rise}
use Rattle.module_table.specs.declared.Definition.{Definition}
use Rattle.clause_table.specs.Clause.{is_of, rows_of, has_one_row}

pub exactly_one : (ds : List Definition) (type : ℕ) → has_one_row ds type ≡ true
    → (get_or (rows_of ds type) 0 0 < length ds) × (is_of ds 14 type (get_or (rows_of ds type) 0 0) ≡ true)
    × ((s : ℕ) → s < length ds → is_of ds 14 type s ≡ true → s ≡ get_or (rows_of ds type) 0 0)
exactly_one ds type e =
    let one : length (rows_of ds type) ≡ 1 = eqb-true _ 1 e in
    ((hit_inside (is_of ds 14 type) 0 (length ds) 0 (omega (arith, one))).1, hit_holds (is_of ds 14 type) 0 (length ds) 0 (omega (arith, one)), λ s h row. only s h row one)
  where
    only : (s : ℕ) → s < length ds → is_of ds 14 type s ≡ true → length (rows_of ds type) ≡ 1 → s ≡ get_or (rows_of ds type) 0 0
    only s h row one =
        let found = hit_found (is_of ds 14 type) 0 (length ds) s (omega arith) h row in
        let at : found.0 ≡ 0 = omega (arith, found.1, one) in
        sym found.2 ∙ ap (λ (i : ℕ). get_or (rows_of ds type) i 0) at

pub one_is_all : (ds : List Definition) (type r : ℕ) → r < length ds → is_of ds 14 type r ≡ true → ((s : ℕ) → s < length ds → is_of ds 14 type s ≡ true → s ≡ r)
    → (has_one_row ds type ≡ true) × (get_or (rows_of ds type) 0 0 ≡ r)
one_is_all ds type r h row only = (eq-eqb _ 1 one, first)
  where
    each : (i : ℕ) → i < length (rows_of ds type) → get_or (rows_of ds type) i 0 ≡ r
    each i l = only _ (hit_inside (is_of ds 14 type) 0 (length ds) i l).1 (hit_holds (is_of ds 14 type) 0 (length ds) i l)

    some : 0 < length (rows_of ds type)
    some = let found = hit_found (is_of ds 14 type) 0 (length ds) r (omega arith) h row in omega (arith, found.1)

    one : length (rows_of ds type) ≡ 1
    one =
        let few : 1 < length (rows_of ds type) → ⊥ = λ more. omega (arith, hits_rise (is_of ds 14 type) 0 (length ds) 0 1 (omega arith) more, each 0 some, each 1 more) in
        omega (arith, some)

    first : get_or (rows_of ds type) 0 0 ≡ r
    first = each 0 some
