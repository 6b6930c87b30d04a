-- The numbers of an OID: those that the landmarks find in its span are the tokens with the mark of a number.
-- Assumes nothing.
use mathlib.Core.Path.{◌≡◌, refl, sym, ap, ◌∙◌}
use mathlib.Core.Bool.{Bool, true, false, cond, not}
use mathlib.Core.List.{List, [], ◌∷◌}
use Prim.Native.Nat.{ℕ, suc, ◌+◌}
use native.Mathlib.Nat.{add-zero}
use native.Mathlib.Omega.{arith}
use borrow.Author.Tests.{eqb-true, lt-ltb, le-ltb}
use lib.Dec.{T, eqb}
use lib.ListN.{length, get_or, drop, length-drop}
use lib.Seq.{get_or-drop, drop-length}
use Rattle.index.specs.First.{hits}
use Rattle.index.proofs.Hits.{hits_hit, hits_miss, hits_none}
use Rattle.terminal.specs.Terminal.{number, right_brace, assign}
use Rattle.definition.specs.Landmark.{class_at}
use Rattle.definition.specs.declared.Span.{Span}
use Rattle.definition.specs.Fields.{span}
use Rattle.definition.specs.Members.{oid_numbers}
use Rattle.module_tree.specs.Module.{leading, is_none, first_marked, some_marked, marked_span, places}
use Rattle.module_tree.specs.Grammar.{own_number}
use Rattle.module_tree.proofs.Counted.{among}
use Rattle.module_tree.proofs.Leading.{Stands, along_first, along_rest, along_drop}
use Rattle.module_tree.proofs.Field.{complete, told, ends, Sought, none, found, sought, first_branch, second_branch, run_from, outputs_long, next, out}

-- what the machine puts out inside an OID
abbrev pub oid_value : ℕ → ℕ
oid_value c = cond (eqb c number) own_number 1

pub oid_nonzero : (c : ℕ) → is_none (oid_value c) ≡ false
oid_nonzero c = go (eqb c number)
  where
    go : (b : Bool) → is_none (cond b own_number 1) ≡ false
    go true = refl
    go false = refl

abbrev pub closing : ℕ → Bool
closing c = eqb c right_brace

-- tokens without a mark are passed
places_skip : (d : ℕ) (vs : List ℕ) → places own_number d vs ≡ places own_number (d + first_marked vs) (drop (first_marked vs) vs)
places_skip d [] = refl
places_skip d (v ∷ vs) = go (is_none v) refl (places_skip (suc d) vs)
  where
    go : (b : Bool) → is_none v ≡ b → places own_number (suc d) vs ≡ places own_number (suc d + first_marked vs) (drop (first_marked vs) vs)
        → places own_number d (v ∷ vs) ≡ places own_number (d + first_marked (v ∷ vs)) (drop (first_marked (v ∷ vs)) (v ∷ vs))
    go true e ih =
        let zero-mark : v ≡ 0 = eqb-true v 0 e in
        let on : suc d + first_marked vs ≡ d + suc (first_marked vs) = omega arith in
        rw zero-mark (ih ∙ ap (λ i. places own_number i (drop (first_marked vs) vs)) on)
    go false e ih = rw e (ap (λ i. places own_number i (v ∷ vs)) (sym (add-zero d)))

abbrev numbers_told : ℕ → List ℕ → List ℕ
numbers_told s xs = told assign true closing closing oid_value s xs

none_behind : (d : ℕ) (xs : List ℕ) → places own_number d (numbers_told 4 xs) ≡ []
none_behind d [] = refl
none_behind d (x ∷ xs) = none_behind (suc d) xs

module _ (cs : List ℕ) where
  abbrev is_number : ℕ → Bool
  is_number i = eqb (class_at cs i) number

  -- inside the OID
  hits_on : (xs : List ℕ) (q : ℕ) → Stands cs q xs
      → hits is_number q (q + leading (λ (c : ℕ). not (closing c)) xs) ≡ places own_number q (numbers_told 3 xs)
  hits_on [] q st = hits_none is_number q (q + 0) (omega arith)
  hits_on (x ∷ xs) q st = go (closing x) refl (eqb x number) refl (hits_on xs (suc q) (along_rest (class_at cs) q x xs st))
    where
      rest : ℕ
      rest = leading (λ (c : ℕ). not (closing c)) xs

      go : (b : Bool) → closing x ≡ b → (n : Bool) → eqb x number ≡ n
          → hits is_number (suc q) (suc q + rest) ≡ places own_number (suc q) (numbers_told 3 xs)
          → hits is_number q (q + leading (λ (c : ℕ). not (closing c)) (x ∷ xs)) ≡ places own_number q (numbers_told 3 (x ∷ xs))
      go true e n f ih = rw e (hits_none is_number q (q + 0) (omega arith) ∙ sym (none_behind (suc q) xs))
      go false e true f ih =
          let on : q + suc rest ≡ suc q + rest = omega arith in
          rw (e, f)
          (hits_hit is_number q (q + suc rest) (omega arith) (ap (λ c. eqb c number) (along_first (class_at cs) q x xs st) ∙ f)
          ∙ ap (λ l. q ∷ l) (ap (hits is_number (suc q)) on ∙ ih))
      go false e false f ih =
          let on : q + suc rest ≡ suc q + rest = omega arith in
          rw (e, f)
          (hits_miss is_number q (q + suc rest) (omega arith) (ap (λ c. eqb c number) (along_first (class_at cs) q x xs st) ∙ f)
          ∙ ap (hits is_number (suc q)) on ∙ ih)

  -- at its first token
  same_inside : (xs : List ℕ) → closing (get_or xs 0 0) ≡ false → numbers_told 2 xs ≡ numbers_told 3 xs
  same_inside [] e = refl
  same_inside (x ∷ xs) e = rw e

  pub numbers_found : (xs : List ℕ) (d : ℕ) → Stands cs d xs → T (among (ends assign true closing closing oid_value 0 xs) complete)
      → oid_numbers cs (marked_span d (numbers_told 0 xs)) ≡ places own_number d (numbers_told 0 xs)
  unfolding oid_numbers
  numbers_found xs d st h = go (sought assign true closing closing oid_value oid_nonzero xs h)
    where
      ls : List ℕ
      ls = numbers_told 0 xs

      long : length ls ≡ length xs
      long = outputs_long (next assign true closing closing oid_value) (out assign true closing closing oid_value) 0 xs

      between : Span → List ℕ
      between s = hits is_number s.from s.to

      go : Sought assign true closing closing oid_value xs → between (marked_span d ls) ≡ places own_number d ls
      go (none a m) =
          ap between (second_branch _ _ (some_marked ls) (le-ltb (first_marked ls) (length ls) (omega (arith, long))))
          ∙ hits_none is_number (d + length ls) (d + length ls) (omega arith)
          ∙ sym (places_skip d ls ∙ ap (places own_number (d + first_marked ls)) (ap (λ n. drop n ls) (m ∙ sym long) ∙ drop-length ls))
      go (found k a r m dr g) =
          let first_good : closing (get_or (drop k xs) 0 0) ≡ false = ap closing (get_or-drop k xs 0 0 ∙ ap (λ i. get_or xs i 0) (add-zero k))
          ∙ g in
          let runs = run_from assign true closing closing oid_value oid_nonzero (drop k xs)
          (omega (arith, length-drop k xs)) first_good first_good in
          ap between (first_branch _ _ (some_marked ls) (lt-ltb (first_marked ls) (length ls) (omega (arith, long)))
          ∙ ap (λ f. span (d + f) (d + f + leading (λ (v : ℕ). not (is_none v)) (drop f ls))) m)
          ∙ ap (λ n. hits is_number (d + k) (d + k + n)) (ap (leading (λ (v : ℕ). not (is_none v))) dr ∙ runs)
          ∙ hits_on (drop k xs) (d + k) (along_drop (class_at cs) d k xs st)
          ∙ ap (places own_number (d + k)) (sym (dr ∙ same_inside (drop k xs) first_good))
          ∙ sym (places_skip d ls ∙ ap (λ f. places own_number (d + f) (drop f ls)) m)
